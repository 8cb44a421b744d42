-- What a sealed engine holds: the run over the machine, said of its rows, results, records and numbers.
use Rattle.std.specs.Prelude.{ℕ, zero, suc, ◌+◌, ◌*◌, ◌≤◌, ◌<◌, ◌≡◌, refl}
use Rattle.std.specs.Prelude.{List, [], ◌∷◌, ◌++◌, map, length, get_or, take}
use Rattle.std.proofs.Common.{sym, ap, ◌∙◌, subst, arith, length-take-le, get_or-take, ext_get_or}
use Rattle.std.proofs.Math.Decide.{dec_lt}
use Rattle.std.proofs.lemmas.List.{length-map}
use Rattle.std.proofs.Math.ListN.{get_or-map, get_or-eq_default}
use Rattle.counters.specs.Storing.{in_four}
use Rattle.counters.specs.declared.Outcome.{Outcome}
use Rattle.counters.specs.declared.Outcome.TheVariants.{Committed}
use Rattle.engine.specs.Range.{row_at}
use Rattle.engine.specs.Rows.{row}
use Rattle.engine.specs.declared.Progress.TheVariants.{Unprocessed}
use Rattle.engine.specs.declared.Row.{Row}
use Rattle.engine.specs.declared.State.{State}
use Rattle.order.specs.Batch as order
use Rattle.order.specs.Machine as machine
use Rattle.order.specs.Tables.{first_values}
use Rattle.order.specs.TableLaws.{length_first, get_d_first}
use Rattle.ordered.specs.Describing.{Describes}
use Rattle.ordered.specs.Meeting.{outcome_at, values_at, WasSealed, rows_kept}
use Rattle.ordered.specs.Promise.{complete_row, results_for}
use Rattle.ordered.specs.Relation.{four_at, RowIs}
use Rattle.engine.specs.Running.{Engine}

-- a table of results, four to a transaction
four_on : (a b c y : ℕ) (results : List ℕ) (i : ℕ)
    → four_at (a ∷ b ∷ c ∷ y ∷ results) (4 * suc i) ≡ four_at results (4 * i)
four_on a b c y results i =
    let first : 4 * suc i ≡ suc (suc (suc (suc (4 * i)))) = omega arith in
    let second : 4 * suc i + 1 ≡ suc (suc (suc (suc (4 * i + 1)))) = omega arith in
    let third : 4 * suc i + 2 ≡ suc (suc (suc (suc (4 * i + 2)))) = omega arith in
    let fourth : 4 * suc i + 3 ≡ suc (suc (suc (suc (4 * i + 3)))) = omega arith in
    rw (second, third, fourth, first)

pub results_are : (count : ℕ) (results : List ℕ) (values : List (List ℕ)) → length results ≡ 4 * count
    → ((i : ℕ) → i < count → four_at results (4 * i) ≡ in_four (get_or values i []))
    → results ≡ results_for count values
results_are zero [] values long each = refl
results_are zero (a ∷ results) values long each = absurd (omega (arith, long))
results_are (suc count) [] values long each = absurd (omega (arith, long))
results_are (suc count) (a ∷ []) values long each = absurd (omega (arith, long))
results_are (suc count) (a ∷ b ∷ []) values long each = absurd (omega (arith, long))
results_are (suc count) (a ∷ b ∷ c ∷ []) values long each = absurd (omega (arith, long))
results_are (suc count) (a ∷ b ∷ c ∷ y ∷ results) [] long each =
    let first : a ∷ b ∷ c ∷ y ∷ [] ≡ in_four [] = each 0 (omega arith) in
    let rest =
    results_are count results [] (omega (arith, long))
    (λ i below. sym (four_on a b c y results i) ∙ each (suc i) (omega (arith, below))) in
    ap (λ four. four ++ results) first ∙ ap (λ on. in_four [] ++ on) rest
results_are (suc count) (a ∷ b ∷ c ∷ y ∷ results) (read ∷ values) long each =
    let first : a ∷ b ∷ c ∷ y ∷ [] ≡ in_four read = each 0 (omega arith) in
    let rest =
    results_are count results values (omega (arith, long))
    (λ i below. sym (four_on a b c y results i) ∙ each (suc i) (omega (arith, below))) in
    ap (λ four. four ++ results) first ∙ ap (λ on. in_four read ++ on) rest

module _ (B : order.Batch ℕ Outcome) (o : State) (log stored : List ℕ) (d : Describes B o log stored)
    (e : Engine) (m : machine.State ℕ Outcome) (sealed : WasSealed B o log stored d e m) where
  abbrev before : Engine
  before = sealed.before

  -- what the rows hold
  row_holds : (i : ℕ) → i < o.size
      → (row_at before.state i ≡ complete_row (outcome_at B o log stored d before i))
      × (four_at before.results (4 * i) ≡ in_four (values_at B o log stored d before i))
  row_holds i below =
      go
      (rows_kept B o log stored d before m sealed.stood sealed.sound sealed.all_complete i
      (omega (arith, below, d.size_is)))
      (sealed.stood.rows_are i below)
    where
      go : m.execution.row i
          ≡ machine.complete (outcome_at B o log stored d before i) (values_at B o log stored d before i)
          → RowIs (row_at before.state i) before.results i (m.execution.row i)
          → (row_at before.state i ≡ complete_row (outcome_at B o log stored d before i))
          × (four_at before.results (4 * i) ≡ in_four (values_at B o log stored d before i))
      go kept is =
          let complete =
          subst (RowIs (row_at before.state i) before.results i) kept is in
          (ap row complete.0, complete.1)

  pub outcomes_hold : take o.size e.state.rows
      ≡ map complete_row (first_values (outcome_at B o log stored d e) o.size)
  outcomes_hold =
      rw sealed.now
      (ext_get_or (complete_row Committed) (take o.size rows) (map complete_row outcomes) (long ∙ sym listed_long)
      (λ i below.
      get_or-take o.size rows i (complete_row Committed) (omega (arith, below, long))
      ∙ default_same i (omega (arith, below, long))
      ∙ (row_holds i (omega (arith, below, long))).0
      ∙ ap complete_row
      (sym (get_d_first (outcome_at B o log stored d before) o.size i Committed (omega (arith, below, long))))
      ∙ sym (get_or-map complete_row outcomes i Committed)))
    where
      rows : List Row
      rows = before.state.rows

      outcomes : List Outcome
      outcomes = first_values (outcome_at B o log stored d before) o.size

      long : length (take o.size before.state.rows) ≡ o.size
      long =
          length-take-le o.size before.state.rows
          (omega (arith, d.numbers.few_transactions, sealed.stood.fixed.rows_length))

      listed_long : length (map complete_row (first_values (outcome_at B o log stored d before) o.size)) ≡ o.size
      listed_long =
          length-map (first_values (outcome_at B o log stored d before) o.size) complete_row
          ∙ length_first (outcome_at B o log stored d before) o.size

      default_same : (i : ℕ) → i < o.size
          → get_or before.state.rows i (complete_row Committed) ≡ row_at before.state i
      default_same i below =
          any_default before.state.rows i (complete_row Committed) (row Unprocessed)
          (omega (arith, below, d.numbers.few_transactions, sealed.stood.fixed.rows_length))
        where
          any_default : (l : List Row) (k : ℕ) (x y : Row) → k < length l → get_or l k x ≡ get_or l k y
          any_default [] k x y inside = absurd (omega (arith, inside))
          any_default (z ∷ l) zero x y inside = refl
          any_default (z ∷ l) (suc k) x y inside = any_default l k x y (omega (arith, inside))

  pub results_hold : e.results ≡ results_for 64 (first_values (values_at B o log stored d e) o.size)
  results_hold =
      rw sealed.now
      (results_are 64 before.results (first_values (values_at B o log stored d before) o.size)
      sealed.stood.results_length (λ i few. each i (dec_lt i o.size)))
    where
      each : (i : ℕ) → Dec (i < o.size)
          → four_at before.results (4 * i)
          ≡ in_four (get_or (first_values (values_at B o log stored d before) o.size) i [])
      each i (yes below) =
          (row_holds i below).1
          ∙ ap in_four (sym (get_d_first (values_at B o log stored d before) o.size i [] below))
      each i (no past) =
          let far : length (first_values (values_at B o log stored d before) o.size) ≤ i =
          omega (arith, length_first (values_at B o log stored d before) o.size) in
          rw (
            get_or-eq_default (first_values (values_at B o log stored d before) o.size) [] far,
            sealed.stood.results_past (4 * i) (omega arith),
            sealed.stood.results_past (4 * i + 1) (omega arith),
            sealed.stood.results_past (4 * i + 2) (omega arith),
            sealed.stood.results_past (4 * i + 3) (omega arith),
          )

  pub next_holds : e.state.next.0 ≡ o.next.0 + o.size
  next_holds = rw (sealed.now, sealed.stood.fixed.next_fixed, sealed.stood.fixed.size_fixed)

  pub batch_holds : e.state.batch.0 ≡ o.batch.0 + 1
  batch_holds = rw (sealed.now, sealed.stood.fixed.batch_fixed)
