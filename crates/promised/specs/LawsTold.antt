-- What a run tells, read from the caller's arrays: each count, each outcome, each line.
use Prim.Native.Nat.{ℕ, zero, suc, ◌+◌, ◌*◌, ◌<◌, ◌≤◌}
use Rattle.std.specs.Prelude.{Bool, true, false, ◌≡◌, eqb, length, get_or, set, take}
use Rattle.std.proofs.Math.Bool.{cond}
use mathlib.Core.List.{List, [], ◌∷◌, ◌++◌, map}
use Rattle.std.proofs.Math.Path.{refl, sym, ap}
use Rattle.std.proofs.Common.{◌∙◌, arith, lt-ltb, length-set, get_or-take, length-take-le, ext_get_or}
use Rattle.std.proofs.Math.Decide.{dec_lt}
use Rattle.std.proofs.lemmas.List.{length-map}
use Rattle.std.proofs.Math.ListN.{get_or-map}
use Rattle.packed.specs.declared.Transaction.{Transaction}
use Rattle.versions.specs.LawsTable.{set_here, set_other}
use Rattle.counters.specs.OneByOne.{records_after, one_by_one}
use Rattle.counters.specs.declared.Outcome.{Outcome}
use Rattle.counters.specs.declared.Outcome.TheVariants.{Committed, Aborted}
use Rattle.engine.specs.Open.{entries_in}
use Rattle.engine.specs.Range.{row_at}
use Rattle.engine.specs.Rows.{row}
use Rattle.engine.specs.declared.Progress.{Progress}
use Rattle.engine.specs.declared.Progress.TheVariants.{Unprocessed, Executing, Complete}
use Rattle.engine.specs.declared.Row.{Row}
use Rattle.engine.specs.declared.State.{State}
use Rattle.ordered.specs.Promise.{complete_row}
use Rattle.desk.specs.Offer.{Session}
use Rattle.desk.specs.Program.{outcome_of, four_at, reads_of, transaction_at, record_at, lines_below, printed}
use Rattle.desk.specs.Text.{tx_line, counts_line, not_sealed_line}
use Rattle.desk.specs.declared.Tally.{Tally}
use Rattle.capi.specs.Report.{outcome_byte, outcomes_to, outcomes_of, counts_of, sealed_number}
use Rattle.capi.specs.Running.{Returned, returned_by}
use Rattle.promised.specs.Told.{outcome_number, outcome_from, transaction_told, batch_told, text_of}

-- the four counts
pub counts_are : (tally : Tally) (counts : List ℕ) → length counts ≡ 4
    → counts_of tally counts ≡ tally.offered ∷ tally.refused ∷ tally.waits ∷ sealed_number tally.sealed ∷ []
counts_are tally [] four = absurd (omega (arith, four))
counts_are tally (a ∷ []) four = absurd (omega (arith, four))
counts_are tally (a ∷ b ∷ []) four = absurd (omega (arith, four))
counts_are tally (a ∷ b ∷ c ∷ []) four = absurd (omega (arith, four))
counts_are tally (a ∷ b ∷ c ∷ y ∷ []) four = refl
counts_are tally (a ∷ b ∷ c ∷ y ∷ z ∷ rest) four = absurd (omega (arith, four))

-- byte i says what became of transaction i
to_length : (s : State) (outcomes : List ℕ) (k : ℕ) → length (outcomes_to s outcomes k) ≡ length outcomes
to_length s outcomes zero = refl
to_length s outcomes (suc k) =
    length-set (outcomes_to s outcomes k) k (outcome_byte (row_at s k).progress) ∙ to_length s outcomes k

told_to : (s : State) (outcomes : List ℕ) (k i : ℕ) → i < k → k ≤ length outcomes
    → get_or (outcomes_to s outcomes k) i 0 ≡ outcome_byte (row_at s i).progress
told_to s outcomes zero i below fits = absurd (omega (arith, below))
told_to s outcomes (suc k) i below fits = go (dec_lt i k) (told_to s outcomes k i)
  where
    byte : ℕ
    byte = outcome_byte (row_at s k).progress

    last : k < length (outcomes_to s outcomes k)
    last = omega (arith, fits, to_length s outcomes k)

    go : Dec (i < k)
        → (i < k → k ≤ length outcomes → get_or (outcomes_to s outcomes k) i 0 ≡ outcome_byte (row_at s i).progress)
        → get_or (set (outcomes_to s outcomes k) k byte) i 0 ≡ outcome_byte (row_at s i).progress
    go (yes before) earlier =
        set_other 0 (outcomes_to s outcomes k) k i byte (λ same. omega (arith, before, same))
        ∙ earlier before (omega (arith, fits))
    go (no past) earlier =
        let here : i ≡ k = omega (arith, below, past) in
        ap (λ (j : ℕ). get_or (set (outcomes_to s outcomes k) k byte) j 0) here
        ∙ (set_here 0 (outcomes_to s outcomes k) k byte last
        ∙ ap (λ (j : ℕ). outcome_byte (row_at s j).progress) (sym here))

pub outcome_told : (s : State) (outcomes : List ℕ) (i : ℕ) → i < 64 → length outcomes ≡ 64
    → get_or (outcomes_of s outcomes) i 0 ≡ outcome_byte (row_at s i).progress
unfolding outcomes_of
outcome_told s outcomes i below long = told_to s outcomes 64 i below (omega (arith, long))

-- the outcomes of a run's first transactions, where the rows are Complete with them
pub as_many_outcomes : (log : List Transaction) (records : List ℕ)
    → length (one_by_one log records).outcomes ≡ length log
unfolding one_by_one
as_many_outcomes [] records = refl
as_many_outcomes (t ∷ log) records = ap suc (as_many_outcomes log (records_after t records))

abbrev byte_of : Row → ℕ
byte_of x = outcome_byte x.progress

complete_bytes : (outcomes : List Outcome) → map byte_of (map complete_row outcomes) ≡ map outcome_number outcomes
complete_bytes [] = refl
complete_bytes (outcome ∷ outcomes) =
    ap (λ (rest : List ℕ). outcome_number outcome ∷ rest) (complete_bytes outcomes)

pub outcomes_read : (s : State) (bytes : List ℕ) (n : ℕ) (outcomes : List Outcome) → n ≤ 64 → length bytes ≡ 64
    → length outcomes ≡ n → take n s.rows ≡ map complete_row outcomes
    → take n (outcomes_of s bytes) ≡ map outcome_number outcomes
unfolding outcomes_of
outcomes_read s bytes n outcomes few long many rows =
    ext_get_or 0 (take n (outcomes_of s bytes)) (map outcome_number outcomes)
    (shown ∙ sym (length-map outcomes outcome_number ∙ many)) each
  where
    shown : length (take n (outcomes_of s bytes)) ≡ n
    shown = length-take-le n (outcomes_of s bytes) (omega (arith, few, long, to_length s bytes 64))

    each : (i : ℕ) → i < length (take n (outcomes_of s bytes))
        → get_or (take n (outcomes_of s bytes)) i 0 ≡ get_or (map outcome_number outcomes) i 0
    each i within =
        let below : i < n = omega (arith, within, shown) in
        get_or-take n (outcomes_of s bytes) i 0 below
        ∙ (outcome_told s bytes i (omega (arith, below, few)) long
        ∙ (ap byte_of (sym (get_or-take n s.rows i (row Unprocessed) below))
        ∙ (ap (λ (l : List Row). byte_of (get_or l i (row Unprocessed))) rows
        ∙ (sym (get_or-map byte_of (map complete_row outcomes) i (row Unprocessed))
        ∙ ap (λ (l : List ℕ). get_or l i 0) (complete_bytes outcomes)))))

outcome_from_lem : (progress : Progress) → outcome_of progress ≡ outcome_from (outcome_byte progress)
outcome_from_lem Unprocessed = refl
outcome_from_lem (Executing worker) = refl
outcome_from_lem (Complete Committed) = refl
outcome_from_lem (Complete Aborted) = refl

-- lines that are the same one by one
lines_same : (count : ℕ) (one other : ℕ → List ℕ) → ((i : ℕ) → i < count → one i ≡ other i)
    → lines_below count one ≡ lines_below count other
lines_same zero one other each = refl
lines_same (suc count) one other each =
    ap (λ (text : List ℕ). text ++ one count)
    (lines_same count one other (λ i below. each i (omega (arith, below))))
    ∙ ap (λ (line : List ℕ). lines_below count other ++ line) (each count (omega arith))

-- what is printed of a session is the text of what the session hands out
module _ (n : ℕ) (log : List ℕ) (s : Session) (outcomes counts : List ℕ) (long : length outcomes ≡ 64) (four : length
    counts ≡ 4) (few : entries_in log ≤ 64) (kept : s.tally.sealed ≡ true → s.tally.state.records ≡ n) where
  abbrev x : Returned
  x = returned_by 0 s outcomes counts

  line_same : s.tally.sealed ≡ true → (i : ℕ) → i < entries_in log
      → transaction_at s.tally log s.results i ≡ transaction_told n log x i
  unfolding transaction_at
  line_same is i below =
      ap (λ (test : Bool). cond test
      (tx_line (i + 1) (outcome_of (row_at s.tally.state i).progress)
      (take (reads_of s.tally.state.records log i) (four_at s.results (4 * i)))) [])
      (lt-ltb i 64 (omega (arith, below, few)))
      ∙ (ap (λ (outcome : Outcome). tx_line (i + 1) outcome
      (take (reads_of s.tally.state.records log i) (four_at s.results (4 * i)))) its_outcome
      ∙ ap (λ (k : ℕ). tx_line (i + 1) (outcome_from (get_or x.outcomes i 0))
      (take (reads_of k log i) (four_at s.results (4 * i)))) (kept is))
    where
      its_outcome : outcome_of (row_at s.tally.state i).progress ≡ outcome_from (get_or x.outcomes i 0)
      its_outcome =
          outcome_from_lem (row_at s.tally.state i).progress
          ∙ ap outcome_from
          (sym (outcome_told s.tally.state outcomes i (omega (arith, below, few)) long))

  pub printed_told : printed log s ≡ text_of n log x
  unfolding printed
  printed_told =
      go s.tally.sealed refl
      ∙ sym (ap (λ (l : List ℕ).
      cond (eqb (get_or l 3 0) 1) (batch_told n log x) not_sealed_line
      ++ counts_line (get_or l 0 0) (get_or l 1 0) (get_or l 2 0)) (counts_are s.tally counts four))
    where
      last : List ℕ
      last = counts_line s.tally.offered s.tally.refused s.tally.waits

      go : (sealed : Bool) → s.tally.sealed ≡ sealed
          → cond sealed (lines_below (entries_in log) (transaction_at s.tally log s.results)
          ++ lines_below (length s.records) (record_at s.records)) not_sealed_line ++ last
          ≡ cond (eqb (sealed_number sealed) 1) (batch_told n log x) not_sealed_line ++ last
      go true is =
          ap (λ (lines : List ℕ). lines ++ lines_below (length s.records) (record_at s.records) ++ last)
          (lines_same (entries_in log) (transaction_at s.tally log s.results) (transaction_told n log x)
          (line_same is))
      go false is = refl
