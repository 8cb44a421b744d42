-- What every decision has, whatever meaning and values it is made from: four contents and four marks; contents 0 where
-- a write is carried; past the write count contents 0, and nothing carried.
use Rattle.std.specs.Prelude.{◌≡◌, ℕ, zero, suc, ◌<◌, ◌≤◌, Bool, true, false, not, ◌&&◌}
use Rattle.std.specs.Prelude.{List, [], ◌∷◌, length, get_or, nat_lt, slice_index, slice_index_or, slice_set, refl}
use Rattle.std.proofs.Math.Path.{sym}
use Rattle.std.proofs.Common.{ap, ◌∙◌, arith, get_or-set_same, lt-ltb, le-ltb}
use Rattle.std.proofs.Math.Decide.{ℕ_discrete, dec_lt}
use Rattle.std.proofs.Math.ListN.{length-set, get_or-eq_default}
use Rattle.std.proofs.Math.Seq.{get_or-set_other}
use Rattle.packed.specs.declared.Transaction.{Transaction}
use Rattle.counters.specs.Actions.{After, goes_on, aborts, actions_of}
use Rattle.counters.specs.Deciding.{worked_of, unreached, decision_of, decide_of}
use Rattle.counters.specs.LawsPlaces.{at_place, none_at, true_is_not_false}
use Rattle.counters.specs.LawsRelated.{all_keep, SideBySide, RelatedAfter, all_related}
use Rattle.counters.specs.Working.{write_place, contents_in, written, memory_of, start_of}
use Rattle.counters.specs.declared.Decision.{Decision}
use Rattle.counters.specs.declared.Outcome.TheVariants.{Aborted}
use Rattle.counters.specs.declared.working.WorkingCopy.{WorkingCopy}

-- the marks, one by one
unreached_at : (writecount : ℕ) (reached : List Bool) (j : ℕ) → j < 4
    → slice_index_or (unreached writecount reached) j false
    ≡ (nat_lt j writecount && not (slice_index_or reached j false))
unreached_at writecount reached zero below = refl
unreached_at writecount reached (suc zero) below = refl
unreached_at writecount reached (suc (suc zero)) below = refl
unreached_at writecount reached (suc (suc (suc zero))) below = refl
unreached_at writecount reached (suc (suc (suc (suc j)))) below = absurd (omega arith)

carried_unreached : (within reached : Bool) → (within && not reached) ≡ true → reached ≡ false
carried_unreached true true carried = absurd (true_is_not_false (sym carried))
carried_unreached true false carried = refl
carried_unreached false reached carried = absurd (true_is_not_false (sym carried))

module _ (t : Transaction) where
  abbrev write_at : ℕ → ℕ
  write_at r = write_place t r

  -- what an action leaves of the writes
  record CopyShape (copy : WorkingCopy) : Type 0 where
    pub four_contents : length copy.contents ≡ 4
    pub four_reached : length copy.reached ≡ 4
    pub unreached_zero : (j : ℕ) → slice_index_or copy.reached j false ≡ false → slice_index copy.contents j ≡ 0
    pub past_unreached : (j : ℕ) → t.writecount ≤ j → slice_index_or copy.reached j false ≡ false

  abbrev ShapedAfter : After WorkingCopy → Type 0
  ShapedAfter (goes_on copy) = CopyShape copy
  ShapedAfter aborts = Unit {0}

  written_shaped : (copy : WorkingCopy) → CopyShape copy → (r number : ℕ)
      → CopyShape (written t copy r number)
  unfolding written
  written_shaped copy shaped r number =
      record {
        four_contents = length-set copy.contents (write_at r) number ∙ shaped.four_contents;
        four_reached = length-set copy.reached (write_at r) true ∙ shaped.four_reached;
        unreached_zero = λ j. zero_at j (ℕ_discrete j (write_at r)) (dec_lt j 4);
        past_unreached = λ j. past_at j (ℕ_discrete j (write_at r)) (dec_lt j 4);
      }
    where
      zero_at : (j : ℕ) → Dec (j ≡ write_at r) → Dec (j < 4)
          → slice_index_or (slice_set copy.reached (write_at r) true) j false ≡ false
          → slice_index (slice_set copy.contents (write_at r) number) j ≡ 0
      zero_at j (no other) _ unmarked =
          get_or-set_other copy.contents (write_at r) j number 0 other
          ∙ shaped.unreached_zero j (sym (get_or-set_other copy.reached (write_at r) j true false other) ∙ unmarked)
      zero_at j (yes same) (yes below) unmarked =
          let inside : write_at r < length copy.reached = omega (arith, shaped.four_reached) in
          absurd (true_is_not_false (
          sym (get_or-set_same copy.reached (write_at r) true false inside) ∙ (rw same at unmarked)))
      zero_at j (yes same) (no above) unmarked =
          let past : length (slice_set copy.contents (write_at r) number) ≤ j =
          omega (arith, shaped.four_contents, length-set copy.contents (write_at r) number) in
          get_or-eq_default (slice_set copy.contents (write_at r) number) 0 past

      past_at : (j : ℕ) → Dec (j ≡ write_at r) → Dec (j < 4) → t.writecount ≤ j
          → slice_index_or (slice_set copy.reached (write_at r) true) j false ≡ false
      past_at j (no other) _ past =
          get_or-set_other copy.reached (write_at r) j true false other ∙ shaped.past_unreached j past
      past_at j (yes same) (yes below) past =
          let there : write_at r < 4 = omega arith in
          let within : write_at r < t.writecount = (at_place t.writes t.writecount r there).1 in
          absurd (omega arith)
      past_at j (yes same) (no above) past =
          let beyond : length (slice_set copy.reached (write_at r) true) ≤ j =
          omega (arith, shaped.four_reached, length-set copy.reached (write_at r) true) in
          get_or-eq_default (slice_set copy.reached (write_at r) true) false beyond

  -- it stays so whatever an action uses: the copy beside itself
  abbrev Any : ℕ → Type 0
  Any r = Unit {0}

  abbrev Twice : WorkingCopy → WorkingCopy → Type 0
  Twice one other = (one ≡ other) × CopyShape one

  side_by_side : SideBySide (memory_of t) (memory_of t) Twice Any Any
  side_by_side =
      record {
        holds_same = λ one other both r any. ap (λ copy. contents_in t copy r) both.0;
        becomes_same =
            λ one other both r number any.
            (ap (λ copy. written t copy r number) both.0, written_shaped one both.1 r number);
      }

  shaped_after : (one other : After WorkingCopy) → RelatedAfter Twice one other → ShapedAfter one
  shaped_after (goes_on one) (goes_on other) both = both.1
  shaped_after (goes_on one) aborts both = absurd both
  shaped_after aborts (goes_on other) both = absurd both
  shaped_after aborts aborts both = tt

  four_zeros : (j : ℕ) → get_or {A = ℕ} (0 ∷ 0 ∷ 0 ∷ 0 ∷ []) j 0 ≡ 0
  four_zeros zero = refl
  four_zeros (suc zero) = refl
  four_zeros (suc (suc zero)) = refl
  four_zeros (suc (suc (suc zero))) = refl
  four_zeros (suc (suc (suc (suc j)))) = refl

  worked_shaped : (values : List ℕ) → ShapedAfter (worked_of t values)
  unfolding worked_of
  worked_shaped values =
      shaped_after (worked_of t values) (worked_of t values)
      (all_related side_by_side (actions_of t) (all_keep (λ r. tt) (λ r. tt) (actions_of t))
      (goes_on (start_of values)) (goes_on (start_of values)) (refl, start))
    where
      start : CopyShape (start_of values)
      start =
          record {
            four_contents = refl;
            four_reached = refl;
            unreached_zero = λ j unmarked. four_zeros j;
            past_unreached = λ j past. none_at j;
          }

  pub record DecisionShape (decision : Decision) : Type 0 where
    pub contents_four : length decision.contents ≡ 4
    pub carried_four : length decision.carried ≡ 4
    -- "0 for a carried write until its carry"
    pub carried_zero : (j : ℕ) → slice_index_or decision.carried j false ≡ true → slice_index decision.contents j ≡ 0
    pub past_zero : (j : ℕ) → t.writecount ≤ j → slice_index decision.contents j ≡ 0
    -- "every declared write of an aborted transaction, is carried"
    pub aborted_carried : decision.outcome ≡ Aborted → (j : ℕ) → j < 4 → j < t.writecount
        → slice_index_or decision.carried j false ≡ true
    pub past_uncarried : (j : ℕ) → t.writecount ≤ j → slice_index_or decision.carried j false ≡ false

  past_marks : (reached : List Bool) (j : ℕ) → t.writecount ≤ j → Dec (j < 4)
      → slice_index_or (unreached t.writecount reached) j false ≡ false
  past_marks reached j past (yes below) =
      unreached_at t.writecount reached j below ∙ (rw (le-ltb j t.writecount past))
  past_marks reached j past (no above) =
      let beyond : length (unreached t.writecount reached) ≤ j = omega arith in
      get_or-eq_default (unreached t.writecount reached) false beyond

  marked : (reached : List Bool) (j : ℕ) → slice_index_or (unreached t.writecount reached) j false ≡ true → Dec (j < 4)
      → slice_index_or reached j false ≡ false
  marked reached j carried (yes below) =
      carried_unreached (nat_lt j t.writecount) (slice_index_or reached j false)
      (sym (unreached_at t.writecount reached j below) ∙ carried)
  marked reached j carried (no above) =
      let beyond : length (unreached t.writecount reached) ≤ j = omega arith in
      absurd (true_is_not_false (
      sym carried ∙ get_or-eq_default (unreached t.writecount reached) false beyond))

  all_marked : (j : ℕ) → j < 4 → j < t.writecount
      → slice_index_or (unreached t.writecount (false ∷ false ∷ false ∷ false ∷ [])) j false ≡ true
  all_marked j below within =
      unreached_at t.writecount (false ∷ false ∷ false ∷ false ∷ []) j below
      ∙ (rw (lt-ltb j t.writecount within, none_at j))

  decision_shaped : (after : After WorkingCopy) → ShapedAfter after → DecisionShape (decision_of t.writecount after)
  decision_shaped (goes_on copy) shaped =
      record {
        contents_four = shaped.four_contents;
        carried_four = refl;
        carried_zero = λ j carried. shaped.unreached_zero j (marked copy.reached j carried (dec_lt j 4));
        past_zero = λ j past. shaped.unreached_zero j (shaped.past_unreached j past);
        aborted_carried = λ aborted. absurd (let never : ◌≡◌ {A = ℕ} 0 1 = cc in omega arith);
        past_uncarried = λ j past. past_marks copy.reached j past (dec_lt j 4);
      }
  decision_shaped aborts shaped =
      record {
        contents_four = refl;
        carried_four = refl;
        carried_zero = λ j carried. four_zeros j;
        past_zero = λ j past. four_zeros j;
        aborted_carried = λ aborted j below within. all_marked j below within;
        past_uncarried = λ j past. past_marks (false ∷ false ∷ false ∷ false ∷ []) j past (dec_lt j 4);
      }

  pub decided_shaped : (values : List ℕ) → DecisionShape (decide_of t values)
  unfolding decide_of
  decided_shaped values = decision_shaped (worked_of t values) (worked_shaped values)
