-- What any list of offers leads to, refused ones among them: a store that is still open in a sound state, or one that
-- was sealed with everything as in the one-by-one run.
use Rattle.std.specs.Prelude.{◌≡◌, Bool, ◌||◌, ℕ, ◌<◌, get_or}
use Rattle.std.proofs.Math.Path.{refl}
use Rattle.std.proofs.Common.{subst, arith}
use Rattle.std.proofs.Math.Bool.{true, false}
use mathlib.Core.List.{List, [], ◌∷◌, ◌++◌}
use Rattle.order.specs.Batch.{Batch, Proper}
use Rattle.order.specs.OneByOne.{records_before, values_read, decision_of}
use Rattle.order.specs.Machine.{Row, complete, State, AllComplete}
use Rattle.order.specs.Store.{Offer, step, seal, Reply, refused, accepted, Store, after, is_sealing, after_all}
use Rattle.order.specs.Store.{seal_accepted, AllAccepted, no_offer, then_offer, AsOneByOne, CanBeSealed}
use Rattle.order.specs.TableLaws.{first_is}
use Rattle.order.specs.Invariant.{Sound}
use Rattle.order.specs.Interface.{Meets}
use Rattle.order.proofs.Safety.{AsRun, step_keeps, produced_found, complete_planned, complete_as_run}

-- A list that is accepted throughout leads where it says, and if it ends in a seal, a seal was accepted.
module _ {X O C : Type 0} {S : Store X O C} where
  pub accepted_after : {c d : C} {os : List Offer} → AllAccepted S c os d → after_all S c os ≡ d
  unfolding after_all
  accepted_after no_offer = refl
  accepted_after (then_offer plain e rest) = rw e (accepted_after rest)

  pub accepted_seal : (os : List Offer) {c d : C} → AllAccepted S c (os ++ (seal ∷ [])) d
      → seal_accepted S c (os ++ (seal ∷ [])) ≡ true
  unfolding seal_accepted
  accepted_seal [] (then_offer plain e rest) = rw e
  accepted_seal (o ∷ os) {c} (then_offer {d = d} {answer = answer} plain e rest) =
      rw e (either (is_sealing o (accepted answer d)) (accepted_seal os rest))
    where
      either : (b : Bool) {z : Bool} → z ≡ true → b || z ≡ true
      either true h = refl
      either false h = h

module _ {X O C : Type 0} {B : Batch X O} {S : Store X O C} (meets : Meets B S) where
  -- What has become of a store: no seal was accepted and it is open, or one was.
  pub data Fate : Bool → C → Type 0 where
    still_open : {c : C} (s : State X O) → meets.Open c s → Sound B s → Fate false c
    was_sealed : {c : C} (s : State X O) → meets.Sealed c s → Sound B s → AllComplete B s → Fate true c

  -- Nothing changes a sealed store.
  pub sealed_stays : (os : List Offer) (c : C) (s : State X O) → meets.Sealed c s → meets.Sealed (after_all S c os) s
  unfolding after_all
  sealed_stays [] c s h = h
  sealed_stays (o ∷ os) c s h = sealed_stays os (after c (S.offer c o)) s (rw (meets.stays_sealed c s h o) h)

  module _ (ok : Proper B) where
    pub fate : (os : List Offer) (c : C) (s : State X O) → meets.Open c s → Sound B s
        → Fate (seal_accepted S c os) (after_all S c os)
    unfolding after_all seal_accepted
    fate [] c s is_open sound = still_open s is_open sound
    fate (o ∷ os) c s is_open sound = one o (S.offer c o) refl (fate os)
      where
        Rest : Type 0
        Rest = (d : C) (t : State X O) → meets.Open d t → Sound B t → Fate (seal_accepted S d os) (after_all S d os)

        one : (o : Offer) (reply : Reply C) → S.offer c o ≡ reply → Rest
            → Fate (is_sealing o reply || seal_accepted S (after c reply) os) (after_all S (after c reply) os)
        one (step l) refused h rest = rest c s is_open sound
        one (step l) (accepted answer d) h rest =
            let t = meets.follows c d s l answer is_open sound h in
            rest d t.0 t.2 (step_keeps B ok t.1 sound)
        one seal refused h rest = rest c s is_open sound
        one seal (accepted answer d) h rest =
            let t = meets.seals c d s answer is_open sound h in
            was_sealed s (sealed_stays os d s t.1) sound t.0

    -- A sealed store holds the results of the one-by-one run.
    as_one_by_one : (c : C) (s : State X O) → meets.Sealed c s → Sound B s → AllComplete B s → AsOneByOne S B c
    as_one_by_one c s h sound all = record {
      outcomes_same =
          first_is (λ i. (decision_of B i).outcome) B.size (S.outcomes c) meets.no_outcome
          (meets.outcome_count c s h) (λ i l. same_outcome (meets.rows_kept c s h i l) (run.rows i l));
      values_same =
          first_is (values_read B) B.size (S.values_read c) [] (meets.values_count c s h)
          (λ i l. same_values (meets.rows_kept c s h i l) (run.rows i l));
      records_same =
          first_is (records_before B B.size) S.record_count (S.records c) meets.no_contents
          (meets.record_count_lem c s h) same_record;
    }
      where
        run : AsRun B s
        run = complete_as_run B ok s sound all

        same_outcome : {row : Row X O} {o p : O} {vs ws : List X} → row ≡ complete o vs → row ≡ complete p ws → o ≡ p
        same_outcome x y = cc

        same_values : {row : Row X O} {o p : O} {vs ws : List X} → row ≡ complete o vs → row ≡ complete p ws → vs ≡ ws
        same_values x y = cc

        same_record : (r : ℕ) → r < S.record_count
            → get_or (S.records c) r meets.no_contents ≡ records_before B B.size r
        same_record r l =
            let taken = meets.records_taken c s h r l in
            produced_found B ok s sound (complete_planned B ok s sound all) B.size r (omega arith) taken.0
            (get_or (S.records c) r meets.no_contents) taken.1

    pub sealed_as_run : {c : C} → Fate true c → AsOneByOne S B c
    sealed_as_run {c} (was_sealed s is_sealed sound all) = as_one_by_one c s is_sealed sound all

    -- So does one that is sealed by a list accepted throughout.
    pub sealing_as_run : {c : C} (bound : ℕ) (s : State X O) → meets.Open c s → Sound B s
        → (way : CanBeSealed S bound c) → AsOneByOne S B way.sealed
    sealing_as_run {c} bound s is_open sound way =
        let list : List Offer = way.offers ++ (seal ∷ []) in
        let sealed : seal_accepted S c list ≡ true = accepted_seal way.offers way.all_accepted_lem in
        let end : Fate true (after_all S c list) =
        subst (λ (b : Bool). Fate b (after_all S c list)) sealed (fate list c s is_open sound) in
        subst (AsOneByOne S B) (accepted_after way.all_accepted_lem) (sealed_as_run end)
