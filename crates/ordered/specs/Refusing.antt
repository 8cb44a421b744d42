-- In a state that the engine reaches, 1, 2, 4 to 8, 14 and 15 do not arise: a step is refused only by 9 to 13.
use Rattle.std.specs.Prelude.{ℕ, ◌<◌, Bool, ◌≡◌, List}
use Rattle.std.proofs.Math.Bool.{true, false, not}
use Rattle.std.proofs.Math.Path.{refl, sym}
use Rattle.std.proofs.Common.{◌∙◌, arith}
use Rattle.std.proofs.Math.Dec.{leb, eqb}
use borrow.Author.Tests.{leb-false, eqb-false, not-false}
use Rattle.packed.specs.LawsForm.{not_left, not_right}
use Rattle.counters.specs.declared.Outcome.{Outcome}
use Rattle.engine.specs.Advance.{advance_verdict, advance_of}
use Rattle.engine.specs.Answers.{answer_number}
use Rattle.engine.specs.Claim.{no_such_claim, claim_of}
use Rattle.engine.specs.Moment.{not_running, not_planning, not_sealable}
use Rattle.engine.specs.Place.{place_verdict, place_of}
use Rattle.engine.specs.Range.{row_at, worker_at, placed_by}
use Rattle.engine.specs.Rows.{is_unprocessed}
use Rattle.engine.specs.Seal.{seal_verdict, seal_of}
use Rattle.engine.specs.Workers.{is_idle}
use Rattle.engine.specs.declared.Answer.{Answer}
use Rattle.engine.specs.declared.Answer.TheVariants.{Accepted, Waits, Refused}
use Rattle.engine.specs.declared.State.{State}
use Rattle.order.specs.Batch as order
use Rattle.order.specs.Invariant as invariant
use Rattle.order.specs.Machine as machine
use Rattle.order.specs.Store as store
use Rattle.order.specs.TableLaws.{clash}
use Rattle.ordered.specs.Acting.{advance_makes, holder}
use Rattle.ordered.specs.Chains.{below_of}
use Rattle.ordered.specs.Claiming.{planning_over, idle_here, unprocessed_here, claim_makes}
use Rattle.ordered.specs.Describing.{Describes}
use Rattle.ordered.specs.Fitting.{advance_lent}
use Rattle.ordered.specs.Placing.{place_lent, place_makes}
use Rattle.ordered.specs.Questions.{OfTheMoment, accepted, from_nine}
use Rattle.ordered.specs.Ranging.{placed_most, in_range}
use Rattle.ordered.specs.Relation.{Stands}
use Rattle.engine.specs.Running.{Engine, Offer, place, claim, advance, seal, Turn, offered}
use Rattle.ordered.specs.Sealing.{sealed_engine, complete_here, seal_lent, seal_makes}
use Rattle.ordered.specs.Stepping.{reply_to}

-- a step that is accepted has no refusal number
none_refused : (turn : Turn) (answer : machine.Answer) (next : Engine) → reply_to turn ≡ store.accepted answer next
    → OfTheMoment (answer_number turn.answer)
none_refused turn answer next reply = go turn.answer refl
  where
    go : (x : Answer) → turn.answer ≡ x → OfTheMoment (answer_number turn.answer)
    go Accepted is = rw is accepted
    go (Waits position) is = rw is accepted
    go (Refused refusal at) is =
        let never : store.refused ≡ store.accepted answer next = rw is at reply in
        absurd (clash (cc))

module _ (B : order.Batch ℕ Outcome) (o : State) (log stored : List ℕ) (d : Describes B o log stored)
    (e : Engine) (m : machine.State ℕ Outcome) (stands : Stands o stored e m) (sound : invariant.Sound B m) where
  place_moment : (p : ℕ) → OfTheMoment (answer_number (offered log e (place p)).answer)
  unfolding offered place_of place_verdict
  place_moment p =
      go (not_planning e.state) refl (leb e.state.partitions p) refl
      (eqb (placed_by e.state p) e.state.size) refl
    where
      made : leb e.state.partitions p ≡ false → eqb (placed_by e.state p) e.state.size ≡ false
          → OfTheMoment (answer_number (offered log e (place p)).answer)
      made small other =
          let there : p < o.partitions =
          omega (arith, leb-false e.state.partitions p small, stands.fixed.partitions_fixed) in
          let not_all = eqb-false (placed_by e.state p) e.state.size other in
          let less =
          below_of (placed_by e.state p) o.size (placed_most B o log stored d e m stands sound p there)
          (λ same. not_all (same ∙ sym stands.fixed.size_fixed)) in
          let makes =
          place_makes B o log stored d e m stands sound p there (omega (arith, less, stands.placed_are p there)) in
          none_refused (offered log e (place p)) makes.answer makes.next makes.replies

      go : (moment : Bool) → not_planning e.state ≡ moment → (party : Bool) → leb e.state.partitions p ≡ party
          → (all : Bool) → eqb (placed_by e.state p) e.state.size ≡ all
          → OfTheMoment (answer_number (offered log e (place p)).answer)
      go true moment_is party party_is all all_is =
          rw (
            place_lent B o log stored d e m stands sound,
            in_range B o log stored d e m stands sound,
            moment_is,
          ) (from_nine 9 (omega arith) (omega arith))
      go false moment_is true party_is all all_is =
          rw (
            place_lent B o log stored d e m stands sound,
            in_range B o log stored d e m stands sound,
            moment_is,
            party_is,
          ) (from_nine 10 (omega arith) (omega arith))
      go false moment_is false party_is true all_is =
          rw (
            place_lent B o log stored d e m stands sound,
            in_range B o log stored d e m stands sound,
            moment_is,
            party_is,
            all_is,
          ) (from_nine 11 (omega arith) (omega arith))
      go false moment_is false party_is false all_is = made party_is all_is

  claim_moment : (w i : ℕ) → OfTheMoment (answer_number (offered log e (claim w i)).answer)
  unfolding offered claim_of
  claim_moment w i =
      go (not_running e.state) refl (no_such_claim e.state w i) refl (not (is_idle (worker_at e.state w))) refl
      (not (is_unprocessed (row_at e.state i))) refl
    where
      go : (moment : Bool) → not_running e.state ≡ moment → (party : Bool) → no_such_claim e.state w i ≡ party
          → (busy : Bool) → not (is_idle (worker_at e.state w)) ≡ busy
          → (taken : Bool) → not (is_unprocessed (row_at e.state i)) ≡ taken
          → OfTheMoment (answer_number (offered log e (claim w i)).answer)
      go true moment_is party party_is busy busy_is taken taken_is =
          rw (in_range B o log stored d e m stands sound, moment_is) (from_nine 9 (omega arith) (omega arith))
      go false moment_is true party_is busy busy_is taken taken_is =
          rw (in_range B o log stored d e m stands sound, moment_is, party_is)
          (from_nine 10 (omega arith) (omega arith))
      go false moment_is false party_is true busy_is taken taken_is =
          rw (in_range B o log stored d e m stands sound, moment_is, party_is, busy_is)
          (from_nine 12 (omega arith) (omega arith))
      go false moment_is false party_is false busy_is true taken_is =
          rw (in_range B o log stored d e m stands sound, moment_is, party_is, busy_is, taken_is)
          (from_nine 13 (omega arith) (omega arith))
      go false moment_is false party_is false busy_is false taken_is =
          let worker =
          leb-false e.state.workers w (not_left (leb e.state.workers w) (leb e.state.size i) party_is) in
          let transaction =
          leb-false e.state.size i (not_right (leb e.state.workers w) (leb e.state.size i) party_is) in
          let there : w < o.workers = omega (arith, worker, stands.fixed.workers_fixed) in
          let below : i < o.size = omega (arith, transaction, stands.fixed.size_fixed) in
          let makes =
          claim_makes B o log stored d e m stands sound w i (planning_over B o log stored d e m stands sound moment_is)
          there below
          (idle_here B o log stored d e m stands sound w there (not-false (is_idle (worker_at e.state w)) busy_is))
          (unprocessed_here B o log stored d e m stands sound i below
          (not-false (is_unprocessed (row_at e.state i)) taken_is)) in
          none_refused (offered log e (claim w i)) makes.answer makes.next makes.replies

  advance_moment : (w : ℕ) → OfTheMoment (answer_number (offered log e (advance w)).answer)
  unfolding offered advance_of advance_verdict
  advance_moment w =
      go (not_running e.state) refl (leb e.state.workers w) refl (is_idle (worker_at e.state w)) refl
    where
      go : (moment : Bool) → not_running e.state ≡ moment → (party : Bool) → leb e.state.workers w ≡ party
          → (idle : Bool) → is_idle (worker_at e.state w) ≡ idle
          → OfTheMoment (answer_number (offered log e (advance w)).answer)
      go true moment_is party party_is idle idle_is =
          rw (
            advance_lent B o log stored d e m stands sound,
            in_range B o log stored d e m stands sound,
            moment_is,
          ) (from_nine 9 (omega arith) (omega arith))
      go false moment_is true party_is idle idle_is =
          rw (
            advance_lent B o log stored d e m stands sound,
            in_range B o log stored d e m stands sound,
            moment_is,
            party_is,
          ) (from_nine 10 (omega arith) (omega arith))
      go false moment_is false party_is true idle_is =
          rw (
            advance_lent B o log stored d e m stands sound,
            in_range B o log stored d e m stands sound,
            moment_is,
            party_is,
            idle_is,
          ) (from_nine 12 (omega arith) (omega arith))
      go false moment_is false party_is false idle_is =
          let worker = leb-false e.state.workers w party_is in
          let there : w < o.workers = omega (arith, worker, stands.fixed.workers_fixed) in
          let holding = holder B o log stored d e m stands sound w there idle_is (m.execution.work w) refl in
          let makes =
          advance_makes B o log stored d e m stands sound w holding.0
          (planning_over B o log stored d e m stands sound moment_is) there holding.1 in
          none_refused (offered log e (advance w)) makes.answer makes.next makes.replies

  seal_moment : OfTheMoment (answer_number (offered log e seal).answer)
  unfolding offered seal_of seal_verdict
  seal_moment = go (not_sealable e.state) refl
    where
      go : (moment : Bool) → not_sealable e.state ≡ moment → OfTheMoment (answer_number (offered log e seal).answer)
      go true moment_is =
          rw (
            seal_lent B o log stored d e m stands sound,
            in_range B o log stored d e m stands sound,
            moment_is,
          ) (from_nine 9 (omega arith) (omega arith))
      go false moment_is =
          none_refused (offered log e seal) machine.stepped (sealed_engine e)
          (seal_makes B o log stored d e m stands sound (complete_here B o log stored d e m stands sound moment_is))

  pub of_the_moment : (offer : Offer) → OfTheMoment (answer_number (offered log e offer).answer)
  of_the_moment (place p) = place_moment p
  of_the_moment (claim w i) = claim_moment w i
  of_the_moment (advance w) = advance_moment w
  of_the_moment seal = seal_moment
