-- Offering the steps to a session is offering the list of offers to the engine, and a session that is sealed has had a
-- seal accepted.
use Prim.Native.Nat.{ℕ, zero, suc}
use Rattle.std.specs.Prelude.{Bool, ◌||◌, cond, List, [], ◌∷◌, ◌++◌, ◌≡◌}
use Rattle.std.proofs.Math.Bool.{true, false}
use Rattle.std.proofs.Math.Path.{refl, sym, ap}
use Rattle.std.proofs.Common.{◌∙◌}
use Rattle.engine.specs.LawsRefused.{never}
use Rattle.engine.specs.Running.{Engine, Offer, place, claim, advance, seal, is_accepted}
use Rattle.engine.specs.Running.{offered, after_all, is_sealing, seal_accepted}
use Rattle.engine.specs.declared.Answer.{Answer}
use Rattle.engine.specs.declared.Answer.TheVariants.{Accepted, Waits, Refused}
use Rattle.engine.specs.declared.State.{State}
use Rattle.engine.specs.declared.Stepped.{Stepped}
use Rattle.desk.specs.Counts.{counted, counted_seal}
use Rattle.desk.specs.Offer.{Session, offer_of, offers_of, place_for, claim_for, advance_for, seal_for}
use Rattle.desk.specs.Offer.{after_place, after_claim, after_advance, after_seal, after_none}
use Rattle.desk.specs.Steps.{step_at, is_place, is_claim, is_advance, is_seal}
use Rattle.desk.specs.declared.Step.{Step}
use Rattle.desk.specs.declared.Tally.{Tally}
use Rattle.promised.specs.Sessions.{engine_of, offers_in, offers_up_to}

-- ---- tests
or_left : (x y : Bool) → x ≡ true → (x || y) ≡ true
or_left true y is = refl
or_left false y is = never is

or_true : (x : Bool) → (x || true) ≡ true
or_true true = refl
or_true false = refl

or_assoc : (x y z : Bool) → ((x || y) || z) ≡ (x || (y || z))
or_assoc true y z = refl
or_assoc false y z = refl

or_chain : (b x y z : Bool) → (b ≡ true → (x || y) ≡ true) → (b || z) ≡ true → (x || (y || z)) ≡ true
or_chain b true y z first second = refl
or_chain true false y z first second = or_left y z (first refl)
or_chain false false true z first second = refl
or_chain false false false z first second = second

-- ---- the counts hold the state that was answered
counted_state : (tally : Tally) (answer : Answer) (state : State) → (counted tally answer state).state ≡ state
counted_state tally Accepted state = refl
counted_state tally (Waits position) state = refl
counted_state tally (Refused refusal found) state = refl

seal_state : (tally : Tally) (answer : Answer) (state : State) → (counted_seal tally answer state).state ≡ state
seal_state tally Accepted state = refl
seal_state tally (Waits position) state = refl
seal_state tally (Refused refusal found) state = refl

counted_sealed : (tally : Tally) (answer : Answer) (state : State)
    → (counted tally answer state).sealed ≡ tally.sealed
counted_sealed tally Accepted state = refl
counted_sealed tally (Waits position) state = refl
counted_sealed tally (Refused refusal found) state = refl

seal_sealed : (tally : Tally) (answer : Answer) (state : State) → (counted_seal tally answer state).sealed ≡ true
    → (tally.sealed || (is_accepted answer || false)) ≡ true
seal_sealed tally Accepted state is = or_true tally.sealed
seal_sealed tally (Waits position) state is = or_true tally.sealed
seal_sealed tally (Refused refusal found) state is = or_left tally.sealed _ is

-- ---- one step
abbrev with_state : Engine → State → Engine
with_state e state =
    record {
      state = state;
      records = e.records;
      newest = e.newest;
      versions = e.versions;
      results = e.results;
    }

module _ (step : Step) (log : List ℕ) (s : Session) where
  abbrev placed : Session
  placed = after_place (place_for s.tally step.party log s.newest s.versions) s

  abbrev claimed : Session
  claimed = after_claim (claim_for s.tally step) s

  abbrev advanced : Session
  advanced =
      after_advance (advance_for s.tally step.party log s.records s.newest s.versions s.results) s

  abbrev sealed : Session
  sealed = after_seal (seal_for s.tally s.records s.newest s.versions) s

  abbrev placing : Stepped
  placing = (place_for s.tally step.party log s.newest s.versions).stepped

  abbrev claiming : Stepped
  claiming = claim_for s.tally step

  abbrev advancing : Stepped
  advancing =
      (advance_for s.tally step.party log s.records s.newest s.versions s.results).stepped

  abbrev sealing : Stepped
  sealing = (seal_for s.tally s.records s.newest s.versions).stepped

  step_engine : engine_of (offer_of step log s) ≡ after_all log (engine_of s) (offers_in step)
  unfolding offer_of after_all offered
  step_engine = go (is_place step) (is_claim step) (is_advance step) (is_seal step)
    where
      go : (p c a l : Bool)
          → engine_of (cond p placed (cond c claimed (cond a advanced (cond l sealed (after_none s)))))
          ≡ after_all log (engine_of s) (cond p (place step.party ∷ [])
          (cond c (claim step.party step.transaction ∷ []) (cond a (advance step.party ∷ [])
          (cond l (seal ∷ []) []))))
      go true c a l =
          ap (with_state (offered log (engine_of s) (place step.party)).engine)
          (counted_state s.tally placing.answer placing.state)
      go false true a l =
          ap (with_state (offered log (engine_of s) (claim step.party step.transaction)).engine)
          (counted_state s.tally claiming.answer claiming.state)
      go false false true l =
          ap (with_state (offered log (engine_of s) (advance step.party)).engine)
          (counted_state s.tally advancing.answer advancing.state)
      go false false false true =
          ap (with_state (offered log (engine_of s) seal).engine) (seal_state s.tally sealing.answer
          sealing.state)
      go false false false false = refl

  step_sealed : (offer_of step log s).tally.sealed ≡ true
      → (s.tally.sealed || seal_accepted log (engine_of s) (offers_in step)) ≡ true
  unfolding offer_of seal_accepted offered
  step_sealed = go (is_place step) (is_claim step) (is_advance step) (is_seal step)
    where
      go : (p c a l : Bool)
          → (cond p placed (cond c claimed (cond a advanced (cond l sealed (after_none s))))).tally.sealed ≡ true
          → (s.tally.sealed || seal_accepted log (engine_of s) (cond p (place step.party ∷ [])
          (cond c (claim step.party step.transaction ∷ []) (cond a (advance step.party ∷ [])
          (cond l (seal ∷ []) [])))))
          ≡ true
      go true c a l is =
          or_left s.tally.sealed _ (sym (counted_sealed s.tally placing.answer placing.state) ∙ is)
      go false true a l is =
          or_left s.tally.sealed _ (sym (counted_sealed s.tally claiming.answer claiming.state) ∙ is)
      go false false true l is =
          or_left s.tally.sealed _ (sym (counted_sealed s.tally advancing.answer advancing.state) ∙ is)
      go false false false true is = seal_sealed s.tally sealing.answer sealing.state is
      go false false false false is = or_left s.tally.sealed _ is

-- ---- lists of offers
after_append : (log : List ℕ) (e : Engine) (front back : List Offer)
    → after_all log e (front ++ back) ≡ after_all log (after_all log e front) back
unfolding after_all
after_append log e [] back = refl
after_append log e (offer ∷ front) back = after_append log (offered log e offer).engine front back

sealed_append : (log : List ℕ) (e : Engine) (front back : List Offer)
    → seal_accepted log e (front ++ back)
    ≡ (seal_accepted log e front || seal_accepted log (after_all log e front) back)
unfolding after_all seal_accepted
sealed_append log e [] back = refl
sealed_append log e (offer ∷ front) back =
    let e' = (offered log e offer).engine in
    let here = is_sealing log offer (offered log e offer).answer in
    ap (λ (b : Bool). here || b) (sealed_append log e' front back)
    ∙ sym (or_assoc here (seal_accepted log e' front) (seal_accepted log (after_all log e' front) back))

-- ---- all steps
module _ (steps log : List ℕ) (s : Session) where
  pub all_engine : (count : ℕ)
      → engine_of (offers_of steps log s count) ≡ after_all log (engine_of s) (offers_up_to steps count)
  unfolding after_all
  all_engine zero = refl
  all_engine (suc count) =
      step_engine (step_at steps count) log (offers_of steps log s count)
      ∙ (ap (λ (e : Engine). after_all log e (offers_in (step_at steps count))) (all_engine count)
      ∙ sym (after_append log (engine_of s) (offers_up_to steps count) (offers_in (step_at steps count))))

  pub all_sealed : (count : ℕ) → (offers_of steps log s count).tally.sealed ≡ true
      → (s.tally.sealed || seal_accepted log (engine_of s) (offers_up_to steps count)) ≡ true
  all_sealed zero is = or_left _ _ is
  all_sealed (suc count) is =
      ap (λ (b : Bool). s.tally.sealed || b)
      (sealed_append log (engine_of s) (offers_up_to steps count) (offers_in (step_at steps count)))
      ∙ or_chain (offers_of steps log s count).tally.sealed s.tally.sealed
      (seal_accepted log (engine_of s) (offers_up_to steps count))
      (seal_accepted log (after_all log (engine_of s) (offers_up_to steps count)) (offers_in (step_at steps count)))
      (all_sealed count)
      (ap (λ (e : Engine).
      (offers_of steps log s count).tally.sealed || seal_accepted log e (offers_in (step_at steps count)))
      (sym (all_engine count)) ∙ step_sealed (step_at steps count) log (offers_of steps log s count) is)
