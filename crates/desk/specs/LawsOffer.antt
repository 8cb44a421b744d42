-- An offered step by what it asks.
use Rattle.std.specs.Prelude.{Bool, true, false, cond, List, ℕ, Option, Some, None, ◌≡◌, refl}
use Rattle.desk.specs.LawsSteps.{asked_of}
use Rattle.desk.specs.Offer.{Session, place_for, claim_for, advance_for, seal_for}
use Rattle.desk.specs.Offer.{after_place, after_claim, after_advance, after_seal, after_none, offer_of}
use Rattle.desk.specs.Steps.{is_place, is_claim, is_advance, is_seal}
use Rattle.desk.specs.declared.Step.{Step}
use Rattle.desk.specs.declared.steps.Asked.{Asked}
use Rattle.desk.specs.declared.steps.Asked.TheVariants.{Place, Claim, Advance, Seal}
use Rattle.engine.specs.Claim.{claim_of}

-- the session after what is asked
abbrev pub offered_by : Option Asked → List ℕ → Session → Session
offered_by (Some (Place party)) log s = after_place (place_for s.tally party log s.newest s.versions) s
offered_by (Some (Claim party transaction)) log s = after_claim (claim_of s.tally.state party transaction) s
offered_by (Some (Advance party)) log s =
    after_advance (advance_for s.tally party log s.records s.newest s.versions s.results) s
offered_by (Some Seal) log s = after_seal (seal_for s.tally s.records s.newest s.versions) s
offered_by None log s = after_none s

pub offered_asked : (step : Step) (log : List ℕ) (s : Session)
    → offered_by (asked_of step) log s ≡ offer_of step log s
unfolding offer_of
offered_asked step log s = go (is_place step) (is_claim step) (is_advance step) (is_seal step)
  where
    go : (place claim advance seal : Bool)
        → offered_by (cond place (Some (Place step.party)) (cond claim (Some (Claim step.party step.transaction))
        (cond advance (Some (Advance step.party)) (cond seal (Some Seal) None)))) log s
        ≡ cond place (after_place (place_for s.tally step.party log s.newest s.versions) s)
        (cond claim (after_claim (claim_for s.tally step) s)
        (cond advance (after_advance (advance_for s.tally step.party log s.records s.newest s.versions s.results) s)
        (cond seal (after_seal (seal_for s.tally s.records s.newest s.versions) s) (after_none s))))
    go true claim advance seal = refl
    go false true advance seal = refl
    go false false true seal = refl
    go false false false true = refl
    go false false false false = refl
