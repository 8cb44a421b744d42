use Rattle.desk.specs.LawsLending.{place_met, claim_met, advance_met, seal_met, none_met}
use Rattle.desk.proofs.offering.offer.Goals as goal

pub returns-in-Some-Place : goal.returns-in-Some-Place
returns-in-Some-Place c =
    place_met c.args.step c.args.tally.now _ c.args.numbers.now _ _ _ _ _ _ _ _ _
    (rw c.in-Some-Place.field-0-is at c.in-Some-Place.ensures) c.place-placed.ensures c.count.ensures

pub returns-in-Some-Claim : goal.returns-in-Some-Claim
returns-in-Some-Claim c =
    claim_met c.args.step c.args.tally.now _ c.args.numbers.now _ _ _ _ _ _ _ _ c.count-in-Some-Claim.ensures _ _
    (rw c.in-Some-Claim.field-0-is at c.in-Some-Claim.ensures) c.claim-answer.ensures

pub returns-in-Some-Advance : goal.returns-in-Some-Advance
returns-in-Some-Advance c =
    advance_met c.args.step c.args.tally.now _ c.args.numbers.now _ _ _ _ _ _ _ _ c.count-in-Some-Advance.ensures
    _ _ _ (rw c.in-Some-Advance.field-0-is at c.in-Some-Advance.ensures) c.advance-answer.ensures

pub returns-in-Some-Seal : goal.returns-in-Some-Seal
returns-in-Some-Seal c =
    seal_met c.args.step c.args.tally.now _ c.args.numbers.now _ _ _ _ _ _ _ _ _
    (rw c.in-Some-Seal.field-0-is at c.in-Some-Seal.ensures) c.seal-sealed.ensures c.count_seal.ensures

pub returns-in-None : goal.returns-in-None
returns-in-None c =
    none_met c.args.step c.args.tally.now _ c.args.numbers.now _ _ _ _ _ c.in-None.ensures c.count_refused.ensures
