use Rattle.engine.specs.LawsLentClaim.{claim_stepped}
use Rattle.engine.proofs.State.claim.Goals as goal

pub returns : goal.returns
returns c =
    let told = rw c.numbers_of-numbers.ensures at c.claim-answer.ensures in
    rw (told.0, told.1.0, told.1.1) (claim_stepped c.args.self c.args.w c.args.i)
