use Rattle.engine.specs.Lent.{joined}
use Rattle.engine.specs.LawsLentClaim.{claim_same}
use Rattle.engine.proofs.lent.claiming.claim.Goals as goal

pub returns-in-Ok : goal.returns-in-Ok
returns-in-Ok c =
    let a = c.args in
    let told = claim_same (joined a.numbers a.rows.now a.crew.now) a.party a.number in
    rw (c.put.ensures, c.put-in-Ok.ensures) (rw (← c.in-Ok.ensures) at told)

pub returns-in-Err : goal.returns-in-Err
returns-in-Err c =
    let a = c.args in
    let told = claim_same (joined a.numbers a.rows.now a.crew.now) a.party a.number in
    rw c.into.ensures (rw (← c.in-Err.ensures) at told)
