use Rattle.engine.specs.LawsSeal.{seal_joined}
use Rattle.engine.proofs.State.seal.Goals as goal

pub returns : goal.returns
returns c =
    let a = c.args in
    let told = rw c.numbers_of-numbers.ensures at c.seal-counted.ensures in
    (rw (c.joined.ensures, told.0) (seal_joined a.self a.records.now a.newest.now a.versions.now), told.1)
