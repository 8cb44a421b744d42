use Rattle.engine.specs.LawsPlace.{place_joined}
use Rattle.engine.proofs.State.place.Goals as goal

pub returns : goal.returns
returns c =
    let a = c.args in
    let told = rw c.numbers_of-numbers.ensures at c.place-counted.ensures in
    (rw (c.joined.ensures, told.0) (place_joined a.self a.p a.log.now a.newest.now a.versions.now), told.1)
