use Rattle.std.proofs.Common.{◌≡◌, refl}
use Rattle.std.proofs.lemmas.Result.{err_from_is_err_and}
use Rattle.engine.specs.Counting.{some_below}
use Rattle.engine.specs.LawsPlace.{meets_told}
use Rattle.engine.specs.Place.{meets_wrong}
use Rattle.engine.proofs.lent.placing.planned.Goals as goal

pub returns-in_err-refuse_if : goal.returns-in_err-refuse_if
returns-in_err-refuse_if c =
    let a = c.args in
    let met = meets_told a.numbers.partitions a.p a.transaction a.entry.meaning a.newest.now in
    let told
    : c.some_meets_wrong.result
    ≡ some_below 4 (meets_wrong a.numbers.partitions a.p a.transaction a.entry.meaning a.newest.now) =
    rw (c.some_meets_wrong.ensures, c.writes_of-writes.ensures) met in
    let refusal = c.from_residual-in_err-refuse_if in
    let found = err_from_is_err_and refusal.result refusal.ensures.1 in
    rw (found.1, found.2, c.in_ok-entry.was, ← told, ← c.in_err-refuse_if.ensures) refl

pub returns : goal.returns
returns c =
    let a = c.args in
    let met = meets_told a.numbers.partitions a.p a.transaction a.entry.meaning a.newest.now in
    let told
    : c.some_meets_wrong.result
    ≡ some_below 4 (meets_wrong a.numbers.partitions a.p a.transaction a.entry.meaning a.newest.now) =
    rw (c.some_meets_wrong.ensures, c.writes_of-writes.ensures) met in
    rw (c.in_ok-entry.was, ← told, ← c.in_ok-refuse_if.ensures, c.writes_of-writes.ensures, c.from.ensures) refl
