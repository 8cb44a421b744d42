use Rattle.std.proofs.Common.{◌≡◌, ◌+◌, ◌-◌, ◌∙◌, true, sym, ap, length, arith}
use Rattle.std.proofs.lemmas.List.{set-get_or}
use Rattle.versions.specs.LawsSeal.{collect_off}
use Rattle.versions.specs.Seal.{collect_below}
use Rattle.versions.proofs.Laws.Seal.{collect_enough}
use Rattle.versions.proofs.seal.collect.Goals as goal

pub returns-then-not-on : goal.returns-then-not-on
returns-then-not-on c =
    rw c.if-not-on.true (sym (collect_off c.args.versions.now c.args.newest.now c.args.records.now))

-- where the newest-version table ends, nothing is left to take
pub returns-then-newest-number : goal.returns-then-newest-number
returns-then-newest-number c =
    let records = c.args.records.now in
    let count = c.loop-number.number in
    let more = length records - count in
    let all : count + more ≡ length records = omega arith in
    rw c.if-not-on.false
    (set-get_or c.loop-number.records count 0
    ∙ c.loop-number.invariant
    ∙ sym (collect_enough c.args.versions.now c.args.newest.now records true more count c.if-newest-number.true)
    ∙ ap (collect_below c.args.versions.now c.args.newest.now records true) all)
