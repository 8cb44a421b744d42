use Rattle.std.proofs.Common.{◌≡◌, true}
use Rattle.versions.specs.Seal.{collect_below}
use Rattle.versions.proofs.seal.collect.Given as goal

abbrev pub invariant-loop-number : goal.invariant-loop-number
invariant-loop-number l = l.records ≡ collect_below l.versions l.newest l.fn.records true l.number
