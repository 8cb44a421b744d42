use Rattle.std.proofs.Common.{◌≡◌}
use Rattle.engine.specs.Acts.{marks_below, next_carried}
use Rattle.engine.specs.LawsActs.{found_from}
use Rattle.engine.proofs.Worker.next_carried.Given as goal

-- the marks so far are counted, and no write so far is the next carried one
abbrev pub invariant-loop-j : goal.invariant-loop-j
invariant-loop-j l =
    (l.below ≡ marks_below l.fn.self.carried l.j)
    × (found_from l.fn.self.carried l.fn.carries l.j ≡ next_carried l.fn.self.carried l.fn.carries)
