use Rattle.std.proofs.Common.{◌≡◌}
use Rattle.engine.specs.LawsAdvance.{put_some}
use Rattle.engine.proofs.advance.give_results.Given as goal

-- so many of the numbers are there
abbrev pub invariant-loop-k : goal.invariant-loop-k
invariant-loop-k l = l.results ≡ put_some l.initial.results l.at l.number-items l.k
