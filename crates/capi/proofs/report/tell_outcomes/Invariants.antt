use Rattle.std.proofs.Common.{◌≡◌}
use Rattle.capi.specs.Report.{outcomes_to}
use Rattle.capi.proofs.report.tell_outcomes.Given as goal

-- so many are told
abbrev pub invariant-loop-index : goal.invariant-loop-index
invariant-loop-index l = l.outcomes ≡ outcomes_to l.fn.state l.fn.outcomes l.index
