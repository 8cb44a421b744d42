use Rattle.std.proofs.Common.{◌≡◌, drop}
use Rattle.counters.specs.Actions.{goes_on, act_all, actions_of}
use Rattle.counters.specs.LawsActions.{actions_in}
use Rattle.counters.specs.Working.{memory_of}
use Rattle.counters.proofs.working.WorkingCopy.all_actions.Given as goal

-- what is left of the actions comes to what all come to
abbrev pub invariant-loop-row : goal.invariant-loop-row
invariant-loop-row l =
    act_all (memory_of l.meaning) (actions_in (drop l.row-index l.row-items)) (goes_on l.self)
    ≡ act_all (memory_of l.meaning) (actions_of l.meaning) (goes_on l.fn.self)
