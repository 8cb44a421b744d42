use Rattle.counters.specs.Deciding.{worked_of, decide_of}
use Rattle.counters.proofs.deciding.decide.Goals as goal

pub returns-in-Ok : goal.returns-in-Ok
unfolding decide_of worked_of
returns-in-Ok c = rw (c.unreached.ensures, ← c.of-copy.ensures, ← c.in-Ok.ensures)

pub returns-in-Err : goal.returns-in-Err
unfolding decide_of worked_of
returns-in-Err c = rw (c.unreached-in-Err.ensures, ← c.of-copy.ensures, ← c.in-Err.ensures)
