use Rattle.std.proofs.Common.{◌≡◌}
use Rattle.engine.specs.LawsPlace.{both, writes_below}
use Rattle.engine.proofs.place.place_writes.Given as goal

-- the writes so far are placed
abbrev pub invariant-loop-j : goal.invariant-loop-j
invariant-loop-j l = both l.newest l.versions ≡ writes_below l.j l.fn.plan (both l.fn.newest l.fn.versions)
