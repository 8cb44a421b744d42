use Rattle.std.proofs.Common.{◌≡◌, ◌<◌, ◌≤◌, ◌^◌, suc, length}
use Rattle.versions.specs.Chain.{walk_from, walk_of}
use Rattle.versions.proofs.chain.walk.Given as goal

-- what is left of the walk is the whole
abbrev pub invariant-loop-slot : goal.invariant-loop-slot
invariant-loop-slot l = record {
  fits : l.number < 2 ^ 16;
  within : l.limit ≤ length l.versions;
  whole : walk_from l.versions l.at (suc l.limit) l.limit l.number ≡ walk_of l.versions l.from l.bound l.at;
}

abbrev pub decreases-loop-slot : goal.decreases-loop-slot
decreases-loop-slot l = l.limit
