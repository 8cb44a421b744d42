-- `fill` stays within the space.
use Rattle.std.proofs.Common.{◌≡◌, ◌≤◌, length}
use Rattle.reads.proofs.fill.Given as goal

abbrev pub invariant-loop : goal.invariant-loop
invariant-loop g l = (length l.space ≡ length l.initial.space) × (l.done ≤ length l.space)
