use Rattle.std.proofs.Common.{◌-◌, ◌≡◌}
use Rattle.engine.specs.Open.{each_in_turn}
use Rattle.engine.proofs.open.each_in_turn.Given as goal

abbrev pub invariant-loop-index : goal.invariant-loop-index
invariant-loop-index l = each_in_turn l.n l.log (l.count - l.index) l.index ≡ each_in_turn l.n l.log l.count 0
