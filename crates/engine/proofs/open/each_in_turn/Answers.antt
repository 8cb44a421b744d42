use Rattle.std.proofs.Common.{sym, ap, ◌∙◌}
use Rattle.engine.specs.LawsOpen.{turn_passed}
use Rattle.engine.proofs.open.each_in_turn.Goals as goal

pub loop-index-preserved : goal.loop-index-preserved
loop-index-preserved c =
    let told = ap (λ u. u.verdict) c.unpack_at-entry.ensures in
    turn_passed _ _ _ _ _ c.loop-index-test.true c.loop-index.invariant (sym told ∙ c.in_ok-entry.was)
