use Rattle.std.proofs.Common.{sym, ◌∙◌, arith}
use Rattle.engine.specs.LawsPlan.{passed}
use Rattle.engine.specs.LawsRange.{in_range}
use Rattle.engine.specs.Lent.{joined}
use Rattle.engine.proofs.lent.sealing.consider_seal.Goals as goal

pub overflow_add-result : goal.overflow_add-result
overflow_add-result c =
    let whole = joined c.args.numbers c.args.rows.now c.args.crew.now in
    let inside = passed _ _ _ c.in_ok-refuse_if-2.ensures in
    let ranged = in_range whole (sym c.is_out_of_range-out_of_range.ensures ∙ inside) in
    omega (arith, ranged.positions_last)

pub overflow_add-result-2 : goal.overflow_add-result-2
overflow_add-result-2 c =
    let whole = joined c.args.numbers c.args.rows.now c.args.crew.now in
    let inside = passed _ _ _ c.in_ok-refuse_if-2.ensures in
    let ranged = in_range whole (sym c.is_out_of_range-out_of_range.ensures ∙ inside) in
    omega (arith, ranged.positions_last, ranged.batch_below)
