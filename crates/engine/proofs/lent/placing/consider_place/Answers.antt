use Rattle.std.proofs.Common.{sym, ◌∙◌, arith, leb-false}
use Rattle.engine.specs.LawsPlan.{passed}
use Rattle.engine.specs.LawsRange.{in_range, placed_most}
use Rattle.engine.specs.Lent.{joined}
use Rattle.engine.proofs.lent.placing.consider_place.Goals as goal

pub planned-requires : goal.planned-requires
planned-requires c =
    let whole = joined c.args.numbers c.args.rows.now c.args.crew.now in
    let inside = passed _ _ _ c.in_ok-refuse_if-2.ensures in
    let ranged = in_range whole (sym c.is_out_of_range-out_of_range.ensures ∙ inside) in
    let there = leb-false _ _ (passed _ _ _ c.in_ok-refuse_if-4.ensures) in
    let most = placed_most whole ranged c.args.p (omega (arith, ranged.few_partitions, there)) in
    let mine = rw (← c.placed_by-transaction.ensures) at most in (
      ranged.some_partition,
      (omega (arith, ranged.positions_last, mine), omega (arith, ranged.few_transactions, mine)),
    )
