use Rattle.std.proofs.Common.{◌<◌, ◌≤◌, refl, arith, lt-ltb}
use Rattle.std.proofs.lemmas.Bool.{le-ltb}
use Rattle.engine.specs.Rows.{row}
use Rattle.engine.specs.declared.Progress.TheVariants.{Unprocessed}
use Rattle.desk.specs.Program.{transaction_at}
use Rattle.desk.proofs.output.transaction_at.Goals as goal

pub returns-in_default : goal.returns-in_default
unfolding transaction_at
returns-in_default c =
    let past : 64 ≤ c.args.index = omega (arith, c.in_default.ensures.lookup) in
    rw (c.blank.ensures, le-ltb _ _ past) refl

pub returns : goal.returns
unfolding transaction_at
returns c =
    let within : c.args.index < 64 = omega (arith, c.in-Some.ensures.lookup) in
    rw (
      c.transaction_line.ensures,
      c.four_at-values.ensures,
      c.reads_of-count.ensures,
      c.from.ensures,
      c.outcome_of.ensures,
      c.in-Some.ensures.lookup.3.1 (row Unprocessed),
      lt-ltb _ _ within,
    ) refl
