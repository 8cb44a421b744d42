use Rattle.std.proofs.Common.{◌∙◌, refl}
use Rattle.desk.specs.LawsLines.{pushed_none, spaced_next, spaced_one, spaced_end}
use Rattle.desk.proofs.Line.push_spaced.Goals as goal

pub loop-number-init : goal.loop-number-init
loop-number-init c = pushed_none c.args.self.now

pub loop-number-preserved : goal.loop-number-preserved
loop-number-preserved c =
    spaced_next c.loop-number.self _ c.args.self.now c.args.numbers.now c.loop-number.number-index _
    c.loop-number-test.true refl c.loop-number.invariant
    (rw c.push.ensures at c.push_number.ensures ∙ spaced_one c.loop-number.self _)

pub returns : goal.returns
returns c =
    spaced_end c.loop-number.self c.args.self.now c.args.numbers.now c.loop-number.number-index
    c.loop-number-test.false c.loop-number.invariant
