use Rattle.std.proofs.Common.{◌∙◌, arith, refl}
use Rattle.desk.specs.LawsLines.{pushed_none, pushed_next}
use Rattle.desk.proofs.Line.push_text.Goals as goal

pub loop-byte-init : goal.loop-byte-init
loop-byte-init c = pushed_none c.args.self.now

pub loop-byte-preserved : goal.loop-byte-preserved
loop-byte-preserved c =
    c.push.ensures
    ∙ pushed_next c.loop-byte.self c.args.self.now c.args.text.now c.loop-byte.byte-index _ (omega arith) refl
    c.loop-byte.invariant
