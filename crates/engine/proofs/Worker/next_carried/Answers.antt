use Rattle.std.proofs.Common.{sym, ◌∙◌}
use Rattle.engine.specs.LawsActs.{marked_on, unmarked_on}
use Rattle.engine.proofs.Worker.next_carried.Goals as goal
use Rattle.engine.proofs.Worker.next_carried.Goals.{then-mark+else-below-carries, else-mark}

pub loop-j-preserved : goal.loop-j-preserved
loop-j-preserved c =
    let carried = c.args.self.carried in
    let counted = c.loop-j.invariant.0 in
    let found = c.loop-j.invariant.1 in
    elim c.if-mark.branch [
      | then-mark+else-below-carries w ↦
          let on =
          marked_on carried c.args.carries c.loop-j.j w.if-mark.true
          (λ same. w.if-below-carries.false (counted ∙ same)) in
          (rw (w.below-is, counted) on.0, sym on.1 ∙ found)
      | else-mark w ↦
          let on = unmarked_on carried c.args.carries c.loop-j.j w.if-mark.false in
          (rw (w.below-is, counted) on.0, sym on.1 ∙ found)
    ]
