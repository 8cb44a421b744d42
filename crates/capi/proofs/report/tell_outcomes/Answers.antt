use Rattle.capi.specs.LawsReport.{all_told}
use Rattle.capi.proofs.report.tell_outcomes.Goals as goal

pub returns : goal.returns
returns c =
    all_told c.args.state c.args.outcomes.now _ _ c.loop-index.invariant c.loop-index.auto.index-end
    c.loop-index-test.false
