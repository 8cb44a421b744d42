use Rattle.std.proofs.Common.{sym, ◌∙◌, take}
use Rattle.counters.specs.LawsActions.{within_same, stops, err_aborts}
use Rattle.counters.proofs.working.WorkingCopy.all_actions.Goals as goal

pub loop-row-init : goal.loop-row-init
loop-row-init c = rw (c.min-within.ensures, c.from.ensures) (within_same c.args.meaning.now c.args.self.now)

pub returns-in_err-one_action : goal.returns-in_err-one_action
returns-in_err-one_action c =
    let meaning = c.args.meaning.now in
    let rows = take c.min-within.result meaning.actions in
    err_aborts c.from_residual.result c.one_action.new.self c.from_residual.ensures.0
    ∙ stops meaning rows c.loop-row.row-index _ c.loop-row.self c.loop-row-test.true (sym c.in_err-one_action.ensures)
    ∙ c.loop-row.invariant
