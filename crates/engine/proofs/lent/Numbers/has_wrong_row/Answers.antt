use Rattle.std.proofs.Common.{◌∙◌, rules}
use Rattle.std.proofs.lemmas.Iterator.{YieldsList-from_slice, YieldsList-from_take}
use Rattle.std.proofs.lemmas.Iterator.Consumers.{YieldsList-from_enumerate}
use Rattle.std.proofs.lemmas.Iterator.Search.{any_from_yields_List}
use Rattle.engine.specs.LawsHeld.{few_of}
use Rattle.engine.specs.LawsLent.{not_held_by, rows_told}
use Rattle.engine.proofs.lent.Numbers.has_wrong_row.Goals as goal

pub returns : goal.returns
returns c =
    let numbers = c.args.self in
    let rows = c.args.rows.now in
    let crew = c.args.crew.now in
    any_from_yields_List
    (λ entry. not_held_by crew entry.0 entry.1.progress)
    _
    _
    c.any.result
    c.any.ensures.ran
    (YieldsList-from_take (few_of numbers.size) (YieldsList-from_enumerate (YieldsList-from_slice rows cc) cc) cc)
    (λ x b q k. search rules)
    ∙ rows_told numbers rows crew
