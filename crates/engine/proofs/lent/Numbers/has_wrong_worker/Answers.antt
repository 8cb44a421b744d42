use Rattle.std.proofs.Common.{◌∙◌, rules}
use Rattle.std.proofs.lemmas.Iterator.{YieldsList-from_slice, YieldsList-from_take}
use Rattle.std.proofs.lemmas.Iterator.Consumers.{YieldsList-from_enumerate}
use Rattle.std.proofs.lemmas.Iterator.Search.{any_from_yields_List}
use Rattle.engine.specs.LawsHeld.{wrong_among}
use Rattle.engine.specs.LawsLent.{workers_told}
use Rattle.engine.proofs.lent.Numbers.has_wrong_worker.Goals as goal

pub returns : goal.returns
returns c =
    let numbers = c.args.self in
    let rows = c.args.rows.now in
    let crew = c.args.crew.now in
    any_from_yields_List
    (λ entry. wrong_among numbers.workers numbers.size rows entry.0 entry.1)
    _
    _
    c.any.result
    c.any.ensures.ran
    (YieldsList-from_take 8 (YieldsList-from_enumerate (YieldsList-from_slice crew cc) cc) c.take.ensures.count)
    (λ x b q k. search rules)
    ∙ workers_told numbers rows crew
