use Rattle.std.proofs.Common.{◌∙◌, None, rules}
use Rattle.std.proofs.lemmas.Iterator.{YieldsList-from_slice}
use Rattle.std.proofs.lemmas.Iterator.Consumers.{YieldsList-from_enumerate}
use Rattle.std.proofs.lemmas.Iterator.Search.{any_from_yields_List}
use Rattle.engine.specs.LawsCounting.{any_entry}
use Rattle.engine.specs.LawsPlace.{meets_at}
use Rattle.engine.proofs.place.some_meets_wrong.Goals as goal

pub returns : goal.returns
returns c =
    let a = c.args in
    any_from_yields_List
    (λ entry. meets_at a.transaction entry.1 entry.0 a.newest.now)
    _
    _
    c.any.result
    c.any.ensures.ran
    (YieldsList-from_enumerate (YieldsList-from_slice a.writes.now cc) cc)
    (λ x b q k. search rules)
    ∙ any_entry (λ j write. meets_at a.transaction write j a.newest.now) None 4 a.writes.now (search rules)
