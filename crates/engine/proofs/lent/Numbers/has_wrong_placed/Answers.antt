use Rattle.std.proofs.Common.{◌∙◌, ◌||◌, ◌&&◌, not, ltb, leb, eqb, rules}
use Rattle.std.proofs.lemmas.Iterator.{YieldsList-from_slice}
use Rattle.std.proofs.lemmas.Iterator.Consumers.{YieldsList-from_enumerate}
use Rattle.std.proofs.lemmas.Iterator.Search.{any_from_yields_List}
use Rattle.engine.specs.LawsCounting.{any_entry}
use Rattle.engine.proofs.lent.Numbers.has_wrong_placed.Goals as goal

pub returns : goal.returns
returns c =
    let numbers = c.args.self in
    any_from_yields_List
    (λ entry. ltb numbers.size entry.1 || (leb numbers.partitions entry.0 && not (eqb entry.1 0)))
    _
    _
    c.any.result
    c.any.ensures.ran
    (YieldsList-from_enumerate (YieldsList-from_slice numbers.placed cc) cc)
    (λ x b q k. search rules)
    ∙ any_entry (λ p placed. ltb numbers.size placed || (leb numbers.partitions p && not (eqb placed 0))) 0 8
    numbers.placed (search rules)
