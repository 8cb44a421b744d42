use Rattle.std.proofs.Common.{◌∙◌, ◌&&◌, not, ltb, eqb, rules}
use Rattle.std.proofs.lemmas.Iterator.{YieldsList-from_slice}
use Rattle.std.proofs.lemmas.Iterator.Consumers.{YieldsList-from_enumerate}
use Rattle.std.proofs.lemmas.Iterator.Search.{any_from_yields_List}
use Rattle.engine.specs.LawsCounting.{any_entry}
use Rattle.engine.proofs.lent.Numbers.is_planning.Goals as goal

pub returns : goal.returns
returns c =
    let numbers = c.args.self in
    any_from_yields_List
    (λ entry. ltb entry.0 numbers.partitions && not (eqb entry.1 numbers.size))
    _
    _
    c.any.result
    c.any.ensures.ran
    (YieldsList-from_enumerate (YieldsList-from_slice numbers.placed cc) cc)
    (λ x b q k. search rules)
    ∙ any_entry (λ p placed. ltb p numbers.partitions && not (eqb placed numbers.size)) 0 8 numbers.placed
    (search rules)
