use Rattle.std.proofs.Common.{◌∙◌, [], not, arith, rules}
use Rattle.std.proofs.lemmas.Iterator.{YieldsList-from_range}
use Rattle.std.proofs.lemmas.Iterator.Search.{any_from_yields_List}
use Rattle.engine.specs.LawsCounting.{any_below}
use Rattle.engine.specs.LawsHeld.{few_of}
use Rattle.engine.specs.LawsLentSeal.{unfinished_told}
use Rattle.engine.specs.Lent.{row_of}
use Rattle.engine.specs.Rows.{is_complete}
use Rattle.engine.proofs.lent.sealing.has_unfinished.Goals as goal

pub returns : goal.returns
returns c =
    let numbers = c.args.numbers in
    let rows = c.args.rows.now in
    any_from_yields_List
    (λ i. not (is_complete (row_of rows i)))
    _
    _
    c.any.result
    c.any.ensures.ran
    (YieldsList-from_range 0 (few_of numbers.size) (few_of numbers.size) (cc) (omega arith))
    (λ x b q k. search rules)
    ∙ any_below (few_of numbers.size) (λ i. not (is_complete (row_of rows i)))
    ∙ unfinished_told numbers rows []
