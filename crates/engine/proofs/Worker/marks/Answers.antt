use Rattle.std.proofs.Common.{rules, tests, ◌∙◌, arith, length, ◌≡◌}
use Rattle.std.proofs.lemmas.Iterator.{YieldsList-from_slice}
use Rattle.std.proofs.lemmas.Iterator.Consumers.{YieldsList-from_filter, count_from_yields_List}
use Rattle.engine.specs.LawsActs.{marks_counted}
use Rattle.engine.proofs.Worker.marks.Goals as goal

pub returns : goal.returns
returns c =
    let four : length c.args.self.carried ≡ 4 = omega arith in
    count_from_yields_List c.filter.result _ c.count.ensures.ran
    (YieldsList-from_filter _ (λ mark. mark) (YieldsList-from_slice c.args.self.carried cc) c.filter.ensures.closure
    (λ x b q k. search (rules, tests)))
    ∙ marks_counted c.args.self.carried four
