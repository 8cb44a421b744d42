use Rattle.std.proofs.Common.{refl, sym, ◌∙◌, rules, tests}
use Rattle.std.proofs.lemmas.Iterator.{YieldsList-from_range}
use Rattle.std.proofs.lemmas.Iterator.Search.{find_from_yields_List}
use Rattle.std.proofs.lemmas.Iterator.Adapters.{option_map_id}
use Rattle.counters.specs.Working.{stands_at}
use Rattle.counters.proofs.Laws.Places.{found_place}
use Rattle.counters.proofs.working.place_in.Goals as goal

pub returns : goal.returns
returns c =
    sym (option_map_id c.find.result)
    ∙ find_from_yields_List (stands_at c.args.set.now c.args.count c.args.number) _ _ c.find.result c.find.ensures.ran
    (YieldsList-from_range 0 4 4 refl refl)
    (λ x b q k. search (rules, tests))
    ∙ found_place c.args.set.now c.args.count c.args.number
