use Rattle.std.proofs.Common.{◌+◌, ◌*◌, ◌∙◌, ltb, refl, rules, tests}
use Rattle.std.proofs.lemmas.Iterator.{YieldsList-from_range}
use Rattle.std.proofs.lemmas.Iterator.Search.{any_from_yields_List}
use Rattle.packed.specs.Fields.{byte_at}
use Rattle.packed.specs.LawsActions.{action_malformed, actions_joined}
use Rattle.packed.proofs.form.actions_malformed.Goals as goal

pub returns : goal.returns
returns c =
    let b = c.args.b.now in
    any_from_yields_List (λ k. action_malformed b (24 + 16 * k) (ltb k (byte_at b 2))) _ _ c.any.result c.any.ensures.ran
    (YieldsList-from_range 0 4 4 refl refl)
    (λ x b q k. search (rules, tests))
    ∙ actions_joined b
