use Rattle.std.proofs.Common.{◌+◌, ◌*◌, ◌∙◌, rules, tests, arith}
use Rattle.std.proofs.lemmas.Iterator.{YieldsList-from_range}
use Rattle.std.proofs.lemmas.Iterator.Search.{any_from_yields_List}
use Rattle.packed.specs.Fields.{byte_at, fields_at}
use Rattle.packed.specs.LawsMeaning.{too_large_kept}
use Rattle.packed.specs.LawsRecords.{all_actions}
use Rattle.packed.specs.Records.{uses_too_large}
use Rattle.packed.proofs.records.action_too_large.Goals as goal

pub returns : goal.returns
returns c =
    let b = c.args.b.now in
    let n = c.args.n in
    any_from_yields_List (λ k. uses_too_large n (fields_at b (24 + 16 * k))) _ _ c.any.result c.any.ensures.ran
    (YieldsList-from_range 0 (byte_at b 2) (byte_at b 2) (search rules) (omega arith))
    (λ x b q k. search (rules, tests, too_large_kept))
    ∙ all_actions (uses_too_large n) b (byte_at b 2)
