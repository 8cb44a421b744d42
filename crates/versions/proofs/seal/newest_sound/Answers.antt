use Rattle.std.proofs.Common.{◌∙◌, rules}
use Rattle.std.proofs.lemmas.Iterator.{YieldsList-from_slice}
use Rattle.std.proofs.lemmas.Iterator.Search.{all_from_yields_List}
use Rattle.versions.specs.Seal.{slot_sound}
use Rattle.versions.specs.Table.{entry_of}
use Rattle.versions.proofs.Laws.Seal.{all_sound}
use Rattle.versions.proofs.Laws.Table.{lesser_is}
use Rattle.versions.proofs.seal.newest_sound.Goals as goal

pub returns : goal.returns
returns c =
    let versions = c.args.versions.now in
    let newest = c.args.newest.now in
    let limit = c.min-limit.result in
    all_from_yields_List (λ slot. slot_sound slot (entry_of versions slot) limit) _ _ c.all.result c.all.ensures.ran
    (YieldsList-from_slice newest cc)
    (λ x b q k. search rules)
    ∙ all_sound versions newest limit
    ∙ rw (c.min-limit.ensures, ← lesser_is)
