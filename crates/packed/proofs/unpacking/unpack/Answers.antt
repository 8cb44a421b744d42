use Rattle.std.proofs.Common.{ap, ◌∙◌}
use Rattle.packed.specs.LawsVerdict.{whole}
use Rattle.packed.specs.Unpacking.{answered}
use Rattle.packed.proofs.unpacking.unpack.Goals as goal

pub returns : goal.returns
returns c =
    c.from.ensures
    ∙ ap answered c.meaning.ensures
    ∙ whole c.args.n c.args.bytes.now c.as_array.result c.as_array.ensures.cases
