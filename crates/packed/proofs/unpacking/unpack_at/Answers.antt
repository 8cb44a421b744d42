use Rattle.std.proofs.Common.{ap, ◌∙◌}
use Rattle.packed.specs.LawsVerdict.{in_log}
use Rattle.packed.specs.Unpacking.{answered}
use Rattle.packed.proofs.unpacking.unpack_at.Goals as goal

pub returns : goal.returns
returns c =
    let found = rw c.as_chunks.ensures.front at c.get.ensures.lookup in
    let count = rw c.as_chunks.ensures.front at c.as_chunks.ensures.front_len in
    c.from.ensures
    ∙ ap answered c.meaning.ensures
    ∙ in_log c.args.n c.args.index c.args.log.now c.get.result found count
