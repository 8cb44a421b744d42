use Rattle.std.proofs.Common.{refl}
use Rattle.packed.specs.Decode.{decode}
use Rattle.packed.proofs.decode.decoded.Goals as goal

pub returns : goal.returns
unfolding decode
returns c =
    rw (
      c.row_at-4.ensures,
      c.row_at-3.ensures,
      c.row_at-2.ensures,
      c.row_at.ensures,
      c.set_at-writes.ensures,
      c.set_at-reads.ensures,
    ) refl
