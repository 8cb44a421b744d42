use Rattle.std.proofs.Common.{refl}
use Rattle.case_files.specs.Meaning.{meaning_in}
use Rattle.case_files.proofs.meaning.Goals as goal

pub returns : goal.returns
unfolding meaning_in
returns c =
    rw (
      c.row_in-4.ensures,
      c.row_in-3.ensures,
      c.row_in-2.ensures,
      c.row_in.ensures,
      c.set_in-writes.ensures,
      c.set_in-reads.ensures,
    ) refl
