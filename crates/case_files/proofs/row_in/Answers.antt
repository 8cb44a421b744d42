use Rattle.std.proofs.Common.{refl}
use Rattle.case_files.proofs.row_in.Goals as goal

pub returns : goal.returns
returns c = rw (c.from.ensures, c.long_at-c.ensures, c.word_at-s.ensures, c.word_at-r.ensures) refl
