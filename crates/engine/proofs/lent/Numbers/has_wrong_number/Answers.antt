use Rattle.std.proofs.Common.{refl}
use Rattle.engine.specs.Range.{numbers_wrong}
use Rattle.engine.proofs.lent.Numbers.has_wrong_number.Goals as goal

pub returns : goal.returns
unfolding numbers_wrong
returns c = rw (c.runs_out.ensures, c.from.ensures) refl
