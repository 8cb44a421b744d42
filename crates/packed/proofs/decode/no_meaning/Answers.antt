use Rattle.std.proofs.Common.{refl}
use Rattle.packed.specs.Decode.{nothing}
use Rattle.packed.proofs.decode.no_meaning.Goals as goal

pub returns : goal.returns
unfolding nothing
returns c = refl
