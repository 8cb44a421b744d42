use Rattle.packed.specs.LawsPast.{rest_nonzero_lem}
use Rattle.packed.proofs.form.rest_nonzero.Goals as goal

pub returns : goal.returns
returns c = rw c.long_at.ensures (rest_nonzero_lem c.args.b.now c.fits-b)
