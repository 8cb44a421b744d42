use Rattle.std.proofs.Common.{◌+◌, ◌*◌, ℕ, lt-ltb, le-ltb}
use Rattle.packed.specs.LawsActions.{within_malformed_lem, past_malformed}
use Rattle.packed.proofs.form.action_malformed.Goals as goal

pub returns-then-k-from : goal.returns-then-k-from
returns-then-k-from c =
    let at : ℕ = 24 + 16 * c.args.k in
    rw (
      c.within_malformed.ensures,
      c.long_at-c.ensures,
      c.long_at-head.ensures,
      ← c.from.ensures,
      lt-ltb _ _ c.if-k-from.true,
    )
    (within_malformed_lem c.args.b.now at c.fits-b)

pub returns-else-k-from : goal.returns-else-k-from
returns-else-k-from c =
    let at : ℕ = 24 + 16 * c.args.k in
    rw (c.long_at-c.ensures, c.long_at-head.ensures, ← c.from.ensures, le-ltb _ _ c.if-k-from.false)
    (past_malformed c.args.b.now at)
