use Rattle.std.proofs.Common.{sym, refl, arith}
use Rattle.packed.specs.Decode.{action_of}
use Rattle.packed.specs.LawsKinds.{Other, other_kind}
use Rattle.packed.proofs.decode.ActionFromFields.from.Goals as goal

pub returns-in-1 : goal.returns-in-1
unfolding action_of
returns-in-1 c = rw c.in-1.is refl

pub returns-in-2 : goal.returns-in-2
unfolding action_of
returns-in-2 c = rw c.in-2.is refl

pub returns-in-3 : goal.returns-in-3
unfolding action_of
returns-in-3 c = rw c.in-3.is refl

pub returns-in-4 : goal.returns-in-4
unfolding action_of
returns-in-4 c = rw c.in-4.is refl

pub returns-in-5 : goal.returns-in-5
unfolding action_of
returns-in-5 c = rw c.in-5.is refl

pub returns-in-6 : goal.returns-in-6
unfolding action_of
returns-in-6 c = rw c.in-6.is refl

pub returns-in_default : goal.returns-in_default
unfolding action_of
returns-in_default c =
    let other : Other c.args.x.kind = (
      (((((tt, λ e. omega arith), λ e. omega arith), λ e. omega arith), λ e. omega arith), λ e. omega arith),
      λ e.
          omega arith,
    ) in
    sym (other_kind _ _ _ _ _ _ _ c.args.x.kind other)
