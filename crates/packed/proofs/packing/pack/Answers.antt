use Rattle.std.proofs.Common.{refl, sym, ◌∙◌}
use Rattle.std.proofs.lemmas.Result.{err_from_is_err_and}
use Rattle.packed.specs.Checks.{verdict_of}
use Rattle.packed.specs.LawsVerdict.{passes, exits}
use Rattle.packed.specs.Packing.{pack_of}
use Rattle.packed.proofs.packing.pack.Goals as goal

pub returns-in_err-refuse_if : goal.returns-in_err-refuse_if
unfolding pack_of verdict_of
returns-in_err-refuse_if c =
    let out = exits _ _ c.from_residual.ensures.1 c.refuse_if.ensures c.in_err-refuse_if.was in
    rw (out.1, sym c.is_wrong_record_count.ensures ∙ out.0) refl

pub returns-in_err-refuse_if-2 : goal.returns-in_err-refuse_if-2
unfolding pack_of verdict_of
returns-in_err-refuse_if-2 c =
    let right = sym c.is_wrong_record_count.ensures ∙ passes _ _ c.refuse_if.ensures c.in_ok-refuse_if.was in
    let out = exits _ _ c.from_residual-in_err-refuse_if-2.ensures.1 c.refuse_if-2.ensures c.in_err-refuse_if-2.was in
    rw (out.1, right, out.0) refl

pub returns-in_err-checked : goal.returns-in_err-checked
unfolding pack_of verdict_of
returns-in_err-checked c =
    let right = sym c.is_wrong_record_count.ensures ∙ passes _ _ c.refuse_if.ensures c.in_ok-refuse_if.was in
    let long = passes _ _ c.refuse_if-2.ensures c.in_ok-refuse_if-2.was in
    let verdict = sym c.checked.ensures ∙ c.in_err-checked.was in
    let out = err_from_is_err_and c.from_residual-in_err-checked.result c.from_residual-in_err-checked.ensures.1 in
    rw (out.1, out.2, right, long, ← c.encoded-b.ensures, verdict) refl

pub returns : goal.returns
unfolding pack_of verdict_of
returns c =
    let right = sym c.is_wrong_record_count.ensures ∙ passes _ _ c.refuse_if.ensures c.in_ok-refuse_if.was in
    let long = passes _ _ c.refuse_if-2.ensures c.in_ok-refuse_if-2.was in
    let verdict = sym c.checked.ensures ∙ c.in_ok-checked.was in
    rw (c.copy_from_slice.ensures.after, right, long, ← c.encoded-b.ensures, verdict) refl
