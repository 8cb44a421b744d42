use Rattle.std.proofs.Common.{◌≡◌, sym, ap, ◌∙◌, None, Some, Err}
use Rattle.std.proofs.lemmas.Result.{err_from_is_err_and}
use Rattle.std.specs.Result.{result_ok}
use Rattle.packed.specs.Checks.{verdict_of}
use Rattle.packed.specs.LawsVerdict.{passes, exits}
use Rattle.packed.proofs.unpacking.meaning.Goals as goal

pub returns-in_err-refuse_if : goal.returns-in_err-refuse_if
unfolding verdict_of
returns-in_err-refuse_if c =
    let out = exits _ _ c.from_residual.ensures.1 c.refuse_if.ensures c.in_err-refuse_if.was in
    out.1 ∙ rw (sym c.is_wrong_record_count.ensures ∙ out.0)

pub returns-in_err-b : goal.returns-in_err-b
unfolding verdict_of
returns-in_err-b c =
    let right = sym c.is_wrong_record_count.ensures ∙ passes _ _ c.refuse_if.ensures c.in_ok-refuse_if.was in
    let none : c.args.found ≡ None = c.ok_or.ensures.ok_part ∙ ap result_ok c.in_err-b.was in
    let told = rw none at c.ok_or.ensures.value in
    let same : c.in_err-b.field-0.0 ≡ c.at.result = cc (sym c.in_err-b.was ∙ told) in
    let out = err_from_is_err_and c.from_residual-in_err-b.result c.from_residual-in_err-b.ensures.1 in
    rw (none, right) (out.1 ∙ ap Err (out.2 ∙ same ∙ c.at.ensures))

pub returns : goal.returns
unfolding verdict_of
returns c =
    let right = sym c.is_wrong_record_count.ensures ∙ passes _ _ c.refuse_if.ensures c.in_ok-refuse_if.was in
    let some : c.args.found ≡ Some c.in_ok-b.b = c.ok_or.ensures.ok_part ∙ ap result_ok c.in_ok-b.was in
    rw (some, right) c.entry.ensures
