use Rattle.std.proofs.Common.{sym, ap, Err, ◌∙◌}
use Rattle.packed.specs.LawsForm.{few_actions}
use Rattle.packed.specs.LawsEntry.{
  none_undeclared,
  malformed_lem,
  no_such_record_lem,
  not_ascending_lem,
  accepted,
  too_large,
  undeclared_lem,
}
use Rattle.packed.specs.LawsVerdict.{passes, exits}
use Rattle.packed.specs.Records.{undeclared_read, undeclared_write}
use Rattle.packed.proofs.unpacking.checked.Goals as goal

pub returns-in_err-refuse_if : goal.returns-in_err-refuse_if
returns-in_err-refuse_if c =
    let out = exits _ _ c.from_residual.ensures.1 c.refuse_if.ensures c.in_err-refuse_if.was in
    let told = sym c.is_malformed.ensures ∙ out.0 in
    out.1 ∙ malformed_lem c.args.n c.args.index c.args.b.now told

pub has_no_such_record-requires : goal.has_no_such_record-requires
has_no_such_record-requires c =
    let b = c.args.b.now in
    let told = sym c.is_malformed.ensures ∙ passes _ _ c.refuse_if.ensures c.in_ok-refuse_if.was in
    few_actions b told

pub returns-in_err-refuse_if-2 : goal.returns-in_err-refuse_if-2
returns-in_err-refuse_if-2 c =
    let b = c.args.b.now in
    let told = sym c.is_malformed.ensures ∙ passes _ _ c.refuse_if.ensures c.in_ok-refuse_if.was in
    let stopped = c.refuse_if-then-not-sets_proper.ensures in
    let out = exits _ _ c.from_residual-in_err-refuse_if-2.ensures.1 stopped c.in_err-refuse_if-2.was in
    let large = sym c.has_no_such_record.ensures ∙ out.0 in
    out.1 ∙ no_such_record_lem c.args.n c.args.index b told large

pub returns-then-not-sets_proper : goal.returns-then-not-sets_proper
returns-then-not-sets_proper c =
    let b = c.args.b.now in
    let told = sym c.is_malformed.ensures ∙ passes _ _ c.refuse_if.ensures c.in_ok-refuse_if.was in
    let improper = sym c.sets_proper.ensures ∙ c.if-not-sets_proper.true in
    let passed = passes _ _ c.refuse_if-then-not-sets_proper.ensures c.in_ok-refuse_if-2.was in
    let exist = sym c.has_no_such_record.ensures ∙ passed in
    ap Err c.at.ensures ∙ not_ascending_lem c.args.n c.args.index b told improper exist

pub undeclared-requires : goal.undeclared-requires
undeclared-requires c =
    let b = c.args.b.now in
    let told = sym c.is_malformed.ensures ∙ passes _ _ c.refuse_if.ensures c.in_ok-refuse_if.was in
    few_actions b told

pub action_too_large-requires : goal.action_too_large-requires
action_too_large-requires c =
    let b = c.args.b.now in
    let told = sym c.is_malformed.ensures ∙ passes _ _ c.refuse_if.ensures c.in_ok-refuse_if.was in
    few_actions b told

pub returns-in_err-refuse_if-3 : goal.returns-in_err-refuse_if-3
returns-in_err-refuse_if-3 c =
    let b = c.args.b.now in
    let told = sym c.is_malformed.ensures ∙ passes _ _ c.refuse_if.ensures c.in_ok-refuse_if.was in
    let proper = sym c.sets_proper.ensures ∙ c.if-not-sets_proper.false in
    let stopped = c.refuse_if-in-Some.ensures in
    let out = exits _ _ c.from_residual-in_err-refuse_if-3.ensures.1 stopped c.in_err-refuse_if-3.was in
    let large = sym c.action_too_large.ensures ∙ out.0 in
    out.1 ∙ too_large c.args.n c.args.index b told proper large

pub returns-in-Some : goal.returns-in-Some
returns-in-Some c =
    let b = c.args.b.now in
    let told = sym c.is_malformed.ensures ∙ passes _ _ c.refuse_if.ensures c.in_ok-refuse_if.was in
    let proper = sym c.sets_proper.ensures ∙ c.if-not-sets_proper.false in
    let small = sym c.action_too_large.ensures ∙ passes _ _ c.refuse_if-in-Some.ensures c.in_ok-refuse_if-3.was in
    ap Err c.at-in-Some.ensures
    ∙ undeclared_lem c.args.n c.args.index b told proper c.in-Some.refusal small c.in-Some.ensures

pub returns : goal.returns
returns c =
    let b = c.args.b.now in
    let told = sym c.is_malformed.ensures ∙ passes _ _ c.refuse_if.ensures c.in_ok-refuse_if.was in
    let proper = sym c.sets_proper.ensures ∙ c.if-not-sets_proper.false in
    let none = none_undeclared (undeclared_read b) (undeclared_write b) c.in_default.ensures in
    accepted c.args.n c.args.index b told proper none.0 none.1
