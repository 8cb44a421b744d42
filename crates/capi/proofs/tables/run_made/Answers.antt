use Rattle.std.proofs.Common.{◌≡◌, rules, ap, sym, ◌∙◌, length, replicate}
use Rattle.terms.specs.Refusals.{number_of}
use Rattle.versions.specs.Entry.{empty_entry}
use Rattle.engine.specs.Open.{open_of, Opened}
use Rattle.capi.specs.LawsRunning.{slots, refused_met, offered_met}
use Rattle.capi.specs.Lent.{slots_of}
use Rattle.capi.specs.Report.{outcomes_of, counts_of}
use Rattle.capi.proofs.tables.run_made.Goals as goal

pub returns-in-Refused : goal.returns-in-Refused
returns-in-Refused c =
    let own = rw (c.min.ensures, c.empty-versions.ensures, slots (length c.args.records.now)) at
    c.open-opened.ensures in
    let opened : Opened =
    open_of c.args.state c.args.log.now (slots_of (length c.args.records.now)) (replicate 256 empty_entry)
    c.args.results.now in
    let met =
    refused_met opened c.args.log.now c.args.steps.now c.args.records.now c.args.outcomes.now c.args.counts.now
    c.in-Refused.refusal _ (sym (ap (λ x. x.answer) own.0) ∙ c.in-Refused.is) in
    let number : c.from.result ≡ number_of c.in-Refused.refusal = search rules in
    (number ∙ met.0, (met.1.0, (own.1.1.1 ∙ met.1.1.0, met.1.1.1)))

pub returns : goal.returns
returns c =
    let own = rw (c.min.ensures, c.empty-versions.ensures, slots (length c.args.records.now)) at
    c.open-opened.ensures in
    let opened : Opened =
    open_of c.args.state c.args.log.now (slots_of (length c.args.records.now)) (replicate 256 empty_entry)
    c.args.results.now in
    let after = rw (c.begin-tally.ensures, own.0, own.1.0, own.1.1.0, own.1.1.1) at c.offer_all-after.ensures in
    let met =
    offered_met opened c.args.log.now c.args.steps.now c.args.records.now c.args.outcomes.now c.args.counts.now
    (λ refusal place is. c.in_default.not-Refused refusal place (ap (λ x. x.answer) own.0 ∙ is)) in (
      met.0,
      (
        after.1.0 ∙ met.1.0,
        (
          after.1.1.1.1 ∙ met.1.1.0,
          (
            c.tell_outcomes.ensures
                ∙ (ap (λ t. outcomes_of t.state c.args.outcomes.now) after.0 ∙ met.1.1.1.0),
            c.tell_counts.ensures ∙ (ap (λ t. counts_of t c.args.counts.now) after.0 ∙ met.1.1.1.1),
          ),
        ),
      ),
    )
