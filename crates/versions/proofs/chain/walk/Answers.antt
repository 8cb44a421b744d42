use Rattle.std.proofs.Common.{◌≡◌, eqb, false, rules, arith, ◌<◌, length, ◌∙◌}
use Rattle.std.proofs.lemmas.List.{get_or_default}
use Rattle.terms.specs.Reserved.{no_slot}
use Rattle.versions.specs.Entry.{empty_entry}
use Rattle.versions.proofs.Laws.Chain.{pass_on}
use Rattle.versions.proofs.chain.walk.Goals as goal

pub loop-slot-preserved : goal.loop-slot-preserved
loop-slot-preserved c =
    let versions = c.args.versions.now in
    let slot = c.loop-slot.number in
    let within : slot < length versions = omega arith in
    let some : eqb slot no_slot ≡ false = search rules in
    let here = get_or_default versions slot _ empty_entry within in
    record {
      fits = omega arith;
      within = omega arith;
      whole =
          pass_on versions c.args.at c.loop-slot.limit slot _ here some c.if-limit-slot.false c.if-version-at.false
          ∙ c.loop-slot.invariant.whole;
    }
