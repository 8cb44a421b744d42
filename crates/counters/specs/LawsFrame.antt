-- What a transaction of the one-by-one run leaves as it is.
use Rattle.std.specs.Prelude.{◌≡◌, ℕ, true, List, [], length, slice_index, refl}
use Rattle.std.proofs.Common.{sym, ap, ◌∙◌, arith}
use Rattle.packed.specs.Decode.{nothing}
use Rattle.packed.specs.Records.{unlisted}
use Rattle.packed.specs.declared.Transaction.{Transaction}
use Rattle.counters.specs.Actions.{After, goes_on, aborts}
use Rattle.counters.specs.Declarations.{Declared}
use Rattle.counters.specs.LawsAgreement.{step_agrees}
use Rattle.counters.specs.LawsPlaces.{place_listed, true_is_not_false}
use Rattle.counters.specs.LawsStoring.{stored_elsewhere}
use Rattle.counters.specs.OneByOne.{values_on, changed_copy, outcome_of, kept_of, outcome_on, records_after}
use Rattle.counters.specs.Storing.{decision_on}
use Rattle.counters.specs.declared.Outcome.TheVariants.{Committed, Aborted}

-- only declared writes change
pub undeclared_stays : (t : Transaction) (records : List ℕ) → Declared (length records) t
    → (r : ℕ) → unlisted t.writes t.writecount r ≡ true
    → slice_index (records_after t records) r ≡ slice_index records r
undeclared_stays t records declared r undeclared =
    ap (λ after. slice_index after r) (sym (step_agrees t records declared).same_records)
    ∙ stored_elsewhere t records declared (decision_on t records) r
    (λ place. true_is_not_false (sym undeclared ∙ place_listed t.writes t.writecount r place))

-- an aborted transaction changes nothing
dropped : (records : List ℕ) (copy : After (List ℕ)) → outcome_of copy ≡ Aborted → kept_of records copy ≡ records
dropped records (goes_on copy) aborted = absurd (let never : ◌≡◌ {A = ℕ} 0 1 = cc in omega arith)
dropped records aborts aborted = refl

pub aborted_stays : (t : Transaction) (records : List ℕ) → outcome_on t records ≡ Aborted
    → records_after t records ≡ records
aborted_stays t records aborted = dropped records (changed_copy t records) aborted

-- "88 zero bytes are a proper transaction that does nothing": it commits, reads nothing and changes nothing
pub nothing_stays : (records : List ℕ)
    → (outcome_on nothing records ≡ Committed)
    × (values_on nothing records ≡ [])
    × (records_after nothing records ≡ records)
unfolding nothing values_on changed_copy
nothing_stays records = (refl, refl, refl)
