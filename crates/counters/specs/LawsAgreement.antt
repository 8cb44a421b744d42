-- Deciding on the values read and then storing what is not carried is a step of the one-by-one run; so over a whole log
-- the two runs give the same. `accepted_log` says it of entries that the checks accept.
use Rattle.std.specs.Prelude.{◌≡◌, ℕ, zero, suc, ◌<◌, ◌≤◌, false, List, [], ◌∷◌, map, length, slice_index, refl, Ok}
use Rattle.std.proofs.Common.{sym, ◌∙◌, arith, ext_get_or, get_or-take}
use Rattle.std.proofs.Math.Path.{ap}
use Rattle.std.proofs.Math.Seq.{length-take-le}
use Rattle.packed.specs.Checks.{entry_verdict}
use Rattle.packed.specs.Decode.{decode}
use Rattle.packed.specs.declared.Transaction.{Transaction}
use Rattle.counters.specs.Actions.{After, goes_on, aborts}
use Rattle.counters.specs.Deciding.{worked_of, decision_of, decide_of}
use Rattle.counters.specs.Declarations.{Declared, AllDeclared}
use Rattle.counters.specs.LawsDeclarations.{accepted_declared}
use Rattle.counters.specs.LawsFollowing.{Follows, ReadFrom, worked_alike}
use Rattle.counters.specs.LawsPlaces.{none_at}
use Rattle.counters.specs.LawsRelated.{RelatedAfter}
use Rattle.counters.specs.LawsStoring.{length_stored, stored_at}
use Rattle.counters.specs.OneByOne.{
  reads_of,
  values_on,
  changed_copy,
  outcome_of,
  kept_of,
  outcome_on,
  records_after,
  with_first,
  one_by_one,
}
use Rattle.counters.specs.Storing.{stored, in_four, decision_on, decided_run}
use Rattle.counters.specs.Working.{write_place}
use Rattle.counters.specs.declared.Decision.{Decision}
use Rattle.counters.specs.declared.working.WorkingCopy.{WorkingCopy}

-- a decision does to the records what the one-by-one run does with the transaction
pub record OneStep (t : Transaction) (records : List ℕ) (decision : Decision) : Type 0 where
  pub same_outcome : decision.outcome ≡ outcome_on t records
  pub same_records : stored t decision records ≡ records_after t records

module _ (t : Transaction) (records : List ℕ) (declared : Declared (length records) t) where
  outcome_agrees : (worked : After WorkingCopy) (copy : After (List ℕ)) → RelatedAfter (Follows t records) worked copy
      → (decision_of t.writecount worked).outcome ≡ outcome_of copy
  outcome_agrees (goes_on worked) (goes_on copy) alike = refl
  outcome_agrees (goes_on worked) aborts alike = absurd alike
  outcome_agrees aborts (goes_on copy) alike = absurd alike
  outcome_agrees aborts aborts alike = refl

  records_agree : (worked : After WorkingCopy) (copy : After (List ℕ)) → RelatedAfter (Follows t records) worked copy
      → stored t (decision_of t.writecount worked) records ≡ kept_of records copy
  records_agree (goes_on worked) (goes_on copy) alike =
      let decision = decision_of t.writecount (goes_on worked) in
      ext_get_or 0 (stored t decision records) copy (length_stored t records declared decision ∙ sym alike.as_long)
      (λ q below.
      stored_at t records declared decision worked.reached alike.four_reached refl q ∙ sym (alike.writes_made q))
  records_agree (goes_on worked) aborts alike = absurd alike
  records_agree aborts (goes_on copy) alike = absurd alike
  records_agree aborts aborts alike =
      let decision = decision_of t.writecount aborts in
      ext_get_or 0 (stored t decision records) records (length_stored t records declared decision)
      (λ q below.
      rw (none_at (write_place t q)) at (
      stored_at t records declared decision (false ∷ false ∷ false ∷ false ∷ []) refl refl q))

  -- whatever array the values read stand in
  pub decided_step : (values : List ℕ) → length values ≡ 4 → ReadFrom t records values
      → OneStep t records (decide_of t values)
  unfolding decide_of
  decided_step values four read =
      let alike = worked_alike t records values declared four read in
      record {
        same_outcome = outcome_agrees (worked_of t values) (changed_copy t records) alike;
        same_records = records_agree (worked_of t values) (changed_copy t records) alike;
      }

  -- the values read, then zeros, are such an array
  map_at : (numbers : List ℕ) (i : ℕ) → i < length numbers
      → slice_index (map (λ r. slice_index records r) numbers) i ≡ slice_index records (slice_index numbers i)
  map_at [] i below = absurd (omega arith)
  map_at (r ∷ numbers) zero below = refl
  map_at (r ∷ numbers) (suc i) below = map_at numbers i (omega arith)

  in_four_at : (values : List ℕ) (i : ℕ) → i < 4 → slice_index (in_four values) i ≡ slice_index values i
  in_four_at values zero below = refl
  in_four_at values (suc zero) below = refl
  in_four_at values (suc (suc zero)) below = refl
  in_four_at values (suc (suc (suc zero))) below = refl
  in_four_at values (suc (suc (suc (suc i)))) below = absurd (omega arith)

  values_read_lem : ReadFrom t records (in_four (values_on t records))
  unfolding values_on
  values_read_lem i within =
      let few : t.readcount ≤ length t.reads = omega (arith, declared.few_reads, declared.four_reads) in
      let long : length (reads_of t) ≡ t.readcount = length-take-le t.readcount t.reads few in
      in_four_at (values_on t records) i (omega (arith, declared.few_reads))
      ∙ map_at (reads_of t) i (omega arith)
      ∙ ap (λ r. slice_index records r) (get_or-take t.readcount t.reads i 0 within)

  pub step_agrees : OneStep t records (decision_on t records)
  step_agrees = decided_step (in_four (values_on t records)) refl values_read_lem

  -- and a store stays as large as it is
  pub length_after : length (records_after t records) ≡ length records
  length_after =
      ap length (sym step_agrees.same_records) ∙ length_stored t records declared (decision_on t records)

-- the whole log
pub log_agrees : (log : List Transaction) (records : List ℕ) → AllDeclared (length records) log
    → decided_run log records ≡ one_by_one log records
unfolding decided_run one_by_one
log_agrees [] records declared = refl
log_agrees (t ∷ log) records declared =
    let agrees : OneStep t records (decision_on t records) = step_agrees t records declared.0 in
    let still : AllDeclared (length (records_after t records)) log =
    rw (length_after t records declared.0) declared.1 in
    ap (λ outcome. with_first outcome (values_on t records)
    (decided_run log (stored t (decision_on t records) records)))
    agrees.same_outcome
    ∙ ap (λ after. with_first (outcome_on t records) (values_on t records) (decided_run log after)) agrees.same_records
    ∙ ap (with_first (outcome_on t records) (values_on t records)) (log_agrees log (records_after t records) still)

-- entries that the checks accept, each as the transaction of its index
abbrev pub AllAccepted : ℕ → ℕ → List (List ℕ) → Type 0
AllAccepted n index [] = Unit {0}
AllAccepted n index (b ∷ entries) = (entry_verdict n index b ≡ Ok tt) × AllAccepted n (suc index) entries

pub all_declared : (n index : ℕ) (entries : List (List ℕ)) → AllAccepted n index entries
    → AllDeclared n (map decode entries)
all_declared n index [] accepted = tt
all_declared n index (b ∷ entries) accepted =
    (accepted_declared n index b accepted.0, all_declared n (suc index) entries accepted.1)

pub accepted_log : (entries : List (List ℕ)) (records : List ℕ) → AllAccepted (length records) 0 entries
    → decided_run (map decode entries) records ≡ one_by_one (map decode entries) records
accepted_log entries records accepted =
    log_agrees (map decode entries) records (all_declared (length records) 0 entries accepted)
