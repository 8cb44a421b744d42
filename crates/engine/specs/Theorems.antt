-- Theorems of the calls, for every input: a refused call keeps the state and every lent table; and where a call unpacks
-- an entry of the log after its other checks, only 4 to 8 can come of that.
use Rattle.std.specs.Prelude.{ℕ, ◌+◌, ◌*◌, ◌≤◌, Bool, true, false, not}
use Rattle.std.specs.Prelude.{List, ◌≡◌, refl, ltb, leb, eqb, length, Ok, Err}
use Rattle.std.proofs.Common.{sym, arith, eqb-true, leb-false}
use Rattle.std.proofs.lemmas.Bool.{eqb-false, not-false}
use Rattle.terms.specs.Refusals.{number_of, refuse_if, verdict_number, Verdict}
use Rattle.terms.specs.Reserved.{no_end}
use Rattle.terms.specs.declared.refusal.Refusal.{Refusal}
use Rattle.terms.specs.declared.refusal.Refusal.TheVariants.{
  WrongParameter,
  WrongLength,
  PositionsRunOut,
  WrongMoment,
  NoSuchParty,
  PartitionDone,
  WorkerBusyOrIdle,
  NotUnprocessed,
  StateOutOfRange,
}
use Rattle.packed.specs.Unpacking.{unpack_at_of}
use Rattle.packed.specs.declared.Unpacked.{Unpacked}
use Rattle.versions.specs.Seal.{newest_sound_of}
use Rattle.versions.specs.declared.Version.{Version}
use Rattle.engine.specs.Acts.{unfit}
use Rattle.engine.specs.Advance.{wrong_for_advance, work_fits, advance_verdict, move_of, advanced_when}
use Rattle.engine.specs.Advance.{advance_of}
use Rattle.engine.specs.Answers.{accept, is_accepted, is_refused, refuse_if as refuse_step_if}
use Rattle.engine.specs.Claim.{no_such_claim, after_claim, claim_of}
use Rattle.engine.specs.Counting.{some_below}
use Rattle.engine.specs.LawsEntries.{OfEntry, AtLeastFour, turns_numbers, unpack_numbers, later_numbers}
use Rattle.engine.specs.LawsEntries.{records_right}
use Rattle.engine.specs.LawsRange.{in_range, placed_most, holds_below}
use Rattle.engine.specs.LawsRefused.{never, refused_keeps}
use Rattle.engine.specs.Make.{wrong_parameter, made_if, make_of}
use Rattle.engine.specs.Moment.{no_batch, not_running, not_planning}
use Rattle.engine.specs.Open.{wrong_for_opening, wrong_batch_length, entries_in, each_in_turn, open_verdict, opened_by}
use Rattle.engine.specs.Open.{open_of}
use Rattle.engine.specs.Place.{Plans, meaning_at, wrong_for_place, meets_wrong, fits, place_verdict, placed_when}
use Rattle.engine.specs.Place.{place_of}
use Rattle.engine.specs.Range.{placed_by, row_at, worker_at, out_of_range}
use Rattle.engine.specs.Rows.{is_unprocessed}
use Rattle.engine.specs.Seal.{seal_verdict, sealed_by, seal_of}
use Rattle.engine.specs.States.{unopened}
use Rattle.engine.specs.Tables.{not_of}
use Rattle.engine.specs.Workers.{is_idle}
use Rattle.engine.specs.declared.State.{State}
use Rattle.engine.specs.declared.Stepped.{Stepped}

-- ---- "State and all tables keep their contents."

-- "A refused making .. hands back the all-zero store"
pub refused_make : (n p w start : ℕ) → is_accepted (make_of n p w start).verdict ≡ false
    → (make_of n p w start).state ≡ unopened 0 0 0 0
unfolding make_of
refused_make n p w start = go (wrong_parameter n p w start)
  where
    go : (wrong : Bool) → is_accepted (made_if wrong n p w start).verdict ≡ false
        → (made_if wrong n p w start).state ≡ unopened 0 0 0 0
    go true refused = refl
    go false refused = never (sym refused)

pub refused_open : (s : State) (log newest : List ℕ) (versions : List Version) (results : List ℕ)
    → is_refused (open_of s log newest versions results).stepped.answer ≡ true
    → ((open_of s log newest versions results).stepped.state ≡ s)
    × ((open_of s log newest versions results).newest ≡ newest)
    × ((open_of s log newest versions results).versions ≡ versions)
    × ((open_of s log newest versions results).results ≡ results)
unfolding open_of
refused_open s log newest versions results = go (open_verdict s log (length newest) (length versions) (length results))
  where
    go : (v : Verdict) → is_refused (opened_by v s log newest versions results).stepped.answer ≡ true
        → ((opened_by v s log newest versions results).stepped.state ≡ s)
        × ((opened_by v s log newest versions results).newest ≡ newest)
        × ((opened_by v s log newest versions results).versions ≡ versions)
        × ((opened_by v s log newest versions results).results ≡ results)
    go (Ok tt) refused = never refused
    go (Err why) refused = (refl, refl, refl, refl)

pub refused_place : (s : State) (p : ℕ) (log newest : List ℕ) (versions : List Version)
    → is_refused (place_of s p log newest versions).stepped.answer ≡ true
    → ((place_of s p log newest versions).stepped.state ≡ s)
    × ((place_of s p log newest versions).plans.newest ≡ newest)
    × ((place_of s p log newest versions).plans.versions ≡ versions)
unfolding place_of
refused_place s p log newest versions =
    go (place_verdict s p log newest (length versions)) (record { newest = newest; versions = versions })
  where
    go : (v : Verdict) (plans : Plans) → is_refused (placed_when v s p log plans).stepped.answer ≡ true
        → ((placed_when v s p log plans).stepped.state ≡ s)
        × ((placed_when v s p log plans).plans.newest ≡ plans.newest)
        × ((placed_when v s p log plans).plans.versions ≡ plans.versions)
    go (Ok tt) plans refused = never refused
    go (Err why) plans refused = (refl, refl, refl)

pub refused_claim : (s : State) (w i : ℕ) → is_refused (claim_of s w i).answer ≡ true → (claim_of s w i).state ≡ s
unfolding claim_of
refused_claim s w i =
    go (out_of_range s) (not_running s) (no_such_claim s w i) (not (is_idle (worker_at s w)))
    (not (is_unprocessed (row_at s i)))
  where
    chain : Bool → Bool → Bool → Bool → Bool → Stepped
    chain range moment party busy taken =
        refuse_step_if s range StateOutOfRange
        (refuse_step_if s moment WrongMoment
        (refuse_step_if s party NoSuchParty
        (refuse_step_if s busy WorkerBusyOrIdle (refuse_step_if s taken NotUnprocessed (accept (after_claim s w i))))))

    go : (range moment party busy taken : Bool) → is_refused (chain range moment party busy taken).answer ≡ true
        → (chain range moment party busy taken).state ≡ s
    go true moment party busy taken refused = refl
    go false true party busy taken refused = refl
    go false false true busy taken refused = refl
    go false false false true taken refused = refl
    go false false false false true refused = refl
    go false false false false false refused = never refused

pub refused_advance : (s : State) (w : ℕ) (log records newest : List ℕ) (versions : List Version) (results : List ℕ)
    → is_refused (advance_of s w log records newest versions results).stepped.answer ≡ true
    → ((advance_of s w log records newest versions results).stepped.state ≡ s)
    × ((advance_of s w log records newest versions results).versions ≡ versions)
    × ((advance_of s w log records newest versions results).results ≡ results)
unfolding advance_of
refused_advance s w log records newest versions results =
    go (advance_verdict s w log (length records) (length newest) (length versions) (length results))
  where
    go : (v : Verdict)
        → is_refused (advanced_when v s w log records newest versions results).stepped.answer ≡ true
        → ((advanced_when v s w log records newest versions results).stepped.state ≡ s)
        × ((advanced_when v s w log records newest versions results).versions ≡ versions)
        × ((advanced_when v s w log records newest versions results).results ≡ results)
    go (Ok tt) =
        let worker = worker_at s w in
        refused_keeps (move_of s worker log records newest versions) s w worker.transaction versions results
    go (Err why) = λ refused. (refl, refl, refl)

pub refused_seal : (s : State) (records newest : List ℕ) (versions : List Version)
    → is_refused (seal_of s records newest versions).stepped.answer ≡ true
    → ((seal_of s records newest versions).stepped.state ≡ s)
    × ((seal_of s records newest versions).records ≡ records)
    × ((seal_of s records newest versions).newest ≡ newest)
    × ((seal_of s records newest versions).versions ≡ versions)
unfolding seal_of
refused_seal s records newest versions =
    go (seal_verdict s (length records) (length newest) (length versions)
    (newest_sound_of versions newest (4 * s.size)))
  where
    go : (v : Verdict) → is_refused (sealed_by v s records newest versions).stepped.answer ≡ true
        → ((sealed_by v s records newest versions).stepped.state ≡ s)
        × ((sealed_by v s records newest versions).records ≡ records)
        × ((sealed_by v s records newest versions).newest ≡ newest)
        × ((sealed_by v s records newest versions).versions ≡ versions)
    go (Ok tt) refused = never refused
    go (Err why) refused = (refl, refl, refl, refl)

-- ---- "then each transaction in turn 4 to 8"; "the one transaction's 4 to 8"

-- Unpacking an entry can itself refuse by 1 and by 2. In a call it does not: a call that is refused by 1 was lent a
-- table of a wrong length, and one that is refused by 2 has a log of a wrong length.
pub open_one_two : (s : State) (log : List ℕ) (newest versions results : ℕ)
    → (verdict_number (open_verdict s log newest versions results) ≡ 1
    → wrong_for_opening s newest versions results ≡ true)
    × (verdict_number (open_verdict s log newest versions results) ≡ 2 → wrong_batch_length (length log) ≡ true)
unfolding open_verdict
open_one_two s log newest versions results =
    go (wrong_for_opening s newest versions results) (out_of_range s) (not (no_batch s))
    (wrong_batch_length (length log))
    (ltb no_end (s.next.0 + entries_in log)) (each_in_turn s.records log (entries_in log) 0)
    (λ inside. turns_numbers s.records log (entries_in log) 0 (records_right s inside) (omega arith))
  where
    chain : Bool → Bool → Bool → Bool → Bool → Verdict → Verdict
    chain tables range moment bytes positions entries =
        refuse_if tables WrongParameter 0
        (refuse_if range StateOutOfRange 0
        (refuse_if moment WrongMoment 0
        (refuse_if bytes WrongLength 0 (refuse_if positions PositionsRunOut 0 entries))))

    go : (tables range moment bytes positions : Bool) (entries : Verdict) → (range ≡ false → OfEntry entries)
        → (verdict_number (chain tables range moment bytes positions entries) ≡ 1 → tables ≡ true)
        × (verdict_number (chain tables range moment bytes positions entries) ≡ 2 → bytes ≡ true)
    go true range moment bytes positions entries numbers = (λ h. refl, λ h. absurd (omega arith))
    go false true moment bytes positions entries numbers = (λ h. absurd (omega arith), λ h. absurd (omega arith))
    go false false true bytes positions entries numbers = (λ h. absurd (omega arith), λ h. absurd (omega arith))
    go false false false true positions entries numbers = (λ h. absurd (omega arith), λ h. refl)
    go false false false false true entries numbers = (λ h. absurd (omega arith), λ h. absurd (omega arith))
    go false false false false false entries numbers = (
      λ h. absurd (omega (arith, (numbers refl (omega arith)).0)),
      λ h. absurd (omega (arith, (numbers refl (omega arith)).0)),
    )

-- the chain of a place and of an advance: each has a check of its own, 11 or 12, between 10 and 2
step_chain : Bool → Bool → Bool → Bool → Bool → Refusal → Bool → Verdict → Verdict
step_chain tables range moment party own refusal bytes entry =
    refuse_if tables WrongParameter 0
    (refuse_if range StateOutOfRange 0
    (refuse_if moment WrongMoment 0
    (refuse_if party NoSuchParty 0 (refuse_if own refusal 0 (refuse_if bytes WrongLength 0 entry)))))

step_numbers : (tables range moment party own : Bool) (refusal : Refusal) (bytes : Bool) (entry : Verdict)
    → 4 ≤ number_of refusal
    → (range ≡ false → party ≡ false → own ≡ false → bytes ≡ false → AtLeastFour entry)
    → (verdict_number (step_chain tables range moment party own refusal bytes entry) ≡ 1 → tables ≡ true)
    × (verdict_number (step_chain tables range moment party own refusal bytes entry) ≡ 2 → bytes ≡ true)
unfolding step_chain
step_numbers true range moment party own refusal bytes entry other numbers = (λ h. refl, λ h. absurd (omega arith))
step_numbers false true moment party own refusal bytes entry other numbers =
    (λ h. absurd (omega arith), λ h. absurd (omega arith))
step_numbers false false true party own refusal bytes entry other numbers =
    (λ h. absurd (omega arith), λ h. absurd (omega arith))
step_numbers false false false true own refusal bytes entry other numbers =
    (λ h. absurd (omega arith), λ h. absurd (omega arith))
step_numbers false false false false true refusal bytes entry other numbers =
    (λ h. absurd (omega arith), λ h. absurd (omega arith))
step_numbers false false false false false refusal true entry other numbers = (λ h. absurd (omega arith), λ h. refl)
step_numbers false false false false false refusal false entry other numbers = (
  λ h. absurd (omega (arith, numbers refl refl refl refl (omega arith))),
  λ h. absurd (omega (arith, numbers refl refl refl refl (omega arith))),
)

-- the length of the log is right
whole_log : (s : State) (log : List ℕ) → not_of (length log) (88 * s.size) ≡ false → length log ≡ 88 * s.size
whole_log s log right = eqb-true (length log) (88 * s.size) (not-false _ right)

pub place_one_two : (s : State) (p : ℕ) (log newest : List ℕ) (versions : ℕ)
    → (verdict_number (place_verdict s p log newest versions) ≡ 1 → wrong_for_place s (length newest) versions ≡ true)
    × (verdict_number (place_verdict s p log newest versions) ≡ 2 → not_of (length log) (88 * s.size) ≡ true)
unfolding place_verdict step_chain
place_one_two s p log newest versions =
    step_numbers (wrong_for_place s (length newest) versions) (out_of_range s) (not_planning s) (leb s.partitions p)
    (eqb (placed_by s p) s.size) PartitionDone (not_of (length log) (88 * s.size))
    (fits s.partitions p (placed_by s p) entry newest) (omega arith)
    (λ inside there still whole.
    let ranged = in_range s inside in
    let party = leb-false s.partitions p there in
    let most = placed_most s ranged p (omega (arith, ranged.few_partitions)) in
    let less = eqb-false (placed_by s p) s.size still in
    let bytes = whole_log s log whole in
    later_numbers entry.verdict (some_below 4 (meets_wrong s.partitions p (placed_by s p) entry.meaning newest))
    (unpack_numbers s.records log (placed_by s p) (records_right s inside) (omega (arith, most, less, bytes))))
  where
    entry : Unpacked
    entry = unpack_at_of s.records log (placed_by s p)

pub advance_one_two : (s : State) (w : ℕ) (log : List ℕ) (records newest versions results : ℕ)
    → (verdict_number (advance_verdict s w log records newest versions results) ≡ 1
    → wrong_for_advance s records newest versions results ≡ true)
    × (verdict_number (advance_verdict s w log records newest versions results) ≡ 2
    → not_of (length log) (88 * s.size) ≡ true)
unfolding advance_verdict step_chain
advance_one_two s w log records newest versions results =
    step_numbers (wrong_for_advance s records newest versions results) (out_of_range s) (not_running s)
    (leb s.workers w)
    (is_idle (worker_at s w)) WorkerBusyOrIdle (not_of (length log) (88 * s.size))
    (work_fits s (worker_at s w) log) (omega arith)
    (λ inside there busy whole.
    let ranged = in_range s inside in
    let party = leb-false s.workers w there in
    let below = holds_below s ranged w (omega (arith, ranged.few_workers)) busy in
    let bytes = whole_log s log whole in
    later_numbers (unpack_at_of s.records log i).verdict (unfit (worker_at s w) (meaning_at s log i))
    (unpack_numbers s.records log i (records_right s inside) (omega (arith, below, bytes))))
  where
    i : ℕ
    i = (worker_at s w).transaction
