-- Laws of the numbers that come of unpacking the entries of a log.
use Rattle.std.specs.Prelude.{ℕ, zero, suc, ◌+◌, ◌/◌, ◌≤◌, ◌<◌, Bool, true, false, List, ◌≡◌, length, Ok, Err}
use Rattle.std.proofs.Common.{arith, le-ltb}
use Rattle.std.proofs.lemmas.Bool.{lt-leb}
use Rattle.terms.specs.Refusals.{refuse_if, verdict_number, Verdict}
use Rattle.terms.specs.declared.refusal.Refusal.TheVariants.{
  Malformed,
  NoSuchRecord,
  NotAscending,
  UndeclaredRead,
  UndeclaredWrite,
  BrokenTables,
}
use Rattle.packed.specs.Checks.{entry_verdict, wrong_record_count, verdict_of}
use Rattle.packed.specs.Form.{malformed}
use Rattle.packed.specs.LawsVerdict.{unpacked_verdict}
use Rattle.packed.specs.Records.{no_such_record, not_ascending, undeclared_read, undeclared_write}
use Rattle.packed.specs.Unpacking.{entry_of, unpack_at_of}
use Rattle.engine.specs.Answers.{and_then}
use Rattle.engine.specs.LawsRange.{in_range}
use Rattle.engine.specs.Open.{each_in_turn}
use Rattle.engine.specs.Range.{out_of_range}
use Rattle.engine.specs.declared.State.{State}

-- a verdict that refuses does so by one of 4 to 8
abbrev pub OfEntry : Verdict → Type 0
OfEntry v = 1 ≤ verdict_number v → (4 ≤ verdict_number v) × (verdict_number v ≤ 8)

-- the checks 4 to 8
pub entry_numbers : (n transaction : ℕ) (b : List ℕ) → OfEntry (entry_verdict n transaction b)
unfolding entry_verdict
entry_numbers n transaction b =
    go (malformed b) (no_such_record n b) (not_ascending b) (undeclared_read b) (undeclared_write b)
  where
    go : (formed there ascends reads writes : Bool)
        → OfEntry (refuse_if formed Malformed transaction
        (refuse_if there NoSuchRecord transaction
        (refuse_if ascends NotAscending transaction
        (refuse_if reads UndeclaredRead transaction (refuse_if writes UndeclaredWrite transaction (Ok tt))))))
    go true there ascends reads writes h = (omega arith, omega arith)
    go false true ascends reads writes h = (omega arith, omega arith)
    go false false true reads writes h = (omega arith, omega arith)
    go false false false true writes h = (omega arith, omega arith)
    go false false false false true h = (omega arith, omega arith)
    go false false false false false h = absurd (omega arith)

-- where N is right and the log has the entry, unpacking it comes to those
pub unpack_is_entry : (n : ℕ) (log : List ℕ) (index : ℕ) → wrong_record_count n ≡ false → index < length log / 88
    → (unpack_at_of n log index).verdict ≡ entry_verdict n index (entry_of log index)
unfolding unpack_at_of verdict_of
unpack_is_entry n log index right within =
    rw (unpacked_verdict, right, lt-leb (length log / 88) index within)

pub unpack_numbers : (n : ℕ) (log : List ℕ) (index : ℕ) → wrong_record_count n ≡ false → index < length log / 88
    → OfEntry (unpack_at_of n log index).verdict
unpack_numbers n log index right within =
    rw (unpack_is_entry n log index right within) (entry_numbers n index (entry_of log index))

then_numbers : (v later : Verdict) → OfEntry v → OfEntry later → OfEntry (and_then v later)
then_numbers (Ok _) later first rest = rest
then_numbers (Err why) later first rest = first

-- each entry in turn
pub turns_numbers : (n : ℕ) (log : List ℕ) (count index : ℕ) → wrong_record_count n ≡ false
    → index + count ≤ length log / 88 → OfEntry (each_in_turn n log count index)
turns_numbers n log zero index right within = λ h. absurd (omega arith)
turns_numbers n log (suc count) index right within =
    then_numbers (unpack_at_of n log index).verdict (each_in_turn n log count (suc index))
    (unpack_numbers n log index right (omega arith))
    (turns_numbers n log count (suc index) right (omega arith))

-- one entry, and 15 after it
abbrev pub AtLeastFour : Verdict → Type 0
AtLeastFour v = 1 ≤ verdict_number v → 4 ≤ verdict_number v

pub later_numbers : (v : Verdict) (fault : Bool) → OfEntry v
    → AtLeastFour (and_then v (refuse_if fault BrokenTables 0 (Ok tt)))
later_numbers (Ok _) true entry h = omega arith
later_numbers (Ok _) false entry h = absurd (omega arith)
later_numbers (Err why) fault entry h = (entry h).0

-- N is right in a state that check 14 lets pass
pub records_right : (s : State) → out_of_range s ≡ false → wrong_record_count s.records ≡ false
records_right s inside =
    let ranged = in_range s inside in
    rw (le-ltb s.records 1 ranged.some_record, le-ltb 1024 s.records ranged.few_records)
