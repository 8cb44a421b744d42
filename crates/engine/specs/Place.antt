-- "Place, partition p. Takes the partition's next transaction. For each write in that partition, ascending: begin is
-- its position, end 2^64 − 1, previous is the newest slot, not produced; a preceding entry's end becomes this
-- position; the new slot becomes newest. A transaction with no such write only advances the count."
use Rattle.std.specs.Prelude.{ℕ, zero, suc, ◌+◌, ◌*◌, ◌%◌, Bool, ◌&&◌, ◌||◌, Ok, Err}
use Rattle.std.specs.Prelude.{not, cond, List, ltb, leb, eqb, length, get_or, set}
use Rattle.terms.specs.Refusals.{refuse_if, Verdict}
use Rattle.terms.specs.Reserved.{no_slot}
use Rattle.terms.specs.declared.refusal.Refusal.TheVariants.{
  WrongParameter,
  WrongLength,
  WrongMoment,
  NoSuchParty,
  PartitionDone,
  StateOutOfRange,
  BrokenTables,
}
use Rattle.packed.specs.Unpacking.{unpack_at_of}
use Rattle.packed.specs.declared.Transaction.{Transaction}
use Rattle.packed.specs.declared.Unpacked.{Unpacked}
use Rattle.versions.specs.Step.{link_of}
use Rattle.versions.specs.declared.Version.{Version}
use Rattle.engine.specs.Answers.{accept, refuse_by, and_then}
use Rattle.engine.specs.Counting.{some_below}
use Rattle.engine.specs.Moment.{not_planning}
use Rattle.engine.specs.Range.{placed_by, out_of_range}
use Rattle.engine.specs.States.{with_placed}
use Rattle.engine.specs.Tables.{not_of, newest_of}
use Rattle.engine.specs.declared.State.{State}
use Rattle.engine.specs.declared.Stepped.{Stepped}

-- the tables that planning changes
pub record Plans : Type 0 where
  pub newest : List ℕ
  pub versions : List Version

-- what a place step hands back
pub record Placed : Type 0 where
  pub stepped : Stepped
  pub plans : Plans

-- "Takes the partition's next transaction": what its entry in the log means
abbrev pub meaning_at : State → List ℕ → ℕ → Transaction
meaning_at s log i = (unpack_at_of s.records log i).meaning

-- "Write j of transaction i always uses slot 4i + j."
abbrev pub slot_of : ℕ → ℕ → ℕ
slot_of i j = 4 * i + j

-- "Transaction i of a batch (from 0) has position F + i"
abbrev pub position_of : State → ℕ → ℕ
position_of s i = s.next.0 + i

-- the record of write j
abbrev pub write_of : Transaction → ℕ → ℕ
write_of t j = get_or t.writes j 0

-- write j is declared, and "Record r belongs to partition r mod P"
abbrev pub written_in : ℕ → ℕ → Transaction → ℕ → Bool
written_in partitions p t j = ltb j t.writecount && eqb (write_of t j % partitions) p

-- 15: "a slot met in placing is not below its own"
abbrev pub not_below : ℕ → ℕ → Bool
not_below slot own = not (eqb slot no_slot) && leb own slot

abbrev pub meets_wrong : ℕ → ℕ → ℕ → Transaction → List ℕ → ℕ → Bool
meets_wrong partitions p i t newest j =
    written_in partitions p t j && not_below (newest_of newest (write_of t j)) (slot_of i j)

-- 1, for the tables that a place step is lent
abbrev pub wrong_for_place : State → ℕ → ℕ → Bool
wrong_for_place s newest versions = not_of newest s.records || not_of versions 256

-- what is left to check of a transaction whose entry is unpacked
abbrev pub fits : ℕ → ℕ → ℕ → Unpacked → List ℕ → Verdict
fits partitions p i entry newest =
    -- 4 to 8
    and_then entry.verdict
    -- 15
    (refuse_if (some_below 4 (meets_wrong partitions p i entry.meaning newest)) BrokenTables 0 (Ok tt))

-- "Steps check 1, 14, 9, 10, 11, .. then, in place and advance, 2 and the one transaction's 4 to 8, then 15."
unfoldable pub place_verdict : State → ℕ → List ℕ → List ℕ → ℕ → Verdict
place_verdict s p log newest versions =
    -- 1
    refuse_if (wrong_for_place s (length newest) versions) WrongParameter 0
    -- 14
    (refuse_if (out_of_range s) StateOutOfRange 0
    -- 9
    (refuse_if (not_planning s) WrongMoment 0
    -- 10
    (refuse_if (leb s.partitions p) NoSuchParty 0
    -- 11: "the partition has placed all, while another has not"
    (refuse_if (eqb (placed_by s p) s.size) PartitionDone 0
    -- 2: "length not 88n"
    (refuse_if (not_of (length log) (88 * s.size)) WrongLength 0
    -- 4 to 8, 15
    (fits s.partitions p (placed_by s p) (unpack_at_of s.records log (placed_by s p)) newest))))))

-- the placeholder of one write: it is linked behind the newest version of its record, and is the newest then
abbrev pub place_write : ℕ → ℕ → ℕ → Plans → Plans
place_write position slot r plans =
    record {
      newest = set plans.newest r slot;
      versions =
          link_of plans.versions
          (record { slot = slot; position = position; previous = newest_of plans.newest r });
    }

-- "For each write in that partition, ascending": those below a number
abbrev pub place_below : ℕ → State → ℕ → ℕ → Transaction → Plans → Plans
place_below zero s p i t plans = plans
place_below (suc j) s p i t plans =
    cond
    (written_in s.partitions p t j)
    (place_write (position_of s i) (slot_of i j) (write_of t j) (place_below j s p i t plans))
    (place_below j s p i t plans)

abbrev pub placed_when : Verdict → State → ℕ → List ℕ → Plans → Placed
placed_when (Ok _) s p log plans =
    record {
      stepped = accept (with_placed s p (placed_by s p + 1));
      plans = place_below 4 s p (placed_by s p) (meaning_at s log (placed_by s p)) plans;
    }
placed_when (Err why) s p log plans =
    record { stepped = refuse_by s why.refusal why.place; plans = plans }

unfoldable pub place_of : State → ℕ → List ℕ → List ℕ → List Version → Placed
place_of s p log newest versions =
    placed_when
    (place_verdict s p log newest (length versions))
    s
    p
    log
    (record { newest = newest; versions = versions })
