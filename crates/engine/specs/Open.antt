-- Opening a batch. "Opening fills the newest-version table with 65,535, the version table with empty entries .. and the
-- results with 0; all transactions Unprocessed, all workers idle."
use Rattle.std.specs.Prelude.{ℕ, zero, suc, ◌+◌, ◌%◌, ◌/◌, Bool, ◌||◌}
use Rattle.std.specs.Prelude.{not, List, ltb, eqb, length, replicate, Ok, Err}
use Rattle.terms.specs.Refusals.{refuse_if, Verdict}
use Rattle.terms.specs.Reserved.{no_end}
use Rattle.terms.specs.declared.refusal.Refusal.TheVariants.{
  WrongParameter,
  WrongLength,
  PositionsRunOut,
  WrongMoment,
  StateOutOfRange,
}
use Rattle.packed.specs.Unpacking.{unpack_at_of}
use Rattle.versions.specs.declared.Version.{Version}
use Rattle.engine.specs.Answers.{accept, refuse_by, and_then}
use Rattle.engine.specs.Moment.{no_batch}
use Rattle.engine.specs.Range.{out_of_range}
use Rattle.engine.specs.Rows.{row}
use Rattle.engine.specs.Tables.{not_of, none_newest, all_empty, all_zero}
use Rattle.engine.specs.Workers.{idle_worker}
use Rattle.engine.specs.declared.Progress.TheVariants.{Unprocessed}
use Rattle.engine.specs.declared.State.{State}
use Rattle.engine.specs.declared.Stepped.{Stepped}

-- what an opening hands back
pub record Opened : Type 0 where
  pub stepped : Stepped
  pub newest : List ℕ
  pub versions : List Version
  pub results : List ℕ

-- 1, for the tables that an opening is lent
abbrev pub wrong_for_opening : State → ℕ → ℕ → ℕ → Bool
wrong_for_opening s newest versions results = not_of newest s.records || not_of versions 256 || not_of results 256

-- 2: "opening: length 0, above 5,632, or no multiple of 88"
abbrev pub wrong_batch_length : ℕ → Bool
wrong_batch_length bytes = eqb bytes 0 || ltb 5632 bytes || not (eqb (bytes % 88) 0)

-- "A log is such entries end to end": n
abbrev pub entries_in : List ℕ → ℕ
entries_in log = length log / 88

-- "each transaction in turn 4 to 8": so many of them, from an index on
abbrev pub each_in_turn : ℕ → List ℕ → ℕ → ℕ → Verdict
each_in_turn n log zero index = Ok tt
each_in_turn n log (suc count) index =
    and_then (unpack_at_of n log index).verdict (each_in_turn n log count (suc index))

-- "Opening checks 1, 14, 9, 2, 3, then each transaction in turn 4 to 8."
unfoldable pub open_verdict : State → List ℕ → ℕ → ℕ → ℕ → Verdict
open_verdict s log newest versions results =
    -- 1
    refuse_if (wrong_for_opening s newest versions results) WrongParameter 0
    -- 14
    (refuse_if (out_of_range s) StateOutOfRange 0
    -- 9: "opening with a batch open"
    (refuse_if (not (no_batch s)) WrongMoment 0
    -- 2
    (refuse_if (wrong_batch_length (length log)) WrongLength 0
    -- 3: "F + n above 2^64 − 1"
    (refuse_if (ltb no_end (s.next.0 + entries_in log)) PositionsRunOut 0
    -- 4 to 8
    (each_in_turn s.records log (entries_in log) 0)))))

-- a batch of n transactions is open: "all transactions Unprocessed, all workers idle"
abbrev pub opened : State → ℕ → State
opened s n =
    record {
      records = s.records;
      partitions = s.partitions;
      workers = s.workers;
      next = s.next;
      size = n;
      batch = s.batch;
      placed = s.placed;
      rows = replicate 64 (row Unprocessed);
      crew = replicate 8 idle_worker;
    }

abbrev pub opened_by : Verdict → State → List ℕ → List ℕ → List Version → List ℕ → Opened
opened_by (Ok _) s log newest versions results =
    record {
      stepped = accept (opened s (entries_in log));
      newest = none_newest newest;
      versions = all_empty versions;
      results = all_zero results;
    }
opened_by (Err why) s log newest versions results =
    record { stepped = refuse_by s why.refusal why.place; newest = newest; versions = versions; results = results }

unfoldable pub open_of : State → List ℕ → List ℕ → List Version → List ℕ → Opened
open_of s log newest versions results =
    opened_by (open_verdict s log (length newest) (length versions) (length results)) s log newest versions results
