-- The one-by-one run: the transactions of a log run singly, in order, on the records. There are no versions, workers,
-- slots or marks in it. That any order of work gives what this run gives is the promise of the engine.
use Rattle.std.specs.Prelude.{ℕ, List, [], ◌∷◌, map, take, slice_index, slice_set}
use Rattle.packed.specs.declared.Transaction.{Transaction}
use Rattle.counters.specs.Actions.{Memory, After, goes_on, aborts, act_all, actions_of}
use Rattle.counters.specs.declared.Outcome.{Outcome}
use Rattle.counters.specs.declared.Outcome.TheVariants.{Committed, Aborted}

-- the records as a memory: record r is the r-th number
abbrev pub records_memory : Memory (List ℕ)
records_memory =
    record {
      holds = λ records r. slice_index records r;
      becomes = λ records r number. slice_set records r number;
    }

-- the declared reads: those within the read count
abbrev pub reads_of : Transaction → List ℕ
reads_of t = take t.readcount t.reads

-- the values that a transaction reads: the records at its reads, before any of its actions
unfoldable pub values_on : Transaction → List ℕ → List ℕ
values_on t records = map (λ r. slice_index records r) (reads_of t)

-- its actions change a copy of the records, one after the other
unfoldable pub changed_copy : Transaction → List ℕ → After (List ℕ)
changed_copy t records = act_all records_memory (actions_of t) (goes_on records)

-- where no action aborts, the transaction commits
abbrev pub outcome_of : {M : Type 0} → After M → Outcome
outcome_of (goes_on copy) = Committed
outcome_of aborts = Aborted

-- and the copy becomes the records; on abort the copy is dropped
abbrev pub kept_of : {M : Type 0} → M → After M → M
kept_of records (goes_on copy) = copy
kept_of records aborts = records

abbrev pub outcome_on : Transaction → List ℕ → Outcome
outcome_on t records = outcome_of (changed_copy t records)

abbrev pub records_after : Transaction → List ℕ → List ℕ
records_after t records = kept_of records (changed_copy t records)

-- what a run gives: for each transaction of the log its outcome and the values that it read; and the records at the end
pub record Ran : Type 0 where
  pub outcomes : List Outcome
  pub values_read : List (List ℕ)
  pub records : List ℕ

-- no transaction more
abbrev pub ended : List ℕ → Ran
ended records = record { outcomes = []; values_read = []; records = records }

-- a run whose first transaction has this outcome and read these values, and then the rest
abbrev pub with_first : Outcome → List ℕ → Ran → Ran
with_first outcome values rest =
    record {
      outcomes = outcome ∷ rest.outcomes;
      values_read = values ∷ rest.values_read;
      records = rest.records;
    }

unfoldable pub one_by_one : List Transaction → List ℕ → Ran
one_by_one [] records = ended records
one_by_one (t ∷ log) records =
    with_first (outcome_on t records) (values_on t records) (one_by_one log (records_after t records))
