-- What a run from C hands out, told in the program's lines: from its number and what the caller's arrays hold at exit.
-- Definitions only.
use Rattle.std.specs.Prelude.{ℕ, ◌+◌, ◌*◌, Bool, cond, List, ◌++◌, eqb, length, get_or, take}
use Rattle.counters.specs.declared.Outcome.{Outcome}
use Rattle.counters.specs.declared.Outcome.TheVariants.{Committed, Aborted}
use Rattle.engine.specs.Open.{entries_in}
use Rattle.engine.specs.declared.Progress.TheVariants.{Complete}
use Rattle.desk.specs.Program.{four_at, reads_of, record_at, lines_below}
use Rattle.desk.specs.Text.{tx_line, counts_line, not_sealed_line, refused_line}
use Rattle.capi.specs.Report.{outcome_byte}
use Rattle.capi.specs.Running.{Returned}

-- an outcome as the header numbers it: 1 committed, 2 aborted
abbrev pub outcome_number : Outcome → ℕ
outcome_number outcome = outcome_byte (Complete outcome)

-- and back; after a seal no transaction has another number (`outcomes_as_run`)
abbrev pub outcome_from : ℕ → Outcome
outcome_from byte = cond (eqb byte 1) Committed Aborted

-- n is the number of records that were lent
module _ (n : ℕ) (log : List ℕ) (x : Returned) where
  -- "Each tx line has position, outcome and values read": the first position is 1
  abbrev pub transaction_told : ℕ → List ℕ
  transaction_told i =
      tx_line (i + 1) (outcome_from (get_or x.outcomes i 0)) (take (reads_of n log i) (four_at x.results (4 * i)))

  -- the tx lines of the log's transactions, and "each rec line number and contents"
  abbrev pub batch_told : List ℕ
  batch_told =
      lines_below (entries_in log) transaction_told ++ lines_below (length x.records) (record_at x.records)

  -- "steps offered, steps refused, waits, and whether the batch was sealed"
  abbrev pub counts_told : List ℕ
  counts_told = counts_line (get_or x.counts 0 0) (get_or x.counts 1 0) (get_or x.counts 2 0)

  abbrev pub sealed_told : Bool
  sealed_told = eqb (get_or x.counts 3 0) 1

  -- "With no seal accepted, "not sealed" stands in place of the tx and rec lines"
  abbrev pub lines_of : List ℕ
  lines_of = cond sealed_told batch_told not_sealed_line ++ counts_told

  -- "A refused opening prints only "refused" and the number."
  abbrev pub text_of : List ℕ
  text_of = cond (eqb x.number 0) lines_of (refused_line x.number)
