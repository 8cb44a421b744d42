-- What a run tells its caller besides the records and the results.
use Rattle.std.specs.Prelude.{ℕ, zero, suc, Bool, cond, List, eqb, set}
use Rattle.counters.specs.declared.Outcome.TheVariants.{Committed, Aborted}
use Rattle.engine.specs.Range.{row_at}
use Rattle.engine.specs.declared.Progress.{Progress}
use Rattle.engine.specs.declared.Progress.TheVariants.{Unprocessed, Executing, Complete}
use Rattle.engine.specs.declared.State.{State}
use Rattle.desk.specs.declared.Tally.{Tally}

-- what became of a transaction, as the header numbers it: 0 not complete, 1 committed, 2 aborted
abbrev pub outcome_byte : Progress → ℕ
outcome_byte Unprocessed = 0
outcome_byte (Executing worker) = 0
outcome_byte (Complete Committed) = 1
outcome_byte (Complete Aborted) = 2

-- byte i says what became of transaction i, for the first so many
abbrev pub outcomes_to : State → List ℕ → ℕ → List ℕ
outcomes_to s outcomes zero = outcomes
outcomes_to s outcomes (suc i) = set (outcomes_to s outcomes i) i (outcome_byte (row_at s i).progress)

-- the outcomes of all 64
unfoldable pub outcomes_of : State → List ℕ → List ℕ
outcomes_of s outcomes = outcomes_to s outcomes 64

-- "whether the batch was sealed"
abbrev pub sealed_number : Bool → ℕ
sealed_number sealed = cond sealed 1 0

-- "steps offered, steps refused, waits, and whether the batch was sealed"
abbrev pub counts_of : Tally → List ℕ → List ℕ
counts_of tally counts =
    set (set (set (set counts 0 tally.offered) 1 tally.refused) 2 tally.waits) 3
    (sealed_number tally.sealed)

-- where the number is none of a refusal, all are told; else they are as they were
abbrev pub told_outcomes : ℕ → Tally → List ℕ → List ℕ
told_outcomes number tally outcomes = cond (eqb number 0) (outcomes_of tally.state outcomes) outcomes

abbrev pub told_counts : ℕ → Tally → List ℕ → List ℕ
told_counts number tally counts = cond (eqb number 0) (counts_of tally counts) counts
