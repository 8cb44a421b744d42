-- Parts of the engine's answers, told in numbers; a row at a moment of the listing; one more moment.
use Rattle.std.specs.Prelude.{ℕ, List, [], ◌∷◌, ◌++◌, replicate}
use Rattle.terms.specs.Refusals.{number_of}
use Rattle.counters.specs.declared.Outcome.{Outcome}
use Rattle.counters.specs.declared.Outcome.TheVariants.{Committed, Aborted}
use Rattle.engine.specs.Rows.{row as transaction}
use Rattle.engine.specs.Running.{Engine}
use Rattle.engine.specs.Workers.{is_idle}
use Rattle.engine.specs.declared.Answer.{Answer}
use Rattle.engine.specs.declared.Answer.TheVariants.{Accepted, Waits, Refused}
use Rattle.engine.specs.declared.Progress.{Progress}
use Rattle.engine.specs.declared.Progress.TheVariants.{Unprocessed, Executing, Complete}
use Rattle.engine.specs.declared.Row.{Row}
use Rattle.engine.specs.declared.State.{State}
use Rattle.engine.specs.declared.Worker.{Worker}
use Rattle.engine.specs.declared.lent.Counted.{Counted}
use Rattle.engine.specs.declared.lent.Numbers.{Numbers}
use Rattle.instances.specs.Listing.{opened}
use Rattle.excluded.specs.Rows.{Row as Excluded, row, mark}

abbrev pub answered : Answer → List ℕ
answered Accepted = 0 ∷ []
answered (Waits position) = 1 ∷ position.0 ∷ []
answered (Refused refusal place) = 2 ∷ number_of refusal ∷ place.transaction ∷ []

abbrev pub outcome : Outcome → List ℕ
outcome Committed = 0 ∷ []
outcome Aborted = 1 ∷ []

abbrev pub outcomes : List Outcome → List ℕ
outcomes [] = []
outcomes (x ∷ xs) = outcome x ++ outcomes xs

abbrev pub progress : Progress → List ℕ
progress Unprocessed = 0 ∷ []
progress (Executing worker) = 1 ∷ worker ∷ []
progress (Complete o) = 2 ∷ outcome o

-- the transactions, the workers that are idle, and the answers, one after the other
abbrev pub transactions : List Row → List ℕ
transactions [] = []
transactions (x ∷ xs) = progress x.progress ++ transactions xs

abbrev pub workers : List Worker → List ℕ
workers [] = []
workers (x ∷ xs) = mark (is_idle x) ++ workers xs

abbrev pub answers : List Answer → List ℕ
answers [] = []
answers (x ∷ xs) = answered x ++ answers xs

-- the numbers of a state, and what a step on lent transactions and workers hands back
abbrev pub numbers_in : Numbers → List ℕ
numbers_in x = x.next.0 ∷ x.size ∷ x.batch.0 ∷ x.placed

abbrev pub counted : Counted → List ℕ
counted x = answered x.answer ++ numbers_in x.numbers

-- a row at a moment, which is computed once for what the definition gives there and for the wrong answer
abbrev pub row_at : {A : Type 0} → Engine → (A → List ℕ) → (Engine → A) → (Engine → A) → Excluded
row_at moment part given wrong = row part (given moment) (wrong moment)

-- the listing's batch with every transaction Complete, as if none had written anything: a seal takes it
abbrev with_rows : State → List Row → State
with_rows s rows =
    record {
      records = s.records;
      partitions = s.partitions;
      workers = s.workers;
      next = s.next;
      size = s.size;
      batch = s.batch;
      placed = s.placed;
      rows = rows;
      crew = s.crew;
    }

abbrev pub complete : Engine
complete =
    record {
      state = with_rows opened.state (replicate 64 (transaction (Complete Committed)));
      records = opened.records;
      newest = opened.newest;
      versions = opened.versions;
      results = opened.results;
    }
