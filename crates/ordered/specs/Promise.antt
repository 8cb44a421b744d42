-- What is promised of a batch, in the words of demand 3: "if a seal is accepted, outcomes, reads, records, next
-- position and batch number are those of running the transactions one by one in log order; and from every state
-- before the seal at most nP + 14n + 10 further accepted steps reach it". Definitions only.
use Rattle.std.specs.Prelude.{ℕ, zero, suc, ◌+◌, ◌*◌, ◌≤◌, true, ◌≡◌, List, [], ◌∷◌, ◌++◌, map, length, take}
use Rattle.packed.specs.Unpacking.{unpack_at_of}
use Rattle.packed.specs.declared.Transaction.{Transaction}
use Rattle.counters.specs.OneByOne.{Ran, one_by_one}
use Rattle.counters.specs.Storing.{in_four}
use Rattle.counters.specs.declared.Outcome.{Outcome}
use Rattle.engine.specs.Open.{entries_in}
use Rattle.engine.specs.Rows.{row}
use Rattle.engine.specs.declared.Progress.TheVariants.{Complete}
use Rattle.engine.specs.declared.Row.{Row}
use Rattle.engine.specs.declared.State.{State}
use Rattle.engine.specs.Running.{Engine, Offer, seal, all_accepted}

-- the transactions of a log, in its order: so many of them, from an index on
abbrev pub meanings_from : ℕ → List ℕ → ℕ → ℕ → List Transaction
meanings_from n log zero index = []
meanings_from n log (suc count) index = (unpack_at_of n log index).meaning ∷ meanings_from n log count (suc index)

-- the transactions of the log run one by one, on the records as they are at opening; n, here, is the number of
-- records
abbrev pub ran_one_by_one : State → List ℕ → List ℕ → Ran
ran_one_by_one s log records = one_by_one (meanings_from s.records log (entries_in log) 0) records

-- a row that is Complete with an outcome
abbrev pub complete_row : Outcome → Row
complete_row outcome = row (Complete outcome)

-- the results table: for each of so many transactions "the values read, then zeros", and zeros past the last one
abbrev pub results_for : ℕ → List (List ℕ) → List ℕ
results_for zero values = []
results_for (suc count) [] = in_four [] ++ results_for count []
results_for (suc count) (read ∷ values) = in_four read ++ results_for count values

-- (a) the engine e holds what the run gave of a batch that was opened in the state s
pub record AsOneByOne (s : State) (log records : List ℕ) (e : Engine) : Type 0 where
  pub outcomes : take (entries_in log) e.state.rows ≡ map complete_row (ran_one_by_one s log records).outcomes
  pub reads : e.results ≡ results_for 64 (ran_one_by_one s log records).values_read
  pub records_held : e.records ≡ (ran_one_by_one s log records).records
  pub next_position : e.state.next.0 ≡ s.next.0 + entries_in log
  pub batch_number : e.state.batch.0 ≡ s.batch.0 + 1

-- nP + 14n + 10
abbrev pub step_bound : State → List ℕ → ℕ
step_bound s log = entries_in log * s.partitions + 14 * entries_in log + 10

-- (b) some list of at most so many offers is accepted throughout, and its last is a seal
pub record CanBeSealed (log : List ℕ) (bound : ℕ) (e : Engine) : Type 0 where
  pub offers : List Offer
  pub all_accepted_lem : all_accepted log e (offers ++ (seal ∷ [])) ≡ true
  pub within_bound : length (offers ++ (seal ∷ [])) ≤ bound
