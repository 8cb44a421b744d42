-- A worker alone.
use Rattle.std.specs.Prelude.{ℕ, ◌+◌, Bool, true, false, ◌||◌, cond, [], ◌∷◌, ltb, set}
use Rattle.counters.specs.declared.Decision.{Decision}
use Rattle.engine.specs.declared.Phase.{Phase}
use Rattle.engine.specs.declared.Phase.TheVariants.{Idle, Reading, Decided}
use Rattle.engine.specs.declared.Worker.{Worker}

abbrev pub idle_phase : Phase → Bool
idle_phase Idle = true
idle_phase (Reading values) = false
idle_phase (Decided outcome values carries fills) = false

abbrev pub is_idle : Worker → Bool
is_idle worker = idle_phase worker.phase

-- "one of its counts above 4"
abbrev pub phase_above : Phase → Bool
phase_above Idle = false
phase_above (Reading values) = ltb 4 values
phase_above (Decided outcome values carries fills) = ltb 4 values || ltb 4 carries || ltb 4 fills

abbrev pub count_above : Worker → Bool
count_above worker = phase_above worker.phase

-- a worker at the start of a phase, with nothing read or decided
abbrev pub fresh : Phase → ℕ → Worker
fresh phase transaction =
    record {
      phase = phase;
      transaction = transaction;
      values = 0 ∷ 0 ∷ 0 ∷ 0 ∷ [];
      contents = 0 ∷ 0 ∷ 0 ∷ 0 ∷ [];
      carried = false ∷ false ∷ false ∷ false ∷ [];
    }

-- the idle worker, all zero
abbrev pub idle_worker : Worker
idle_worker = fresh Idle 0

-- a worker that has just claimed a transaction
abbrev pub claimed : ℕ → Worker
claimed transaction = fresh (Reading 0) transaction

-- ---- a worker that goes on

-- one more, of a count that is kept in a byte; 14 refuses those above 4
abbrev pub one_more : ℕ → ℕ
one_more count = cond (ltb count 255) (count + 1) 255

-- a value read is kept behind those before it
abbrev pub with_value : Worker → ℕ → ℕ → Worker
with_value worker k contents =
    record {
      phase = Reading (one_more k);
      transaction = worker.transaction;
      values = set worker.values k contents;
      contents = worker.contents;
      carried = worker.carried;
    }

-- the values that a worker has read
abbrev pub count_in : Phase → ℕ
count_in Idle = 0
count_in (Reading values) = values
count_in (Decided outcome values carries fills) = values

-- "once decided, also outcome, new contents, carry marks and how many carries and fills are done"
abbrev pub with_decision : Worker → Decision → Worker
with_decision worker decision =
    record {
      phase = Decided decision.outcome (count_in worker.phase) 0 0;
      transaction = worker.transaction;
      values = worker.values;
      contents = decision.contents;
      carried = decision.carried;
    }

-- one more carry is done
abbrev pub carried_on : Phase → Phase
carried_on Idle = Idle
carried_on (Reading values) = Reading values
carried_on (Decided outcome values carries fills) = Decided outcome values (one_more carries) fills

-- "its new version holds the preceding version's contents"
abbrev pub with_carry : Worker → ℕ → ℕ → Worker
with_carry worker j contents =
    record {
      phase = carried_on worker.phase;
      transaction = worker.transaction;
      values = worker.values;
      contents = set worker.contents j contents;
      carried = worker.carried;
    }

-- the worker with its phase changed
abbrev pub with_phase : Worker → Phase → Worker
with_phase worker phase =
    record {
      phase = phase;
      transaction = worker.transaction;
      values = worker.values;
      contents = worker.contents;
      carried = worker.carried;
    }
