-- The state with one thing changed, and the fresh and the all-zero state.
use Rattle.std.specs.Prelude.{ℕ, set, replicate}
use Rattle.engine.specs.Rows.{row}
use Rattle.engine.specs.Workers.{idle_worker}
use Rattle.engine.specs.declared.Progress.TheVariants.{Unprocessed}
use Rattle.engine.specs.declared.Row.{Row}
use Rattle.engine.specs.declared.State.{State}
use Rattle.engine.specs.declared.Worker.{Worker}

-- transaction i goes on as given
abbrev pub with_row : State → ℕ → Row → State
with_row s i x =
    record {
      records = s.records;
      partitions = s.partitions;
      workers = s.workers;
      next = s.next;
      size = s.size;
      batch = s.batch;
      placed = s.placed;
      rows = set s.rows i x;
      crew = s.crew;
    }

-- worker w goes on as given
abbrev pub with_worker : State → ℕ → Worker → State
with_worker s w x =
    record {
      records = s.records;
      partitions = s.partitions;
      workers = s.workers;
      next = s.next;
      size = s.size;
      batch = s.batch;
      placed = s.placed;
      rows = s.rows;
      crew = set s.crew w x;
    }

-- partition p has placed so many
abbrev pub with_placed : State → ℕ → ℕ → State
with_placed s p count =
    record {
      records = s.records;
      partitions = s.partitions;
      workers = s.workers;
      next = s.next;
      size = s.size;
      batch = s.batch;
      placed = set s.placed p count;
      rows = s.rows;
      crew = s.crew;
    }

-- a store with no batch open: "batch number 0", "counts 0, transactions Unprocessed, workers idle"
unfoldable pub unopened : ℕ → ℕ → ℕ → ℕ → State
unopened n p w start =
    record {
      records = n;
      partitions = p;
      workers = w;
      next = record { 0 = start };
      size = 0;
      batch = record { 0 = 0 };
      placed = replicate 8 0;
      rows = replicate 64 (row Unprocessed);
      crew = replicate 8 idle_worker;
    }
