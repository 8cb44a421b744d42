-- A state whose transactions and workers are lent beside its numbers.
use Rattle.std.specs.Prelude.{ℕ, List, get_or}
use Rattle.engine.specs.Rows.{row}
use Rattle.engine.specs.Workers.{idle_worker}
use Rattle.engine.specs.declared.Progress.TheVariants.{Unprocessed}
use Rattle.engine.specs.declared.Row.{Row}
use Rattle.engine.specs.declared.State.{State}
use Rattle.engine.specs.declared.Stepped.{Stepped}
use Rattle.engine.specs.declared.Worker.{Worker}
use Rattle.engine.specs.declared.lent.Counted.{Counted}
use Rattle.engine.specs.declared.lent.Numbers.{Numbers}

abbrev pub unprocessed : Row
unprocessed = row Unprocessed

-- transaction i, and worker w; past the last there is an Unprocessed and an idle one
abbrev pub row_of : List Row → ℕ → Row
row_of rows i = get_or rows i unprocessed

abbrev pub worker_of : List Worker → ℕ → Worker
worker_of crew w = get_or crew w idle_worker

-- the state that they are together
abbrev pub joined : Numbers → List Row → List Worker → State
joined numbers rows crew =
    record {
      records = numbers.records;
      partitions = numbers.partitions;
      workers = numbers.workers;
      next = numbers.next;
      size = numbers.size;
      batch = numbers.batch;
      placed = numbers.placed;
      rows = rows;
      crew = crew;
    }

-- the numbers of a state
abbrev pub numbers_of : State → Numbers
numbers_of s =
    record {
      records = s.records;
      partitions = s.partitions;
      workers = s.workers;
      next = s.next;
      size = s.size;
      batch = s.batch;
      placed = s.placed;
    }

-- a step's answer and the numbers after it
abbrev pub counted_of : Stepped → Counted
counted_of stepped = record { answer = stepped.answer; numbers = numbers_of stepped.state }
