-- How an engine stands in a state of the order theorem's machine: table by table, entry by entry. Definitions only.
use Rattle.std.specs.Prelude.{ℕ, ◌+◌, ◌*◌, ◌≤◌, ◌<◌, true, false, ◌≡◌, List, [], ◌∷◌, length, get_or}
use Rattle.terms.specs.Reserved.{no_slot}
use Rattle.versions.specs.Table.{entry_of}
use Rattle.versions.specs.declared.Version.{Version}
use Rattle.counters.specs.Storing.{in_four}
use Rattle.counters.specs.declared.Outcome.{Outcome}
use Rattle.engine.specs.Place.{slot_of}
use Rattle.engine.specs.Range.{placed_by, row_at, worker_at}
use Rattle.engine.specs.Tables.{newest_of}
use Rattle.engine.specs.Workers.{is_idle}
use Rattle.engine.specs.declared.Phase.TheVariants.{Idle, Reading, Decided}
use Rattle.engine.specs.declared.Progress.TheVariants.{Unprocessed, Executing, Complete}
use Rattle.engine.specs.declared.Row.{Row}
use Rattle.engine.specs.declared.State.{State}
use Rattle.engine.specs.declared.Worker.{Worker}
use Rattle.order.specs.Plan as plan
use Rattle.order.specs.Machine as machine
use Rattle.engine.specs.Running.{Engine}

-- a slot's number, in a batch of n transactions
abbrev pub SlotIs : ℕ → ℕ → plan.Slot → Type 0
SlotIs n number plan.no_slot = number ≡ no_slot
SlotIs n number (plan.slot i j) = (number ≡ slot_of i j) × ((i < n) × (j < 4))

-- what an entry holds
abbrev pub ContentsIs : Version → machine.Contents ℕ → Type 0
ContentsIs version machine.unproduced = version.produced ≡ false
ContentsIs version (machine.produced x) = (version.produced ≡ true) × (version.contents ≡ x)

pub record EntryIs (n : ℕ) (version : Version) (p : plan.Plan) (i j : ℕ) : Type 0 where
  pub begin_is : version.begin ≡ p.begin i j
  pub end_is : version.end ≡ p.end i j
  pub previous_is : SlotIs n version.previous (p.previous i j)

-- the tables that planning changes
pub record PlanIs (n records : ℕ) (newest : List ℕ) (versions : List Version) (p : plan.Plan) : Type 0 where
  pub newest_length : length newest ≡ records
  pub versions_length : length versions ≡ 256
  pub newest_is : (r : ℕ) → r < records → SlotIs n (newest_of newest r) (p.newest r)
  pub entries : (i j : ℕ) → i < n → j < 4 → EntryIs n (entry_of versions (slot_of i j)) p i j

-- the four result numbers of a transaction
abbrev pub four_at : List ℕ → ℕ → List ℕ
four_at results at =
    get_or results at 0 ∷ get_or results (at + 1) 0 ∷ get_or results (at + 2) 0 ∷ get_or results (at + 3) 0 ∷ []

abbrev pub RowIs : Row → List ℕ → ℕ → machine.Row ℕ Outcome → Type 0
RowIs row results i machine.unprocessed = row.progress ≡ Unprocessed
RowIs row results i (machine.executing w) = row.progress ≡ Executing w
RowIs row results i (machine.complete outcome values) =
    (row.progress ≡ Complete outcome) × (four_at results (4 * i) ≡ in_four values)

pub record ReadingIs (worker : Worker) (i k : ℕ) (values : List ℕ) : Type 0 where
  pub phase_is : worker.phase ≡ Reading k
  pub transaction_is : worker.transaction ≡ i
  pub values_are : worker.values ≡ in_four values
  pub count_is : length values ≡ k

pub record DecidedIs (worker : Worker) (i : ℕ) (d : machine.Decided ℕ Outcome) : Type 0 where
  pub phase_is : worker.phase ≡ Decided d.outcome (length d.values_read) d.carries d.fills
  pub transaction_is : worker.transaction ≡ i
  pub values_are : worker.values ≡ in_four d.values_read
  pub contents_four : length worker.contents ≡ 4
  pub contents_are : (j : ℕ) → get_or worker.contents j 0 ≡ d.contents j
  pub carried_are : (j : ℕ) → get_or worker.carried j false ≡ d.carried j

abbrev pub WorkIs : Worker → machine.Work ℕ Outcome → Type 0
WorkIs worker machine.idle = worker.phase ≡ Idle
WorkIs worker (machine.reading i k values) = ReadingIs worker i k values
WorkIs worker (machine.decided i d) = DecidedIs worker i d

-- what stays as it was at opening, until the seal
pub record Fixed (o s : State) : Type 0 where
  pub records_fixed : s.records ≡ o.records
  pub partitions_fixed : s.partitions ≡ o.partitions
  pub workers_fixed : s.workers ≡ o.workers
  pub next_fixed : s.next ≡ o.next
  pub size_fixed : s.size ≡ o.size
  pub batch_fixed : s.batch ≡ o.batch
  pub placed_length : length s.placed ≡ 8
  pub rows_length : length s.rows ≡ 64
  pub crew_length : length s.crew ≡ 8

-- the engine e, opened in the state o over these stored records, stands in the machine's state m
pub record Stands (o : State) (stored : List ℕ) (e : Engine) (m : machine.State ℕ Outcome) : Type 0 where
  pub fixed : Fixed o e.state
  pub records_are : e.records ≡ stored
  pub results_length : length e.results ≡ 256
  pub results_past : (k : ℕ) → 4 * o.size ≤ k → get_or e.results k 0 ≡ 0
  pub plan_is : PlanIs o.size o.records e.newest e.versions m.plan
  pub contents_are : (i j : ℕ) → i < o.size → j < 4
      → ContentsIs (entry_of e.versions (slot_of i j)) (m.execution.contents i j)
  pub placed_are : (p : ℕ) → p < o.partitions → placed_by e.state p ≡ m.plan.placed p
  pub placed_past : (p : ℕ) → o.partitions ≤ p → placed_by e.state p ≡ 0
  pub rows_are : (i : ℕ) → i < o.size → RowIs (row_at e.state i) e.results i (m.execution.row i)
  pub crew_are : (w : ℕ) → w < o.workers → WorkIs (worker_at e.state w) (m.execution.work w)
  pub crew_past : (w : ℕ) → o.workers ≤ w → is_idle (worker_at e.state w) ≡ true
