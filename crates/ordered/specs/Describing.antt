-- The batch of the order theorem that an opened engine has before it: what such a batch tells of the engine's state,
-- its log and its stored records.
use Rattle.std.specs.Prelude.{ℕ, ◌+◌, ◌*◌, ◌%◌, ◌≤◌, ◌<◌, false, ◌≡◌, List, length, get_or, Ok}
use Rattle.terms.specs.Reserved.{no_end}
use Rattle.packed.specs.Unpacking.{unpack_at_of}
use Rattle.counters.specs.Deciding.{decide_of}
use Rattle.counters.specs.Declarations.{Declared}
use Rattle.counters.specs.Storing.{in_four}
use Rattle.counters.specs.declared.Decision.{Decision}
use Rattle.counters.specs.declared.Outcome.{Outcome}
use Rattle.engine.specs.Place.{meaning_at, write_of}
use Rattle.engine.specs.declared.State.{State}
use Rattle.order.specs.Batch as order

-- a decision of the counters, by the number of the write
pub record Decides (made : order.Decision ℕ Outcome) (decision : Decision) : Type 0 where
  pub outcome_is : made.outcome ≡ decision.outcome
  pub contents_are : (j : ℕ) → made.contents j ≡ get_or decision.contents j 0
  pub carried_are : (j : ℕ) → made.carried j ≡ get_or decision.carried j false

-- the numbers of an opened state, as refusal 14 leaves them, with a batch open
pub record Numbers (o : State) : Type 0 where
  pub some_record : 1 ≤ o.records
  pub few_records : o.records ≤ 1024
  pub some_partition : 1 ≤ o.partitions
  pub few_partitions : o.partitions ≤ 8
  pub some_worker : 1 ≤ o.workers
  pub few_workers : o.workers ≤ 8
  pub some_transaction : 1 ≤ o.size
  pub few_transactions : o.size ≤ 64
  pub batch_below : o.batch.0 < o.next.0
  pub positions_last : o.next.0 + o.size ≤ no_end

-- B is the batch of the state o, opened with this log, over these stored records
pub record Describes (B : order.Batch ℕ Outcome) (o : State) (log stored : List ℕ) : Type 0 where
  pub proper : order.Proper B
  pub numbers : Numbers o
  pub log_length : length log ≡ 88 * o.size
  pub stored_length : length stored ≡ o.records
  pub size_is : B.size ≡ o.size
  pub known_is : B.known ≡ o.size
  pub partitions_is : B.partitions ≡ o.partitions
  pub workers_is : B.workers ≡ o.workers
  pub first_is : B.first_position ≡ o.next.0
  pub no_end_is : B.no_end ≡ no_end
  pub partition_is : (r : ℕ) → B.partition_of r ≡ r % o.partitions
  pub stored_is : (r : ℕ) → B.stored r ≡ get_or stored r 0
  pub accepted : (i : ℕ) → i < o.size → (unpack_at_of o.records log i).verdict ≡ Ok tt
  pub declared : (i : ℕ) → i < o.size → Declared o.records (meaning_at o log i)
  pub reads_count : (i : ℕ) → i < o.size → B.read_count i ≡ (meaning_at o log i).readcount
  pub reads_are : (i k : ℕ) → i < o.size → k < (meaning_at o log i).readcount
      → B.read_record i k ≡ get_or (meaning_at o log i).reads k 0
  pub writes_count : (i : ℕ) → i < o.size → B.write_count i ≡ (meaning_at o log i).writecount
  pub writes_are : (i j : ℕ) → i < o.size → j < (meaning_at o log i).writecount
      → B.write_record i j ≡ write_of (meaning_at o log i) j
  pub decides_as : (i : ℕ) (values : List ℕ) → i < o.size
      → Decides (B.decide i values) (decide_of (meaning_at o log i) (in_four values))
