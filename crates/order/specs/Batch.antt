-- A batch: transactions over any contents X, with any outcomes O and any deciding rule. Definitions only.
use Rattle.std.specs.Prelude.{◌≡◌, Bool, List, ℕ, ◌+◌, ◌≤◌, ◌<◌}

-- What a transaction decides from the values read: its outcome and, for each of its writes (by number), the new
-- contents and whether the write is carried, that is, keeps what the preceding version of its record holds.
pub record Decision (X O : Type 0) : Type 0 where
  pub outcome : O
  pub contents : ℕ → X
  pub carried : ℕ → Bool

-- Transactions and records are numbered from 0.
pub record Batch (X O : Type 0) : Type 0 where
  -- how many transactions are executed and sealed
  pub size : ℕ
  -- how many transactions are known and may be placed: at least those executed
  pub known : ℕ
  pub partitions : ℕ
  pub workers : ℕ
  -- transaction i has position first_position + i
  pub first_position : ℕ
  -- the number that stands for "no end" in a version
  pub no_end : ℕ
  -- the partition that a record belongs to
  pub partition_of : ℕ → ℕ
  -- the stored records before the batch
  pub stored : ℕ → X
  -- how many reads transaction i declares, and the record of its read k
  pub read_count : ℕ → ℕ
  pub read_record : ℕ → ℕ → ℕ
  -- how many writes transaction i declares, and the record of its write j
  pub write_count : ℕ → ℕ
  pub write_record : ℕ → ℕ → ℕ
  -- the deciding rule of transaction i, on the values read
  pub decide : ℕ → List X → Decision X O

-- What a batch has to satisfy: all that the theorem assumes of it.
pub record Proper {X O : Type 0} (B : Batch X O) : Type 0 where
  -- a transaction declares no record twice among its writes
  pub apart : (i j k : ℕ) → j < B.write_count i → k < B.write_count i → B.write_record i j ≡ B.write_record i k → j ≡ k
  -- it has at most four reads and four writes
  pub few_reads : (i : ℕ) → B.read_count i ≤ 4
  pub few_writes : (i : ℕ) → B.write_count i ≤ 4
  -- every record belongs to a partition that there is
  pub in_partition : (r : ℕ) → B.partition_of r < B.partitions
  -- there is a worker, and a transaction to execute
  pub some_worker : 0 < B.workers
  pub some_transaction : 0 < B.size
  -- those executed are known, and no position lies past "no end"
  pub all_known : B.size ≤ B.known
  pub positions_fit : B.first_position + B.known ≤ B.no_end
