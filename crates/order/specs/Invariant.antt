-- The invariants, which hold in every state that the machine reaches. Definitions only. Planning: each record's
-- versions are linked as far as its partition has placed. Execution: what is produced, read, decided and Complete is
-- what the one-by-one run has. Nothing is said of who produced a version: so a transaction may be dropped between two
-- fills, and a produced version may be looked at before the seal.
use Rattle.std.specs.Prelude.{◌≡◌, true, false, List, ℕ, ◌≤◌, ◌<◌}
use Rattle.std.proofs.Math.Option.{some}
use Rattle.order.specs.Tables.{marks_below}
use Rattle.order.specs.Batch.{Batch}
use Rattle.order.specs.OneByOne.{values_read_to, values_read, decision_of, leaves}
use Rattle.order.specs.Plan.{Slot, slot, Plan, position}
use Rattle.order.specs.Machine.{Contents, unproduced, produced, Row, unprocessed, executing, complete, Decided}
use Rattle.order.specs.Machine.{Work, idle, reading, decided, Execution, State, held_by, AllCarried}
use Rattle.order.specs.LastWrite.{last_write, WriteOf}

abbrev pub IsProduced : {X : Type 0} → Contents X → Type 0
IsProduced unproduced = ⊥
IsProduced (produced x) = Unit {0}

-- Execution has not begun: nothing produced, all Unprocessed, all idle.
pub record Untouched {X O : Type 0} (e : Execution X O) : Type 0 where
  pub no_version : (i j : ℕ) → e.contents i j ≡ unproduced
  pub no_row : (i : ℕ) → e.row i ≡ unprocessed
  pub no_work : (w : ℕ) → e.work w ≡ idle

module _ {X O : Type 0} (B : Batch X O) where
  -- The end of a version of record r, once the transactions below c are placed: none while it is the last write, else
  -- the position of the transaction that writes r next.
  pub data EndIs (r c : ℕ) (version : Slot) (end : ℕ) : Type 0 where
    still_last : last_write B r c ≡ version → end ≡ B.no_end → EndIs r c version end
    ended_by : (b k : ℕ) → WriteOf B r c b k → last_write B r b ≡ version → end ≡ position B b → EndIs r c version end

  -- The entry of write j of transaction i, a write of record r below c.
  pub record Entry (p : Plan) (r c i j : ℕ) : Type 0 where
    pub begin_is : p.begin i j ≡ position B i
    pub previous_is : p.previous i j ≡ last_write B r i
    pub end_is : EndIs r c (slot i j) (p.end i j)

  -- Record r is linked for the transactions below c.
  pub record Linked (p : Plan) (r c : ℕ) : Type 0 where
    pub newest_is : p.newest r ≡ last_write B r c
    pub entry : (i j : ℕ) → WriteOf B r c i j → Entry p r c i j

  -- The planning invariant: each record is linked as far as its partition has placed.
  pub record Planned (p : Plan) : Type 0 where
    pub counts : (q : ℕ) → p.placed q ≤ B.known
    pub linked : (r : ℕ) → Linked p r (p.placed (B.partition_of r))

  -- A produced version holds what the one-by-one run leaves after its transaction.
  abbrev pub VersionRight : ℕ → ℕ → Contents X → Type 0
  VersionRight i j unproduced = Unit {0}
  VersionRight i j (produced x) = x ≡ leaves B i j

  -- A Complete transaction has the outcome and the values read of the run, and all its versions are produced.
  pub record CompleteRight (contents : ℕ → ℕ → Contents X) (i : ℕ) (outcome : O) (values : List X) : Type 0 where
    pub outcome_is : outcome ≡ (decision_of B i).outcome
    pub values_are : values ≡ values_read B i
    pub all_produced : (j : ℕ) → j < B.write_count i → IsProduced (contents i j)

  abbrev pub RowRight : (ℕ → ℕ → Contents X) → ℕ → Row X O → Type 0
  RowRight contents i unprocessed = Unit {0}
  RowRight contents i (executing w) = Unit {0}
  RowRight contents i (complete outcome values) = CompleteRight contents i outcome values

  -- The values read so far are a prefix of those of the run.
  pub record ReadingRight (i k : ℕ) (values : List X) : Type 0 where
    pub within : k ≤ B.read_count i
    pub so_far : values ≡ values_read_to B i k

  -- The decision is that of the run. A write that is not carried, or that has been, has the contents that the run
  -- leaves.
  pub record DecidedRight (contents : ℕ → ℕ → Contents X) (i : ℕ) (d : Decided X O) : Type 0 where
    pub values_are : d.values_read ≡ values_read B i
    pub outcome_is : d.outcome ≡ (decision_of B i).outcome
    pub fill_left : d.fills < B.write_count i
    pub marks_are : (j : ℕ) → d.carried j ≡ (decision_of B i).carried j
    pub contents_are : (j : ℕ) → j < B.write_count i → d.carried j ≡ false → d.contents j ≡ leaves B i j
    pub carried_are : (j : ℕ) → j < B.write_count i → d.carried j ≡ true → marks_below d.carried j < d.carries
        → d.contents j ≡ leaves B i j
    pub carries_fit : d.carries ≤ marks_below d.carried (B.write_count i)
    pub filled : (j : ℕ) → j < d.fills → IsProduced (contents i j)
    pub carried_first : 0 < d.fills → AllCarried B i d

  abbrev pub WorkRight : (ℕ → ℕ → Contents X) → Work X O → Type 0
  WorkRight contents idle = Unit {0}
  WorkRight contents (reading i k values) = ReadingRight i k values
  WorkRight contents (decided i d) = DecidedRight contents i d

  -- The execution invariant: every version, row and worker is right, nothing is produced of a transaction that is not
  -- executed, and a worker holds a transaction exactly if that is Executing by it.
  pub record ExecutionRight (e : Execution X O) : Type 0 where
    pub versions : (i j : ℕ) → VersionRight i j (e.contents i j)
    pub beyond : (i j : ℕ) → B.size ≤ i → e.contents i j ≡ unproduced
    pub rows : (i : ℕ) → RowRight e.contents i (e.row i)
    pub works : (w : ℕ) → WorkRight e.contents (e.work w)
    pub held : (i w : ℕ) → e.row i ≡ executing w → (w < B.workers) × (held_by (e.work w) ≡ some i)
    pub holder : (w i : ℕ) → held_by (e.work w) ≡ some i → (i < B.size) × (e.row i ≡ executing w)

  -- Both invariants, and that nothing is executed before planning is over.
  pub record Sound (s : State X O) : Type 0 where
    pub planned : Planned s.plan
    pub execution_right : ExecutionRight s.execution
    pub early : (q : ℕ) → q < B.partitions → s.plan.placed q < B.size → Untouched s.execution
