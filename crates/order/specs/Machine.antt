-- The machine: versions, transactions and workers, and the steps that it accepts. Definitions only.
use Rattle.std.specs.Prelude.{◌≡◌, Bool, true, List, [], ◌∷◌, ◌++◌, ℕ, suc, ◌≤◌, ◌<◌}
use Rattle.std.proofs.Math.Option.{Option, none, some}
use Rattle.order.specs.Tables.{updated, marks_below, updated_entry}
use Rattle.order.specs.Batch.{Decision, Batch}
use Rattle.order.specs.Plan.{Slot, no_slot, slot, Plan, unplanned, position, place_next, Walk}

-- What a version holds: nothing until it is produced.
pub data Contents (X : Type 0) : Type 0 where
  unproduced : Contents X
  produced : X → Contents X

-- A transaction is Unprocessed, Executing by a worker, or Complete with its outcome and the values it read.
pub data Row (X O : Type 0) : Type 0 where
  unprocessed : Row X O
  executing : ℕ → Row X O
  complete : O → List X → Row X O

-- What a worker has once it has decided: the values read, the outcome, the new contents so far, the carry marks, and
-- how many carries and fills are done.
pub record Decided (X O : Type 0) : Type 0 where
  pub values_read : List X
  pub outcome : O
  pub contents : ℕ → X
  pub carried : ℕ → Bool
  pub carries : ℕ
  pub fills : ℕ

-- A worker is idle; or reads for a transaction, with how many reads are done and their values; or has decided on it.
pub data Work (X O : Type 0) : Type 0 where
  idle : Work X O
  reading : ℕ → ℕ → List X → Work X O
  decided : ℕ → Decided X O → Work X O

-- What execution writes: each version's contents (by transaction and write), each transaction's row, each worker's
-- work.
pub record Execution (X O : Type 0) : Type 0 where
  pub contents : ℕ → ℕ → Contents X
  pub row : ℕ → Row X O
  pub work : ℕ → Work X O

pub record State (X O : Type 0) : Type 0 where
  pub plan : Plan
  pub execution : Execution X O

-- What can be asked of a worker, by its number: claim a transaction, advance, abandon what it holds.
pub data Act : Type 0 where
  claim : ℕ → ℕ → Act
  advance : ℕ → Act
  abandon : ℕ → Act

-- A step: a partition places its next transaction, or a worker acts.
pub data Step : Type 0 where
  place : ℕ → Step
  act : Act → Step

-- The answer to an accepted step; a wait names the position that it waits for.
pub data Answer : Type 0 where
  stepped : Answer
  waits_for : ℕ → Answer

module _ {X O : Type 0} where
  -- As at opening: nothing placed, nothing produced, all transactions Unprocessed, all workers idle.
  unfoldable pub opened : State X O
  opened = record {
    plan = unplanned;
    execution = record { contents = λ _ _. unproduced; row = λ _. unprocessed; work = λ _. idle };
  }

  -- The transaction that a worker holds.
  abbrev pub held_by : Work X O → Option ℕ
  held_by idle = none
  held_by (reading i k values) = some i
  held_by (decided i d) = some i

  -- Just decided: nothing carried or filled yet.
  abbrev pub decided_on : List X → Decision X O → Decided X O
  decided_on values d =
      record {
        values_read = values;
        outcome = d.outcome;
        contents = d.contents;
        carried = d.carried;
        carries = 0;
        fills = 0;
      }

  -- Write j has been carried, with contents x.
  abbrev pub after_carry : Decided X O → ℕ → X → Decided X O
  after_carry d j x = record {
    values_read = d.values_read;
    outcome = d.outcome;
    contents = updated d.contents j x;
    carried = d.carried;
    carries = suc d.carries;
    fills = d.fills;
  }

  -- One more write has been filled.
  abbrev pub after_fill : Decided X O → Decided X O
  after_fill d = record {
    values_read = d.values_read;
    outcome = d.outcome;
    contents = d.contents;
    carried = d.carried;
    carries = d.carries;
    fills = suc d.fills;
  }

  -- The version of write j of transaction i is produced, with contents x.
  unfoldable pub produce : Execution X O → ℕ → ℕ → X → Execution X O
  produce e i j x = record { contents = updated_entry e.contents i j (produced x); row = e.row; work = e.work }

  -- Worker w goes on with the work given.
  unfoldable pub with_work : Execution X O → ℕ → Work X O → Execution X O
  with_work e w work = record { contents = e.contents; row = e.row; work = updated e.work w work }

  -- Worker w takes up or lays down transaction i.
  unfoldable pub with_both : Execution X O → ℕ → Work X O → ℕ → Row X O → Execution X O
  with_both e w work i row =
      record { contents = e.contents; row = updated e.row i row; work = updated e.work w work }

  -- Worker w drops all it has and becomes idle, and transaction i becomes Unprocessed.
  abbrev pub dropped : Execution X O → ℕ → ℕ → Execution X O
  dropped e w i = with_both e w idle i unprocessed

  -- Transaction i is Complete, and worker w becomes idle.
  abbrev pub completed : Execution X O → ℕ → ℕ → O → List X → Execution X O
  completed e w i outcome values = with_both e w idle i (complete outcome values)

module _ {X O : Type 0} (B : Batch X O) where
  -- What a slot holds for record r; no slot stands for the stored record.
  abbrev pub held_at : (ℕ → ℕ → Contents X) → ℕ → Slot → Contents X
  held_at contents r no_slot = produced (B.stored r)
  held_at contents r (slot i j) = contents i j

  -- For record r the walk at transaction i's position ends in the slot found, which holds x.
  pub record Finds (p : Plan) (contents : ℕ → ℕ → Contents X) (i r : ℕ) (found : Slot) (x : Contents X) : Type 0 where
    pub walk : Walk p (position B i) (p.newest r) found
    pub holds : held_at contents r found ≡ x

  -- Planning is over: every partition has placed every transaction that is to be executed.
  abbrev pub PlanningOver : Plan → Type 0
  PlanningOver p = (q : ℕ) → q < B.partitions → B.size ≤ p.placed q

  -- Write j is the next to be carried: the marked one with as many marks before it as carries are done. Carries all
  -- come before fills.
  pub record NextCarry (i : ℕ) (d : Decided X O) (j : ℕ) : Type 0 where
    pub none_filled : d.fills ≡ 0
    pub declared : j < B.write_count i
    pub marked : d.carried j ≡ true
    pub in_turn : marks_below d.carried j ≡ d.carries

  -- No carry is left: as many are done as writes are marked.
  abbrev pub AllCarried : ℕ → Decided X O → Type 0
  AllCarried i d = d.carries ≡ marks_below d.carried (B.write_count i)

  -- What a worker can do once planning is over.
  pub data Executes (p : Plan) (e : Execution X O) : Act → Answer → Execution X O → Type 0 where
    claims : {w i : ℕ} → w < B.workers → i < B.size → e.work w ≡ idle → e.row i ≡ unprocessed
        → Executes p e (claim w i) stepped (with_both e w (reading i 0 []) i (executing w))
    -- read the next declared read
    reads : {w i k : ℕ} {values : List X} {found : Slot} {x : X} → w < B.workers → e.work w ≡ reading i k values
        → k < B.read_count i → Finds p e.contents i (B.read_record i k) found (produced x)
        → Executes p e (advance w) stepped (with_work e w (reading i (suc k) (values ++ (x ∷ []))))
    -- a read that finds its version unproduced waits for the version's begin
    read_waits : {w i k : ℕ} {values : List X} {a j : ℕ} → w < B.workers → e.work w ≡ reading i k values
        → k < B.read_count i → Finds p e.contents i (B.read_record i k) (slot a j) unproduced
        → Executes p e (advance w) (waits_for (p.begin a j)) (dropped e w i)
    -- with no read left, decide
    decides : {w i k : ℕ} {values : List X} → w < B.workers → e.work w ≡ reading i k values
        → B.read_count i ≤ k → 0 < B.write_count i
        → Executes p e (advance w) stepped (with_work e w (decided i (decided_on values (B.decide i values))))
    -- the decision completes a transaction with no writes
    decides_last : {w i k : ℕ} {values : List X} → w < B.workers → e.work w ≡ reading i k values
        → B.read_count i ≤ k → B.write_count i ≡ 0
        → Executes p e (advance w) stepped (completed e w i (B.decide i values).outcome values)
    -- carry the next carried write
    carries : {w i : ℕ} {d : Decided X O} {j : ℕ} {found : Slot} {x : X} → w < B.workers → e.work w ≡ decided i d
        → NextCarry i d j → Finds p e.contents i (B.write_record i j) found (produced x)
        → Executes p e (advance w) stepped (with_work e w (decided i (after_carry d j x)))
    -- a carry that finds its version unproduced waits likewise
    carry_waits : {w i : ℕ} {d : Decided X O} {j a b : ℕ} → w < B.workers → e.work w ≡ decided i d
        → NextCarry i d j → Finds p e.contents i (B.write_record i j) (slot a b) unproduced
        → Executes p e (advance w) (waits_for (p.begin a b)) (dropped e w i)
    -- fill the next write
    fills : {w i : ℕ} {d : Decided X O} → w < B.workers → e.work w ≡ decided i d
        → AllCarried i d → suc d.fills < B.write_count i
        → Executes p e (advance w) stepped
        (with_work (produce e i d.fills (d.contents d.fills)) w (decided i (after_fill d)))
    -- the last fill completes the transaction
    fills_last : {w i : ℕ} {d : Decided X O} → w < B.workers → e.work w ≡ decided i d
        → AllCarried i d → suc d.fills ≡ B.write_count i
        → Executes p e (advance w) stepped
        (completed (produce e i d.fills (d.contents d.fills)) w i d.outcome d.values_read)
    -- a worker is switched off, even between two fills; what it filled stays produced
    abandons : {w i : ℕ} → w < B.workers → held_by (e.work w) ≡ some i
        → Executes p e (abandon w) stepped (dropped e w i)

  -- The steps that the machine accepts, the seal left out. Placing goes on for the transactions known, also while
  -- those placed run.
  pub data Accepted (s : State X O) : Step → Answer → State X O → Type 0 where
    places : {q : ℕ} → q < B.partitions → s.plan.placed q < B.known
        → Accepted s (place q) stepped (record { plan = place_next B s.plan q; execution = s.execution })
    executes : {a : Act} {answer : Answer} {e : Execution X O} → PlanningOver s.plan
        → Executes s.plan s.execution a answer e
        → Accepted s (act a) answer (record { plan = s.plan; execution = e })

  -- The seal asks that every transaction is Complete.
  abbrev pub IsComplete : Row X O → Type 0
  IsComplete unprocessed = ⊥
  IsComplete (executing w) = ⊥
  IsComplete (complete outcome values) = Unit {0}

  abbrev pub AllComplete : State X O → Type 0
  AllComplete s = (i : ℕ) → i < B.size → IsComplete (s.execution.row i)

  -- What the seal takes for record r: what the walk at the position after the last transaction executed finds.
  abbrev pub AtSeal : State X O → ℕ → Slot → Contents X → Type 0
  AtSeal s r found x = Finds s.plan s.execution.contents B.size r found x
