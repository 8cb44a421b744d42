-- The one-by-one run: the transactions singly, in order, on the records; no versions, workers, slots or marks.
-- Definitions only.
use Rattle.std.specs.Prelude.{cond, List, ℕ, zero, suc}
use Rattle.order.specs.Tables.{updated, first_values}
use Rattle.order.specs.Batch.{Decision, Batch}

module _ {X O : Type 0} (B : Batch X O) where
  -- The values of transaction i's first k reads, in the records given.
  unfoldable pub values_at : (ℕ → X) → ℕ → ℕ → List X
  values_at records i k = first_values (λ read. records (B.read_record i read)) k

  -- What transaction i decides on the records given.
  unfoldable pub decision_on : (ℕ → X) → ℕ → Decision X O
  decision_on records i = B.decide i (values_at records i (B.read_count i))

  -- The records after the first k writes of transaction i, decided as d: a carried write leaves its record as it is.
  unfoldable pub store_writes : Decision X O → ℕ → ℕ → (ℕ → X) → ℕ → X
  store_writes d i zero records = records
  store_writes d i (suc k) records =
      let earlier : ℕ → X = store_writes d i k records in
      cond (d.carried k) earlier (updated earlier (B.write_record i k) (d.contents k))

  -- The records just before transaction i: the stored records before the first, and then what each leaves.
  unfoldable pub records_before : ℕ → ℕ → X
  records_before zero = B.stored
  records_before (suc i) =
      let before : ℕ → X = records_before i in
      store_writes (decision_on before i) i (B.write_count i) before

  -- The first k values that transaction i reads, all that it reads, and what it decides.
  unfoldable pub values_read_to : ℕ → ℕ → List X
  values_read_to i k = values_at (records_before i) i k

  unfoldable pub values_read : ℕ → List X
  values_read i = values_read_to i (B.read_count i)

  unfoldable pub decision_of : ℕ → Decision X O
  decision_of i = decision_on (records_before i) i

  -- What transaction i leaves in its write j.
  unfoldable pub leaves : ℕ → ℕ → X
  leaves i j = records_before (suc i) (B.write_record i j)
