-- In a state that the engine reaches, refusal 14 does not arise: every number is in range, and workers and
-- transactions fit each other.
use Rattle.std.specs.Prelude.{ℕ, ◌+◌, ◌≤◌, ◌<◌, true, false, ◌&&◌, ◌||◌, not, ◌≡◌, refl, List, ltb, leb, eqb, length}
use Rattle.std.proofs.Math.Option.{some}
use Rattle.std.proofs.Common.{ap, ◌∙◌, arith, lt-ltb, le-ltb, eq-eqb, ne_eqb}
use Rattle.std.proofs.Math.Decide.{dec_lt}
use Rattle.std.proofs.lemmas.Bool.{lt-leb}
use Rattle.terms.specs.Reserved.{no_end}
use Rattle.counters.specs.declared.Outcome.{Outcome}
use Rattle.engine.specs.Range.{row_at, worker_at, placed_by, numbers_wrong, placed_wrong, worker_wrong, holds, not_held}
use Rattle.engine.specs.Range.{row_wrong, out_of_range}
use Rattle.engine.specs.Rows.{executing_by}
use Rattle.engine.specs.Workers.{is_idle, count_above}
use Rattle.engine.specs.declared.State.{State}
use Rattle.engine.specs.declared.Worker.{Worker}
use Rattle.order.specs.Batch as order
use Rattle.order.specs.Invariant as invariant
use Rattle.order.specs.Machine as machine
use Rattle.order.specs.OneByOne.{records_before, values_at, values_read_to, values_read}
use Rattle.order.specs.TableLaws.{clash, length_first, marks_le}
use Rattle.ordered.specs.Chains.{right_fails, none_holds}
use Rattle.ordered.specs.Describing.{Describes, Numbers}
use Rattle.ordered.specs.Relation.{RowIs, WorkIs, Fixed, Stands}
use Rattle.engine.specs.Running.{Engine}

-- a transaction reads as many values as it declares reads
pub values_length : (B : order.Batch ℕ Outcome) (i : ℕ) → length (values_read B i) ≡ B.read_count i
unfolding values_read values_read_to values_at
values_length B i = length_first (λ read. records_before B i (B.read_record i read)) (B.read_count i)

-- the numbers
numbers_right : (o s : State) → Numbers o → Fixed o s → numbers_wrong s ≡ false
unfolding numbers_wrong
numbers_right o s n fixed =
    rw (
      fixed.records_fixed,
      fixed.partitions_fixed,
      fixed.workers_fixed,
      fixed.size_fixed,
      fixed.next_fixed,
      fixed.batch_fixed,
      le-ltb o.records 1 n.some_record,
      le-ltb 1024 o.records n.few_records,
      le-ltb o.partitions 1 n.some_partition,
      le-ltb 8 o.partitions n.few_partitions,
      le-ltb o.workers 1 n.some_worker,
      le-ltb 8 o.workers n.few_workers,
      le-ltb 64 o.size n.few_transactions,
      ne_eqb o.next.0 0 (λ zero. absurd (omega (arith, n.batch_below))),
      le-ltb no_end (o.next.0 + o.size) n.positions_last,
      lt-leb o.next.0 o.batch.0 n.batch_below,
    )

module _ (B : order.Batch ℕ Outcome) (o : State) (log stored : List ℕ) (d : Describes B o log stored)
    (e : Engine) (m : machine.State ℕ Outcome) (stands : Stands o stored e m) (sound : invariant.Sound B m) where
  -- a partition has placed at most all
  pub placed_most : (p : ℕ) → p < o.partitions → placed_by e.state p ≤ o.size
  placed_most p there =
      omega (arith, stands.placed_are p there, sound.planned.counts p, d.known_is)

  placed_right : (p : ℕ) → placed_wrong e.state p ≡ false
  placed_right p = rw (stands.fixed.size_fixed, stands.fixed.partitions_fixed) (go (dec_lt p o.partitions))
    where
      go : Dec (p < o.partitions)
          → (ltb o.size (placed_by e.state p) || (leb o.partitions p && not (eqb (placed_by e.state p) 0)))
          ≡ false
      go (yes there) =
          rw (le-ltb o.size (placed_by e.state p) (placed_most p there), lt-leb o.partitions p there)
      go (no past) =
          let none : placed_by e.state p ≡ 0 = stands.placed_past p (omega arith) in
          let few : ltb o.size (placed_by e.state p) ≡ false =
          le-ltb o.size (placed_by e.state p) (omega arith) in
          rw (few, eq-eqb (placed_by e.state p) 0 none) (right_fails (leb o.partitions p) false refl)

  -- what a worker holds is Executing by it
  pub executes : (w i : ℕ) → machine.held_by (m.execution.work w) ≡ some i
      → (i < o.size) × (executing_by (row_at e.state i) w ≡ true)
  executes w i held =
      let holder = sound.execution_right.holder w i held in
      let below : i < o.size = omega (arith, holder.0, d.size_is) in
      (below, go (m.execution.row i) holder.1 (stands.rows_are i below))
    where
      go : (row : machine.Row ℕ Outcome) → row ≡ machine.executing w → RowIs (row_at e.state i) e.results i row
          → executing_by (row_at e.state i) w ≡ true
      go machine.unprocessed is_executing is_row = absurd (clash (cc))
      go (machine.executing v) is_executing is_row =
          let same : v ≡ w = cc in
          rw (is_row, same) (eq-eqb w w refl)
      go (machine.complete outcome values) is_executing is_row = absurd (clash (cc))

  -- the counts of a worker are at most 4
  few_counts : (w : ℕ) (work : machine.Work ℕ Outcome) → WorkIs (worker_at e.state w) work
      → invariant.WorkRight B m.execution.contents work → count_above (worker_at e.state w) ≡ false
  few_counts w machine.idle is right = rw is
  few_counts w (machine.reading i k values) is right =
      rw is.phase_is (le-ltb 4 k (omega (arith, right.within, d.proper.few_reads i)))
  few_counts w (machine.decided i x) is right =
      let values_length : length x.values_read ≡ B.read_count i = ap length right.values_are ∙ values_length B i in
      let few_values : length x.values_read ≤ 4 = omega (arith, values_length, d.proper.few_reads i) in
      let few_carries : x.carries ≤ 4 =
      omega (arith, right.carries_fit, marks_le x.carried (B.write_count i), d.proper.few_writes i) in
      let few_fills : x.fills ≤ 4 = omega (arith, right.fill_left, d.proper.few_writes i) in
      rw (
        is.phase_is,
        le-ltb 4 (length x.values_read) few_values,
        le-ltb 4 x.carries few_carries,
        le-ltb 4 x.fills few_fills,
      )

  -- a worker that holds something is not idle, and holds that
  pub busy : (worker : Worker) (i : ℕ) (work : machine.Work ℕ Outcome) → machine.held_by work ≡ some i
      → WorkIs worker work → (is_idle worker ≡ false) × (worker.transaction ≡ i)
  busy worker i machine.idle held is = absurd (clash (cc))
  busy worker i (machine.reading a k values) held is =
      let same : a ≡ i = cc in
      (rw is.phase_is, is.transaction_is ∙ same)
  busy worker i (machine.decided a x) held is =
      let same : a ≡ i = cc in
      (rw is.phase_is, is.transaction_is ∙ same)

  -- workers
  worker_right : (w : ℕ) → worker_wrong e.state w ≡ false
  worker_right w =
      rw (stands.fixed.workers_fixed, stands.fixed.size_fixed) (go (dec_lt w o.workers))
    where
      worker : Worker
      worker = worker_at e.state w

      Right : Type 0
      Right =
          (not (is_idle worker)
          && (leb o.workers w
          || leb o.size worker.transaction
          || count_above worker
          || not (executing_by (row_at e.state worker.transaction) w)))
          ≡ false

      holding : (i : ℕ) → w < o.workers → machine.held_by (m.execution.work w) ≡ some i → Right
      holding i there held =
          let holds_it = busy worker i (m.execution.work w) held (stands.crew_are w there) in
          let executing = executes w i held in
          let few = few_counts w (m.execution.work w) (stands.crew_are w there) (sound.execution_right.works w) in
          rw (
            holds_it.0,
            lt-leb o.workers w there,
            holds_it.1,
            few,
            lt-leb o.size i executing.0,
            executing.1,
          )

      cases : (work : machine.Work ℕ Outcome) → w < o.workers → m.execution.work w ≡ work → WorkIs worker work
          → Right
      cases machine.idle there same is = rw is
      cases (machine.reading i k values) there same is = holding i there (rw same)
      cases (machine.decided i x) there same is = holding i there (rw same)

      go : Dec (w < o.workers) → Right
      go (yes there) = cases (m.execution.work w) there refl (stands.crew_are w there)
      go (no past) = rw (stands.crew_past w (omega arith))

  -- rows
  row_right : (i : ℕ) → row_wrong e.state i ≡ false
  row_right i = go (dec_lt i o.size)
    where
      Right : Type 0
      Right = (ltb i e.state.size && not_held e.state i (row_at e.state i).progress) ≡ false

      cases : (row : machine.Row ℕ Outcome) → m.execution.row i ≡ row → RowIs (row_at e.state i) e.results i row
          → Right
      cases machine.unprocessed same is = rw is (right_fails (ltb i e.state.size) false refl)
      cases (machine.complete outcome values) same is = rw is.0 (right_fails (ltb i e.state.size) false refl)
      cases (machine.executing w) same is =
          let held = sound.execution_right.held i w same in
          let there : w < o.workers = omega (arith, held.0, d.workers_is) in
          let holds_it = busy (worker_at e.state w) i (m.execution.work w) held.1 (stands.crew_are w there) in
          let below : w < 8 = omega (arith, d.numbers.few_workers) in
          let holder : holds e.state w i ≡ true =
          rw (lt-ltb w 8 below, holds_it.0, holds_it.1) (eq-eqb i i refl) in
          rw (is, holder) (right_fails (ltb i e.state.size) false refl)

      go : Dec (i < o.size) → Right
      go (yes below) = cases (m.execution.row i) refl (stands.rows_are i below)
      go (no past) = rw (le-ltb i e.state.size (omega arith))

  -- 14 does not arise
  pub in_range : out_of_range e.state ≡ false
  unfolding out_of_range
  in_range =
      rw (
        numbers_right o e.state d.numbers stands.fixed,
        none_holds 8 (placed_wrong e.state) (λ p below. placed_right p),
        none_holds 8 (worker_wrong e.state) (λ w below. worker_right w),
        none_holds 64 (row_wrong e.state) (λ i below. row_right i),
      )
