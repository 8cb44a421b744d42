-- Laws of refusal 14.
use Rattle.std.specs.Prelude.{ℕ, ◌+◌, ◌^◌, ◌≤◌, ◌<◌, Bool, true, false, ◌&&◌, ◌||◌, not, []}
use Rattle.std.specs.Prelude.{◌∷◌, ◌≡◌, refl, ltb, leb, eqb}
use Rattle.std.specs.Prelude.{Option, None, Some, is_some}
use Rattle.std.specs.Option.{SomeIff}
use Rattle.std.proofs.Math.Decide.{dec_lt}
use Rattle.std.proofs.Common.{sym, arith, lt-ltb, le-ltb, ltb-false, leb-false}
use Rattle.packed.specs.LawsAccepted.{joined, none_of}
use Rattle.packed.specs.LawsForm.{not_left, not_right}
use Rattle.terms.specs.Reserved.{no_end}
use Rattle.engine.specs.Counting.{some_below}
use Rattle.engine.specs.LawsCounting.{none_below}
use Rattle.engine.specs.LawsRefused.{never}
use Rattle.engine.specs.Range.{numbers_wrong, placed_wrong, worker_wrong, row_wrong, out_of_range}
use Rattle.engine.specs.Range.{placed_by, row_at, worker_at}
use Rattle.engine.specs.Rows.{executing_by}
use Rattle.engine.specs.Workers.{is_idle, count_above}
use Rattle.engine.specs.declared.State.{State}

-- a sum that has no place in 64 bits
pub past_the_end : (sum : Option ℕ) (none : Bool) (total : ℕ) → SomeIff sum (total < 2 ^ 64) total
    → is_some sum ≡ not none → none ≡ ltb no_end total
past_the_end None true total past told = go (dec_lt no_end total)
  where
    go : Dec (no_end < total) → true ≡ ltb no_end total
    go (yes above) = rw (lt-ltb no_end total above) refl
    go (no within) = absurd (past (omega arith))
past_the_end (Some sum) false total fits told = rw (le-ltb no_end total (omega (arith, fits.0))) refl
past_the_end None false total past told = never told
past_the_end (Some sum) true total fits told = never (sym told)

-- what a state has that is not out of range
pub record InRange (s : State) : Type 0 where
  pub some_record : 1 ≤ s.records
  pub few_records : s.records ≤ 1024
  pub some_partition : 1 ≤ s.partitions
  pub few_partitions : s.partitions ≤ 8
  pub some_worker : 1 ≤ s.workers
  pub few_workers : s.workers ≤ 8
  pub few_transactions : s.size ≤ 64
  pub some_position : 1 ≤ s.next.0
  pub positions_last : s.next.0 + s.size ≤ no_end
  pub batch_below : s.batch.0 < s.next.0
  pub placed : (p : ℕ) → p < 8 → placed_wrong s p ≡ false
  pub crew : (w : ℕ) → w < 8 → worker_wrong s w ≡ false
  pub rows : (i : ℕ) → i < 64 → row_wrong s i ≡ false

pub in_range : (s : State) → out_of_range s ≡ false → InRange s
unfolding out_of_range numbers_wrong joined
in_range s none =
    let records = ltb s.records 1 || ltb 1024 s.records in
    let partitions = ltb s.partitions 1 || ltb 8 s.partitions in
    let workers = ltb s.workers 1 || ltb 8 s.workers in
    let tables = some_below 8 (placed_wrong s) ∷ some_below 8 (worker_wrong s) ∷ some_below 64 (row_wrong s) ∷ [] in
    let positions =
    eqb s.next.0 0 ∷ ltb no_end (s.next.0 + s.size) ∷ leb s.next.0 s.batch.0 ∷ [] in
    let numbers = none_of (numbers_wrong s) tables 0 none in
    let faults = partitions ∷ workers ∷ ltb 64 s.size ∷ positions in
    let number = none_of records faults 0 numbers in
    let partition = none_of records faults 1 numbers in
    let worker = none_of records faults 2 numbers in
    let below = leb-false s.next.0 s.batch.0 (none_of records faults 6 numbers) in
    record {
      some_record = ltb-false s.records 1 (not_left (ltb s.records 1) (ltb 1024 s.records) number);
      few_records = ltb-false 1024 s.records (not_right (ltb s.records 1) (ltb 1024 s.records) number);
      some_partition =
          ltb-false s.partitions 1 (not_left (ltb s.partitions 1) (ltb 8 s.partitions) partition);
      few_partitions =
          ltb-false 8 s.partitions (not_right (ltb s.partitions 1) (ltb 8 s.partitions) partition);
      some_worker = ltb-false s.workers 1 (not_left (ltb s.workers 1) (ltb 8 s.workers) worker);
      few_workers = ltb-false 8 s.workers (not_right (ltb s.workers 1) (ltb 8 s.workers) worker);
      few_transactions = ltb-false 64 s.size (none_of records faults 3 numbers);
      some_position = omega (arith, below);
      positions_last = ltb-false no_end (s.next.0 + s.size) (none_of records faults 5 numbers);
      batch_below = below;
      placed = none_below 8 (placed_wrong s) (none_of (numbers_wrong s) tables 1 none);
      crew = none_below 8 (worker_wrong s) (none_of (numbers_wrong s) tables 2 none);
      rows = none_below 64 (row_wrong s) (none_of (numbers_wrong s) tables 3 none);
    }

-- a partition has placed at most all
pub placed_most : (s : State) → InRange s → (p : ℕ) → p < 8 → placed_by s p ≤ s.size
placed_most s ranged p there =
    ltb-false s.size (placed_by s p)
    (not_left (ltb s.size (placed_by s p)) (leb s.partitions p && not (eqb (placed_by s p) 0))
    (ranged.placed p there))

-- a worker that is not idle holds a transaction of the batch
pub holds_below : (s : State) → InRange s → (w : ℕ) → w < 8 → is_idle (worker_at s w) ≡ false
    → (worker_at s w).transaction < s.size
unfolding joined
holds_below s ranged w there busy =
    let worker = worker_at s w in
    let faults =
    leb s.size worker.transaction
    ∷ count_above worker
    ∷ not (executing_by (row_at s worker.transaction) w)
    ∷ [] in
    let none = rw busy at (ranged.crew w there) in
    leb-false s.size worker.transaction (none_of (leb s.workers w) faults 1 none)
