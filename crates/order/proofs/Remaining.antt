-- What is left to do, as a number: how many steps the batch can still take if no worker waits. A placing, a claim and
-- an advance lower it; a wait raises it by at most 9.
use Rattle.std.specs.Prelude.{◌≡◌, ◌≢◌, ℕ, ◌+◌, ◌-◌, ◌*◌, ◌≤◌, ◌<◌}
use Rattle.std.proofs.Math.Path.{refl, ap}
use Rattle.std.proofs.Common.{sym, ◌∙◌, arith}
use Rattle.std.proofs.Math.Option.{some}
use Rattle.order.specs.Tables.{updated, marks_below}
use Rattle.order.specs.Batch.{Batch, Proper}
use Rattle.order.specs.Plan.{Plan}
use Rattle.order.specs.Machine.{Row, unprocessed, executing, complete, Decided, Work, idle, reading, decided}
use Rattle.order.specs.Machine.{Execution, State, held_by, with_work, with_both}
use Rattle.order.specs.TableLaws.{updated_here, updated_elsewhere, marks_le}
use Rattle.order.specs.Invariant.{ExecutionRight}
use Rattle.order.proofs.Sums.{sum_below, sum_at, sum_le, sum_lt}

module _ {X O : Type 0} (B : Batch X O) where
  -- The carries still to be done.
  abbrev pub carries_left : ℕ → Decided X O → ℕ
  carries_left i d = marks_below d.carried (B.write_count i) - d.carries

  -- A worker that reads has at most the reads left, 1 decision, 4 carries and 4 fills before it; one that has
  -- decided, its carries and fills.
  abbrev pub work_left : Work X O → ℕ
  work_left idle = 0
  work_left (reading i k values) = 13 - k
  work_left (decided i d) = carries_left i d + (4 - d.fills)

  -- An Unprocessed transaction takes a claim and 13 advances at most: 4 reads, 1 decision, 4 carries, 4 fills.
  abbrev pub row_left : (ℕ → Work X O) → Row X O → ℕ
  row_left work unprocessed = 14
  row_left work (executing w) = work_left (work w)
  row_left work (complete outcome values) = 0

  -- What is left of execution, of planning, and altogether.
  unfoldable pub steps_left : Execution X O → ℕ
  steps_left e = sum_below B.size (λ i. row_left e.work (e.row i))

  unfoldable pub places_left : Plan → ℕ
  places_left p = sum_below B.partitions (λ q. B.size - p.placed q)

  abbrev pub remaining : State X O → ℕ
  remaining s = places_left s.plan + steps_left s.execution

  -- A change of worker w and row i alone changes what is left of transaction i alone.
  left_at : (e f : Execution X O) (w i : ℕ) → i < B.size → ExecutionRight B e
      → ((a : ℕ) → held_by (e.work w) ≡ some a → a ≡ i)
      → ((a : ℕ) → a ≢ i → f.row a ≡ e.row a) → ((v : ℕ) → v ≢ w → f.work v ≡ e.work v)
      → steps_left f + row_left e.work (e.row i) ≡ steps_left e + row_left f.work (f.row i)
  unfolding steps_left
  left_at e f w i l inv only same_row same_work =
      sum_at B.size (λ a. row_left f.work (f.row a)) (λ a. row_left e.work (e.row a)) i l
      (λ a n. rw (same_row a n) (go a n (e.row a) refl))
    where
      go : (a : ℕ) → a ≢ i → (row : Row X O) → e.row a ≡ row → row_left f.work row ≡ row_left e.work row
      go a n unprocessed h = refl
      go a n (executing v) h =
          ap work_left (same_work v (λ x. n (only a (ap (λ y. held_by (e.work y)) (sym x) ∙ (inv.held a v h).1))))
      go a n (complete outcome values) h = refl

  -- A busy worker goes on.
  pub left_work : (e : Execution X O) (w i : ℕ) (work more : Work X O) → e.work w ≡ work → held_by work ≡ some i
      → ExecutionRight B e → steps_left (with_work e w more) + work_left work ≡ steps_left e + work_left more
  unfolding with_work
  left_work e w i work more now holds inv =
      let held : held_by (e.work w) ≡ some i = ap held_by now ∙ holds in
      let mine : e.row i ≡ executing w = (inv.holder w i held).1 in
      rw (mine, updated_here, now) at
      (left_at e (with_work e w more) w i (inv.holder w i held).0 inv (λ a x. (cc)) (λ a _. refl)
      (λ v n. updated_elsewhere e.work w more v n))

  -- A worker takes up or lays down transaction i.
  pub left_both : (e : Execution X O) (w i : ℕ) (work : Work X O) (row : Row X O) → i < B.size
      → ((a : ℕ) → held_by (e.work w) ≡ some a → a ≡ i) → ExecutionRight B e
      → steps_left (with_both e w work i row) + row_left e.work (e.row i)
      ≡ steps_left e + row_left (updated e.work w work) row
  unfolding with_both
  left_both e w i work row l only inv =
      rw updated_here at
      (left_at e (with_both e w work i row) w i l inv only (λ a n. updated_elsewhere e.row i row a n)
      (λ v n. updated_elsewhere e.work w work v n))

  pub left_laid : (e : Execution X O) (w i : ℕ) (row : Row X O) (work : Work X O) → e.work w ≡ work
      → held_by work ≡ some i → ExecutionRight B e
      → steps_left (with_both e w idle i row) + work_left work ≡ steps_left e + row_left (updated e.work w idle) row
  left_laid e w i row work now holds inv =
      let held : held_by (e.work w) ≡ some i = ap held_by now ∙ holds in
      let mine : e.row i ≡ executing w = (inv.holder w i held).1 in
      rw (mine, now) at (left_both e w i idle row (inv.holder w i held).0 (λ a x. (cc)) inv)

  pub laid_idle : (e : Execution X O) (w i : ℕ) (row : Row X O) → (with_both e w idle i row).work w ≡ idle
  unfolding with_both
  laid_idle e w i row = updated_here e.work w idle

  -- What is left at most: for planning, and for execution.
  pub places_at_most : (p : Plan) → places_left p ≤ B.partitions * B.size
  unfolding places_left
  places_at_most p = sum_le B.partitions B.size (λ q. B.size - p.placed q) (λ q _. omega arith)

  module _ (ok : Proper B) (e : Execution X O) (inv : ExecutionRight B e) where
    -- A transaction has at most 14 steps before it, and at most 13 once it is held.
    held_left : (work : Work X O) → work_left work < 14
    held_left idle = omega arith
    held_left (reading i k values) = omega arith
    held_left (decided i d) = omega (arith, marks_le d.carried (B.write_count i), ok.few_writes i)

    row_left_lem : (row : Row X O) → row_left e.work row ≤ 14
    row_left_lem unprocessed = omega arith
    row_left_lem (executing w) = omega (arith, held_left (e.work w))
    row_left_lem (complete outcome values) = omega arith

    pub left_at_most : steps_left e ≤ B.size * 14
    unfolding steps_left
    left_at_most = sum_le B.size 14 (λ a. row_left e.work (e.row a)) (λ a _. row_left_lem (e.row a))

    pub left_if_busy : (w i : ℕ) → held_by (e.work w) ≡ some i → steps_left e < B.size * 14
    unfolding steps_left
    left_if_busy w i h =
        let mine : e.row i ≡ executing w = (inv.holder w i h).1 in
        sum_lt B.size 14 (λ a. row_left e.work (e.row a)) i (inv.holder w i h).0
        (rw mine (held_left (e.work w))) (λ a _. row_left_lem (e.row a))
