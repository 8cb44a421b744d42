-- How the execution invariant is kept when a version is produced, a worker goes on, or a worker takes up or lays down
-- a transaction.
use Rattle.std.specs.Prelude.{◌≡◌, refl, ◌≢◌}
use Rattle.std.proofs.Common.{sym, ◌∙◌, arith}
use Rattle.std.proofs.Math.Path.{ap}
use Rattle.std.proofs.Math.Option.{some}
use Prim.Native.Nat.{ℕ, ◌≤◌, ◌<◌}
use Rattle.order.specs.Tables.{updated, updated_entry}
use Rattle.order.specs.Batch.{Batch}
use Rattle.order.specs.OneByOne.{leaves}
use Rattle.order.specs.Machine.{Contents, unproduced, produced, Row, unprocessed, executing, complete, Work, idle}
use Rattle.order.specs.Machine.{reading, decided, Execution, held_by, produce, with_work, with_both}
use Rattle.order.specs.TableLaws.{updated_here, updated_elsewhere, updated_all, entry_all}
use Rattle.order.specs.Invariant.{IsProduced, VersionRight, RowRight, WorkRight, ExecutionRight}

module _ {X O : Type 0} (B : Batch X O) where
  -- More versions produced: what was right stays right.
  module _ (before after : ℕ → ℕ → Contents X)
      (grows : (i j : ℕ) → IsProduced (before i j) → IsProduced (after i j)) where
    row_grows : (i : ℕ) (row : Row X O) → RowRight B before i row → RowRight B after i row
    row_grows i unprocessed h = tt
    row_grows i (executing w) h = tt
    row_grows i (complete outcome values) h = record {
      outcome_is = h.outcome_is;
      values_are = h.values_are;
      all_produced = λ j l. grows i j (h.all_produced j l);
    }

    work_grows : (work : Work X O) → WorkRight B before work → WorkRight B after work
    work_grows idle h = tt
    work_grows (reading i k values) h = h
    work_grows (decided i d) h = record {
      values_are = h.values_are;
      outcome_is = h.outcome_is;
      fill_left = h.fill_left;
      marks_are = h.marks_are;
      contents_are = h.contents_are;
      carried_are = h.carried_are;
      carries_fit = h.carries_fit;
      filled = λ j l. grows i j (h.filled j l);
      carried_first = h.carried_first;
    }

  pub produced_grows : (contents : ℕ → ℕ → Contents X) (i j : ℕ) (x : X) (a b : ℕ) → IsProduced (contents a b)
      → IsProduced (updated_entry contents i j (produced x) a b)
  produced_grows contents i j x =
      entry_all (λ a b y. IsProduced (contents a b) → IsProduced y) contents i j (produced x) (λ _. tt) (λ a b _ h. h)

  -- A version is produced, with what the run leaves in it.
  pub produce_keeps : (e : Execution X O) (i j : ℕ) (x : X) → i < B.size → x ≡ leaves B i j
      → ExecutionRight B e → ExecutionRight B (produce e i j x)
  unfolding produce
  produce_keeps e i j x below h inv = record {
    versions = entry_all (VersionRight B) e.contents i j (produced x) h (λ a b _. inv.versions a b);
    beyond =
        entry_all (λ a _ y. B.size ≤ a → y ≡ unproduced) e.contents i j (produced x) (λ l. absurd (omega arith))
        (λ a b _. inv.beyond a b);
    rows = λ a. row_grows e.contents after (produced_grows e.contents i j x) a (e.row a) (inv.rows a);
    works = λ w. work_grows e.contents after (produced_grows e.contents i j x) (e.work w) (inv.works w);
    held = inv.held;
    holder = inv.holder;
  }
    where
      after : ℕ → ℕ → Contents X
      after = updated_entry e.contents i j (produced x)

  -- A worker goes on with the transaction that it holds.
  pub work_keeps : (e : Execution X O) (w : ℕ) (work : Work X O) → held_by work ≡ held_by (e.work w)
      → WorkRight B e.contents work → ExecutionRight B e → ExecutionRight B (with_work e w work)
  unfolding with_work
  work_keeps e w work h g inv = record {
    versions = inv.versions;
    beyond = inv.beyond;
    rows = inv.rows;
    works = updated_all (λ _ y. WorkRight B e.contents y) e.work w work g (λ v _. inv.works v);
    held = λ i v r. ((inv.held i v r).0, same v ∙ (inv.held i v r).1);
    holder = λ v i r. inv.holder v i (sym (same v) ∙ r);
  }
    where
      same : (v : ℕ) → held_by (updated e.work w work v) ≡ held_by (e.work v)
      same = updated_all (λ v y. held_by y ≡ held_by (e.work v)) e.work w work h (λ v _. refl)

  -- Worker w takes up or lays down transaction i: before, nobody else holds i and w holds nothing else; afterwards
  -- likewise.
  pub record Handover (e : Execution X O) (w : ℕ) (work : Work X O) (i : ℕ) (row : Row X O) : Type 0 where
    pub nobody_else : (v : ℕ) → e.row i ≡ executing v → v ≡ w
    pub nothing_else : (a : ℕ) → held_by (e.work w) ≡ some a → a ≡ i
    pub row_right : RowRight B e.contents i row
    pub work_right : WorkRight B e.contents work
    pub held_after : (v : ℕ) → row ≡ executing v → (v < B.workers) × (v ≡ w) × (held_by work ≡ some i)
    pub holder_after : (a : ℕ) → held_by work ≡ some a → (a < B.size) × (a ≡ i) × (row ≡ executing w)

  pub both_keeps : (e : Execution X O) (w : ℕ) (work : Work X O) (i : ℕ) (row : Row X O) → Handover e w work i row
      → ExecutionRight B e → ExecutionRight B (with_both e w work i row)
  unfolding with_both
  both_keeps e w work i row h inv = record {
    versions = inv.versions;
    beyond = inv.beyond;
    rows = updated_all (RowRight B e.contents) e.row i row h.row_right (λ a _. inv.rows a);
    works = updated_all (λ _ y. WorkRight B e.contents y) e.work w work h.work_right (λ v _. inv.works v);
    held = updated_all
        (λ a y. (v : ℕ) → y ≡ executing v → (v < B.workers) × (held_by (updated e.work w work v) ≡ some a))
        e.row i row (λ v x. let k = h.held_after v x in (k.0, rw (k.1, updated_here) k.2)) held_elsewhere;
    holder = updated_all
        (λ v y. (a : ℕ) → held_by y ≡ some a → (a < B.size) × (updated e.row i row a ≡ executing v))
        e.work w work (λ a x. let k = h.holder_after a x in (k.0, rw (k.1, updated_here) k.2))
        holder_elsewhere;
  }
    where
      held_elsewhere : (a : ℕ) → a ≢ i → (v : ℕ) → e.row a ≡ executing v
          → (v < B.workers) × (held_by (updated e.work w work v) ≡ some a)
      held_elsewhere a n v x =
          let k = inv.held a v x in
          let other : v ≢ w = λ y. n (h.nothing_else a (ap (λ z. held_by (e.work z)) (sym y) ∙ k.1)) in
          (k.0, ap held_by (updated_elsewhere e.work w work v other) ∙ k.1)

      holder_elsewhere : (v : ℕ) → v ≢ w → (a : ℕ) → held_by (e.work v) ≡ some a
          → (a < B.size) × (updated e.row i row a ≡ executing v)
      holder_elsewhere v n a x =
          let k = inv.holder v a x in
          let other : a ≢ i = λ y. n (h.nobody_else v (ap e.row (sym y) ∙ k.1)) in
          (k.0, updated_elsewhere e.row i row a other ∙ k.1)
