-- A single transaction of the one-by-one run: a declared write becomes what was decided, or stays if it is carried, and
-- no other record changes.
use Rattle.std.specs.Prelude.{◌≡◌, Bool, cond, ◌≢◌}
use Rattle.std.proofs.Math.Path.{refl}
use Rattle.std.proofs.Common.{sym, ◌∙◌}
use Rattle.std.proofs.Math.Bool.{true, false}
use Prim.Native.Nat.{ℕ, zero, suc, ◌≤◌, ◌<◌}
use native.Mathlib.Omega.{arith}
use Rattle.std.proofs.Math.Decide.{ℕ_discrete}
use Rattle.order.specs.Tables.{updated}
use Rattle.order.specs.Batch.{Decision, Batch, Proper}
use Rattle.order.specs.OneByOne.{decision_on, store_writes, records_before, decision_of, leaves}
use Rattle.order.specs.TableLaws.{updated_here, updated_elsewhere}

module _ {X O : Type 0} (B : Batch X O) where
  -- No write of transaction i is of record r.
  abbrev pub Spares : ℕ → ℕ → Type 0
  Spares i r = (j : ℕ) → j < B.write_count i → B.write_record i j ≢ r

  module _ (d : Decision X O) (i : ℕ) (records : ℕ → X) where
    -- The records once the first k writes are stored, and when the next one is, carried or not.
    abbrev stored : ℕ → ℕ → X
    stored k = store_writes B d i k records

    abbrev stored_next : ℕ → Bool → ℕ → X
    stored_next k carried = cond carried (stored k) (updated (stored k) (B.write_record i k) (d.contents k))

    store_spares : (k r : ℕ) → ((j : ℕ) → j < k → B.write_record i j ≢ r) → stored k r ≡ records r
    unfolding store_writes
    store_spares zero r h = refl
    store_spares (suc k) r h = go (d.carried k) (store_spares k r (λ j l. h j (omega arith)))
      where
        go : (carried : Bool) → stored k r ≡ records r → stored_next k carried r ≡ records r
        go true same = same
        go false same =
            updated_elsewhere (stored k) (B.write_record i k) (d.contents k) r (λ e. h k (omega arith) (sym e)) ∙ same

    -- What write j becomes.
    abbrev becomes : ℕ → X
    becomes j = cond (d.carried j) (records (B.write_record i j)) (d.contents j)

    store_written : Proper B → (k : ℕ) → k ≤ B.write_count i → (j : ℕ) → j < k
        → stored k (B.write_record i j) ≡ becomes j
    unfolding store_writes
    store_written ok zero l j h = absurd (omega arith)
    store_written ok (suc k) l j h =
        go (ℕ_discrete j k) (d.carried k) refl (store_written ok k (omega arith) j)
      where
        others : (b : ℕ) → b < k → B.write_record i b ≢ B.write_record i k
        others b g e = let same : b ≡ k = ok.apart i b k (omega arith) l e in omega arith

        go : Dec (j ≡ k) → (carried : Bool) → d.carried k ≡ carried
            → (j < k → stored k (B.write_record i j) ≡ becomes j)
            → stored_next k carried (B.write_record i j) ≡ becomes j
        go (yes e) true m before = rw (e, m) (store_spares k (B.write_record i k) others)
        go (yes e) false m before = rw (e, m) (updated_here (stored k) (B.write_record i k) (d.contents k))
        go (no n) true m before = before (omega arith)
        go (no n) false m before =
            updated_elsewhere (stored k) (B.write_record i k) (d.contents k) (B.write_record i j)
            (others j (omega arith)) ∙ before (omega arith)

  -- Only declared writes change.
  pub spared : (i r : ℕ) → Spares i r → records_before B (suc i) r ≡ records_before B i r
  unfolding records_before
  spared i r h = store_spares (decision_on B (records_before B i) i) i (records_before B i) (B.write_count i) r h

  -- A declared write becomes what was decided, or stays if it is carried.
  pub written : Proper B → (i j : ℕ) → j < B.write_count i → leaves B i j
      ≡ cond ((decision_of B i).carried j) (records_before B i (B.write_record i j)) ((decision_of B i).contents j)
  unfolding leaves records_before decision_of
  written ok i j h =
      store_written (decision_on B (records_before B i) i) i (records_before B i) ok (B.write_count i) (omega arith) j h
