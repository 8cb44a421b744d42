-- Placing keeps the planning invariant: the writes of the placed transaction are linked one after the other.
use Rattle.std.specs.Prelude.{◌≡◌, ◌≢◌}
use Rattle.std.proofs.Common.{sym, ◌∙◌, ap, subst, arith}
use Prim.Native.Nat.{ℕ, zero, suc, ◌≤◌, ◌<◌}
use Rattle.std.proofs.Math.Decide.{ℕ_discrete}
use Rattle.order.specs.Tables.{updated}
use Rattle.order.specs.Batch.{Batch, Proper}
use Rattle.order.specs.Plan.{Plan, with_placed, link_write, link_writes, place_next}
use Rattle.order.specs.TableLaws.{choose_all, updated_here, updated_elsewhere, updated_all}
use Rattle.order.specs.Invariant.{Entry, Linked, Planned}
use Rattle.order.proofs.Linking.{linked_spared, link_other, link_own}

module _ {X O : Type 0} (B : Batch X O) where
  -- Record r is that of one of the first k writes of transaction i, and partition q has it in its care.
  record Touched (q i k r : ℕ) : Type 0 where
    write : ℕ
    among : write < k
    of_record : B.write_record i write ≡ r
    in_care : B.partition_of r ≡ q

  touched_since : {q i k r : ℕ} → Touched q i k r → Touched q i (suc k) r
  touched_since t =
      record { write = t.write; among = omega (arith, t.among); of_record = t.of_record; in_care = t.in_care }

  -- A record newly touched is that of write k.
  touched_before : {q i k r : ℕ} → (B.write_record i k ≡ r → B.partition_of r ≡ q → ⊥) → Touched q i (suc k) r
      → Touched q i k r
  touched_before {q} {i} {k} {r} n t = record {
    write = t.write;
    among = below (ℕ_discrete t.write k);
    of_record = t.of_record;
    in_care = t.in_care;
  }
    where
      below : Dec (t.write ≡ k) → t.write < k
      below (yes e) = absurd (n (ap (B.write_record i) (sym e) ∙ t.of_record) t.in_care)
      below (no d) = omega (arith, t.among)

  -- Once the first k writes are linked, a touched record is linked for transaction i too, and any other as it was.
  data Stage (p : Plan) (q i k r c : ℕ) : Type 0 where
    touched : Touched q i k r → Linked B p r (suc i) → Stage p q i k r c
    untouched : ¬ Touched q i k r → Linked B p r c → Stage p q i k r c

  with_counts : (p : Plan) (placed : ℕ → ℕ) (r c : ℕ) → Linked B p r c → Linked B (with_placed p placed) r c
  with_counts p placed r c l = record { newest_is = l.newest_is; entry = λ i j w. same (l.entry i j w) }
    where
      same : {i j : ℕ} → Entry B p r c i j → Entry B (with_placed p placed) r c i j
      same e = record { begin_is = e.begin_is; previous_is = e.previous_is; end_is = e.end_is }

  module _ (ok : Proper B) (p : Plan) (q : ℕ) (inv : Planned B p) where
    -- The transaction that is placed, and how many transactions a record is linked for before.
    abbrev i : ℕ
    i = p.placed q

    abbrev count : ℕ → ℕ
    count r = p.placed (B.partition_of r)

    -- Write k is not of partition q: nothing is linked.
    passed : (k r : ℕ) (s : Plan) → B.partition_of (B.write_record i k) ≢ q → Stage s q i k r (count r)
        → Stage s q i (suc k) r (count r)
    passed k r s n (touched t l) = touched (touched_since t) l
    passed k r s n (untouched t l) = untouched (λ u. t (touched_before (λ e f. n (ap B.partition_of e ∙ f)) u)) l

    -- Write k is of partition q: its record was untouched, and is linked now.
    not_yet : (k : ℕ) (s : Plan) → k < B.write_count i → B.partition_of (B.write_record i k) ≡ q
        → Stage s q i k (B.write_record i k) (count (B.write_record i k)) → Linked B s (B.write_record i k) i
    not_yet k s h e (touched t l) =
        let same : t.write ≡ k = ok.apart i t.write k (omega (arith, t.among)) h t.of_record in
        absurd (omega (arith, t.among))
    not_yet k s h e (untouched t l) = subst (Linked B s (B.write_record i k)) (ap p.placed e) l

    linked_now : (k r : ℕ) (s : Plan) → k < B.write_count i → B.partition_of (B.write_record i k) ≡ q
        → Linked B s (B.write_record i k) i → Stage s q i k r (count r) → Dec (r ≡ B.write_record i k)
        → Stage (link_write B s i k) q i (suc k) r (count r)
    linked_now k r s h e own stage (yes x) =
        touched (record { write = k; among = omega arith; of_record = sym x; in_care = ap B.partition_of x ∙ e })
        (rw x (link_own B ok s i k h own))
    linked_now k r s h e own (touched t l) (no n) =
        touched (touched_since t) (link_other B ok s i k h own r (suc i) n l)
    linked_now k r s h e own (untouched t l) (no n) =
        untouched (λ u. t (touched_before (λ x _. n (sym x)) u)) (link_other B ok s i k h own r (count r) n l)

    stages : (k : ℕ) → k ≤ B.write_count i → (r : ℕ) → Stage (link_writes B p q i k) q i k r (count r)
    unfolding link_writes
    stages zero h r = untouched (λ t. omega (arith, t.among)) (inv.linked r)
    stages (suc k) h r =
        choose_all (λ s. Stage s q i (suc k) r (count r)) (ℕ_discrete (B.partition_of (B.write_record i k)) q)
        (link_write B before i k) before
        (λ e. linked_now k r before h e (not_yet k before h e (stages k (omega arith) (B.write_record i k)))
        (stages k (omega arith) r) (ℕ_discrete r (B.write_record i k)))
        (λ n. passed k r before n (stages k (omega arith) r))
      where
        before : Plan
        before = link_writes B p q i k

    -- After the last write, each record is linked as far as the new counts say.
    settled : (r : ℕ) (s : Plan) → Stage s q i (B.write_count i) r (count r) → Dec (B.partition_of r ≡ q)
        → Linked B s r (updated p.placed q (suc i) (B.partition_of r))
    settled r s (touched t l) d = rw (t.in_care, updated_here) l
    settled r s (untouched t l) (yes e) =
        rw (e, updated_here)
        (linked_spared B ok s r i (λ j h x. t (record { write = j; among = h; of_record = x; in_care = e }))
        (subst (Linked B s r) (ap p.placed e) l))
    settled r s (untouched t l) (no n) = rw (updated_elsewhere p.placed q (suc i) (B.partition_of r) n) l

    pub place_planned : p.placed q < B.known → Planned B (place_next B p q)
    unfolding place_next
    place_planned h = record {
      counts = updated_all (λ _ c. c ≤ B.known) p.placed q (suc i) h (λ x _. inv.counts x);
      linked = λ r.
          with_counts (link_writes B p q i (B.write_count i)) (updated p.placed q (suc i)) r
          (updated p.placed q (suc i) (B.partition_of r))
          (settled r (link_writes B p q i (B.write_count i)) (stages (B.write_count i) (omega arith) r)
          (ℕ_discrete (B.partition_of r) q));
    }
