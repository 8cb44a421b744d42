-- What the linking of one write does to the planning invariant.
use Rattle.std.specs.Prelude.{◌≡◌, ◌≢◌, ℕ, suc, ◌<◌}
use Rattle.std.proofs.Math.Path.{refl, sym, subst}
use Rattle.std.proofs.Common.{◌∙◌, arith}
use Rattle.std.proofs.Math.Decide.{ℕ_discrete}
use Rattle.order.specs.Batch.{Batch, Proper}
use Rattle.order.specs.Plan.{Slot, no_slot, slot, Plan, unplanned, end_preceding, link_write}
use Rattle.order.specs.TableLaws.{updated_here, updated_elsewhere, entry_here, entry_elsewhere}
use Rattle.order.specs.Writes.{Spares}
use Rattle.order.specs.LastWrite.{last_write, WriteOf, write_below, last_after_write, last_after_spare, last_known}
use Rattle.order.specs.Invariant.{EndIs, still_last, ended_by, Entry, Linked, Planned}

module _ {X O : Type 0} (B : Batch X O) where
  pub unplanned_planned : Planned B unplanned
  unfolding unplanned last_write
  unplanned_planned = record {
    counts = λ q. omega arith;
    linked = λ r. record { newest_is = refl; entry = λ i j w. absurd (omega (arith, w.earlier)) };
  }

  module _ (ok : Proper B) where
    -- A transaction that does not write a record leaves it linked, for one transaction more.
    pub linked_spared : (p : Plan) (r i : ℕ) → Spares B i r → Linked B p r i → Linked B p r (suc i)
    linked_spared p r i h l = record {
      newest_is = l.newest_is ∙ sym (last_after_spare B ok r i h);
      entry = λ a j w. more a j w (earlier a j w);
    }
      where
        earlier : (a j : ℕ) → WriteOf B r (suc i) a j → WriteOf B r i a j
        earlier a j w = write_below B i (below (ℕ_discrete a i)) w
          where
            below : Dec (a ≡ i) → a < i
            below (yes e) = absurd (h j (rw e at w.declared) (rw e at w.same_record))
            below (no n) = omega (arith, w.earlier)

        end_more : (s : Slot) (end : ℕ) → EndIs B r i s end → EndIs B r (suc i) s end
        end_more s end (still_last e f) = still_last (last_after_spare B ok r i h ∙ e) f
        end_more s end (ended_by b k w e f) =
            ended_by b k (write_below B (suc i) (omega (arith, w.earlier)) w) e f

        more : (a j : ℕ) → WriteOf B r (suc i) a j → WriteOf B r i a j → Entry B p r (suc i) a j
        more a j w v =
            let old : Entry B p r i a j = l.entry a j v in
            record {
              begin_is = old.begin_is;
              previous_is = old.previous_is;
              end_is = end_more (slot a j) (p.end a j) old.end_is;
            }

    -- Write k of transaction i, a write of record r, is linked.
    module _ (p : Plan) (i k : ℕ) (hk : k < B.write_count i) where
      abbrev r : ℕ
      r = B.write_record i k

      module _ (now : Linked B p r i) where
        preceding_kept : (s : Slot) (t a j : ℕ) → slot a j ≢ s → end_preceding s t p.end a j ≡ p.end a j
        preceding_kept no_slot t a j n = refl
        preceding_kept (slot b m) t a j n = entry_elsewhere p.end b m t a j (λ x y. n (cc))

        -- No end changes but that of the preceding version and of the new one.
        end_kept : (a j : ℕ) → (a ≡ i → j ≡ k → ⊥) → slot a j ≢ last_write B r i
            → (link_write B p i k).end a j ≡ p.end a j
        unfolding link_write
        end_kept a j n m =
            entry_elsewhere _ i k _ a j n ∙ preceding_kept (p.newest r) _ a j (λ e. m (e ∙ now.newest_is))

        -- Nothing changes of another record.
        pub link_other : (o c : ℕ) → o ≢ r → Linked B p o c → Linked B (link_write B p i k) o c
        unfolding link_write
        link_other o c n l = record {
          newest_is = updated_elsewhere p.newest r (slot i k) o n ∙ l.newest_is;
          entry = λ a j w. other a j (λ e. n (sym w.same_record ∙ e)) (l.entry a j w);
        }
          where
            other : (a j : ℕ) → B.write_record a j ≢ r → Entry B p o c a j → Entry B (link_write B p i k) o c a j
            other a j m old = record {
              begin_is = entry_elsewhere p.begin i k _ a j itself ∙ old.begin_is;
              previous_is = entry_elsewhere p.previous i k _ a j itself ∙ old.previous_is;
              end_is = subst (EndIs B o c (slot a j)) (sym (end_kept a j itself preceding)) old.end_is;
            }
              where
                itself : a ≡ i → j ≡ k → ⊥
                itself e f = m (rw (e, f))

                preceding : slot a j ≢ last_write B r i
                preceding e = m (last_known B ok r i a j (sym e)).0.same_record

        -- The new version's entry.
        own : Entry B (link_write B p i k) r (suc i) i k
        unfolding link_write
        own = record {
          begin_is = entry_here p.begin i k _;
          previous_is = entry_here p.previous i k _ ∙ now.newest_is;
          end_is = still_last (last_after_write B ok i k hk) (entry_here _ i k _);
        }

        -- An earlier version's end: the preceding version is ended now, every other was ended before.
        earlier_end : (a j : ℕ) → a < i → EndIs B r i (slot a j) (p.end a j)
            → EndIs B r (suc i) (slot a j) ((link_write B p i k).end a j)
        unfolding link_write
        earlier_end a j l (still_last e f) =
            ended_by i k (record { earlier = omega arith; declared = hk; same_record = refl }) e
            (entry_elsewhere _ i k _ a j (λ x y. omega arith) ∙ rw (now.newest_is ∙ e) (entry_here p.end a j _))
        earlier_end a j l (ended_by b m w e f) =
            ended_by b m (write_below B (suc i) (omega (arith, w.earlier)) w) e
            (end_kept a j (λ x y. omega arith) not_preceding ∙ f)
          where
            not_preceding : slot a j ≢ last_write B r i
            not_preceding x =
                let later : a < b = (last_known B ok r b a j e).0.earlier in
                (last_known B ok r i a j (sym x)).1 b later w.earlier m w.declared w.same_record

        -- The record of the write is linked for one transaction more.
        pub link_own : Linked B (link_write B p i k) r (suc i)
        unfolding link_write
        link_own = record {
          newest_is = updated_here p.newest r (slot i k) ∙ sym (last_after_write B ok i k hk);
          entry = λ a j w. which a j w (ℕ_discrete a i);
        }
          where
            which : (a j : ℕ) → WriteOf B r (suc i) a j → Dec (a ≡ i) → Entry B (link_write B p i k) r (suc i) a j
            which a j w (yes e) =
                let declared : j < B.write_count i = rw e at w.declared in
                let same : B.write_record i j ≡ r = rw e at w.same_record in
                rw (e, ok.apart i j k declared hk same) own
            which a j w (no n) =
                let below : a < i = omega (arith, w.earlier) in
                let old : Entry B p r i a j = now.entry a j (write_below B i below w) in
                record {
                  begin_is = entry_elsewhere p.begin i k _ a j (λ e _. n e) ∙ old.begin_is;
                  previous_is = entry_elsewhere p.previous i k _ a j (λ e _. n e) ∙ old.previous_is;
                  end_is = earlier_end a j below old.end_is;
                }
