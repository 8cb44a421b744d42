-- The last write of a record before a transaction, and the serial law: the records of the one-by-one run are the last
-- writes.
use Rattle.std.specs.Prelude.{◌≡◌, refl, ◌≢◌}
use Rattle.std.proofs.Common.{sym, ◌∙◌, subst, arith}
use Prim.Native.Nat.{ℕ, zero, suc, ◌≤◌, ◌<◌}
use Rattle.std.proofs.Math.Decide.{ℕ_discrete, dec_lt}
use Rattle.order.specs.Tables.{choose}
use Rattle.order.specs.Batch.{Batch, Proper}
use Rattle.order.specs.OneByOne.{records_before}
use Rattle.order.specs.Plan.{Slot, no_slot, slot}
use Rattle.order.specs.TableLaws.{choose_all}
use Rattle.order.specs.Writes.{Spares, spared}

module _ {X O : Type 0} (B : Batch X O) where
  -- The slot of record r among the first k writes of transaction i, or else the earlier one given.
  unfoldable pub slot_among : ℕ → ℕ → ℕ → Slot → Slot
  slot_among i r zero earlier = earlier
  slot_among i r (suc k) earlier = choose (ℕ_discrete (B.write_record i k) r) (slot i k) (slot_among i r k earlier)

  -- The last write of record r by a transaction below i.
  unfoldable pub last_write : ℕ → ℕ → Slot
  last_write r zero = no_slot
  last_write r (suc i) = slot_among i r (B.write_count i) (last_write r i)

  -- Write j of transaction i is a write of record r, and i is below c.
  pub record WriteOf (r c i j : ℕ) : Type 0 where
    pub earlier : i < c
    pub declared : j < B.write_count i
    pub same_record : B.write_record i j ≡ r

  -- The same write, seen from another transaction after it.
  pub write_below : {r c i j : ℕ} (d : ℕ) → i < d → WriteOf r c i j → WriteOf r d i j
  write_below d h w = record { earlier = h; declared = w.declared; same_record = w.same_record }

  -- No transaction from a up to c writes record r.
  abbrev pub NoWrite : ℕ → ℕ → ℕ → Type 0
  NoWrite r a c = (b : ℕ) → a ≤ b → b < c → Spares B b r

  -- What makes a slot the last write of r before c: a write of r below c, and none of r after it.
  abbrev pub IsLast : ℕ → ℕ → Slot → Type 0
  IsLast r c no_slot = NoWrite r 0 c
  IsLast r c (slot i j) = WriteOf r c i j × NoWrite r (suc i) c

  -- A transaction that does not write r leaves its last write as it is.
  no_write_one_more : (r a c : ℕ) → NoWrite r a c → Spares B c r → NoWrite r a (suc c)
  no_write_one_more r a c h s b l u = go (ℕ_discrete b c)
    where
      go : Dec (b ≡ c) → Spares B b r
      go (yes e) = rw e s
      go (no n) = h b l (omega arith)

  last_spared : (r c : ℕ) (s : Slot) → IsLast r c s → Spares B c r → IsLast r (suc c) s
  last_spared r c no_slot h sp = no_write_one_more r 0 c h sp
  last_spared r c (slot i j) h sp =
      (write_below (suc c) (omega (arith, h.0.earlier)) h.0, no_write_one_more r (suc i) c h.1 sp)

  -- A write of r among those of transaction i is its last write; with none there it is the earlier one.
  among : (i r k : ℕ) (s : Slot) → k ≤ B.write_count i
      → (((j : ℕ) → j < k → B.write_record i j ≢ r) → IsLast r (suc i) s) → IsLast r (suc i) (slot_among i r k s)
  unfolding slot_among
  among i r zero s l f = f (λ j h. absurd (omega arith))
  among i r (suc k) s l f =
      choose_all (IsLast r (suc i)) (ℕ_discrete (B.write_record i k) r) (slot i k) (slot_among i r k s)
      (λ e. (record { earlier = omega arith; declared = l; same_record = e }, λ b u v. absurd (omega arith)))
      (λ n. among i r k s (omega arith) (λ g. f (λ j h. one_more n g j h (ℕ_discrete j k))))
    where
      one_more : B.write_record i k ≢ r → ((j : ℕ) → j < k → B.write_record i j ≢ r) → (j : ℕ) → j < suc k → Dec (j ≡ k)
          → B.write_record i j ≢ r
      one_more n g j h (yes e) = rw e n
      one_more n g j h (no d) = g j (omega arith)

  pub last_write_lem : (r c : ℕ) → IsLast r c (last_write r c)
  unfolding last_write
  last_write_lem r zero = λ b l u. absurd (omega arith)
  last_write_lem r (suc c) =
      among c r (B.write_count c) (last_write r c) (omega arith)
      (λ h. last_spared r c (last_write r c) (last_write_lem r c) h)

  -- The serial law: what the run has in record r before transaction c is the stored record if no transaction below c
  -- writes it, and otherwise what the last one that does leaves in it.
  abbrev pub SerialAt : ℕ → ℕ → Slot → Type 0
  SerialAt r c no_slot = records_before B c r ≡ B.stored r
  SerialAt r c (slot i j) = records_before B c r ≡ records_before B (suc i) r

  pub unwritten_stays : (r a c : ℕ) → a ≤ c → NoWrite r a c → records_before B c r ≡ records_before B a r
  unwritten_stays r a zero l h = let e : a ≡ 0 = omega arith in rw e
  unwritten_stays r a (suc c) l h = go (ℕ_discrete a (suc c)) (unwritten_stays r a c)
    where
      go : Dec (a ≡ suc c) → (a ≤ c → NoWrite r a c → records_before B c r ≡ records_before B a r)
          → records_before B (suc c) r ≡ records_before B a r
      go (yes e) f = rw e
      go (no n) f = spared B c r (h c (omega arith) (omega arith)) ∙ f (omega arith) (λ b u v. h b u (omega arith))

  serial_at : (r c : ℕ) (s : Slot) → IsLast r c s → SerialAt r c s
  unfolding records_before
  serial_at r c no_slot h = unwritten_stays r 0 c (omega arith) h
  serial_at r c (slot i j) h = unwritten_stays r (suc i) c h.0.earlier h.1

  pub serial : (r c : ℕ) → SerialAt r c (last_write r c)
  serial r c = serial_at r c (last_write r c) (last_write_lem r c)

  module _ (ok : Proper B) where
    -- There is one last write only.
    one_last : (r c : ℕ) (s t : Slot) → IsLast r c s → IsLast r c t → s ≡ t
    one_last r c no_slot no_slot g h = refl
    one_last r c no_slot (slot a k) g h =
        absurd (g a (omega arith) h.0.earlier k h.0.declared h.0.same_record)
    one_last r c (slot i j) no_slot g h =
        absurd (h i (omega arith) g.0.earlier j g.0.declared g.0.same_record)
    one_last r c (slot i j) (slot a k) g h = go (ℕ_discrete i a) (dec_lt i a)
      where
        go : Dec (i ≡ a) → Dec (i < a) → slot i j ≡ slot a k
        go (yes e) d =
            let declared : k < B.write_count i = rw (← e) at h.0.declared in
            let record_same : B.write_record i k ≡ r = rw (← e) at h.0.same_record in
            let same : j ≡ k = ok.apart i j k g.0.declared declared (g.0.same_record ∙ sym record_same) in
            cc
        go (no n) (yes l) = absurd (g.1 a l h.0.earlier k h.0.declared h.0.same_record)
        go (no n) (no l) = absurd (h.1 i (omega arith) g.0.earlier j g.0.declared g.0.same_record)

    pub last_is : (r c : ℕ) (s : Slot) → IsLast r c s → last_write r c ≡ s
    last_is r c s h = one_last r c (last_write r c) s (last_write_lem r c) h

    pub last_after_write : (i j : ℕ) → j < B.write_count i → last_write (B.write_record i j) (suc i) ≡ slot i j
    last_after_write i j h =
        last_is (B.write_record i j) (suc i) (slot i j)
        (record { earlier = omega arith; declared = h; same_record = refl }, λ b u v. absurd (omega arith))

    pub last_after_spare : (r i : ℕ) → Spares B i r → last_write r (suc i) ≡ last_write r i
    last_after_spare r i h =
        last_is r (suc i) (last_write r i) (last_spared r i (last_write r i) (last_write_lem r i) h)

    -- What is known of the last write, once it is known to be some slot.
    pub last_known : (r c i j : ℕ) → last_write r c ≡ slot i j → WriteOf r c i j × NoWrite r (suc i) c
    last_known r c i j e = subst (λ (s : Slot). IsLast r c s) e (last_write_lem r c)

    -- A last write was the last one at every moment since it was made.
    pub last_since : (r c i j a : ℕ) → last_write r c ≡ slot i j → i < a → a ≤ c → last_write r a ≡ slot i j
    last_since r c i j a e l u =
        let k = last_known r c i j e in
        last_is r a (slot i j) (write_below a l k.0, λ b v w. k.1 b v (omega arith))

    -- Where there is no last write, there was none before.
    pub none_since : (r c a : ℕ) → last_write r c ≡ no_slot → a ≤ c → last_write r a ≡ no_slot
    none_since r c a e l =
        let k : NoWrite r 0 c = subst (λ (s : Slot). IsLast r c s) e (last_write_lem r c) in
        last_is r a no_slot (λ b u v. k b u (omega arith))
