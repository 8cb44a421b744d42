-- Planning: the chains of versions that placing makes, and the walk along a chain. Definitions only.
use Rattle.std.specs.Prelude.{ℕ, zero, suc, ◌+◌, ◌<◌}
use Rattle.std.proofs.Math.Decide.{ℕ_discrete}
use Rattle.order.specs.Tables.{choose, updated, updated_entry}
use Rattle.order.specs.Batch.{Batch}

-- Where a version stands: write j of transaction i has a slot of its own; past the oldest version there is none.
pub data Slot : Type 0 where
  no_slot : Slot
  slot : ℕ → ℕ → Slot

-- What planning writes: for each partition how many transactions it has placed, for each record the slot of its
-- newest version, and for each version (transaction, write) its begin, its end and the slot of the previous version
-- of its record.
pub record Plan : Type 0 where
  pub placed : ℕ → ℕ
  pub newest : ℕ → Slot
  pub begin : ℕ → ℕ → ℕ
  pub end : ℕ → ℕ → ℕ
  pub previous : ℕ → ℕ → Slot

-- As at opening: nothing placed, no newest version, every entry empty.
unfoldable pub unplanned : Plan
unplanned = record {
  placed = λ _. 0;
  newest = λ _. no_slot;
  begin = λ _ _. 0;
  end = λ _ _. 0;
  previous = λ _ _. no_slot;
}

-- The plan with other counts of placed transactions.
abbrev pub with_placed : Plan → (ℕ → ℕ) → Plan
with_placed p placed =
    record { placed = placed; newest = p.newest; begin = p.begin; end = p.end; previous = p.previous }

-- The ends after the preceding version, if there is one, has been ended at position t.
abbrev pub end_preceding : Slot → ℕ → (ℕ → ℕ → ℕ) → ℕ → ℕ → ℕ
end_preceding no_slot t ends = ends
end_preceding (slot i j) t ends = updated_entry ends i j t

module _ {X O : Type 0} (B : Batch X O) where
  -- The position of transaction i.
  abbrev pub position : ℕ → ℕ
  position i = B.first_position + i

  -- Write j of transaction i is linked: begin is its position, end is none, previous is the newest slot; the preceding
  -- version's end becomes this position; the new slot becomes newest.
  unfoldable pub link_write : Plan → ℕ → ℕ → Plan
  link_write p i j =
      let preceding : Slot = p.newest (B.write_record i j) in
      record {
        placed = p.placed;
        newest = updated p.newest (B.write_record i j) (slot i j);
        begin = updated_entry p.begin i j (position i);
        end = updated_entry (end_preceding preceding (position i) p.end) i j B.no_end;
        previous = updated_entry p.previous i j preceding;
      }

  -- Of the first k writes of transaction i, those in partition q are linked, ascending.
  unfoldable pub link_writes : Plan → ℕ → ℕ → ℕ → Plan
  link_writes p q i zero = p
  link_writes p q i (suc k) =
      let earlier : Plan = link_writes p q i k in
      choose (ℕ_discrete (B.partition_of (B.write_record i k)) q) (link_write earlier i k) earlier

  -- Place, partition q: the partition's next transaction is linked and the count advanced.
  unfoldable pub place_next : Plan → ℕ → Plan
  place_next p q =
      let i : ℕ = p.placed q in
      with_placed (link_writes p q i (B.write_count i)) (updated p.placed q (suc i))

-- The version in slot i, j is visible at position t: it began before. So a transaction does not see its own writes.
abbrev pub Visible : Plan → ℕ → ℕ → ℕ → Type 0
Visible p t i j = p.begin i j < t

-- The walk at position t: from a slot back, along the previous slots, to the first visible version; past the last one
-- lies the stored record, which is no slot.
pub data Walk (p : Plan) (t : ℕ) : Slot → Slot → Type 0 where
  past : Walk p t no_slot no_slot
  here : {i j : ℕ} → Visible p t i j → Walk p t (slot i j) (slot i j)
  back : {i j : ℕ} {s : Slot} → ¬ Visible p t i j → Walk p t (p.previous i j) s → Walk p t (slot i j) s
