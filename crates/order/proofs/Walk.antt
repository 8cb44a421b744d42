-- The walk law: where the planning invariant holds, the walk at transaction i's position ends at the last write
-- before i, and that is the only placed version of the record with begin < t ≤ end.
use Rattle.std.specs.Prelude.{◌≡◌, refl, ℕ, zero, suc, ◌≤◌, ◌<◌}
use Rattle.std.proofs.Common.{sym, ◌∙◌, arith}
use Rattle.std.proofs.Math.Decide.{dec_lt}
use Rattle.order.specs.Batch.{Batch, Proper}
use Rattle.order.specs.Plan.{Slot, no_slot, slot, Plan, position, Visible, Walk, past, here, back}
use Rattle.order.specs.TableLaws.{clash}
use Rattle.order.specs.LastWrite.{last_write, WriteOf, write_below, last_known, last_since, none_since}
use Rattle.order.specs.Invariant.{EndIs, still_last, ended_by, Entry, Linked}

-- A walk has one end.
pub walk_unique : {p : Plan} {t : ℕ} {s a b : Slot} → Walk p t s a → Walk p t s b → a ≡ b
walk_unique past past = refl
walk_unique (here h) (here k) = refl
walk_unique (here h) (back k w) = absurd (k h)
walk_unique (back h v) (here k) = absurd (h k)
walk_unique (back h v) (back k w) = walk_unique v w

module _ {X O : Type 0} (B : Batch X O) (p : Plan) (r c : ℕ) where
  -- Write j of transaction a is the only write of record r, of those placed below c, with begin < t ≤ end, where t is
  -- the position of transaction i.
  pub record OnlyVersion (i a j : ℕ) : Type 0 where
    pub placed : WriteOf B r c a j
    pub begins : p.begin a j < position B i
    pub ends : position B i ≤ p.end a j
    pub only : (b k : ℕ) → WriteOf B r c b k → p.begin b k < position B i → position B i ≤ p.end b k
        → slot b k ≡ slot a j

module _ {X O : Type 0} (B : Batch X O) (ok : Proper B) (p : Plan) (r c : ℕ) (linked : Linked B p r c) where
  -- From the last write before a, with i ≤ a ≤ c, the walk at the position of i steps past each version of a
  -- transaction from i on: its begin is not below the position. It comes to the last write before i.
  walk_from : (k i a : ℕ) → a ≤ k → i ≤ a → a ≤ c → (s : Slot) → last_write B r a ≡ s
      → Walk p (position B i) s (last_write B r i)
  walk_from zero i a f h l no_slot e = rw (none_since B ok r a i e h) past
  walk_from zero i a f h l (slot b j) e = absurd (omega (arith, (last_known B ok r a b j e).0.earlier))
  walk_from (suc k) i a f h l no_slot e = rw (none_since B ok r a i e h) past
  walk_from (suc k) i a f h l (slot b j) e = go (dec_lt b i) (walk_from k i b)
    where
      write : WriteOf B r a b j
      write = (last_known B ok r a b j e).0

      entry : Entry B p r c b j
      entry = linked.entry b j (write_below B c (omega (arith, write.earlier)) write)

      go : Dec (b < i)
          → (b ≤ k → i ≤ b → b ≤ c → (s : Slot) → last_write B r b ≡ s → Walk p (position B i) s (last_write B r i))
          → Walk p (position B i) (slot b j) (last_write B r i)
      go (yes u) further =
          let visible : Visible p (position B i) b j = omega (arith, entry.begin_is) in
          rw (last_since B ok r a b j i e u h) (here visible)
      go (no u) further =
          let hidden : ¬ Visible p (position B i) b j = omega (arith, entry.begin_is) in
          back hidden
          (further (omega (arith, write.earlier)) (omega arith) (omega (arith, write.earlier)) (p.previous b j)
          (sym entry.previous_is))

  pub walk_ends : (i : ℕ) → i ≤ c → Walk p (position B i) (p.newest r) (last_write B r i)
  walk_ends i h = walk_from c i c (omega arith) h (omega arith) (p.newest r) (sym linked.newest_is)

  -- The last write before i has begin < t ≤ end.
  version_seen : (i a j : ℕ) → i ≤ c → c ≤ B.known → last_write B r i ≡ slot a j
      → (p.begin a j < position B i) × (position B i ≤ p.end a j)
  version_seen i a j h l e = (omega (arith, entry.begin_is, write.earlier), end_after entry.end_is)
    where
      write : WriteOf B r i a j
      write = (last_known B ok r i a j e).0

      entry : Entry B p r c a j
      entry = linked.entry a j (write_below B c (omega (arith, write.earlier)) write)

      end_after : EndIs B r c (slot a j) (p.end a j) → position B i ≤ p.end a j
      end_after (still_last f g) = omega (arith, ok.positions_fit)
      end_after (ended_by b k w f g) = go (dec_lt b i)
        where
          go : Dec (b < i) → position B i ≤ p.end a j
          go (yes u) =
              let later : a < b = (last_known B ok r b a j f).0.earlier in
              absurd ((last_known B ok r i a j e).1 b later u k w.declared w.same_record)
          go (no u) = omega arith

  -- And it is the only placed version of the record that has.
  only_version : (i a j : ℕ) → i ≤ c → WriteOf B r c a j → p.begin a j < position B i → position B i ≤ p.end a j
      → last_write B r i ≡ slot a j
  only_version i a j h w u v = go entry.end_is
    where
      entry : Entry B p r c a j
      entry = linked.entry a j w

      go : EndIs B r c (slot a j) (p.end a j) → last_write B r i ≡ slot a j
      go (still_last e f) = last_since B ok r c a j i e (omega (arith, entry.begin_is)) h
      go (ended_by b k x e f) = last_since B ok r b a j i e (omega (arith, entry.begin_is)) (omega arith)

  -- Where the walk ends is the only such version; if it goes past the last version, there is none.
  pub walk_finds_only : (i a j : ℕ) → i ≤ c → c ≤ B.known → Walk p (position B i) (p.newest r) (slot a j)
      → OnlyVersion B p r c i a j
  walk_finds_only i a j h l walk =
      let last : last_write B r i ≡ slot a j = walk_unique (walk_ends i h) walk in
      let write : WriteOf B r i a j = (last_known B ok r i a j last).0 in
      record {
        placed = write_below B c (omega (arith, write.earlier)) write;
        begins = (version_seen i a j h l last).0;
        ends = (version_seen i a j h l last).1;
        only = λ b k w u v. sym (only_version i b k h w u v) ∙ last;
      }

  pub walk_past_none : (i : ℕ) → i ≤ c → Walk p (position B i) (p.newest r) no_slot
      → (b k : ℕ) → WriteOf B r c b k → p.begin b k < position B i → position B i ≤ p.end b k → ⊥
  walk_past_none i h walk b k w u v =
      let last : last_write B r i ≡ no_slot = walk_unique (walk_ends i h) walk in
      let other : last_write B r i ≡ slot b k = only_version i b k h w u v in
      clash (cc)
