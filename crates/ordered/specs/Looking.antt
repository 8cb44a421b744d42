-- A look at a record, in a state that the engine reaches: the engine's walk ends where the machine's does, and 15
-- does not arise.
use Rattle.std.specs.Prelude.{ℕ, zero, suc, ◌+◌, ◌*◌, ◌≤◌, ◌<◌, true, false}
use Rattle.std.specs.Prelude.{◌≡◌, refl, List, ltb, leb, eqb, length, get_or}
use Rattle.std.proofs.Common.{sym, ap, ◌∙◌, arith, lt-ltb, le-ltb, eq-eqb, ne_eqb}
use Rattle.std.proofs.Math.Decide.{dec_lt}
use Rattle.std.proofs.lemmas.Bool.{lt-leb}
use Rattle.terms.specs.Reserved.{no_slot}
use Rattle.versions.specs.Chain.{walk_from, walk_of}
use Rattle.versions.specs.Table.{entry_of, lesser_of}
use Rattle.versions.specs.declared.chain.Walked.{Walked}
use Rattle.versions.specs.declared.chain.Walked.TheVariants.{Stored, Found}
use Rattle.counters.specs.declared.Outcome.{Outcome}
use Rattle.engine.specs.Advance.{look_of}
use Rattle.engine.specs.Place.{slot_of, position_of}
use Rattle.engine.specs.Tables.{newest_of}
use Rattle.engine.specs.declared.State.{State}
use Rattle.engine.specs.declared.moves.Seen.TheVariants.{Contents, NotYet}
use Rattle.order.specs.Batch as order
use Rattle.order.proofs.Found.{walk_to_last}
use Rattle.order.specs.Invariant as invariant
use Rattle.order.specs.LastWrite.{last_write, WriteOf, write_below, last_known, last_since, none_since}
use Rattle.order.specs.Machine as machine
use Rattle.order.specs.Plan as plan
use Rattle.ordered.specs.Describing.{Describes}
use Rattle.ordered.specs.Relation.{SlotIs, ContentsIs, EntryIs, Stands}
use Rattle.engine.specs.Running.{Engine}

-- the lesser of two bounds, where the first is at most the second
pub lesser : (a b : ℕ) → a ≤ b → lesser_of a b ≡ a
lesser a b most = go (dec_lt a b)
  where
    go : Dec (a < b) → lesser_of a b ≡ a
    go (yes below) = rw (lt-ltb a b below)
    go (no above) = rw (le-ltb a b (omega arith)) (omega (arith, most))

module _ (B : order.Batch ℕ Outcome) (o : State) (log stored : List ℕ) (d : Describes B o log stored)
    (e : Engine) (m : machine.State ℕ Outcome) (stands : Stands o stored e m) (sound : invariant.Sound B m)
    (over : machine.PlanningOver B m.plan) where
  -- what a walk that ends at a slot comes to
  abbrev pub walked_to : plan.Slot → Walked
  walked_to plan.no_slot = Stored
  walked_to (plan.slot a b) = Found (entry_of e.versions (slot_of a b))

  -- every partition has placed all
  pub all_placed : (r : ℕ) → m.plan.placed (B.partition_of r) ≡ o.size
  all_placed r =
      omega (
        arith,
        over (B.partition_of r) (d.proper.in_partition r),
        sound.planned.counts (B.partition_of r),
        d.size_is,
        d.known_is,
      )

  -- from the last write before k, the walk at the position of i, at most k, comes to the last write before i
  walk_is : (r i : ℕ) (steps limit k : ℕ) (x : plan.Slot) (number : ℕ) → i ≤ k → k ≤ o.size → last_write B r k ≡ x
      → SlotIs o.size number x → 4 * k ≤ limit → limit < steps
      → walk_from e.versions (position_of o i) steps limit number ≡ walked_to (last_write B r i)
  walk_is r i zero limit k x number most all last is far enough = absurd (omega (arith, enough))
  walk_is r i (suc steps) limit k plan.no_slot number most all last is far enough =
      rw (eq-eqb number no_slot is, none_since B d.proper r k i last most)
  walk_is r i (suc steps) limit k (plan.slot a b) number most all last (is, (below, four)) far enough =
      go (dec_lt a i) (walk_is r i steps number a (m.plan.previous a b) (entry_of e.versions number).previous)
    where
      write : WriteOf B r k a b
      write = (last_known B d.proper r k a b last).0

      entry : invariant.Entry B m.plan r (m.plan.placed (B.partition_of r)) a b
      entry =
          (sound.planned.linked r).entry a b
          (write_below B (m.plan.placed (B.partition_of r)) (omega (arith, all_placed r, below)) write)

      before : number < limit
      before = omega (arith, is, four, far, write.earlier)

      is_slot : eqb number no_slot ≡ false
      is_slot = ne_eqb number no_slot (λ none.
          absurd (omega (arith, none, is, below, four, d.numbers.few_transactions)))

      inside : leb limit number ≡ false
      inside = lt-leb limit number before

      version_is : EntryIs o.size (entry_of e.versions number) m.plan a b
      version_is = rw is (stands.plan_is.entries a b below four)

      begins : (entry_of e.versions number).begin ≡ o.next.0 + a
      begins = version_is.begin_is ∙ entry.begin_is ∙ ap (λ k. k + a) d.first_is

      go : Dec (a < i)
          → (i ≤ a → a ≤ o.size → last_write B r a ≡ m.plan.previous a b
          → SlotIs o.size (entry_of e.versions number).previous (m.plan.previous a b) → 4 * a ≤ number
          → number < steps
          → walk_from e.versions (position_of o i) steps number (entry_of e.versions number).previous
          ≡ walked_to (last_write B r i))
          → walk_from e.versions (position_of o i) (suc steps) limit number ≡ walked_to (last_write B r i)
      go (yes earlier) onward =
          let seen : ltb (entry_of e.versions number).begin (position_of o i) ≡ true =
          lt-ltb (entry_of e.versions number).begin (position_of o i) (omega (arith, begins, earlier)) in
          rw (is_slot, inside, seen, last_since B d.proper r k a b i last earlier most) (ap (λ x.
          Found (entry_of e.versions x)) is)
      go (no later) onward =
          let hidden : ltb (entry_of e.versions number).begin (position_of o i) ≡ false =
          le-ltb (entry_of e.versions number).begin (position_of o i) (omega (arith, begins)) in
          rw (is_slot, inside, hidden)
          (onward (omega arith) (omega (arith, below)) (sym entry.previous_is) version_is.previous_is
          (omega (arith, is)) (omega (arith, before, enough)))

  -- the walk of transaction i over record r
  pub walk_ends : (r i : ℕ) → r < o.records → i ≤ o.size
      → walk_of e.versions (newest_of e.newest r) (4 * e.state.size) (position_of e.state i)
      ≡ walked_to (last_write B r i)
  walk_ends r i there most =
      let bound : lesser_of (4 * e.state.size) (length e.versions) ≡ 4 * o.size =
      rw (stands.fixed.size_fixed, stands.plan_is.versions_length)
      (lesser (4 * o.size) 256 (omega (arith, d.numbers.few_transactions))) in
      let at : position_of e.state i ≡ position_of o i = ap (λ x. x.0 + i) stands.fixed.next_fixed in
      let newest_is : last_write B r o.size ≡ m.plan.newest r =
      sym ((sound.planned.linked r).newest_is ∙ ap (last_write B r) (all_placed r)) in
      ap (λ l. walk_from e.versions (position_of e.state i) (suc l) l (newest_of e.newest r)) bound
      ∙ ap (λ t. walk_from e.versions t (suc (4 * o.size)) (4 * o.size) (newest_of e.newest r)) at
      ∙ (walk_is r i (suc (4 * o.size)) (4 * o.size) o.size (m.plan.newest r) (newest_of e.newest r) most
      (omega arith) newest_is (stands.plan_is.newest_is r there) (omega arith) (omega arith))

  -- what a look at a record shows is what the machine finds: contents, or a version that is not produced
  pub data Sees (i r : ℕ) : Type 0 where
    sees : (found : plan.Slot) (x : ℕ)
        → machine.Finds B m.plan m.execution.contents i r found (machine.produced x)
        → look_of e.state i e.records e.newest e.versions r ≡ Contents x → Sees i r
    lacks : (a j : ℕ)
        → machine.Finds B m.plan m.execution.contents i r (plan.slot a j) machine.unproduced
        → look_of e.state i e.records e.newest e.versions r ≡ NotYet (m.plan.begin a j) → Sees i r

  pub look : (i r : ℕ) → i < o.size → r < o.records → Sees i r
  look i r below there = go (last_write B r i) refl
    where
      most : i ≤ B.size
      most = omega (arith, below, d.size_is)

      walked : plan.Walk m.plan (plan.position B i) (m.plan.newest r) (last_write B r i)
      walked = walk_to_last B d.proper m.plan sound.planned over r i most

      ends : walk_of e.versions (newest_of e.newest r) (4 * e.state.size) (position_of e.state i)
          ≡ walked_to (last_write B r i)
      ends = walk_ends r i there (omega (arith, below))

      found : (a b : ℕ) (x : machine.Contents ℕ) → m.execution.contents a b ≡ x → last_write B r i ≡ plan.slot a b
          → ContentsIs (entry_of e.versions (slot_of a b)) x
          → (entry_of e.versions (slot_of a b)).begin ≡ m.plan.begin a b → Sees i r
      found a b machine.unproduced holds last is begin =
          lacks a b (record { walk = rw last at walked; holds = holds }) (rw (ends, last, is, begin))
      found a b (machine.produced x) holds last is begin =
          sees (plan.slot a b) x (record { walk = rw last at walked; holds = holds }) (rw (ends, last, is.0, is.1))

      go : (x : plan.Slot) → last_write B r i ≡ x → Sees i r
      go plan.no_slot last =
          sees plan.no_slot (get_or stored r 0)
          (record { walk = rw last at walked; holds = ap machine.produced (d.stored_is r) })
          (rw (ends, last, stands.records_are))
      go (plan.slot a b) last =
          let write = (last_known B d.proper r i a b last).0 in
          let within : a < o.size = omega (arith, write.earlier, below) in
          let four : b < 4 = omega (arith, write.declared, d.proper.few_writes a) in
          found a b (m.execution.contents a b) refl last (stands.contents_are a b within four)
          (stands.plan_is.entries a b within four).begin_is
