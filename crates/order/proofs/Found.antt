-- What a read or a carry finds, in any state that the invariants hold of: the record as the one-by-one run has it
-- just before the reader, or an unproduced version of an earlier transaction that is not Complete.
use Rattle.std.specs.Prelude.{◌≡◌, ℕ, suc, ◌≤◌, ◌<◌}
use Rattle.std.proofs.Common.{sym, ◌∙◌, ap, subst, arith}
use Rattle.order.specs.Batch.{Batch, Proper}
use Rattle.order.specs.OneByOne.{records_before, leaves}
use Rattle.order.specs.Plan.{Slot, no_slot, slot, Plan, position, Walk}
use Rattle.order.specs.Machine.{Contents, unproduced, produced, Row, unprocessed, executing, complete, Execution}
use Rattle.order.specs.Machine.{held_at, Finds, PlanningOver, IsComplete}
use Rattle.order.specs.LastWrite.{last_write, WriteOf, write_below, IsLast, last_write_lem, SerialAt, serial}
use Rattle.order.specs.Invariant.{Planned, VersionRight, RowRight, ExecutionRight}
use Rattle.order.proofs.Walk.{walk_unique, OnlyVersion, walk_ends, walk_finds_only}

module _ {X O : Type 0} (B : Batch X O) (p : Plan) where
  -- Transaction i lacks record r: its last write before i, write j of the earlier transaction a, is not produced, and
  -- a is not Complete. The version's begin is a's position: the number that a wait names.
  pub record Lacks (e : Execution X O) (i r a j : ℕ) : Type 0 where
    pub write : WriteOf B r i a j
    pub begin_is : p.begin a j ≡ position B a
    pub not_produced : e.contents a j ≡ unproduced
    pub not_complete : ¬ IsComplete B (e.row a)

module _ {X O : Type 0} (B : Batch X O) (ok : Proper B)
    (p : Plan) (planned : Planned B p) (over : PlanningOver B p) where
  placed_far : (r i : ℕ) → i ≤ B.size → i ≤ p.placed (B.partition_of r)
  placed_far r i h = omega (arith, over (B.partition_of r) (ok.in_partition r))

  -- The walk for transaction i, over any record, ends at the last write before i.
  pub walk_to_last : (r i : ℕ) → i ≤ B.size → Walk p (position B i) (p.newest r) (last_write B r i)
  walk_to_last r i h =
      walk_ends B ok p r (p.placed (B.partition_of r)) (planned.linked r) i (placed_far r i h)

  pub found_last : {contents : ℕ → ℕ → Contents X} {i r : ℕ} {found : Slot} {x : Contents X} → i ≤ B.size
      → Finds B p contents i r found x → found ≡ last_write B r i
  found_last {i = i} {r = r} h f = walk_unique f.walk (walk_to_last r i h)

  -- Of all placed versions of the record, the one found is the only one with begin < t ≤ end.
  pub found_only : {contents : ℕ → ℕ → Contents X} {i r a j : ℕ} {x : Contents X} → i ≤ B.size
      → Finds B p contents i r (slot a j) x → OnlyVersion B p r (p.placed (B.partition_of r)) i a j
  found_only {i = i} {r = r} {a} {j} h f =
      walk_finds_only B ok p r (p.placed (B.partition_of r)) (planned.linked r) i a j (placed_far r i h)
      (planned.counts (B.partition_of r)) f.walk

  -- What is found produced is the record just before transaction i. (Also what a look at a record in mid-batch gives.)
  pub found_right : {contents : ℕ → ℕ → Contents X} {i r : ℕ} {found : Slot} {x : X}
      → ((a j : ℕ) → VersionRight B a j (contents a j)) → i ≤ B.size → Finds B p contents i r found (produced x)
      → x ≡ records_before B i r
  unfolding leaves
  found_right {contents} {i} {r} {found} {x} right h f =
      go (last_write B r i) (serial B r i) (last_write_lem B r i)
      (subst (λ (s : Slot). held_at B contents r s ≡ produced x) (found_last h f) f.holds)
    where
      version : (a j : ℕ) (y : Contents X) → VersionRight B a j y → y ≡ produced x
          → x ≡ records_before B (suc a) (B.write_record a j)
      version a j unproduced g e = cc
      version a j (produced z) g e = cc

      go : (s : Slot) → SerialAt B r i s → IsLast B r i s → held_at B contents r s ≡ produced x
          → x ≡ records_before B i r
      go no_slot g k e = cc
      go (slot a j) g k e =
          version a j (contents a j) (right a j) e ∙ ap (records_before B (suc a)) k.0.same_record ∙ sym g

  -- Whatever is found unproduced is lacking in this way.
  pub missing : {e : Execution X O} {i r a j : ℕ} → ExecutionRight B e → i ≤ B.size
      → Finds B p e.contents i r (slot a j) unproduced → Lacks B p e i r a j
  missing {e} {i} {r} {a} {j} inv h f = record {
    write = write;
    begin_is = ((planned.linked r).entry a j (write_below B (p.placed (B.partition_of r)) far write)).begin_is;
    not_produced = f.holds;
    not_complete = open_still (e.row a) (inv.rows a);
  }
    where
      write : WriteOf B r i a j
      write = (subst (λ (s : Slot). IsLast B r i s) (sym (found_last h f)) (last_write_lem B r i)).0

      far : a < p.placed (B.partition_of r)
      far = omega (arith, placed_far r i h, write.earlier)

      open_still : (row : Row X O) → RowRight B e.contents a row → ¬ IsComplete B row
      open_still unprocessed g c = c
      open_still (executing w) g c = c
      open_still (complete outcome values) g c = rw f.holds at (g.all_produced j write.declared)
