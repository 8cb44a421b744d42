-- A write that is placed: the engine's tables and the machine's plan change alike.
use Rattle.std.specs.Prelude.{ℕ, ◌≤◌, ◌<◌, false, ◌≡◌, refl, List, length, set}
use Rattle.std.proofs.Math.Path.{sym, subst}
use Rattle.std.proofs.Common.{ap, ◌∙◌, arith, get_or-set_other, lt-ltb, eq-eqb, ne_eqb}
use Rattle.std.proofs.Math.Decide.{ℕ_discrete}
use Rattle.std.proofs.Math.ListN.{length-set}
use Rattle.std.proofs.Math.Seq.{get_or-set_same}
use Rattle.terms.specs.Reserved.{no_slot, no_end}
use Rattle.versions.specs.Entry.{linked_of, ended_of}
use Rattle.versions.specs.LawsTable.{link_length, link_here, link_preceding, link_other}
use Rattle.versions.specs.Step.{preceding_of, end_at, link_of}
use Rattle.versions.specs.Table.{entry_of}
use Rattle.versions.specs.declared.Version.{Version}
use Rattle.versions.specs.declared.plan.Link.{Link}
use Rattle.counters.specs.declared.Outcome.{Outcome}
use Rattle.engine.specs.Place.{slot_of}
use Rattle.engine.specs.Tables.{newest_of}
use Rattle.order.specs.Batch as order
use Rattle.order.specs.Plan as plan
use Rattle.order.specs.Tables.{updated, updated_entry}
use Rattle.order.specs.TableLaws.{updated_all, entry_here, entry_elsewhere}
use Rattle.ordered.specs.Relation.{SlotIs, EntryIs, PlanIs}

-- no entry of the batch is produced
abbrev pub NoneProduced : ℕ → List Version → Type 0
NoneProduced n versions = (i j : ℕ) → i < n → j < 4 → (entry_of versions (slot_of i j)).produced ≡ false

module _ (B : order.Batch ℕ Outcome) (n records : ℕ) (no_end_is : B.no_end ≡ no_end) (few : n ≤ 64)
    (newest : List ℕ) (versions : List Version) (p : plan.Plan) (is : PlanIs n records newest versions p)
    (i j r position : ℕ) (below : i < n) (four : j < 4) (there : r < records) (writes : B.write_record i j ≡ r)
    (at : position ≡ plan.position B i) where
  abbrev link : Link
  link = record { slot = slot_of i j; position = position; previous = newest_of newest r }

  abbrev after : List Version
  after = link_of versions link

  inside : slot_of i j < length versions
  inside = omega (arith, below, four, few, is.versions_length)

  -- the preceding slot, where there is one
  before : (a b : ℕ) → newest_of newest r ≡ slot_of a b → a < n → b < 4
      → preceding_of link (length versions) ≡ slot_of a b
  before a b number within small =
      rw (
        lt-ltb (slot_of i j) (length versions) inside,
        number,
        ne_eqb (slot_of a b) no_slot (λ none. absurd (omega (arith, none, within, small, few))),
      )

  none_before : newest_of newest r ≡ no_slot → preceding_of link (length versions) ≡ 256
  none_before number =
      rw (lt-ltb (slot_of i j) (length versions) inside, eq-eqb (newest_of newest r) no_slot number)
      is.versions_length

  -- the entry of the write itself
  here_is : entry_of after (slot_of i j)
      ≡ linked_of (entry_of (end_at versions (preceding_of link (length versions)) position) (slot_of i j)) position
      (newest_of newest r)
  here_is = link_here versions link inside

  linked_entry : EntryIs n (entry_of after (slot_of i j)) (plan.link_write B p i j) i j
  unfolding plan.link_write
  linked_entry =
      rw here_is (record {
        begin_is = at ∙ sym (entry_here p.begin i j _);
        end_is = sym no_end_is ∙ sym (entry_here _ i j B.no_end);
        previous_is =
            subst (SlotIs n (newest_of newest r)) (sym (entry_here p.previous i j (p.newest (B.write_record i j))))
            (rw writes (is.newest_is r there));
      })

  -- what the entries of the other writes become: the preceding one ends, and nothing else changes
  other_slot : (a b : ℕ) → b < 4 → (a ≡ i → b ≡ j → ⊥) → slot_of a b ≡ slot_of i j → ⊥
  other_slot a b small apart same = apart (omega arith) (omega arith)

  -- the entry whose end is changed, and the ends of the machine
  ended_entry : (a b : ℕ) → a < n → b < 4 → (a ≡ i → b ≡ j → ⊥) → newest_of newest r ≡ slot_of a b
      → entry_of after (slot_of a b) ≡ ended_of (entry_of versions (slot_of a b)) position
  ended_entry a b within small apart number =
      let preceding = before a b number within small in
      let long : slot_of a b < length versions = omega (arith, within, small, few, is.versions_length) in
      let changed =
      link_preceding versions link (rw preceding long) (λ same. other_slot a b small apart (sym preceding ∙ same)) in
      ap (entry_of after) (sym preceding) ∙ changed ∙ ap (λ k. ended_of (entry_of versions k) position) preceding

  kept_entry : (a b : ℕ) → b < 4 → (a ≡ i → b ≡ j → ⊥) → (slot_of a b ≡ preceding_of link (length versions) → ⊥)
      → entry_of after (slot_of a b) ≡ entry_of versions (slot_of a b)
  kept_entry a b small apart other = link_other versions link (slot_of a b) (other_slot a b small apart) other

  -- the entries of the other writes, by what the newest slot was
  other_entry : (x : plan.Slot) (a b : ℕ) → a < n → b < 4 → (a ≡ i → b ≡ j → ⊥) → SlotIs n (newest_of newest r) x
      → ((entry_of after (slot_of a b)).begin ≡ (entry_of versions (slot_of a b)).begin)
      × (((entry_of after (slot_of a b)).end ≡ plan.end_preceding x position p.end a b)
      × (((entry_of after (slot_of a b)).previous ≡ (entry_of versions (slot_of a b)).previous)
      × ((entry_of after (slot_of a b)).produced ≡ (entry_of versions (slot_of a b)).produced)))
  other_entry plan.no_slot a b within small apart number =
      let same = kept_entry a b small apart
      (λ past. absurd (omega (arith, past, none_before number, within, small, few))) in
      rw same (refl, ((is.entries a b within small).end_is, (refl, refl)))
  other_entry (plan.slot c k) a b within small apart (number, (below_c, four_k)) =
      go (ℕ_discrete (slot_of a b) (slot_of c k))
    where
      go : Dec (slot_of a b ≡ slot_of c k)
          → ((entry_of after (slot_of a b)).begin ≡ (entry_of versions (slot_of a b)).begin)
          × (((entry_of after (slot_of a b)).end ≡ updated_entry p.end c k position a b)
          × (((entry_of after (slot_of a b)).previous ≡ (entry_of versions (slot_of a b)).previous)
          × ((entry_of after (slot_of a b)).produced ≡ (entry_of versions (slot_of a b)).produced)))
      go (yes same) =
          let same_a : a ≡ c = omega arith in
          let same_b : b ≡ k = omega arith in
          let end_is : updated_entry p.end c k position a b ≡ position =
          rw (same_a, same_b) (entry_here p.end c k position) in
          rw (ended_entry a b within small apart (number ∙ sym same), end_is) (refl, (refl, (refl, refl)))
      go (no other) =
          let kept = kept_entry a b small apart (λ same. other (same ∙ before c k number below_c four_k)) in
          let end_is : updated_entry p.end c k position a b ≡ p.end a b =
          entry_elsewhere p.end c k position a b (λ same_a same_b. other (rw (same_a, same_b))) in
          rw (kept, end_is) (refl, ((is.entries a b within small).end_is, (refl, refl)))

  -- a link: the tables and the plan change alike
  pub link_is : PlanIs n records (set newest r (slot_of i j)) (link_of versions link) (plan.link_write B p i j)
  unfolding plan.link_write
  link_is =
      record {
        newest_length = length-set newest r (slot_of i j) ∙ is.newest_length;
        versions_length = link_length versions link ∙ is.versions_length;
        newest_is =
            subst (λ (number : ℕ). (q : ℕ) → q < records
            → SlotIs n (newest_of (set newest r (slot_of i j)) q) (updated p.newest number (plan.slot i j) q))
            (sym writes) slots;
        entries = λ a b within small. entry a b within small (ℕ_discrete (slot_of a b) (slot_of i j));
      }
    where
      slots : (q : ℕ) → q < records
          → SlotIs n (newest_of (set newest r (slot_of i j)) q) (updated p.newest r (plan.slot i j) q)
      slots =
          updated_all
          (λ (q : ℕ) (x : plan.Slot). q < records → SlotIs n (newest_of (set newest r (slot_of i j)) q) x)
          p.newest r (plan.slot i j)
          (λ within. (
            get_or-set_same newest r (slot_of i j) no_slot (omega (arith, there, is.newest_length)),
            (below, four),
          ))
          (λ q other within.
          subst (λ (x : ℕ). SlotIs n x (p.newest q)) (sym (get_or-set_other newest r q (slot_of i j) no_slot other))
          (is.newest_is q within))

      entry : (a b : ℕ) → a < n → b < 4 → Dec (slot_of a b ≡ slot_of i j)
          → EntryIs n (entry_of (link_of versions link) (slot_of a b)) (plan.link_write B p i j) a b
      entry a b within small (yes same) =
          let same_a : a ≡ i = omega arith in
          let same_b : b ≡ j = omega arith in
          rw (same_a, same_b) linked_entry
      entry a b within small (no other) =
          let apart : a ≡ i → b ≡ j → ⊥ = λ same_a same_b. other (rw (same_a, same_b)) in
          let newest_was : SlotIs n (newest_of newest r) (p.newest (B.write_record i j)) =
          rw writes (is.newest_is r there) in
          let now = other_entry (p.newest (B.write_record i j)) a b within small apart newest_was in
          let was = is.entries a b within small in
          record {
            begin_is = now.0 ∙ was.begin_is ∙ sym (entry_elsewhere p.begin i j _ a b apart);
            end_is =
                now.1.0
                ∙ ap (λ t. plan.end_preceding (p.newest (B.write_record i j)) t p.end a b) at
                ∙ sym (entry_elsewhere _ i j B.no_end a b apart);
            previous_is =
                subst (SlotIs n (entry_of (link_of versions link) (slot_of a b)).previous)
                (sym (entry_elsewhere p.previous i j _ a b apart))
                (subst (λ (x : ℕ). SlotIs n x (p.previous a b)) (sym now.1.1.0) was.previous_is);
          }

  -- and what is linked is not produced
  pub link_unproduced : NoneProduced n versions → NoneProduced n (link_of versions link)
  link_unproduced none a b within small = go (ℕ_discrete (slot_of a b) (slot_of i j))
    where
      go : Dec (slot_of a b ≡ slot_of i j) → (entry_of (link_of versions link) (slot_of a b)).produced ≡ false
      go (yes same) = ap (λ slot. (entry_of (link_of versions link) slot).produced) same ∙ ap (λ x. x.produced) here_is
      go (no other) =
          let apart : a ≡ i → b ≡ j → ⊥ = λ same_a same_b. other (rw (same_a, same_b)) in
          let newest_was : SlotIs n (newest_of newest r) (p.newest r) = is.newest_is r there in
          (other_entry (p.newest r) a b within small apart newest_was).1.1.1 ∙ none a b within small
