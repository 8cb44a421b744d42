-- A place step, in a state that the engine reaches.
use Prim.Native.Nat.{ℕ, suc, ◌+◌, ◌*◌, ◌%◌, ◌<◌}
use Rattle.std.proofs.Math.Bool.{true, false}
use Rattle.std.specs.Prelude.{◌&&◌, not, ◌≡◌, List, leb, length, set, Ok, Err}
use Rattle.std.proofs.Math.Path.{refl, sym, ap}
use Rattle.std.proofs.Common.{◌∙◌, arith}
use Rattle.std.proofs.Math.Decide.{ℕ_discrete, dec_lt}
use Rattle.std.proofs.Math.Numerals.{add-one}
use Rattle.std.proofs.Math.Dec.{ltb, eqb}
use Rattle.std.proofs.Math.ListN.{get_or, length-set}
use Rattle.std.proofs.Math.Seq.{get_or-set_same, get_or-set_other}
use borrow.Author.Tests.{lt-ltb, le-ltb, lt-leb, eq-eqb, ne_eqb, eqb-false, leb-false}
use Rattle.terms.specs.Reserved.{no_slot}
use Rattle.packed.specs.Unpacking.{unpack_at_of}
use Rattle.packed.specs.declared.Transaction.{Transaction}
use Rattle.counters.specs.declared.Outcome.{Outcome}
use Rattle.engine.specs.Counting.{some_below}
use Rattle.engine.specs.Moment.{places_still, not_planning}
use Rattle.engine.specs.Place.{meaning_at, slot_of, write_of, written_in, not_below, meets_wrong}
use Rattle.engine.specs.Place.{wrong_for_place, place_verdict, place_below, placed_when, place_of}
use Rattle.engine.specs.Range.{placed_by, out_of_range}
use Rattle.engine.specs.Tables.{not_of, newest_of}
use Rattle.engine.specs.declared.State.{State}
use Rattle.order.specs.Batch as order
use Rattle.order.specs.Invariant as invariant
use Rattle.order.specs.LastWrite.{last_write, last_known}
use Rattle.order.specs.Machine as machine
use Rattle.order.specs.Plan as plan
use Rattle.order.specs.Store as store
use Rattle.order.specs.TableLaws.{clash, updated_all}
use Rattle.ordered.specs.Chains.{passes, right_fails, none_holds, some_holds, below_of}
use Rattle.ordered.specs.Claiming.{batch_open}
use Rattle.ordered.specs.Describing.{Describes}
use Rattle.ordered.specs.Linking.{NoneProduced}
use Rattle.ordered.specs.Ranging.{placed_most, in_range}
use Rattle.ordered.specs.Relation.{SlotIs, Stands}
use Rattle.engine.specs.Running.{Engine, place, offered}
use Rattle.engine.specs.Running as running
use Rattle.ordered.specs.Stepping.{reply_to, offer_to, Makes}
use Rattle.ordered.specs.Planning.{Planning, placed_all}
use Rattle.terms.specs.Refusals.{Verdict}

module _ (B : order.Batch ℕ Outcome) (o : State) (log stored : List ℕ) (d : Describes B o log stored)
    (e : Engine) (m : machine.State ℕ Outcome) (stands : Stands o stored e m) (sound : invariant.Sound B m) where
  -- the one transaction's meaning is that at opening
  pub meaning_same : (i : ℕ) → meaning_at e.state log i ≡ meaning_at o log i
  meaning_same i = ap (λ n. (unpack_at_of n log i).meaning) stands.fixed.records_fixed

  pub verdict_same : (i : ℕ) → i < o.size → (unpack_at_of e.state.records log i).verdict ≡ Ok tt
  verdict_same i below =
      ap (λ n. (unpack_at_of n log i).verdict) stands.fixed.records_fixed ∙ d.accepted i below

  -- the log is as long as at opening
  pub log_right : not_of (length log) (88 * e.state.size) ≡ false
  log_right =
      let same : length log ≡ 88 * e.state.size = omega (arith, d.log_length, stands.fixed.size_fixed) in
      rw (eq-eqb (length log) (88 * e.state.size) same)

  pub newest_right : not_of (length e.newest) e.state.records ≡ false
  newest_right =
      rw (eq-eqb (length e.newest) e.state.records
      (stands.plan_is.newest_length ∙ sym stands.fixed.records_fixed))

  pub versions_right : not_of (length e.versions) 256 ≡ false
  versions_right = rw (eq-eqb (length e.versions) 256 stands.plan_is.versions_length)

  pub place_lent : wrong_for_place e.state (length e.newest) (length e.versions) ≡ false
  place_lent = rw (newest_right, versions_right)

  -- planning lasts while some partition has not placed all
  plans_still : (p : ℕ) → p < o.partitions → m.plan.placed p < o.size → not_planning e.state ≡ false
  unfolding not_planning
  plans_still p there before =
      let few : p < 8 = omega (arith, there, d.numbers.few_partitions) in
      let here : ltb p e.state.partitions ≡ true =
      lt-ltb p e.state.partitions (omega (arith, there, stands.fixed.partitions_fixed)) in
      let not_all : eqb (placed_by e.state p) e.state.size ≡ false =
      ne_eqb (placed_by e.state p) e.state.size
      (λ same. absurd (omega (arith, same, before, stands.placed_are p there, stands.fixed.size_fixed))) in
      let still : places_still e.state p ≡ true = rw (here, not_all) in
      rw (batch_open B o log stored d e m stands sound, some_holds 8 (places_still e.state) p few still)

  -- a slot met in placing is below the write's own
  meets_right : (p i : ℕ) → i < o.size → p < o.partitions → m.plan.placed p ≡ i → (j : ℕ) → j < 4
      → meets_wrong e.state.partitions p i (meaning_at o log i) e.newest j ≡ false
  meets_right p i below there next j four = go (dec_lt j t.writecount) (ℕ_discrete (r % e.state.partitions) p)
    where
      t : Transaction
      t = meaning_at o log i

      r : ℕ
      r = write_of t j

      falls : (x : plan.Slot) → SlotIs o.size (newest_of e.newest r) x → x ≡ last_write B r i
          → not_below (newest_of e.newest r) (slot_of i j) ≡ false
      falls plan.no_slot number last = rw (eq-eqb (newest_of e.newest r) no_slot number)
      falls (plan.slot a b) (number, (below_a, four_b)) last =
          let earlier : a < i = (last_known B d.proper r i a b (sym last)).0.earlier in
          rw (lt-leb (slot_of i j) (newest_of e.newest r) (omega (arith, number, earlier, four_b)))
          (right_fails (not (eqb (newest_of e.newest r) no_slot)) false refl)

      go : Dec (j < t.writecount) → Dec (r % e.state.partitions ≡ p)
          → (written_in e.state.partitions p t j && not_below (newest_of e.newest r) (slot_of i j)) ≡ false
      go (no past) either = rw (le-ltb j t.writecount (omega arith))
      go (yes within) (no elsewhere) =
          rw (lt-ltb j t.writecount within, ne_eqb (r % e.state.partitions) p elsewhere)
      go (yes within) (yes here) =
          let exists : r < o.records = (d.declared i below).writes_exist j within in
          let partition : B.partition_of r ≡ p =
          d.partition_is r ∙ ap (λ k. r % k) (sym stands.fixed.partitions_fixed) ∙ here in
          let newest_is : m.plan.newest r ≡ last_write B r i =
          (sound.planned.linked r).newest_is ∙ ap (λ q. last_write B r (m.plan.placed q)) partition ∙ ap
          (last_write B r) next in
          rw (falls (m.plan.newest r) (stands.plan_is.newest_is r exists) newest_is)
          (right_fails (written_in e.state.partitions p t j) false refl)

  -- so none of the checks of a place step finds a fault
  place_accepted : (p : ℕ) → p < o.partitions → m.plan.placed p < o.size
      → place_verdict e.state p log e.newest (length e.versions) ≡ Ok tt
  unfolding place_verdict
  place_accepted p there before =
      let i = placed_by e.state p in
      let next : m.plan.placed p ≡ i = sym (stands.placed_are p there) in
      let below : i < o.size = omega (arith, before, next) in
      let none_met : some_below 4 (meets_wrong e.state.partitions p i (meaning_at e.state log i) e.newest)
      ≡ false =
      none_holds 4 (meets_wrong e.state.partitions p i (meaning_at e.state log i) e.newest)
      (λ j four. rw (meaning_same i) (meets_right p i below there next j four)) in
      rw (
        place_lent,
        in_range B o log stored d e m stands sound,
        plans_still p there before,
        lt-leb e.state.partitions p (omega (arith, there, stands.fixed.partitions_fixed)),
        ne_eqb i e.state.size (λ same. absurd (omega (arith, same, below, stands.fixed.size_fixed))),
        log_right,
        verdict_same i below,
        none_met,
      )

  -- the engine after it
  placing : ℕ → Engine
  placing p =
      (running.after_place e (placed_when (Ok tt) e.state p log (record {
        newest = e.newest;
        versions = e.versions;
      }))
      ).engine

  placed_stands : (p : ℕ) → p < o.partitions → m.plan.placed p < o.size
      → Stands o stored (placing p) (record { plan = plan.place_next B m.plan p; execution = m.execution })
  unfolding placing plan.place_next
  placed_stands p there before =
      record {
        fixed =
            record {
              records_fixed = stands.fixed.records_fixed;
              partitions_fixed = stands.fixed.partitions_fixed;
              workers_fixed = stands.fixed.workers_fixed;
              next_fixed = stands.fixed.next_fixed;
              size_fixed = stands.fixed.size_fixed;
              batch_fixed = stands.fixed.batch_fixed;
              placed_length = length-set e.state.placed p (i + 1) ∙ stands.fixed.placed_length;
              rows_length = stands.fixed.rows_length;
              crew_length = stands.fixed.crew_length;
            };
        records_are = stands.records_are;
        results_length = stands.results_length;
        results_past = stands.results_past;
        plan_is =
            record {
              newest_length = planned.plan_is.newest_length;
              versions_length = planned.plan_is.versions_length;
              newest_is = planned.plan_is.newest_is;
              entries = λ a b within small.
                  record {
                    begin_is = (planned.plan_is.entries a b within small).begin_is;
                    end_is = (planned.plan_is.entries a b within small).end_is;
                    previous_is = (planned.plan_is.entries a b within small).previous_is;
                  };
            };
        contents_are = λ a b within small.
            rw (untouched.no_version a b) (planned.none_produced a b within small);
        placed_are =
            updated_all (λ (q c : ℕ). q < o.partitions → get_or (set e.state.placed p (i + 1)) q 0 ≡ c)
            m.plan.placed p (suc (m.plan.placed p))
            (λ here. get_or-set_same e.state.placed p (i + 1) 0 inside ∙ add-one i ∙ ap suc (sym next))
            (λ q other here.
            get_or-set_other e.state.placed p q (i + 1) 0 other ∙ stands.placed_are q here);
        placed_past = λ q past.
            get_or-set_other e.state.placed p q (i + 1) 0 (λ same. absurd (omega (arith, past, there, same)))
            ∙ stands.placed_past q past;
        rows_are = stands.rows_are;
        crew_are = stands.crew_are;
        crew_past = stands.crew_past;
      }
    where
      i : ℕ
      i = placed_by e.state p

      next : m.plan.placed p ≡ placed_by e.state p
      next = sym (stands.placed_are p there)

      inside : p < length e.state.placed
      inside = omega (arith, there, d.numbers.few_partitions, stands.fixed.placed_length)

      untouched : invariant.Untouched m.execution
      untouched = sound.early p (omega (arith, there, d.partitions_is)) (omega (arith, before, d.size_is))

      none : NoneProduced o.size e.versions
      none a b within small = rw (untouched.no_version a b) at (stands.contents_are a b within small)

      planned : Planning o.size o.records
          (place_below 4 e.state p (placed_by e.state p) (meaning_at e.state log (placed_by e.state p))
          (record { newest = e.newest; versions = e.versions }))
          (plan.link_writes B m.plan p (m.plan.placed p) (B.write_count (m.plan.placed p)))
      planned =
          rw (next, meaning_same (placed_by e.state p))
          (placed_all B o log stored d e.state stands.fixed p (placed_by e.state p)
          (omega (arith, before, next)) (record { newest = e.newest; versions = e.versions }) m.plan
          (record { plan_is = stands.plan_is; none_produced = none }))

  -- what the machine can place, the engine places
  pub place_makes : (p : ℕ) → p < o.partitions → m.plan.placed p < o.size
      → Makes B o log stored e m (machine.place p)
  unfolding offered place_of placing
  place_makes p there before =
      let partition : p < B.partitions = omega (arith, there, d.partitions_is) in
      let known : m.plan.placed p < B.known = omega (arith, before, d.known_is) in
      record {
        answer = machine.stepped;
        next = placing p;
        after = record { plan = plan.place_next B m.plan p; execution = m.execution };
        replies = rw (place_accepted p there before);
        is_step = machine.places partition known;
        stands = placed_stands p there before;
      }

  -- and what the engine places, the machine can
  place_passed : (p : ℕ) → place_verdict e.state p log e.newest (length e.versions) ≡ Ok tt
      → (p < o.partitions) × (m.plan.placed p < o.size)
  unfolding place_verdict
  place_passed p passed =
      let tables = passes (wrong_for_place e.state (length e.newest) (length e.versions)) _ _ _ passed in
      let ranged = passes (out_of_range e.state) _ _ _ tables.onward in
      let moment = passes (not_planning e.state) _ _ _ ranged.onward in
      let party = passes (leb e.state.partitions p) _ _ _ moment.onward in
      let open_still = passes (eqb (placed_by e.state p) e.state.size) _ _ _ party.onward in
      let small = leb-false e.state.partitions p party.no_fault in
      let there : p < o.partitions = omega (arith, small, stands.fixed.partitions_fixed) in
      let not_all = eqb-false (placed_by e.state p) e.state.size open_still.no_fault in
      let less : placed_by e.state p < o.size =
      below_of (placed_by e.state p) o.size (placed_most B o log stored d e m stands sound p there)
      (λ same. not_all (same ∙ sym stands.fixed.size_fixed)) in
      (there, omega (arith, less, stands.placed_are p there))

  pub place_can : (p : ℕ) (answer : machine.Answer) (next : Engine)
      → offer_to log e (store.step (machine.place p)) ≡ store.accepted answer next
      → (p < o.partitions) × (m.plan.placed p < o.size)
  unfolding offered place_of
  place_can p answer next accepted =
      go (place_verdict e.state p log e.newest (length e.versions)) refl accepted
    where
      go : (verdict : Verdict) → place_verdict e.state p log e.newest (length e.versions) ≡ verdict
          → reply_to (running.after_place e
          (placed_when verdict e.state p log (record { newest = e.newest; versions = e.versions })))
          ≡ store.accepted answer next
          → (p < o.partitions) × (m.plan.placed p < o.size)
      go (Ok tt) is reply = place_passed p is
      go (Err why) is reply = absurd (clash (cc))
