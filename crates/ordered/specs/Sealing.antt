-- The seal, in a state that the engine reaches; and that nothing is accepted after it.
use Prim.Native.Nat.{ℕ, zero, suc, ◌*◌, ◌<◌}
use Rattle.std.specs.Prelude.{Bool, false, ◌||◌, ◌≡◌, List, ltb, eqb, length, Ok, Err}
use Rattle.std.proofs.Math.Bool.{true}
use Rattle.std.proofs.Math.Path.{refl}
use Rattle.std.proofs.Common.{sym, ap, ◌∙◌, arith}
use Rattle.std.proofs.Math.Decide.{dec_lt}
use borrow.Author.Tests.{lt-ltb, le-ltb, eq-eqb, not-false}
use Rattle.terms.specs.Reserved.{no_slot}
use Rattle.packed.specs.LawsForm.{not_right}
use Rattle.packed.specs.LawsRecords.{not_both}
use Rattle.versions.specs.Seal.{slot_sound, sound_below, newest_sound_of}
use Rattle.versions.specs.Table.{entry_of, lesser_of}
use Rattle.versions.specs.declared.Version.{Version}
use Rattle.counters.specs.declared.Outcome.{Outcome}
use Rattle.engine.specs.LawsCounting.{none_below}
use Rattle.engine.specs.Moment.{no_batch, row_unfinished, not_sealable}
use Rattle.engine.specs.Place.{slot_of}
use Rattle.engine.specs.Range.{row_at, out_of_range}
use Rattle.engine.specs.Rows.{is_complete}
use Rattle.engine.specs.Seal.{wrong_for_seal, seal_verdict, sealed_by, seal_of}
use Rattle.engine.specs.Tables.{newest_of}
use Rattle.engine.specs.declared.State.{State}
use Rattle.order.specs.Batch as order
use Rattle.order.specs.Invariant as invariant
use Rattle.order.specs.LastWrite.{last_write, last_known}
use Rattle.order.specs.Machine as machine
use Rattle.order.specs.Plan as plan
use Rattle.order.proofs.Safety.{complete_planned}
use Rattle.order.specs.Store as store
use Rattle.order.specs.TableLaws.{clash}
use Rattle.ordered.specs.Chains.{passes, right_fails, none_holds}
use Rattle.ordered.specs.Claiming.{batch_open}
use Rattle.ordered.specs.Describing.{Describes}
use Rattle.ordered.specs.Fitting.{records_right}
use Rattle.ordered.specs.Looking.{all_placed, lesser}
use Rattle.ordered.specs.Placing.{newest_right, versions_right}
use Rattle.ordered.specs.Ranging.{in_range}
use Rattle.ordered.specs.Relation.{SlotIs, ContentsIs, RowIs, Stands}
use Rattle.engine.specs.Running.{Engine, seal, offered}
use Rattle.engine.specs.Running as running
use Rattle.ordered.specs.Stepping.{reply_to, offer_to}
use Rattle.terms.specs.Refusals.{Verdict}

-- the engine after an accepted seal
abbrev pub sealed_engine : Engine → Engine
sealed_engine e =
    (running.after_seal e (sealed_by (Ok tt) e.state e.records e.newest e.versions)).engine

-- every newest slot is sound
all_sound : (versions : List Version) (newest : List ℕ) (limit count : ℕ)
    → ((r : ℕ) → r < count → slot_sound (newest_of newest r) (entry_of versions (newest_of newest r)) limit ≡ true)
    → sound_below versions newest limit count ≡ true
all_sound versions newest limit zero each = refl
all_sound versions newest limit (suc count) each =
    rw (all_sound versions newest limit count (λ r below. each r (omega (arith, below))), each count (omega arith))

module _ (B : order.Batch ℕ Outcome) (o : State) (log stored : List ℕ) (d : Describes B o log stored)
    (e : Engine) (m : machine.State ℕ Outcome) (stands : Stands o stored e m) (sound : invariant.Sound B m) where
  -- every transaction is Complete in both
  complete_there : machine.AllComplete B m → not_sealable e.state ≡ false
  unfolding not_sealable
  complete_there all =
      rw (
        batch_open B o log stored d e m stands sound,
        none_holds 64 (row_unfinished e.state) (λ i few. finished i (dec_lt i o.size)),
      )
    where
      complete : (i : ℕ) (x : machine.Row ℕ Outcome) → machine.IsComplete B x
          → RowIs (row_at e.state i) e.results i x
          → is_complete (row_at e.state i) ≡ true
      complete i machine.unprocessed is_complete_lem is = absurd is_complete_lem
      complete i (machine.executing w) is_complete_lem is = absurd is_complete_lem
      complete i (machine.complete outcome values) is_complete_lem is = rw is.0

      finished : (i : ℕ) → Dec (i < o.size) → row_unfinished e.state i ≡ false
      finished i (no past) = rw (le-ltb i e.state.size (omega (arith, stands.fixed.size_fixed)))
      finished i (yes below) =
          let is_complete_lem = all i (omega (arith, below, d.size_is)) in
          rw (complete i (m.execution.row i) is_complete_lem (stands.rows_are i below))
          (right_fails (ltb i e.state.size) false refl)

  pub complete_here : not_sealable e.state ≡ false → machine.AllComplete B m
  unfolding not_sealable
  complete_here sealable i there =
      let below : i < o.size = omega (arith, there, d.size_is) in
      let few : i < 64 = omega (arith, below, d.numbers.few_transactions) in
      let unfinished = not_right (no_batch e.state) _ sealable in
      let this = none_below 64 (row_unfinished e.state) unfinished i few in
      let here = lt-ltb i e.state.size (omega (arith, below, stands.fixed.size_fixed)) in
      complete i (m.execution.row i) (not-false (is_complete (row_at e.state i)) (rw here at this))
      (stands.rows_are i below)
    where
      complete : (i : ℕ) (x : machine.Row ℕ Outcome) → is_complete (row_at e.state i) ≡ true
          → RowIs (row_at e.state i) e.results i x → machine.IsComplete B x
      complete i machine.unprocessed is_complete_lem is = not_both (sym (rw is at is_complete_lem))
      complete i (machine.executing w) is_complete_lem is = not_both (sym (rw is at is_complete_lem))
      complete i (machine.complete outcome values) is_complete_lem is = tt

  -- a newest version is produced
  newest_sound : machine.AllComplete B m → newest_sound_of e.versions e.newest (4 * e.state.size) ≡ true
  newest_sound all =
      all_sound e.versions e.newest (lesser_of (4 * e.state.size) (length e.versions)) (length e.newest)
      (λ r below. slot r (omega (arith, below, stands.plan_is.newest_length)))
    where
      over : machine.PlanningOver B m.plan
      over = complete_planned B d.proper m sound all

      bound : lesser_of (4 * e.state.size) (length e.versions) ≡ 4 * o.size
      bound =
          rw (stands.fixed.size_fixed, stands.plan_is.versions_length)
          (lesser (4 * o.size) 256 (omega (arith, d.numbers.few_transactions)))

      row_produces : (a b : ℕ) (x : machine.Row ℕ Outcome) → b < B.write_count a → machine.IsComplete B x
          → invariant.RowRight B m.execution.contents a x → invariant.IsProduced (m.execution.contents a b)
      row_produces a b machine.unprocessed written is_complete_lem right = absurd is_complete_lem
      row_produces a b (machine.executing w) written is_complete_lem right = absurd is_complete_lem
      row_produces a b (machine.complete outcome values) written is_complete_lem right = right.all_produced b written

      marked : (version : Version) (x : machine.Contents ℕ) → invariant.IsProduced x → ContentsIs version x
          → version.produced ≡ true
      marked version machine.unproduced is_produced is = absurd is_produced
      marked version (machine.produced y) is_produced is = is.0

      cases : (r : ℕ) (x : plan.Slot) → last_write B r o.size ≡ x → SlotIs o.size (newest_of e.newest r) x
          → slot_sound (newest_of e.newest r) (entry_of e.versions (newest_of e.newest r))
          (lesser_of (4 * e.state.size) (length e.versions)) ≡ true
      cases r plan.no_slot last number = rw (eq-eqb (newest_of e.newest r) no_slot number)
      cases r (plan.slot a b) last (number, (below, four)) =
          let write = (last_known B d.proper r o.size a b last).0 in
          let is_complete_lem = all a (omega (arith, below, d.size_is)) in
          let is_produced =
          row_produces a b (m.execution.row a) write.declared is_complete_lem (sound.execution_right.rows a) in
          let produced : (entry_of e.versions (slot_of a b)).produced ≡ true =
          marked (entry_of e.versions (slot_of a b)) (m.execution.contents a b) is_produced
          (stands.contents_are a b below four) in
          rw (
            number,
            bound,
            lt-ltb (slot_of a b) (4 * o.size) (omega (arith, below, four)),
            produced,
          ) (either (eqb (slot_of a b) no_slot))
        where
          either : (x : Bool) → (x || true) ≡ true
          either true = refl
          either false = refl

      slot : (r : ℕ) → r < o.records
          → slot_sound (newest_of e.newest r) (entry_of e.versions (newest_of e.newest r))
          (lesser_of (4 * e.state.size) (length e.versions)) ≡ true
      slot r below =
          let last : last_write B r o.size ≡ m.plan.newest r =
          sym ((sound.planned.linked r).newest_is
          ∙ ap (last_write B r) (all_placed B o log stored d e m stands sound over r)) in
          cases r (m.plan.newest r) last (stands.plan_is.newest_is r below)

  pub seal_lent : wrong_for_seal e.state (length e.records) (length e.newest) (length e.versions) ≡ false
  seal_lent =
      rw (
        records_right B o log stored d e m stands sound,
        newest_right B o log stored d e m stands sound,
        versions_right B o log stored d e m stands sound,
      )

  -- where every transaction is Complete the seal is accepted, and only there
  pub seal_makes : machine.AllComplete B m
      → offer_to log e store.seal ≡ store.accepted machine.stepped (sealed_engine e)
  unfolding offered seal_of seal_verdict
  seal_makes all =
      rw (
        seal_lent,
        in_range B o log stored d e m stands sound,
        complete_there all,
        newest_sound all,
      )

  abbrev verdict : Verdict
  verdict =
      seal_verdict e.state (length e.records) (length e.newest) (length e.versions)
      (newest_sound_of e.versions e.newest (4 * e.state.size))

  seal_passed : verdict ≡ Ok tt → machine.AllComplete B m
  unfolding seal_verdict
  seal_passed passed =
      let tables =
      passes (wrong_for_seal e.state (length e.records) (length e.newest) (length e.versions)) _ _ _ passed in
      let ranged = passes (out_of_range e.state) _ _ _ tables.onward in
      let moment = passes (not_sealable e.state) _ _ _ ranged.onward in
      complete_here moment.no_fault

  pub seal_can : (answer : machine.Answer) (next : Engine) → offer_to log e store.seal ≡ store.accepted answer next
      → machine.AllComplete B m × (next ≡ sealed_engine e)
  unfolding offered seal_of
  seal_can answer next accepted = go verdict refl accepted
    where
      go : (x : Verdict) → verdict ≡ x
          → reply_to (running.after_seal e (sealed_by x e.state e.records e.newest e.versions))
          ≡ store.accepted answer next
          → machine.AllComplete B m × (next ≡ sealed_engine e)
      go (Ok tt) is reply = (seal_passed is, (cc))
      go (Err why) is reply = absurd (clash (cc))
