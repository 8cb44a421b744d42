-- An advance, in a state that the engine reaches.
use Rattle.std.specs.Prelude.{ℕ, ◌<◌, false, ◌≡◌, List, leb, length, Ok, Err}
use Rattle.std.proofs.Math.Option.{some}
use Rattle.std.proofs.Math.Path.{refl}
use Rattle.std.proofs.Common.{sym, ◌∙◌, arith}
use borrow.Author.Tests.{leb-false}
use Rattle.packed.specs.LawsRecords.{not_both}
use Rattle.counters.specs.declared.Outcome.{Outcome}
use Rattle.engine.specs.Advance.{wrong_for_advance, advance_verdict, advanced_when, advance_of}
use Rattle.engine.specs.Moment.{not_running}
use Rattle.engine.specs.Range.{worker_at, out_of_range}
use Rattle.engine.specs.Workers.{is_idle}
use Rattle.engine.specs.declared.State.{State}
use Rattle.order.specs.Batch as order
use Rattle.order.specs.Invariant as invariant
use Rattle.order.specs.Machine as machine
use Rattle.order.specs.Store as store
use Rattle.order.specs.TableLaws.{clash}
use Rattle.ordered.specs.Advancing.{reader_makes}
use Rattle.ordered.specs.Chains.{passes}
use Rattle.ordered.specs.Claiming.{planning_over, idle_there}
use Rattle.ordered.specs.Describing.{Describes}
use Rattle.ordered.specs.Filling.{decider_makes}
use Rattle.ordered.specs.Relation.{Stands}
use Rattle.engine.specs.Running.{Engine, offered}
use Rattle.engine.specs.Running as running
use Rattle.ordered.specs.Stepping.{reply_to, offer_to, Makes}
use Rattle.terms.specs.Refusals.{Verdict}

module _ (B : order.Batch ℕ Outcome) (o : State) (log stored : List ℕ) (d : Describes B o log stored)
    (e : Engine) (m : machine.State ℕ Outcome) (stands : Stands o stored e m) (sound : invariant.Sound B m) where
  -- a worker that holds a transaction advances as the machine's does
  pub advance_makes : (w i : ℕ) → machine.PlanningOver B m.plan → w < o.workers
      → machine.held_by (m.execution.work w) ≡ some i → Makes B o log stored e m (machine.act (machine.advance w))
  advance_makes w i over there held = go (m.execution.work w) refl held
    where
      go : (work : machine.Work ℕ Outcome) → m.execution.work w ≡ work → machine.held_by work ≡ some i
          → Makes B o log stored e m (machine.act (machine.advance w))
      go machine.idle is holds = absurd (clash (cc))
      go (machine.reading a k values) is holds =
          reader_makes B o log stored d e m stands sound over w a k values there is
      go (machine.decided a x) is holds = decider_makes B o log stored d e m stands sound over w a x there is

  -- and no other worker advances
  pub record CanAdvance (w : ℕ) : Type 0 where
    pub over : machine.PlanningOver B m.plan
    pub there : w < o.workers
    pub transaction : ℕ
    pub holds : machine.held_by (m.execution.work w) ≡ some transaction

  -- a worker that is not idle holds one
  pub holder : (w : ℕ) → w < o.workers → is_idle (worker_at e.state w) ≡ false → (work : machine.Work ℕ Outcome)
      → m.execution.work w ≡ work → (i : ℕ) × (machine.held_by (m.execution.work w) ≡ some i)
  holder w there busy machine.idle is =
      not_both (sym (idle_there B o log stored d e m stands sound w there is) ∙ busy)
  holder w there busy (machine.reading i k values) is = (i, (rw is))
  holder w there busy (machine.decided i x) is = (i, (rw is))

  abbrev verdict : ℕ → Verdict
  verdict w =
      advance_verdict e.state w log (length e.records) (length e.newest) (length e.versions)
      (length e.results)

  advance_passed : (w : ℕ) → verdict w ≡ Ok tt → CanAdvance w
  unfolding advance_verdict
  advance_passed w passed =
      let tables =
      passes
      (wrong_for_advance e.state (length e.records) (length e.newest) (length e.versions) (length
      e.results))
      _ _ _ passed in
      let ranged = passes (out_of_range e.state) _ _ _ tables.onward in
      let moment = passes (not_running e.state) _ _ _ ranged.onward in
      let party = passes (leb e.state.workers w) _ _ _ moment.onward in
      let busy = passes (is_idle (worker_at e.state w)) _ _ _ party.onward in
      let small = leb-false e.state.workers w party.no_fault in
      let there : w < o.workers = omega (arith, small, stands.fixed.workers_fixed) in
      let holding = holder w there busy.no_fault (m.execution.work w) refl in
      record {
        over = planning_over B o log stored d e m stands sound moment.no_fault;
        there = there;
        transaction = holding.0;
        holds = holding.1;
      }

  pub advance_can : (w : ℕ) (answer : machine.Answer) (next : Engine)
      → offer_to log e (store.step (machine.act (machine.advance w))) ≡ store.accepted answer next → CanAdvance w
  unfolding offered advance_of
  advance_can w answer next accepted = go (verdict w) refl accepted
    where
      go : (x : Verdict) → verdict w ≡ x
          → reply_to
          (running.after_advance e
          (advanced_when x e.state w log e.records e.newest e.versions e.results))
          ≡ store.accepted answer next
          → CanAdvance w
      go (Ok tt) is reply = advance_passed w is
      go (Err why) is reply = absurd (clash (cc))
