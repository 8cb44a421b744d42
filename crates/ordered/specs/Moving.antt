-- What an advance does, in a state that the engine reaches: the two ways to lay a transaction down, and the move that
-- the worker's act comes to.
use Prim.Native.Nat.{ℕ, ◌+◌, ◌*◌, ◌≤◌, ◌<◌}
use Rattle.std.proofs.Math.Option.{some}
use Rattle.std.specs.Prelude.{◌≡◌, Result, length, get_or}
use Rattle.std.proofs.Math.Path.{refl}
use Rattle.std.proofs.Common.{ap, ◌∙◌, arith}
use mathlib.Core.List.{List}
use Rattle.counters.specs.Storing.{in_four}
use Rattle.counters.specs.declared.Outcome.{Outcome}
use Rattle.engine.specs.Acts.{act_of}
use Rattle.engine.specs.Advance.{look_of, move_by, move_of, put_four, carried_out, advance_of}
use Rattle.engine.specs.Place.{meaning_at}
use Rattle.engine.specs.Range.{worker_at}
use Rattle.engine.specs.Rows.{row}
use Rattle.engine.specs.States.{with_row, with_worker}
use Rattle.engine.specs.Workers.{idle_worker}
use Rattle.engine.specs.declared.Progress.TheVariants.{Unprocessed, Complete}
use Rattle.engine.specs.declared.State.{State}
use Rattle.engine.specs.declared.moves.Move.{Move}
use Rattle.terms.specs.declared.refusal.Refused.{Refused}
use Rattle.order.specs.Batch as order
use Rattle.order.specs.Invariant as invariant
use Rattle.order.specs.Machine as machine
use Rattle.order.specs.Store as store
use Rattle.ordered.specs.Changing.{with_state, with_results, executed, row_changed, work_stands, row_stands}
use Rattle.ordered.specs.Changing.{row_changed_lem}
use Rattle.ordered.specs.Describing.{Numbers, Describes}
use Rattle.ordered.specs.Fitting.{advance_accepted}
use Rattle.ordered.specs.Placing.{meaning_same}
use Rattle.ordered.specs.Ranging.{busy}
use Rattle.ordered.specs.Relation.{four_at, Stands}
use Rattle.ordered.specs.Results.{put_length, put_elsewhere, put_here, put_others}
use Rattle.engine.specs.Running.{Engine, advance, offered}
use Rattle.engine.specs.Running as running
use Rattle.ordered.specs.Stepping.{reply_to, offer_to}

module _ (o : State) (stored : List ℕ) (numbers : Numbers o) (e : Engine) (m : machine.State ℕ Outcome)
    (stands : Stands o stored e m) (w i : ℕ) (there : w < o.workers) (below : i < o.size) where
  -- "the worker drops all it read and becomes idle, the transaction becomes Unprocessed"
  pub dropped_stands : Stands o stored
      (with_state e (with_worker (with_row e.state i (row Unprocessed)) w idle_worker))
      (executed m (machine.dropped m.execution w i))
  unfolding machine.with_both machine.with_work
  dropped_stands =
      work_stands o stored numbers
      (with_state e (with_row e.state i (row Unprocessed)))
      (executed m (row_changed m.execution i machine.unprocessed))
      (row_changed_lem o stored numbers e m stands i (row Unprocessed) machine.unprocessed below refl)
      w idle_worker machine.idle there refl

  -- "completes the transaction: four result numbers at 4i are the values read, then zeros, and the worker becomes
  -- idle"
  pub completed_stands : (outcome : Outcome) (values : List ℕ)
      → Stands o stored
      (with_results (with_state e (with_worker (with_row e.state i (row (Complete outcome))) w idle_worker))
      (put_four e.results (4 * i) (in_four values)))
      (executed m (machine.completed m.execution w i outcome values))
  unfolding machine.with_both machine.with_work
  completed_stands outcome values =
      work_stands o stored numbers
      (with_results (with_state e (with_row e.state i (row (Complete outcome)))) results)
      (executed m (row_changed m.execution i (machine.complete outcome values)))
      (row_stands o stored numbers e m stands i (row (Complete outcome)) results
      (machine.complete outcome values) below long past others (refl, here))
      w idle_worker machine.idle there refl
    where
      results : List ℕ
      results = put_four e.results (4 * i) (in_four values)

      inside : 4 * i + 3 < length e.results
      inside = omega (arith, below, numbers.few_transactions, stands.results_length)

      long : length (put_four e.results (4 * i) (in_four values)) ≡ 256
      long = put_length e.results (4 * i) (in_four values) ∙ stands.results_length

      past : (k : ℕ) → 4 * o.size ≤ k → get_or (put_four e.results (4 * i) (in_four values)) k 0 ≡ 0
      past k far =
          put_elsewhere e.results (4 * i) (in_four values) k (λ same. absurd (omega (arith, far, same, below)))
          (λ same. absurd (omega (arith, far, same, below)))
          (λ same. absurd (omega (arith, far, same, below)))
          (λ same. absurd (omega (arith, far, same, below)))
          ∙ stands.results_past k far

      others : (a : ℕ) → (a ≡ i → ⊥)
          → four_at (put_four e.results (4 * i) (in_four values)) (4 * a) ≡ four_at e.results (4 * a)
      others a other = put_others e.results i (in_four values) a other

      here : four_at (put_four e.results (4 * i) (in_four values)) (4 * i) ≡ in_four values
      here = put_here e.results (4 * i) (in_four values) inside

module _ (B : order.Batch ℕ Outcome) (o : State) (log stored : List ℕ) (d : Describes B o log stored)
    (e : Engine) (m : machine.State ℕ Outcome) (stands : Stands o stored e m) (sound : invariant.Sound B m)
    (over : machine.PlanningOver B m.plan) (w i : ℕ) (there : w < o.workers)
    (held : machine.held_by (m.execution.work w) ≡ some i) where
  pub below : i < o.size
  below = omega (arith, (sound.execution_right.holder w i held).0, d.size_is)

  transaction_is : (worker_at e.state w).transaction ≡ i
  transaction_is =
      (busy B o log stored d e m stands sound (worker_at e.state w) i (m.execution.work w) held
      (stands.crew_are w there)).1

  -- the move of the worker's act
  abbrev pub move : Result Move Refused
  move =
      move_by (act_of (worker_at e.state w) (meaning_at o log i)) (worker_at e.state w) (meaning_at o log i)
      (look_of e.state i e.records e.newest e.versions)

  move_is : move_of e.state (worker_at e.state w) log e.records e.newest e.versions ≡ move
  move_is =
      ap (λ k.
      move_by (act_of (worker_at e.state w) (meaning_at e.state log k)) (worker_at e.state w)
      (meaning_at e.state log k) (look_of e.state k e.records e.newest e.versions)) transaction_is
      ∙ ap (λ t.
      move_by (act_of (worker_at e.state w) t) (worker_at e.state w) t
      (look_of e.state i e.records e.newest e.versions)) (meaning_same B o log stored d e m stands sound i)

  -- the move is carried out
  pub moves : (x : Result Move Refused) → move ≡ x
      → offer_to log e (store.step (machine.act (machine.advance w)))
      ≡ reply_to (running.after_advance e (carried_out x e.state w i e.versions e.results))
  unfolding offered advance_of
  moves x is =
      let accepted = advance_accepted B o log stored d e m stands sound w i over there below held in
      rw (accepted, move_is, is, transaction_is)
