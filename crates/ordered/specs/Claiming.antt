-- A claim, in a state that the engine reaches.
use Rattle.std.specs.Prelude.{ℕ, ◌<◌, Bool, not, ◌≡◌, List, [], ltb, leb}
use Rattle.std.proofs.Math.Bool.{true, false}
use Rattle.std.proofs.Math.Path.{refl}
use Rattle.std.proofs.Common.{sym}
use Rattle.std.proofs.Math.Decide.{dec_lt}
use native.Mathlib.Omega.{arith}
use Rattle.std.proofs.Math.Dec.{eqb}
use borrow.Author.Tests.{lt-ltb, le-ltb, lt-leb, eq-eqb, ne_eqb, eqb-true, leb-false, not-false}
use Rattle.counters.specs.declared.Outcome.{Outcome}
use Rattle.packed.specs.LawsForm.{not_left, not_right}
use Rattle.packed.specs.LawsRecords.{not_both}
use Rattle.terms.specs.declared.refusal.Refusal.{Refusal}
use Rattle.terms.specs.declared.refusal.Refusal.TheVariants.{WrongMoment, NoSuchParty, WorkerBusyOrIdle}
use Rattle.terms.specs.declared.refusal.Refusal.TheVariants.{NotUnprocessed, StateOutOfRange}
use Rattle.engine.specs.Answers.{refuse_if}
use Rattle.engine.specs.Claim.{no_such_claim, after_claim, claim_of}
use Rattle.engine.specs.LawsCounting.{none_below}
use Rattle.engine.specs.Moment.{no_batch, places_still, planning_lasts, not_running}
use Rattle.engine.specs.Range.{row_at, worker_at, placed_by, out_of_range}
use Rattle.engine.specs.Rows.{row, is_unprocessed}
use Rattle.engine.specs.States.{with_row}
use Rattle.engine.specs.Workers.{is_idle, claimed}
use Rattle.engine.specs.declared.Progress.TheVariants.{Executing}
use Rattle.engine.specs.declared.State.{State}
use Rattle.engine.specs.declared.Stepped.{Stepped}
use Rattle.order.specs.Batch as order
use Rattle.order.specs.Invariant as invariant
use Rattle.order.specs.Machine as machine
use Rattle.order.specs.Store as store
use Rattle.order.specs.TableLaws.{clash}
use Rattle.ordered.specs.Chains.{right_fails, none_holds}
use Rattle.ordered.specs.Changing.{with_state, executed, row_changed, work_stands, row_changed_lem}
use Rattle.ordered.specs.Describing.{Describes}
use Rattle.ordered.specs.Ranging.{placed_most, in_range}
use Rattle.ordered.specs.Relation.{RowIs, WorkIs, Stands}
use Rattle.engine.specs.Running.{Engine, claim, offered}
use Rattle.engine.specs.Running as running
use Rattle.ordered.specs.Stepping.{reply_to, offer_to, Makes}

module _ (B : order.Batch ℕ Outcome) (o : State) (log stored : List ℕ) (d : Describes B o log stored)
    (e : Engine) (m : machine.State ℕ Outcome) (stands : Stands o stored e m) (sound : invariant.Sound B m) where
  -- the moment for claims and advances: planning is over
  pub batch_open : no_batch e.state ≡ false
  batch_open =
      ne_eqb e.state.size 0
      (λ none. absurd (omega (arith, none, stands.fixed.size_fixed, d.numbers.some_transaction)))

  pub runs : machine.PlanningOver B m.plan → not_running e.state ≡ false
  unfolding not_running
  runs over = rw (batch_open, none_holds 8 (places_still e.state) (λ p below. done p (dec_lt p o.partitions)))
    where
      done : (p : ℕ) → Dec (p < o.partitions) → places_still e.state p ≡ false
      done p (no past) = rw (le-ltb p e.state.partitions (omega (arith, stands.fixed.partitions_fixed)))
      done p (yes there) =
          let most = placed_most B o log stored d e m stands sound p there in
          let all : placed_by e.state p ≡ e.state.size =
          omega (
            arith,
            most,
            stands.placed_are p there,
            over p (omega (arith, d.partitions_is)),
            d.size_is,
            stands.fixed.size_fixed,
          ) in
          rw (eq-eqb (placed_by e.state p) e.state.size all)
          (right_fails (ltb p e.state.partitions) false refl)

  pub planning_over : not_running e.state ≡ false → machine.PlanningOver B m.plan
  unfolding not_running
  planning_over running p there =
      let within : p < o.partitions = omega (arith, d.partitions_is) in
      let few : p < 8 = omega (arith, within, d.numbers.few_partitions) in
      let lasts = not_right (no_batch e.state) (planning_lasts e.state) running in
      let still = none_below 8 (places_still e.state) lasts p few in
      let here = lt-ltb p e.state.partitions (omega (arith, within, stands.fixed.partitions_fixed)) in
      let all : eqb (placed_by e.state p) e.state.size ≡ true = not-false _ (rw here at still) in
      let same = eqb-true (placed_by e.state p) e.state.size all in
      omega (arith, same, stands.placed_are p within, d.size_is, stands.fixed.size_fixed)

  -- a row that is Unprocessed, and a worker that is idle, in one are so in the other
  unprocessed_there : (i : ℕ) → i < o.size → m.execution.row i ≡ machine.unprocessed
      → is_unprocessed (row_at e.state i) ≡ true
  unprocessed_there i below is = go (m.execution.row i) is (stands.rows_are i below)
    where
      go : (x : machine.Row ℕ Outcome) → x ≡ machine.unprocessed → RowIs (row_at e.state i) e.results i x
          → is_unprocessed (row_at e.state i) ≡ true
      go machine.unprocessed same row_is = rw row_is
      go (machine.executing w) same row_is = absurd (clash (cc))
      go (machine.complete outcome values) same row_is = absurd (clash (cc))

  pub unprocessed_here : (i : ℕ) → i < o.size → is_unprocessed (row_at e.state i) ≡ true
      → m.execution.row i ≡ machine.unprocessed
  unprocessed_here i below is = go (m.execution.row i) (stands.rows_are i below)
    where
      go : (x : machine.Row ℕ Outcome) → RowIs (row_at e.state i) e.results i x → x ≡ machine.unprocessed
      go machine.unprocessed row_is = refl
      go (machine.executing w) row_is = not_both (sym (rw row_is at is))
      go (machine.complete outcome values) row_is = not_both (sym (rw row_is.0 at is))

  pub idle_there : (w : ℕ) → w < o.workers → m.execution.work w ≡ machine.idle
      → is_idle (worker_at e.state w) ≡ true
  idle_there w there is = go (m.execution.work w) is (stands.crew_are w there)
    where
      go : (x : machine.Work ℕ Outcome) → x ≡ machine.idle → WorkIs (worker_at e.state w) x
          → is_idle (worker_at e.state w) ≡ true
      go machine.idle same work_is = rw work_is
      go (machine.reading i k values) same work_is = absurd (clash (cc))
      go (machine.decided i x) same work_is = absurd (clash (cc))

  pub idle_here : (w : ℕ) → w < o.workers → is_idle (worker_at e.state w) ≡ true → m.execution.work w ≡ machine.idle
  idle_here w there is = go (m.execution.work w) (stands.crew_are w there)
    where
      go : (x : machine.Work ℕ Outcome) → WorkIs (worker_at e.state w) x → x ≡ machine.idle
      go machine.idle work_is = refl
      go (machine.reading i k values) work_is = not_both (sym (rw work_is.phase_is at is))
      go (machine.decided i x) work_is = not_both (sym (rw work_is.phase_is at is))

  -- what the machine can claim, the engine claims
  pub claim_makes : (w i : ℕ) → machine.PlanningOver B m.plan → w < o.workers → i < o.size
      → m.execution.work w ≡ machine.idle → m.execution.row i ≡ machine.unprocessed
      → Makes B o log stored e m (machine.act (machine.claim w i))
  unfolding offered claim_of machine.with_work machine.with_both
  claim_makes w i over there below idle_now open_now =
      let worker : w < B.workers = omega (arith, there, d.workers_is) in
      let transaction : i < B.size = omega (arith, below, d.size_is) in
      record {
        answer = machine.stepped;
        next = with_state e (after_claim e.state w i);
        after = executed m (machine.with_both m.execution w (machine.reading i 0 []) i (machine.executing w));
        replies =
            rw (
              in_range B o log stored d e m stands sound,
              runs over,
              lt-leb e.state.workers w (omega (arith, there, stands.fixed.workers_fixed)),
              lt-leb e.state.size i (omega (arith, below, stands.fixed.size_fixed)),
              idle_there w there idle_now,
              unprocessed_there i below open_now,
            );
        is_step = machine.executes over (machine.claims worker transaction idle_now open_now);
        stands =
            work_stands o stored d.numbers
            (with_state e (with_row e.state i (row (Executing w))))
            (executed m (row_changed m.execution i (machine.executing w)))
            (row_changed_lem o stored d.numbers e m stands i (row (Executing w)) (machine.executing w) below refl)
            w (claimed i) (machine.reading i 0 []) there
            (record { phase_is = refl; transaction_is = refl; values_are = refl; count_is = refl });
      }

  -- and what the engine claims, the machine can
  pub record CanClaim (w i : ℕ) : Type 0 where
    pub over : machine.PlanningOver B m.plan
    pub there : w < o.workers
    pub below : i < o.size
    pub idle_now : m.execution.work w ≡ machine.idle
    pub open_now : m.execution.row i ≡ machine.unprocessed

  -- a check of the claim that is passed
  claim_passes : (fault : Bool) (refusal : Refusal) (rest : Stepped) (answer : machine.Answer) (next : Engine)
      → reply_to (running.after_claim e (refuse_if e.state fault refusal rest)) ≡ store.accepted answer next
      → (fault ≡ false) × (reply_to (running.after_claim e rest) ≡ store.accepted answer next)
  claim_passes true refusal rest answer next accepted = absurd (clash (cc))
  claim_passes false refusal rest answer next accepted = (refl, accepted)

  pub claim_can : (w i : ℕ) (answer : machine.Answer) (next : Engine)
      → offer_to log e (store.step (machine.act (machine.claim w i))) ≡ store.accepted answer next → CanClaim w i
  unfolding offered claim_of
  claim_can w i answer next accepted =
      let ranged = claim_passes (out_of_range e.state) StateOutOfRange _ answer next accepted in
      let moment = claim_passes (not_running e.state) WrongMoment _ answer next ranged.1 in
      let party = claim_passes (no_such_claim e.state w i) NoSuchParty _ answer next moment.1 in
      let free = claim_passes (not (is_idle (worker_at e.state w))) WorkerBusyOrIdle _ answer next party.1 in
      let unclaimed = claim_passes (not (is_unprocessed (row_at e.state i))) NotUnprocessed _ answer next free.1 in
      let worker =
      leb-false e.state.workers w (not_left (leb e.state.workers w) (leb e.state.size i) party.0) in
      let transaction =
      leb-false e.state.size i (not_right (leb e.state.workers w) (leb e.state.size i) party.0) in
      let there : w < o.workers = omega (arith, worker, stands.fixed.workers_fixed) in
      let below : i < o.size = omega (arith, transaction, stands.fixed.size_fixed) in
      record {
        over = planning_over moment.0;
        there = there;
        below = below;
        idle_now = idle_here w there (not-false (is_idle (worker_at e.state w)) free.0);
        open_now = unprocessed_here i below (not-false (is_unprocessed (row_at e.state i)) unclaimed.0);
      }
