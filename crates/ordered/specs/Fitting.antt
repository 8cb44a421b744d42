-- A worker and its transaction, in a state that the engine reaches: they fit, so no check of an advance finds a
-- fault.
use Rattle.std.specs.Prelude.{ℕ, ◌≤◌, ◌<◌, ◌&&◌, ◌≡◌, refl, List, Ok}
use Rattle.std.proofs.Math.Bool.{false}
use Rattle.std.proofs.Math.Option.{some}
use Rattle.std.proofs.Common.{sym, ◌∙◌, arith}
use Rattle.std.proofs.Math.Path.{ap}
use Rattle.std.proofs.Math.Decide.{dec_lt}
use Rattle.std.proofs.Math.Dec.{ltb}
use Rattle.std.proofs.Math.ListN.{length}
use borrow.Author.Tests.{le-ltb, lt-leb, eq-eqb}
use Rattle.counters.specs.LawsDecision.{decided_shaped}
use Rattle.counters.specs.Storing.{in_four}
use Rattle.counters.specs.declared.Outcome.{Outcome}
use Rattle.engine.specs.Acts.{marks_of, unfit}
use Rattle.engine.specs.Advance.{wrong_for_advance, work_fits, advance_verdict}
use Rattle.engine.specs.Place.{meaning_at}
use Rattle.engine.specs.Range.{worker_at}
use Rattle.engine.specs.Tables.{not_of}
use Rattle.engine.specs.declared.State.{State}
use Rattle.engine.specs.declared.Worker.{Worker}
use Rattle.order.specs.Batch as order
use Rattle.order.specs.Invariant as invariant
use Rattle.order.specs.Machine as machine
use Rattle.order.specs.OneByOne.{values_at, decision_on, records_before, decision_of}
use Rattle.order.specs.Tables as table
use Rattle.order.specs.TableLaws.{clash}
use Rattle.ordered.specs.Chains.{right_fails}
use Rattle.ordered.specs.Claiming.{runs}
use Rattle.ordered.specs.Describing.{Describes}
use Rattle.ordered.specs.Marking.{marks_all, none_past}
use Rattle.ordered.specs.Placing.{meaning_same, verdict_same, log_right, newest_right, versions_right}
use Rattle.ordered.specs.Ranging.{values_length, busy, in_range}
use Rattle.ordered.specs.Relation.{ReadingIs, DecidedIs, WorkIs, Stands}
use Rattle.engine.specs.Running.{Engine}

module _ (B : order.Batch ℕ Outcome) (o : State) (log stored : List ℕ) (d : Describes B o log stored)
    (e : Engine) (m : machine.State ℕ Outcome) (stands : Stands o stored e m) (sound : invariant.Sound B m) where
  -- no mark stands past the write count
  pub past_unmarked : (i : ℕ) (x : machine.Decided ℕ Outcome) → i < o.size
      → invariant.DecidedRight B m.execution.contents i x → (j : ℕ) → (meaning_at o log i).writecount ≤ j
      → x.carried j ≡ false
  unfolding decision_of decision_on
  past_unmarked i x below right j past =
      let values = values_at B (records_before B i) i (B.read_count i) in
      right.marks_are j
      ∙ (d.decides_as i values below).carried_are j
      ∙ (decided_shaped (meaning_at o log i) (in_four values)).past_uncarried j past

  -- as many marks are there as the machine counts
  pub marks_counted : (worker : Worker) (i : ℕ) (x : machine.Decided ℕ Outcome) → i < o.size → DecidedIs worker i x
      → invariant.DecidedRight B m.execution.contents i x
      → marks_of worker.carried ≡ table.marks_below x.carried (B.write_count i)
  marks_counted worker i x below is right =
      marks_all worker.carried x.carried is.carried_are (meaning_at o log i).writecount
      (d.declared i below).few_writes (past_unmarked i x below right)
      ∙ ap (table.marks_below x.carried) (sym (d.writes_count i below))

  -- 15: none of a worker's faults
  reading_fits : (worker : Worker) (i k : ℕ) (values : List ℕ) → i < o.size → ReadingIs worker i k values
      → invariant.ReadingRight B i k values → unfit worker (meaning_at o log i) ≡ false
  unfolding unfit
  reading_fits worker i k values below is right =
      rw is.phase_is
      (le-ltb (meaning_at o log i).readcount k (omega (arith, right.within, d.reads_count i below)))

  decided_fits : (worker : Worker) (i : ℕ) (x : machine.Decided ℕ Outcome) → i < o.size → DecidedIs worker i x
      → invariant.DecidedRight B m.execution.contents i x → unfit worker (meaning_at o log i) ≡ false
  unfolding unfit
  decided_fits worker i x below is right =
      let values_few : length x.values_read ≤ (meaning_at o log i).readcount =
      omega (arith, ap length right.values_are, values_length B i, d.reads_count i below) in
      let marks = marks_counted worker i x below is right in
      let carries_few : x.carries ≤ marks_of worker.carried = omega (arith, marks, right.carries_fit) in
      rw (
        is.phase_is,
        le-ltb (meaning_at o log i).readcount (length x.values_read) values_few,
        none_past worker.carried x.carried is.carried_are (meaning_at o log i).writecount
            (d.declared i below).few_writes (past_unmarked i x below right),
        le-ltb (marks_of worker.carried) x.carries carries_few,
        in_turn marks (dec_lt 0 x.fills),
        lt-leb (meaning_at o log i).writecount x.fills (omega (arith, right.fill_left, d.writes_count i below)),
      )
    where
      in_turn : marks_of worker.carried ≡ table.marks_below x.carried (B.write_count i) → Dec (0 < x.fills)
          → (ltb 0 x.fills && ltb x.carries (marks_of worker.carried)) ≡ false
      in_turn marks (no none) = rw (le-ltb 0 x.fills (omega arith))
      in_turn marks (yes some_filled) =
          rw (le-ltb x.carries (marks_of worker.carried) (omega (arith, marks, right.carried_first some_filled)))
          (right_fails (ltb 0 x.fills) false refl)

  pub worker_fits : (w i : ℕ) → w < o.workers → i < o.size → machine.held_by (m.execution.work w) ≡ some i
      → unfit (worker_at e.state w) (meaning_at o log i) ≡ false
  worker_fits w i there below held =
      go (m.execution.work w) held (stands.crew_are w there) (sound.execution_right.works w)
    where
      go : (work : machine.Work ℕ Outcome) → machine.held_by work ≡ some i → WorkIs (worker_at e.state w) work
          → invariant.WorkRight B m.execution.contents work
          → unfit (worker_at e.state w) (meaning_at o log i) ≡ false
      go machine.idle held is right = absurd (clash (cc))
      go (machine.reading a k values) held is right =
          let same : a ≡ i = cc in
          rw (← same)
          (reading_fits (worker_at e.state w) a k values (omega (arith, same, below)) is right)
      go (machine.decided a x) held is right =
          let same : a ≡ i = cc in
          rw (← same) (decided_fits (worker_at e.state w) a x (omega (arith, same, below)) is right)

  -- so an advance by a worker that holds a transaction is accepted
  pub records_right : not_of (length e.records) e.state.records ≡ false
  records_right =
      rw (eq-eqb (length e.records) e.state.records
      (ap length stands.records_are ∙ d.stored_length ∙ sym stands.fixed.records_fixed))

  results_right : not_of (length e.results) 256 ≡ false
  results_right = rw (eq-eqb (length e.results) 256 stands.results_length)

  pub advance_lent : wrong_for_advance e.state (length e.records) (length e.newest) (length e.versions)
      (length e.results) ≡ false
  advance_lent =
      rw (
        records_right,
        newest_right B o log stored d e m stands sound,
        versions_right B o log stored d e m stands sound,
        results_right,
      )

  pub advance_accepted : (w i : ℕ) → machine.PlanningOver B m.plan → w < o.workers → i < o.size
      → machine.held_by (m.execution.work w) ≡ some i
      → advance_verdict e.state w log (length e.records) (length e.newest) (length e.versions)
      (length e.results) ≡ Ok tt
  unfolding advance_verdict
  advance_accepted w i over there below held =
      let holds_it =
      busy B o log stored d e m stands sound (worker_at e.state w) i (m.execution.work w) held
      (stands.crew_are w there) in
      let fits : work_fits e.state (worker_at e.state w) log ≡ Ok tt =
      rw (
        holds_it.1,
        verdict_same B o log stored d e m stands sound i below,
        meaning_same B o log stored d e m
            stands sound i,
        worker_fits w i there below held,
      ) in
      rw (
        advance_lent,
        in_range B o log stored d e m stands sound,
        runs B o log stored d e m stands sound over,
        lt-leb e.state.workers w (omega (arith, there, stands.fixed.workers_fixed)),
        holds_it.0,
        log_right B o log stored d e m stands sound,
        fits,
      )
