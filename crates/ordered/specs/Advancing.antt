-- An advance by a worker that reads, in a state that the engine reaches: it reads, waits or decides as the machine
-- does.
use Rattle.std.specs.Prelude.{ℕ, suc, ◌+◌, ◌*◌, ◌≤◌, ◌<◌, ◌≡◌, List, [], ◌∷◌, ◌++◌, length, get_or, set}
use Rattle.std.specs.Prelude.{Some, None, Ok}
use Rattle.std.proofs.Math.Option.{some}
use Rattle.std.proofs.Common.{sym, ◌∙◌, subst, add-one, arith, length-append}
use Rattle.std.proofs.Math.Path.{ap}
use Rattle.std.proofs.Math.Decide.{ℕ_discrete, dec_lt}
use borrow.Author.Tests.{lt-ltb, le-ltb, eq-eqb, ne_eqb}
use Rattle.packed.specs.declared.Transaction.{Transaction}
use Rattle.counters.specs.Deciding.{decide_of}
use Rattle.counters.specs.LawsDecision.{decided_shaped}
use Rattle.counters.specs.Storing.{in_four}
use Rattle.counters.specs.declared.Decision.{Decision}
use Rattle.counters.specs.declared.Outcome.{Outcome}
use Rattle.engine.specs.Acts.{act_of}
use Rattle.engine.specs.Advance.{look_of, unfilled, goes_on, waits_for, reads, decides, move_by, put_four}
use Rattle.engine.specs.Place.{meaning_at}
use Rattle.engine.specs.Range.{worker_at}
use Rattle.engine.specs.Rows.{row}
use Rattle.engine.specs.States.{with_row, with_worker}
use Rattle.engine.specs.Workers.{idle_worker, one_more, with_value, count_in, with_decision}
use Rattle.engine.specs.declared.Phase.TheVariants.{Reading}
use Rattle.engine.specs.declared.Progress.TheVariants.{Unprocessed, Complete}
use Rattle.engine.specs.declared.State.{State}
use Rattle.engine.specs.declared.Worker.{Worker}
use Rattle.engine.specs.declared.acts.Act.TheVariants.{Decide}
use Rattle.order.specs.Batch as order
use Rattle.order.specs.Invariant as invariant
use Rattle.order.specs.Machine as machine
use Rattle.order.specs.Plan as plan
use Rattle.ordered.specs.Changing.{with_state, with_results, executed, work_stands}
use Rattle.ordered.specs.Describing.{Describes}
use Rattle.ordered.specs.Looking.{Sees, sees, lacks, look}
use Rattle.ordered.specs.Moving.{dropped_stands, completed_stands, below, move, moves}
use Rattle.ordered.specs.Relation.{ReadingIs, WorkIs, Stands}
use Rattle.ordered.specs.Results.{set_in_four, results_in_four}
use Rattle.engine.specs.Running.{Engine}
use Rattle.ordered.specs.Stepping.{Makes}

-- one more, of a count below 4
pub one_more_lem : (k : ℕ) → k < 4 → one_more k ≡ suc k
one_more_lem k few = rw (lt-ltb k 255 (omega (arith, few))) (add-one k)

module _ (B : order.Batch ℕ Outcome) (o : State) (log stored : List ℕ) (d : Describes B o log stored)
    (e : Engine) (m : machine.State ℕ Outcome) (stands : Stands o stored e m) (sound : invariant.Sound B m)
    (over : machine.PlanningOver B m.plan) (w i k : ℕ) (values : List ℕ) (there : w < o.workers)
    (work_is : m.execution.work w ≡ machine.reading i k values) where
  abbrev worker : Worker
  worker = worker_at e.state w

  abbrev t : Transaction
  t = meaning_at o log i

  held : machine.held_by (m.execution.work w) ≡ some i
  held = rw work_is

  is : ReadingIs worker i k values
  is = subst (WorkIs worker) work_is (stands.crew_are w there)

  right : invariant.ReadingRight B i k values
  right = subst (invariant.WorkRight B m.execution.contents) work_is (sound.execution_right.works w)

  inside : i < o.size
  inside = below B o log stored d e m stands sound over w i there held

  w_there : w < B.workers
  w_there = omega (arith, there, d.workers_is)

  few : k ≤ 4
  few = omega (arith, right.within, d.proper.few_reads i)

  -- "read the next declared read"
  reading_makes : k < B.read_count i → Makes B o log stored e m (machine.act (machine.advance w))
  unfolding act_of
  reading_makes more = go (look B o log stored d e m stands sound over i r inside exists)
    where
      within : k < t.readcount
      within = omega (arith, more, d.reads_count i inside)

      r : ℕ
      r = get_or t.reads k 0

      exists : get_or t.reads k 0 < o.records
      exists = (d.declared i inside).reads_exist k within

      record_is : get_or t.reads k 0 ≡ B.read_record i k
      record_is = sym (d.reads_are i k inside within)

      next : move B o log stored d e m stands sound over w i there held
          ≡ reads worker k (look_of e.state i e.records e.newest e.versions (get_or t.reads k 0))
      next = rw (is.phase_is, lt-ltb k t.readcount within)

      go : Sees B o log stored d e m stands sound over i (get_or t.reads k 0)
          → Makes B o log stored e m (machine.act (machine.advance w))
      go (sees found x finds shown) =
          let finds_there =
          subst (λ (q : ℕ). machine.Finds B m.plan m.execution.contents i q found (machine.produced x)) record_is
          finds in
          record {
            answer = machine.stepped;
            next = with_state e (with_worker e.state w (with_value worker k x));
            after = executed m (machine.with_work m.execution w (machine.reading i (suc k) (values ++ (x ∷ []))));
            replies =
                moves B o log stored d e m stands sound over w i there held (Ok (goes_on (with_value worker k x)))
                (next ∙ ap (reads worker k) shown);
            is_step = machine.executes over (machine.reads w_there work_is more finds_there);
            stands =
                work_stands o stored d.numbers e m stands w (with_value worker k x)
                (machine.reading i (suc k) (values ++ (x ∷ []))) there
                (record {
                  phase_is = ap Reading (one_more_lem k (omega (arith, more, d.proper.few_reads i)));
                  transaction_is = is.transaction_is;
                  values_are =
                      ap (λ v. set v k x) is.values_are
                      ∙ ap (λ c. set (in_four values) c x) (sym is.count_is)
                      ∙ set_in_four values x (omega (arith, is.count_is, more, d.proper.few_reads i));
                  count_is = length-append values (x ∷ []) ∙ ap (λ c. c + 1) is.count_is ∙ add-one k;
                });
          }
      go (lacks a j finds shown) =
          let finds_there =
          subst (λ (q : ℕ). machine.Finds B m.plan m.execution.contents i q (plan.slot a j) machine.unproduced)
          record_is finds in
          record {
            answer = machine.waits_for (m.plan.begin a j);
            next = with_state e (with_worker (with_row e.state i (row Unprocessed)) w idle_worker);
            after = executed m (machine.dropped m.execution w i);
            replies =
                moves B o log stored d e m stands sound over w i there held (Ok (waits_for (m.plan.begin a j)))
                (next ∙ ap (reads worker k) shown);
            is_step = machine.executes over (machine.read_waits w_there work_is more finds_there);
            stands = dropped_stands o stored d.numbers e m stands w i there inside;
          }

  -- "with none left, decide"
  abbrev decision : Decision
  decision = decide_of t (in_four values)

  same_outcome : (B.decide i values).outcome ≡ decision.outcome
  same_outcome = (d.decides_as i values inside).outcome_is

  -- the act is to decide, on the values read
  decides_next : B.read_count i ≤ k → move B o log stored d e m stands sound over w i there held ≡ Ok (decides worker t)
  unfolding act_of
  decides_next none =
      let act : act_of worker t ≡ Decide =
      rw (is.phase_is, le-ltb k t.readcount (omega (arith, none, d.reads_count i inside))) in
      ap (λ x. move_by x worker t (look_of e.state i e.records e.newest e.versions)) act

  -- "the decision when there are no writes, completes the transaction"
  decides_last : B.read_count i ≤ k → B.write_count i ≡ 0 → Makes B o log stored e m (machine.act (machine.advance w))
  decides_last none no_writes =
      record {
        answer = machine.stepped;
        next =
            with_results
            (with_state e
            (with_worker (with_row e.state i (row (Complete (B.decide i values).outcome))) w idle_worker))
            (put_four e.results (4 * i) (in_four values));
        after = executed m (machine.completed m.execution w i (B.decide i values).outcome values);
        replies =
            moves B o log stored d e m stands sound over w i there held
            (Ok (unfilled None idle_worker (Some (row (Complete (B.decide i values).outcome))) (Some (in_four values))))
            (decides_next none ∙ ap Ok completes);
        is_step = machine.executes over (machine.decides_last w_there work_is none no_writes);
        stands =
            completed_stands o stored d.numbers e m stands w i there inside (B.decide i values).outcome values;
      }
    where
      no_count : t.writecount ≡ 0
      no_count = sym (d.writes_count i inside) ∙ no_writes

      counted : count_in worker.phase ≡ length values
      counted = ap count_in is.phase_is ∙ sym is.count_is

      completes : decides worker t
          ≡ unfilled None idle_worker (Some (row (Complete (B.decide i values).outcome))) (Some (in_four values))
      completes =
          rw (
            eq-eqb t.writecount 0 no_count,
            is.values_are,
            counted,
            results_in_four values (omega (arith, is.count_is, few)),
            same_outcome,
          )

  -- else it goes on with the decision
  decides_makes : B.read_count i ≤ k → 0 < B.write_count i → Makes B o log stored e m (machine.act (machine.advance w))
  decides_makes none some_write =
      record {
        answer = machine.stepped;
        next = with_state e (with_worker e.state w (with_decision worker decision));
        after =
            executed m
            (machine.with_work m.execution w
            (machine.decided i (machine.decided_on values (B.decide i values))));
        replies =
            moves B o log stored d e m stands sound over w i there held (Ok (goes_on (with_decision worker decision)))
            (decides_next none ∙ ap Ok goes_on_lem);
        is_step = machine.executes over (machine.decides w_there work_is none some_write);
        stands =
            work_stands o stored d.numbers e m stands w (with_decision worker decision)
            (machine.decided i (machine.decided_on values (B.decide i values))) there
            (record {
              phase_is = rw (is.phase_is, is.count_is, same_outcome);
              transaction_is = is.transaction_is;
              values_are = is.values_are;
              contents_four = (decided_shaped t (in_four values)).contents_four;
              contents_are = λ j. sym ((d.decides_as i values inside).contents_are j);
              carried_are = λ j. sym ((d.decides_as i values inside).carried_are j);
            });
      }
    where
      some_count : t.writecount ≡ 0 → ⊥
      some_count zero_count = absurd (omega (arith, zero_count, some_write, d.writes_count i inside))

      goes_on_lem : decides worker t ≡ goes_on (with_decision worker decision)
      goes_on_lem = rw (ne_eqb t.writecount 0 some_count, is.values_are)

  -- a worker that reads
  pub reader_makes : Makes B o log stored e m (machine.act (machine.advance w))
  reader_makes = go (dec_lt k (B.read_count i)) (ℕ_discrete (B.write_count i) 0)
    where
      go : Dec (k < B.read_count i) → Dec (B.write_count i ≡ 0)
          → Makes B o log stored e m (machine.act (machine.advance w))
      go (yes more) either = reading_makes more
      go (no none) (yes no_writes) = decides_last (omega arith) no_writes
      go (no none) (no some_writes) = decides_makes (omega arith) (omega arith)
