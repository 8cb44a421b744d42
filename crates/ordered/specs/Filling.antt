-- An advance by a worker that has decided, in a state that the engine reaches: it carries, waits or fills as the
-- machine does.
use Rattle.std.specs.Prelude.{ℕ, suc, ◌*◌, ◌≤◌, ◌<◌, ◌≡◌, List, Some, None, Ok, length, get_or, set}
use Rattle.std.proofs.Math.Option.{some}
use Rattle.std.proofs.Common.{sym, ◌∙◌, subst, arith, length-set, get_or-set_same, get_or-set_other}
use Rattle.std.proofs.Math.Path.{ap}
use Rattle.std.proofs.Math.Decide.{ℕ_discrete, dec_lt}
use borrow.Author.Tests.{lt-ltb, le-ltb, le-leb, lt-leb}
use Rattle.packed.specs.declared.Transaction.{Transaction}
use Rattle.versions.specs.Step.{fill_of}
use Rattle.counters.specs.Storing.{in_four}
use Rattle.counters.specs.declared.Outcome.{Outcome}
use Rattle.engine.specs.Acts.{marks_of, next_carried, act_of}
use Rattle.engine.specs.Advance.{look_of, unfilled, goes_on, waits_for, with_fill, carries, after_fill}
use Rattle.engine.specs.Advance.{fills_in, move_by, put_four}
use Rattle.engine.specs.Place.{meaning_at, slot_of, write_of}
use Rattle.engine.specs.Range.{worker_at}
use Rattle.engine.specs.Rows.{row}
use Rattle.engine.specs.States.{with_row, with_worker}
use Rattle.engine.specs.Workers.{idle_worker, one_more, carried_on, with_carry, with_phase}
use Rattle.engine.specs.declared.Phase.TheVariants.{Decided}
use Rattle.engine.specs.declared.Progress.TheVariants.{Unprocessed, Complete}
use Rattle.engine.specs.declared.State.{State}
use Rattle.engine.specs.declared.Worker.{Worker}
use Rattle.engine.specs.declared.acts.Act.TheVariants.{Carry, Fill}
use Rattle.order.specs.Batch as order
use Rattle.order.specs.Invariant as invariant
use Rattle.order.specs.Machine as machine
use Rattle.order.specs.Plan as plan
use Rattle.order.specs.Tables as table
use Rattle.order.specs.TableLaws.{updated_all, marks_le, Mark, find_mark}
use Rattle.ordered.specs.Advancing.{one_more_lem}
use Rattle.ordered.specs.Changing.{with_state, with_versions, with_results, executed, work_stands, fill_stands}
use Rattle.ordered.specs.Describing.{Describes}
use Rattle.ordered.specs.Fitting.{past_unmarked, marks_counted}
use Rattle.ordered.specs.Looking.{Sees, sees, lacks, look}
use Rattle.ordered.specs.Marking.{next_carried_lem}
use Rattle.ordered.specs.Moving.{dropped_stands, completed_stands, below, move, moves}
use Rattle.ordered.specs.Ranging.{values_length}
use Rattle.ordered.specs.Relation.{DecidedIs, WorkIs, Stands}
use Rattle.ordered.specs.Results.{results_in_four}
use Rattle.engine.specs.Running.{Engine}
use Rattle.ordered.specs.Stepping.{Makes}

module _ (B : order.Batch ℕ Outcome) (o : State) (log stored : List ℕ) (d : Describes B o log stored)
    (e : Engine) (m : machine.State ℕ Outcome) (stands : Stands o stored e m) (sound : invariant.Sound B m)
    (over : machine.PlanningOver B m.plan) (w i : ℕ) (x : machine.Decided ℕ Outcome) (there : w < o.workers)
    (work_is : m.execution.work w ≡ machine.decided i x) where
  abbrev worker : Worker
  worker = worker_at e.state w

  abbrev t : Transaction
  t = meaning_at o log i

  held : machine.held_by (m.execution.work w) ≡ some i
  held = rw work_is

  is : DecidedIs worker i x
  is = subst (WorkIs worker) work_is (stands.crew_are w there)

  right : invariant.DecidedRight B m.execution.contents i x
  right = subst (invariant.WorkRight B m.execution.contents) work_is (sound.execution_right.works w)

  inside : i < o.size
  inside = below B o log stored d e m stands sound over w i there held

  w_there : w < B.workers
  w_there = omega (arith, there, d.workers_is)

  marks : marks_of worker.carried ≡ table.marks_below x.carried (B.write_count i)
  marks = marks_counted B o log stored d e m stands sound worker i x inside is right

  -- the next carried write
  next_carry : (mark : Mark x.carried (B.write_count i) x.carries)
      → next_carried worker.carried x.carries ≡ mark.place
  next_carry mark =
      next_carried_lem worker.carried x.carried is.carried_are t.writecount (d.declared i inside).few_writes
      (past_unmarked B o log stored d e m stands sound i x inside right) x.carries
      (record {
        place = mark.place;
        below = omega (arith, mark.below, d.writes_count i inside);
        is_marked = mark.is_marked;
        before = mark.before;
      })

  -- "carry the next carried write"
  carrying_makes : x.carries < table.marks_below x.carried (B.write_count i)
      → Makes B o log stored e m (machine.act (machine.advance w))
  unfolding act_of
  carrying_makes more = go (look B o log stored d e m stands sound over i (write_of t j) inside exists)
    where
      mark : Mark x.carried (B.write_count i) x.carries
      mark = find_mark x.carried (B.write_count i) x.carries more

      j : ℕ
      j = mark.place

      few : mark.place < 4
      few = omega (arith, mark.below, d.proper.few_writes i)

      within : mark.place < t.writecount
      within = omega (arith, mark.below, d.writes_count i inside)

      exists : write_of t mark.place < o.records
      exists = (d.declared i inside).writes_exist mark.place within

      record_is : write_of t mark.place ≡ B.write_record i mark.place
      record_is = sym (d.writes_are i mark.place inside within)

      unfilled_yet : Dec (0 < x.fills) → x.fills ≡ 0
      unfilled_yet (yes filled) = absurd (omega (arith, right.carried_first filled, more))
      unfilled_yet (no none) = omega arith

      next_is_lem : machine.NextCarry B i x mark.place
      next_is_lem =
          record {
            none_filled = unfilled_yet (dec_lt 0 x.fills);
            declared = mark.below;
            marked = mark.is_marked;
            in_turn = mark.before;
          }

      next : move B o log stored d e m stands sound over w i there held
          ≡ carries worker mark.place
          (look_of e.state i e.records e.newest e.versions (write_of t mark.place))
      next =
          let act : act_of worker t ≡ Carry mark.place =
          rw (is.phase_is, lt-ltb x.carries (marks_of worker.carried) (omega (arith, marks, more)))
          (ap Carry (next_carry mark)) in
          ap (λ a. move_by a worker t (look_of e.state i e.records e.newest e.versions)) act

      go : Sees B o log stored d e m stands sound over i (write_of t mark.place)
          → Makes B o log stored e m (machine.act (machine.advance w))
      go (sees found y finds shown) =
          let finds_there =
          subst (λ (q : ℕ). machine.Finds B m.plan m.execution.contents i q found (machine.produced y)) record_is
          finds in
          record {
            answer = machine.stepped;
            next = with_state e (with_worker e.state w (with_carry worker mark.place y));
            after =
                executed m
                (machine.with_work m.execution w (machine.decided i (machine.after_carry x mark.place y)));
            replies =
                moves B o log stored d e m stands sound over w i there held
                (Ok (goes_on (with_carry worker mark.place y)))
                (next ∙ ap (carries worker mark.place) shown);
            is_step = machine.executes over (machine.carries w_there work_is next_is_lem finds_there);
            stands =
                work_stands o stored d.numbers e m stands w (with_carry worker mark.place y)
                (machine.decided i (machine.after_carry x mark.place y)) there
                (record {
                  phase_is =
                      ap carried_on is.phase_is
                      ∙ ap (λ c. Decided x.outcome (length x.values_read) c x.fills)
                      (one_more_lem x.carries
                      (omega (arith, more, marks_few)));
                  transaction_is = is.transaction_is;
                  values_are = is.values_are;
                  contents_four = length-set worker.contents mark.place y ∙ is.contents_four;
                  contents_are =
                      updated_all
                      (λ (q c : ℕ). get_or (set worker.contents mark.place y) q 0 ≡ c)
                      x.contents mark.place y
                      (get_or-set_same worker.contents mark.place y 0 (omega (arith, few, is.contents_four)))
                      (λ q other.
                      get_or-set_other worker.contents mark.place q y 0 other ∙ is.contents_are q);
                  carried_are = is.carried_are;
                });
          }
        where
          marks_few : table.marks_below x.carried (B.write_count i) ≤ 4
          marks_few = omega (arith, marks_le x.carried (B.write_count i), d.proper.few_writes i)
      go (lacks a b finds shown) =
          let finds_there =
          subst (λ (q : ℕ). machine.Finds B m.plan m.execution.contents i q (plan.slot a b) machine.unproduced)
          record_is finds in
          record {
            answer = machine.waits_for (m.plan.begin a b);
            next = with_state e (with_worker (with_row e.state i (row Unprocessed)) w idle_worker);
            after = executed m (machine.dropped m.execution w i);
            replies =
                moves B o log stored d e m stands sound over w i there held (Ok (waits_for (m.plan.begin a b)))
                (next ∙ ap (carries worker mark.place) shown);
            is_step = machine.executes over (machine.carry_waits w_there work_is next_is_lem finds_there);
            stands = dropped_stands o stored d.numbers e m stands w i there inside;
          }

  -- "Carries all come before fills": with no carry left, "fill the next write"
  abbrev filled : Engine
  filled =
      with_versions e (fill_of e.versions (record { slot = slot_of i x.fills; contents = x.contents x.fills }))

  abbrev produced : machine.State ℕ Outcome
  produced = executed m (machine.produce m.execution i x.fills (x.contents x.fills))

  few_fills : x.fills < 4
  few_fills = omega (arith, right.fill_left, d.proper.few_writes i)

  filled_stands : Stands o stored filled produced
  filled_stands = fill_stands o stored d.numbers e m stands i x.fills (x.contents x.fills) inside few_fills

  -- the act is to fill
  fills_next : x.carries ≡ table.marks_below x.carried (B.write_count i)
      → move B o log stored d e m stands sound over w i there held
      ≡ Ok (with_fill
      (after_fill worker x.outcome (length x.values_read) x.carries x.fills t.writecount)
      (slot_of i x.fills)
      (x.contents x.fills))
  unfolding act_of
  fills_next all =
      let act : act_of worker t ≡ Fill x.fills =
      rw (is.phase_is, le-ltb x.carries (marks_of worker.carried) (omega (arith, marks, all))) in
      let after =
      after_fill worker x.outcome (length x.values_read) x.carries x.fills t.writecount in
      ap (λ a. move_by a worker t (look_of e.state i e.records e.newest e.versions)) act
      ∙ ap (λ phase. fills_in phase worker t.writecount x.fills) is.phase_is
      ∙ ap (λ k. Ok (with_fill after (slot_of k x.fills) (get_or worker.contents x.fills 0))) is.transaction_is
      ∙ ap (λ c. Ok (with_fill after (slot_of i x.fills) c)) (is.contents_are x.fills)

  fills_makes : x.carries ≡ table.marks_below x.carried (B.write_count i) → suc x.fills < B.write_count i
      → Makes B o log stored e m (machine.act (machine.advance w))
  unfolding machine.produce machine.with_work
  fills_makes all more =
      record {
        answer = machine.stepped;
        next = with_state filled (with_worker e.state w onward);
        after =
            executed m
            (machine.with_work (machine.produce m.execution i x.fills (x.contents x.fills)) w
            (machine.decided i (machine.after_fill x)));
        replies =
            moves B o log stored d e m stands sound over w i there held
            (Ok (with_fill (goes_on onward) (slot_of i x.fills) (x.contents x.fills)))
            (fills_next all ∙ ap (λ move. Ok (with_fill move (slot_of i x.fills) (x.contents x.fills))) goes_on_lem);
        is_step = machine.executes over (machine.fills w_there work_is all more);
        stands =
            work_stands o stored d.numbers filled produced filled_stands w onward
            (machine.decided i (machine.after_fill x)) there
            (record {
              phase_is =
                  ap (Decided x.outcome (length x.values_read) x.carries) (one_more_lem x.fills few_fills);
              transaction_is = is.transaction_is;
              values_are = is.values_are;
              contents_four = is.contents_four;
              contents_are = is.contents_are;
              carried_are = is.carried_are;
            });
      }
    where
      onward : Worker
      onward =
          with_phase worker (Decided x.outcome (length x.values_read) x.carries (one_more x.fills))

      goes_on_lem : after_fill worker x.outcome (length x.values_read) x.carries x.fills t.writecount
          ≡ goes_on (with_phase worker (Decided x.outcome (length x.values_read) x.carries (one_more x.fills)))
      goes_on_lem =
          rw (lt-leb t.writecount (one_more x.fills)
          (omega (arith, more, d.writes_count i inside, one_more_lem x.fills few_fills)))

  -- "The last fill .. completes the transaction"
  fills_last : x.carries ≡ table.marks_below x.carried (B.write_count i) → suc x.fills ≡ B.write_count i
      → Makes B o log stored e m (machine.act (machine.advance w))
  fills_last all last =
      record {
        answer = machine.stepped;
        next =
            with_results
            (with_state filled (with_worker (with_row e.state i (row (Complete x.outcome))) w idle_worker))
            (put_four e.results (4 * i) (in_four x.values_read));
        after =
            executed m
            (machine.completed (machine.produce m.execution i x.fills (x.contents x.fills)) w i x.outcome
            x.values_read);
        replies =
            moves B o log stored d e m stands sound over w i there held
            (Ok (with_fill
            (unfilled None idle_worker (Some (row (Complete x.outcome))) (Some (in_four x.values_read)))
            (slot_of i x.fills) (x.contents x.fills)))
            (fills_next all ∙ ap (λ move. Ok (with_fill move (slot_of i x.fills) (x.contents x.fills))) completes);
        is_step = machine.executes over (machine.fills_last w_there work_is all last);
        stands =
            completed_stands o stored d.numbers filled produced filled_stands w i there inside x.outcome
            x.values_read;
      }
    where
      few_values : length x.values_read ≤ 4
      few_values = omega (arith, ap length right.values_are, values_length B i, d.proper.few_reads i)

      completes : after_fill worker x.outcome (length x.values_read) x.carries x.fills t.writecount
          ≡ unfilled None idle_worker (Some (row (Complete x.outcome))) (Some (in_four x.values_read))
      completes =
          rw (
            le-leb t.writecount (one_more x.fills)
                (omega (arith, last, d.writes_count i inside, one_more_lem x.fills few_fills)),
            is.values_are,
            results_in_four x.values_read few_values,
          )

  -- a worker that has decided
  pub decider_makes : Makes B o log stored e m (machine.act (machine.advance w))
  decider_makes =
      go (dec_lt x.carries (table.marks_below x.carried (B.write_count i)))
      (ℕ_discrete (suc x.fills) (B.write_count i))
    where
      go : Dec (x.carries < table.marks_below x.carried (B.write_count i)) → Dec (suc x.fills ≡ B.write_count i)
          → Makes B o log stored e m (machine.act (machine.advance w))
      go (yes more) either = carrying_makes more
      go (no none) (yes last) = fills_last (omega (arith, right.carries_fit)) last
      go (no none) (no more) = fills_makes (omega (arith, right.carries_fit)) (omega (arith, right.fill_left))
