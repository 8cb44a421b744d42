-- Progress: from any open store a short list of offers, all accepted, makes every transaction Complete. Planning is
-- ended first; if worker 0 is busy it is advanced until it is idle; then the transactions are run in log order. Those
-- before are Complete, so the first that is not never waits, and a worker is idle whenever one is needed.
use Rattle.std.specs.Prelude.{◌≡◌, refl, ℕ, zero, suc, ◌+◌, ◌≤◌, ◌<◌}
use Rattle.std.proofs.Common.{◌∙◌, ap, subst, arith}
use Rattle.std.proofs.Math.Option.{some}
use Rattle.std.proofs.Math.Decide.{dec_le}
use Rattle.order.specs.Batch.{Batch, Proper}
use Rattle.order.specs.Machine.{Row, unprocessed, executing, complete, Work, idle, reading, decided, Execution}
use Rattle.order.specs.Machine.{State, claim, advance, place, act, held_by, PlanningOver, IsComplete, AllComplete}
use Rattle.order.specs.Store.{Store, CanBeSealed, step_bound}
use Rattle.order.specs.Invariant.{ExecutionRight, Sound}
use Rattle.order.specs.Interface.{Meets}
use Rattle.order.proofs.Found.{Lacks, missing}
use Rattle.order.proofs.Safety.{is_complete_lem}
use Rattle.order.proofs.Sums.{FirstFailing, all_pass, fails_at, first_failing}
use Rattle.order.proofs.Remaining.{remaining, places_at_most, left_at_most, left_if_busy}
use Rattle.order.proofs.Lowering.{Placing, placing, Claiming, Advanced, went_on, ended, waited, still_over}
use Rattle.order.proofs.Lowering.{claiming, advancing}
use Rattle.order.proofs.Reaching.{Standing, Reaches, stay, and_then, Taken, taking, step_on, seal_it}

module _ {X O : Type 0} (B : Batch X O) where
  -- Transaction m is Executing by worker v, and those before it are Complete.
  record Foremost (e : Execution X O) (m v : ℕ) : Type 0 where
    below : m < B.size
    before : (a : ℕ) → a < m → IsComplete B (e.row a)
    runs : e.row m ≡ executing v

  -- What is needed to go on: an idle worker, or the first transaction that is not Complete being Executing.
  data Able (e : Execution X O) : Type 0 where
    idle_worker_lem : (w : ℕ) → w < B.workers → e.work w ≡ idle → Able e
    running : (m v : ℕ) → Foremost e m v → Able e

  -- Planning is over and the workers are able to go on.
  record Ready (s : State X O) : Type 0 where
    over : PlanningOver B s.plan
    able : Able s.execution

  -- Planning is over, and nothing was executed meanwhile.
  record PlannedWith (e : Execution X O) (s : State X O) : Type 0 where
    over : PlanningOver B s.plan
    same_execution : s.execution ≡ e

module _ {X O C : Type 0} {B : Batch X O} {S : Store X O C} (meets : Meets B S) (ok : Proper B) where
  -- Planning is ended: the first partition that has not placed all places its next transaction, again and again.
  end_planning : (k : ℕ) (now : Standing meets) → remaining B now.state < k
      → Reaches now 0 (PlannedWith B now.state.execution)
  end_planning zero now l = absurd (omega arith)
  end_planning (suc k) now l =
      which (first_failing (λ q. B.size ≤ placed q) (λ q. dec_le B.size (placed q)) B.partitions) (end_planning k)
    where
      placed : ℕ → ℕ
      placed = now.state.plan.placed

      Rest : Type 0
      Rest = (later : Standing meets) → remaining B later.state < k
          → Reaches later 0 (PlannedWith B later.state.execution)

      place_one : (q : ℕ) → placed q < B.size → Taken now (place q) → Rest
          → Reaches now 0 (PlannedWith B now.state.execution)
      place_one q h t rest =
          let effect : Placing B now.state t.after.state = placing B h t.made in
          step_on 0 0 tt t (omega (arith, effect.lowers))
          (subst (λ (e : Execution X O). Reaches t.after 0 (PlannedWith B e)) effect.same_execution
          (rest t.after (omega (arith, effect.lowers))))

      which : FirstFailing (λ q. B.size ≤ placed q) B.partitions → Rest
          → Reaches now 0 (PlannedWith B now.state.execution)
      which (all_pass f) rest = stay 0 (record { over = f; same_execution = refl })
      which (fails_at q hq f g) rest =
          let h : placed q < B.size = omega arith in
          place_one q h
          (taking ok now (place q) (meets.can_place now.store now.state now.is_open now.sound q hq h)) rest

  -- A busy worker advances.
  advance_busy : (now : Standing meets) → PlanningOver B now.state.plan → (w i : ℕ)
      → now.state.execution.row i ≡ executing w → Taken now (act (advance w))
  advance_busy now over w i runs =
      let held = now.sound.execution_right.held i w runs in
      taking ok now (act (advance w))
      (meets.can_advance now.store now.state now.is_open now.sound over w i held.0 held.1)

  -- Worker w, busy with i, is advanced until it is idle. If it waits in the end, the steps that it had made are lost:
  -- that is the extra.
  free_worker : (k : ℕ) (now : Standing meets) → PlanningOver B now.state.plan → (w i : ℕ)
      → now.state.execution.row i ≡ executing w → remaining B now.state < k → Reaches now 10 (Ready B)
  free_worker zero now over w i runs l = absurd (omega arith)
  free_worker (suc k) now over w i runs l = go (advance_busy now over w i runs) (free_worker k)
    where
      Rest : Type 0
      Rest = (later : Standing meets) → PlanningOver B later.state.plan → (w i : ℕ)
          → later.state.execution.row i ≡ executing w → remaining B later.state < k → Reaches later 10 (Ready B)

      go : Taken now (act (advance w)) → Rest → Reaches now 10 (Ready B)
      go t rest = which (advancing B now.state now.sound.execution_right ok t.made)
        where
          over_after : PlanningOver B t.after.state.plan
          over_after = still_over B t.made

          idle_now : t.after.state.execution.work w ≡ idle → Ready B t.after.state
          idle_now q =
              record { over = over_after; able = idle_worker_lem w (now.sound.execution_right.held i w runs).0 q }

          which : Advanced B now.state t.after.state w → Reaches now 10 (Ready B)
          which (went_on h same) =
              step_on 10 10 tt t (omega arith)
              (rest t.after over_after w i (same i ∙ runs) (omega arith))
          which (ended h q) = step_on 10 0 tt t (omega arith) (stay 0 (idle_now q))
          which (waited h q a r b j held f) = step_on 10 0 tt t (omega arith) (stay 0 (idle_now q))

  -- All transactions are run, in log order.
  run_all_lem : (k : ℕ) (now : Standing meets) → Ready B now.state → remaining B now.state < k
      → Reaches now 0 (AllComplete B)
  run_all_lem zero now ready l = absurd (omega arith)
  run_all_lem (suc k) now ready l =
      which (first_failing (λ i. IsComplete B (e.row i)) (λ i. is_complete_lem B (e.row i)) B.size) (run_all_lem k)
    where
      e : Execution X O
      e = now.state.execution

      Rest : Type 0
      Rest = (later : Standing meets) → Ready B later.state → remaining B later.state < k
          → Reaches later 0 (AllComplete B)

      -- The first open transaction is Executing: its worker advances, and does not wait.
      advance_it : (m v : ℕ) → Foremost B e m v → Taken now (act (advance v)) → Rest → Reaches now 0 (AllComplete B)
      advance_it m v front t rest = branch (advancing B now.state now.sound.execution_right ok t.made)
        where
          over_after : PlanningOver B t.after.state.plan
          over_after = still_over B t.made

          branch : Advanced B now.state t.after.state v → Reaches now 0 (AllComplete B)
          branch (went_on h same) =
              step_on 0 0 tt t (omega arith)
              (rest t.after (record {
                over = over_after;
                able = running m v (record {
                  below = front.below;
                  before = λ a b. rw (same a) (front.before a b);
                  runs = same m ∙ front.runs;
                });
              }) (omega arith))
          branch (ended h q) =
              step_on 0 0 tt t (omega arith)
              (rest t.after (record {
                over = over_after;
                able = idle_worker_lem v (now.sound.execution_right.held m v front.runs).0 q;
              }) (omega arith))
          branch (waited h q i r a j held f) =
              absurd (lacks.not_complete (front.before a (omega (arith, same, lacks.write.earlier))))
            where
              same : i ≡ m
              same =
                  let mine : held_by (e.work v) ≡ some m = (now.sound.execution_right.held m v front.runs).1 in
                  cc

              below : i < B.size
              below = rw same front.below

              lacks : Lacks B now.state.plan e i r a j
              lacks =
                  missing B ok now.state.plan now.sound.planned ready.over now.sound.execution_right
                  (omega (arith, below)) f

      -- The first open transaction is Unprocessed: an idle worker claims it.
      claim_it : (m w : ℕ) → m < B.size → ((a : ℕ) → a < m → IsComplete B (e.row a)) → Taken now (act (claim w m))
          → Rest → Reaches now 0 (AllComplete B)
      claim_it m w below before t rest =
          let effect : Claiming B now.state t.after.state w m =
          claiming B now.state now.sound.execution_right t.made in
          step_on 0 0 tt t (omega (arith, effect.lowers))
          (rest t.after (record {
            over = still_over B t.made;
            able = running m w (record {
              below = below;
              before = λ a b. rw (effect.others a (omega arith)) (before a b);
              runs = effect.runs;
            });
          }) (omega (arith, effect.lowers)))

      which : FirstFailing (λ i. IsComplete B (e.row i)) B.size → Rest → Reaches now 0 (AllComplete B)
      which (all_pass f) rest = stay 0 f
      which (fails_at m below open_still before) rest = go ready.able
        where
          advance_front : (a v : ℕ) → Foremost B e a v → Reaches now 0 (AllComplete B)
          advance_front a v front = advance_it a v front (advance_busy now ready.over v a front.runs) rest

          by_row : (w : ℕ) → w < B.workers → e.work w ≡ idle → (row : Row X O) → e.row m ≡ row → ¬ IsComplete B row
              → Reaches now 0 (AllComplete B)
          by_row w hw q unprocessed h n =
              claim_it m w below before
              (taking ok now (act (claim w m))
              (meets.can_claim now.store now.state now.is_open now.sound ready.over w m hw below q h))
              rest
          by_row w hw q (executing v) h n = advance_front m v (record { below = below; before = before; runs = h })
          by_row w hw q (complete outcome values) h n = absurd (n tt)

          go : Able B e → Reaches now 0 (AllComplete B)
          go (running a v front) = advance_front a v front
          go (idle_worker_lem w hw q) = by_row w hw q (e.row m) refl open_still

  -- All together. If worker 0 is busy, one transaction at least has a step behind it, which makes up for the tenth of
  -- the extra.
  run_and_seal : (now : Standing meets) → CanBeSealed S (step_bound B) now.store
  run_and_seal now = go (e.work 0) refl
    where
      e : Execution X O
      e = now.state.execution

      inv : ExecutionRight B e
      inv = now.sound.execution_right

      planned : Reaches now 0 (PlannedWith B e)
      planned = end_planning (suc (remaining B now.state)) now (omega arith)

      later : Standing meets
      later = planned.end

      busy : (i : ℕ) → held_by (e.work 0) ≡ some i → CanBeSealed S (step_bound B) now.store
      busy i held =
          let freed : Reaches later 10 (Ready B) =
          free_worker (suc (remaining B later.state)) later planned.goal.over 0 i
          (rw planned.goal.same_execution (inv.holder 0 i held).1) (omega arith) in
          let ran : Reaches freed.end 0 (AllComplete B) =
          run_all_lem (suc (remaining B freed.end.state)) freed.end freed.goal (omega arith) in
          seal_it (0 + (10 + 0)) (step_bound B)
          (omega (arith, left_if_busy B ok e inv 0 i held, places_at_most B now.state.plan))
          (and_then 0 (10 + 0) planned (and_then 10 0 freed ran))

      go : (work : Work X O) → e.work 0 ≡ work → CanBeSealed S (step_bound B) now.store
      go idle h =
          let ready : Ready B later.state =
          record {
            over = planned.goal.over;
            able = idle_worker_lem 0 ok.some_worker (rw planned.goal.same_execution h);
          } in
          seal_it (0 + 0) (step_bound B)
          (omega (arith, left_at_most B ok e inv, places_at_most B now.state.plan))
          (and_then 0 0 planned (run_all_lem (suc (remaining B later.state)) later ready (omega arith)))
      go (reading i k values) h = busy i (ap held_by h)
      go (decided i d) h = busy i (ap held_by h)

  pub can_be_sealed : (c : C) (s : State X O) → meets.Open c s → Sound B s → CanBeSealed S (step_bound B) c
  can_be_sealed c s is_open sound = run_and_seal (record { store = c; state = s; is_open = is_open; sound = sound })
