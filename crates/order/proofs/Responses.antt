-- The machine as a function: in a sound state each step is either made, with its answer and the next state, or not
-- allowed.
use Rattle.std.specs.Prelude.{◌≡◌, List, ℕ, suc, ◌≤◌, ◌<◌}
use Rattle.std.proofs.Math.Path.{refl}
use Rattle.std.proofs.Common.{ap, arith}
use Rattle.std.proofs.Math.Option.{Option, none, some}
use Rattle.std.proofs.Math.Decide.{dec_lt, dec_le}
use Rattle.order.specs.Tables.{marks_below}
use Rattle.order.specs.Batch.{Batch, Proper}
use Rattle.order.specs.Plan.{Slot, no_slot, slot, Plan, position, Walk}
use Rattle.order.specs.Machine.{Contents, unproduced, produced, Row, unprocessed, executing, complete, Decided}
use Rattle.order.specs.Machine.{Work, idle, reading, decided, Execution, State, claim, advance, abandon, Step}
use Rattle.order.specs.Machine.{place, act, Answer, held_by, Finds, PlanningOver, NextCarry, AllCarried, Executes}
use Rattle.order.specs.Machine.{claims, reads, read_waits, decides, decides_last, carries, carry_waits, fills}
use Rattle.order.specs.Machine.{fills_last, abandons, Accepted, places, executes, IsComplete, AllComplete}
use Rattle.order.specs.TableLaws.{clash, Mark, find_mark}
use Rattle.order.specs.LastWrite.{last_write}
use Rattle.order.specs.Invariant.{DecidedRight, Sound}
use Rattle.order.proofs.Found.{walk_to_last}
use Rattle.order.proofs.Safety.{is_complete_lem}
use Rattle.order.proofs.Sums.{FirstFailing, all_pass, fails_at, first_failing}

module _ {X O : Type 0} (B : Batch X O) where
  -- An accepted step, with its answer and the state that it leads to.
  pub record Made (s : State X O) (l : Step) : Type 0 where
    pub answer : Answer
    pub next : State X O
    pub is_step : Accepted B s l answer next

  -- What each step asks of the state.
  abbrev pub Allowed : State X O → Step → Type 0
  Allowed s (place q) = (q < B.partitions) × (s.plan.placed q < B.known)
  Allowed s (act (claim w i)) =
      PlanningOver B s.plan × (w < B.workers) × (i < B.size) × (s.execution.work w ≡ idle)
      × (s.execution.row i ≡ unprocessed)
  Allowed s (act (advance w)) =
      PlanningOver B s.plan × (w < B.workers) × (i : ℕ) × (held_by (s.execution.work w) ≡ some i)
  Allowed s (act (abandon w)) =
      PlanningOver B s.plan × (w < B.workers) × (i : ℕ) × (held_by (s.execution.work w) ≡ some i)

  -- A step is made, or the state does not allow it.
  pub data Response (s : State X O) (l : Step) : Type 0 where
    makes : Made s l → Response s l
    cannot : ¬ Allowed s l → Response s l

  -- Whether planning is over, and whether every transaction is Complete.
  unfoldable pub planning_over : (p : Plan) → Dec (PlanningOver B p)
  planning_over p = go (first_failing (λ q. B.size ≤ p.placed q) (λ q. dec_le B.size (p.placed q)) B.partitions)
    where
      go : FirstFailing (λ q. B.size ≤ p.placed q) B.partitions → Dec (PlanningOver B p)
      go (all_pass f) = yes f
      go (fails_at q hq n f) = no (λ over. n (over q hq))

  unfoldable pub all_complete : (s : State X O) → Dec (AllComplete B s)
  all_complete s =
      go (first_failing (λ i. IsComplete B (s.execution.row i)) (λ i. is_complete_lem B (s.execution.row i)) B.size)
    where
      go : FirstFailing (λ i. IsComplete B (s.execution.row i)) B.size → Dec (AllComplete B s)
      go (all_pass f) = yes f
      go (fails_at i h n f) = no (λ all. n (all i h))

  -- What a walk finds: a produced version or the stored record, or an unproduced version.
  pub data Look (p : Plan) (contents : ℕ → ℕ → Contents X) (i r : ℕ) : Type 0 where
    sees : (found : Slot) (x : X) → Finds B p contents i r found (produced x) → Look p contents i r
    lacks : (a j : ℕ) → Finds B p contents i r (slot a j) unproduced → Look p contents i r

  module _ (ok : Proper B) where
    -- A walk always finds something.
    look : (s : State X O) → Sound B s → PlanningOver B s.plan → (i r : ℕ) → i ≤ B.size
        → Look s.plan s.execution.contents i r
    look s sound over i r h = go (last_write B r i) (walk_to_last B ok s.plan sound.planned over r i h)
      where
        version : (a j : ℕ) → Walk s.plan (position B i) (s.plan.newest r) (slot a j) → (x : Contents X)
            → s.execution.contents a j ≡ x → Look s.plan s.execution.contents i r
        version a j walk unproduced e = lacks a j (record { walk = walk; holds = e })
        version a j walk (produced x) e = sees (slot a j) x (record { walk = walk; holds = e })

        go : (found : Slot) → Walk s.plan (position B i) (s.plan.newest r) found
            → Look s.plan s.execution.contents i r
        go no_slot walk = sees no_slot (B.stored r) (record { walk = walk; holds = refl })
        go (slot a j) walk = version a j walk (s.execution.contents a j) refl

    -- What a worker can do once planning is over. One that is busy can always advance.
    module _ (s : State X O) (sound : Sound B s) (over : PlanningOver B s.plan) (w : ℕ) (hw : w < B.workers) where
      made : {answer : Answer} {e : Execution X O} → Executes B s.plan s.execution (advance w) answer e
          → Made s (act (advance w))
      made {answer} {e} x =
          record { answer = answer; next = record { plan = s.plan; execution = e }; is_step = executes over x }

      pub held_below : (i : ℕ) → held_by (s.execution.work w) ≡ some i → i ≤ B.size
      held_below i held = omega (arith, (sound.execution_right.holder w i held).0)

      advance_reading : (i k : ℕ) (values : List X) → s.execution.work w ≡ reading i k values
          → Made s (act (advance w))
      unfolding look made
      advance_reading i k values busy = go (dec_lt k (B.read_count i))
        where
          read : k < B.read_count i → Look s.plan s.execution.contents i (B.read_record i k)
              → Made s (act (advance w))
          read left (sees found x f) = made (reads hw busy left f)
          read left (lacks a j f) = made (read_waits hw busy left f)

          decide : B.read_count i ≤ k → Dec (0 < B.write_count i) → Made s (act (advance w))
          decide none_left (yes h) = made (decides hw busy none_left h)
          decide none_left (no h) = made (decides_last hw busy none_left (omega arith))

          go : Dec (k < B.read_count i) → Made s (act (advance w))
          go (yes left) =
              read left (look s sound over i (B.read_record i k) (held_below i (ap held_by busy)))
          go (no h) = decide (omega arith) (dec_lt 0 (B.write_count i))

      advance_decided : (i : ℕ) (d : Decided X O) → s.execution.work w ≡ decided i d → Made s (act (advance w))
      unfolding look made
      advance_decided i d busy = go (dec_lt d.carries (marks_below d.carried (B.write_count i)))
        where
          right : DecidedRight B s.execution.contents i d
          right = rw busy at (sound.execution_right.works w)

          carry : (j : ℕ) → NextCarry B i d j → Look s.plan s.execution.contents i (B.write_record i j)
              → Made s (act (advance w))
          carry j next (sees found x f) = made (carries hw busy next f)
          carry j next (lacks a b f) = made (carry_waits hw busy next f)

          unfilled : d.carries < marks_below d.carried (B.write_count i) → Dec (0 < d.fills) → d.fills ≡ 0
          unfilled h (yes l) = absurd (omega (arith, right.carried_first l))
          unfilled h (no l) = omega arith

          next_carry : d.carries < marks_below d.carried (B.write_count i)
              → (m : Mark d.carried (B.write_count i) d.carries) → NextCarry B i d m.place
          next_carry h m = record {
            none_filled = unfilled h (dec_lt 0 d.fills);
            declared = m.below;
            marked = m.is_marked;
            in_turn = m.before;
          }

          carry_at : d.carries < marks_below d.carried (B.write_count i)
              → Mark d.carried (B.write_count i) d.carries → Made s (act (advance w))
          carry_at h m =
              carry m.place (next_carry h m)
              (look s sound over i (B.write_record i m.place) (held_below i (ap held_by busy)))

          fill : AllCarried B i d → Dec (suc d.fills < B.write_count i) → Made s (act (advance w))
          fill carried (yes more) = made (fills hw busy carried more)
          fill carried (no last) = made (fills_last hw busy carried (omega (arith, right.fill_left)))

          go : Dec (d.carries < marks_below d.carried (B.write_count i)) → Made s (act (advance w))
          go (yes h) = carry_at h (find_mark d.carried (B.write_count i) d.carries h)
          go (no h) = fill (omega (arith, right.carries_fit)) (dec_lt (suc d.fills) (B.write_count i))

      advance_with : (work : Work X O) → s.execution.work w ≡ work → Response s (act (advance w))
      unfolding advance_reading advance_decided
      advance_with idle h = cannot (λ a. clash (cc a.3))
      advance_with (reading i k values) h = makes (advance_reading i k values h)
      advance_with (decided i d) h = makes (advance_decided i d h)

      abandon_with : (held : Option ℕ) → held_by (s.execution.work w) ≡ held → Response s (act (abandon w))
      abandon_with none h = cannot (λ a. clash (cc a.3))
      abandon_with (some i) h = makes (record { answer = _; next = _; is_step = executes over (abandons hw h) })

      claim_with : (i : ℕ) → i < B.size → (work : Work X O) (row : Row X O) → s.execution.work w ≡ work
          → s.execution.row i ≡ row → Response s (act (claim w i))
      claim_with i hi (reading a k values) row h g = cannot (λ a. clash (cc a.3))
      claim_with i hi (decided a d) row h g = cannot (λ a. clash (cc a.3))
      claim_with i hi idle (executing v) h g = cannot (λ a. clash (cc a.4))
      claim_with i hi idle (complete outcome values) h g = cannot (λ a. clash (cc a.4))
      claim_with i hi idle unprocessed h g =
          makes (record { answer = _; next = _; is_step = executes over (claims hw hi h g) })

    -- The machine as a function.
    unfoldable pub respond : (s : State X O) → Sound B s → (l : Step) → Response s l
    unfolding claim_with advance_with abandon_with
    respond s sound (place q) = go (dec_lt q B.partitions) (dec_lt (s.plan.placed q) B.known)
      where
        go : Dec (q < B.partitions) → Dec (s.plan.placed q < B.known) → Response s (place q)
        go (yes hq) (yes h) = makes (record { answer = _; next = _; is_step = places hq h })
        go (yes hq) (no n) = cannot (λ a. n a.1)
        go (no n) d = cannot (λ a. n a.0)
    respond s sound (act (claim w i)) = go (planning_over s.plan) (dec_lt w B.workers) (dec_lt i B.size)
      where
        go : Dec (PlanningOver B s.plan) → Dec (w < B.workers) → Dec (i < B.size) → Response s (act (claim w i))
        go (no n) d e = cannot (λ a. n a.0)
        go (yes over) (no n) e = cannot (λ a. n a.1)
        go (yes over) (yes hw) (no n) = cannot (λ a. n a.2)
        go (yes over) (yes hw) (yes hi) =
            claim_with s sound over w hw i hi (s.execution.work w) (s.execution.row i) refl refl
    respond s sound (act (advance w)) = go (planning_over s.plan) (dec_lt w B.workers)
      where
        go : Dec (PlanningOver B s.plan) → Dec (w < B.workers) → Response s (act (advance w))
        go (no n) d = cannot (λ a. n a.0)
        go (yes over) (no n) = cannot (λ a. n a.1)
        go (yes over) (yes hw) = advance_with s sound over w hw (s.execution.work w) refl
    respond s sound (act (abandon w)) = go (planning_over s.plan) (dec_lt w B.workers)
      where
        go : Dec (PlanningOver B s.plan) → Dec (w < B.workers) → Response s (act (abandon w))
        go (no n) d = cannot (λ a. n a.0)
        go (yes over) (no n) = cannot (λ a. n a.1)
        go (yes over) (yes hw) = abandon_with s sound over w hw (held_by (s.execution.work w)) refl
