-- Every placing, claim and advance lowers what is left to do; a wait raises it by at most 9.
use Rattle.std.specs.Prelude.{◌≡◌, List, [], ◌∷◌, ◌++◌, ◌≢◌}
use Rattle.std.proofs.Math.Path.{refl, ap}
use Rattle.std.proofs.Math.Option.{some}
use Prim.Native.Nat.{ℕ, suc, ◌+◌, ◌-◌, ◌≤◌, ◌<◌}
use native.Mathlib.Omega.{arith}
use Rattle.order.specs.Tables.{updated, marks_below}
use Rattle.order.specs.Batch.{Decision, Batch, Proper}
use Rattle.order.specs.Plan.{slot, Plan, place_next}
use Rattle.order.specs.Machine.{unproduced, Row, unprocessed, executing, complete, Decided, Work, idle, reading}
use Rattle.order.specs.Machine.{decided, Execution, State, Act, claim, advance, place, act, Answer, held_by}
use Rattle.order.specs.Machine.{decided_on, after_carry, after_fill, produce, with_work, with_both, dropped, Finds}
use Rattle.order.specs.Machine.{PlanningOver, NextCarry, claims, reads, read_waits, decides, decides_last}
use Rattle.order.specs.Machine.{carries, carry_waits, fills, fills_last, Executes, Accepted, places, executes}
use Rattle.order.specs.TableLaws.{updated_here, updated_elsewhere, marks_le, marks_rise}
use Rattle.order.specs.Invariant.{ReadingRight, ExecutionRight}
use Rattle.order.proofs.Sums.{sum_below, sum_at}
use Rattle.order.proofs.Remaining.{carries_left, steps_left, places_left, remaining, left_work, left_both, left_laid}
use Rattle.order.proofs.Remaining.{laid_idle}

module _ {X O : Type 0} (B : Batch X O) where
  -- A placing lowers what is left.
  place_lowers : (p : Plan) (q : ℕ) → q < B.partitions → p.placed q < B.size
      → places_left B (place_next B p q) < places_left B p
  unfolding places_left place_next
  place_lowers p q hq h =
      let placed : ℕ → ℕ = updated p.placed q (suc (p.placed q)) in
      let t : sum_below B.partitions (λ a. B.size - placed a) + (B.size - p.placed q)
      ≡ sum_below B.partitions (λ a. B.size - p.placed a) + (B.size - placed q) =
      sum_at B.partitions (λ a. B.size - placed a) (λ a. B.size - p.placed a) q hq
      (λ a n. ap (λ x. B.size - x) (updated_elsewhere p.placed q (suc (p.placed q)) a n)) in
      let u : placed q ≡ suc (p.placed q) = updated_here p.placed q (suc (p.placed q)) in
      omega arith

  pub record Placing (s u : State X O) : Type 0 where
    pub lowers : remaining B u < remaining B s
    pub same_execution : u.execution ≡ s.execution

  pub placing : {s u : State X O} {q : ℕ} {answer : Answer} → s.plan.placed q < B.size
      → Accepted B s (place q) answer u → Placing s u
  placing {s} {u} {q} {answer} h a = one q answer u h a
    where
      one : (q : ℕ) (answer : Answer) (u : State X O) → s.plan.placed q < B.size → Accepted B s (place q) answer u
          → Placing s u
      one q answer u h (places hq l) =
          record { lowers = omega (arith, place_lowers s.plan q hq h); same_execution = refl }

  -- What a claim of transaction i by worker w comes to.
  pub record Claiming (s u : State X O) (w i : ℕ) : Type 0 where
    pub lowers : remaining B u < remaining B s
    pub runs : u.execution.row i ≡ executing w
    pub others : (a : ℕ) → a ≢ i → u.execution.row a ≡ s.execution.row a

  -- What an advance of worker w comes to: it goes on; it completes its transaction; or it drops it for want of a
  -- version.
  pub data Advanced (s u : State X O) (w : ℕ) : Type 0 where
    went_on : remaining B u < remaining B s → ((i : ℕ) → u.execution.row i ≡ s.execution.row i) → Advanced s u w
    ended : remaining B u < remaining B s → u.execution.work w ≡ idle → Advanced s u w
    waited : remaining B u ≤ remaining B s + 9 → u.execution.work w ≡ idle → (i r a j : ℕ)
        → held_by (s.execution.work w) ≡ some i
        → Finds B s.plan s.execution.contents i r (slot a j) unproduced → Advanced s u w

  -- Planning stays over when a worker acts.
  pub still_over : {s u : State X O} {a : Act} {answer : Answer} → Accepted B s (act a) answer u
      → PlanningOver B u.plan
  still_over (executes over x) = over

  module _ (s : State X O) (inv : ExecutionRight B s.execution) where
    abbrev e : Execution X O
    e = s.execution

    pub claiming : {u : State X O} {w i : ℕ} {answer : Answer} → Accepted B s (act (claim w i)) answer u
        → Claiming s u w i
    unfolding with_both
    claiming {w = w} {i = i} {answer = answer} (executes {e = f} over x) = one w i answer f over x
      where
        one : (w i : ℕ) (answer : Answer) (f : Execution X O) → PlanningOver B s.plan
            → Executes B s.plan e (claim w i) answer f → Claiming s (record { plan = s.plan; execution = f }) w i
        one w i answer f over (claims hw hi idle_now open_now) =
            let t : steps_left B (with_both e w (reading i 0 []) i (executing w)) + 14 ≡ steps_left B e + 13 =
            rw (open_now, updated_here) at (left_both B e w i (reading i 0 []) (executing w) hi (λ a y. (cc)) inv) in
            record {
              lowers = omega arith;
              runs = updated_here e.row i (executing w);
              others = λ a n. updated_elsewhere e.row i (executing w) a n;
            }

    few_done : Proper B → (w i k : ℕ) (values : List X) → e.work w ≡ reading i k values → k ≤ 4
    few_done ok w i k values busy =
        let g : ReadingRight B i k values = rw busy at (inv.works w) in
        omega (arith, ok.few_reads i, g.within)

    some_left : (i : ℕ) (d : Decided X O) (j : ℕ) → NextCarry B i d j
        → d.carries < marks_below d.carried (B.write_count i)
    some_left i d j next =
        omega (arith, next.in_turn, marks_rise d.carried j (B.write_count i) next.declared next.marked)

    pub advancing : Proper B → {w : ℕ} {answer : Answer} {u : State X O} → Accepted B s (act (advance w)) answer u
        → Advanced s u w
    unfolding with_work produce with_both steps_left
    advancing ok (executes over (reads {w} {i} {k} {values} {found} {x} hw busy left q)) =
        let more : Work X O = reading i (suc k) (values ++ (x ∷ [])) in
        let t : steps_left B (with_work e w more) + (13 - k) ≡ steps_left B e + (13 - suc k) =
        left_work B e w i (reading i k values) more busy refl inv in
        let few : k ≤ 4 = few_done ok w i k values busy in
        went_on (omega arith) (λ a. refl)
    advancing ok (executes over (read_waits {w} {i} {k} {values} {a} {j} hw busy left q)) =
        let t : steps_left B (dropped e w i) + (13 - k) ≡ steps_left B e + 14 =
        left_laid B e w i unprocessed (reading i k values) busy refl inv in
        let few : k ≤ 4 = few_done ok w i k values busy in
        waited (omega arith) (laid_idle B e w i unprocessed) i (B.read_record i k) a j (ap held_by busy) q
    advancing ok (executes over (decides {w} {i} {k} {values} hw busy none_left some_write)) =
        let d : Decision X O = B.decide i values in
        let t : steps_left B (with_work e w (decided i (decided_on values d))) + (13 - k)
        ≡ steps_left B e + (marks_below d.carried (B.write_count i) - 0 + 4) =
        left_work B e w i (reading i k values) (decided i (decided_on values d)) busy refl inv in
        let few : k ≤ 4 = few_done ok w i k values busy in
        let c : marks_below d.carried (B.write_count i) ≤ B.write_count i = marks_le d.carried (B.write_count i) in
        let v : B.write_count i ≤ 4 = ok.few_writes i in
        went_on (omega arith) (λ a. refl)
    advancing ok (executes over (decides_last {w} {i} {k} {values} hw busy none_left no_write)) =
        let row : Row X O = complete (B.decide i values).outcome values in
        let t : steps_left B (with_both e w idle i row) + (13 - k) ≡ steps_left B e + 0 =
        left_laid B e w i row (reading i k values) busy refl inv in
        let few : k ≤ 4 = few_done ok w i k values busy in
        ended (omega arith) (laid_idle B e w i row)
    advancing ok (executes over (carries {w} {i} {d} {j} {found} {x} hw busy next q)) =
        let t : steps_left B (with_work e w (decided i (after_carry d j x)))
        + (carries_left B i d + (4 - d.fills))
        ≡ steps_left B e + (carries_left B i (after_carry d j x) + (4 - d.fills)) =
        left_work B e w i (decided i d) (decided i (after_carry d j x)) busy refl inv in
        let c : d.carries < marks_below d.carried (B.write_count i) = some_left i d j next in
        went_on (omega arith) (λ a. refl)
    advancing ok (executes over (carry_waits {w} {i} {d} {j} {a} {b} hw busy next q)) =
        let t : steps_left B (dropped e w i) + (carries_left B i d + (4 - d.fills)) ≡ steps_left B e + 14 =
        left_laid B e w i unprocessed (decided i d) busy refl inv in
        let c : d.carries < marks_below d.carried (B.write_count i) = some_left i d j next in
        let n : d.fills ≡ 0 = next.none_filled in
        waited (omega arith) (laid_idle B e w i unprocessed) i (B.write_record i j) a b (ap held_by busy) q
    advancing ok (executes over (fills {w} {i} {d} hw busy carried more)) =
        let t : steps_left B (with_work (produce e i d.fills (d.contents d.fills)) w (decided i (after_fill d)))
        + (carries_left B i d + (4 - d.fills))
        ≡ steps_left B e + (carries_left B i d + (4 - suc d.fills)) =
        left_work B e w i (decided i d) (decided i (after_fill d)) busy refl inv in
        let v : B.write_count i ≤ 4 = ok.few_writes i in
        went_on (omega arith) (λ a. refl)
    advancing ok (executes over (fills_last {w} {i} {d} hw busy carried last)) =
        let filled : Execution X O = produce e i d.fills (d.contents d.fills) in
        let row : Row X O = complete d.outcome d.values_read in
        let t : steps_left B (with_both filled w idle i row) + (carries_left B i d + (4 - d.fills))
        ≡ steps_left B e + 0 =
        left_laid B e w i row (decided i d) busy refl inv in
        let v : B.write_count i ≤ 4 = ok.few_writes i in
        ended (omega arith) (laid_idle B filled w i row)
