-- Every step of a worker keeps the execution invariant.
use Rattle.std.specs.Prelude.{◌≡◌, Bool, true, false, List, [], ◌∷◌, ◌++◌, ◌≢◌, ℕ, suc, ◌≤◌, ◌<◌}
use Rattle.std.proofs.Math.Path.{refl, ap}
use Rattle.std.proofs.Common.{sym, ◌∙◌}
use Rattle.std.proofs.Math.Option.{some}
use native.Mathlib.Omega.{arith}
use Rattle.std.proofs.Math.Decide.{ℕ_discrete}
use Rattle.order.specs.Tables.{updated, first_values, marks_below, updated_entry}
use Rattle.order.specs.Batch.{Batch, Proper}
use Rattle.order.specs.OneByOne.{values_at, decision_on, records_before, values_read_to, values_read, decision_of}
use Rattle.order.specs.OneByOne.{leaves}
use Rattle.order.specs.Plan.{Plan}
use Rattle.order.specs.Machine.{Contents, produced, Row, unprocessed, executing, complete, Decided, idle, reading}
use Rattle.order.specs.Machine.{decided, Execution, Act, Answer, held_by, decided_on, after_carry, after_fill}
use Rattle.order.specs.Machine.{produce, with_work, with_both, dropped, completed, PlanningOver, NextCarry}
use Rattle.order.specs.Machine.{AllCarried, Executes, claims, reads, read_waits, decides, decides_last, carries}
use Rattle.order.specs.Machine.{carry_waits, fills, fills_last, abandons}
use Rattle.order.specs.TableLaws.{clash, updated_here, updated_elsewhere, entry_here, marks_rise, marks_apart}
use Rattle.order.specs.Writes.{written}
use Rattle.order.specs.Invariant.{IsProduced, Planned, RowRight, ReadingRight, DecidedRight, ExecutionRight}
use Rattle.order.proofs.Changes.{produced_grows, produce_keeps, work_keeps, both_keeps}
use Rattle.order.proofs.Found.{found_right}

module _ {X O : Type 0} (B : Batch X O) where
  -- Worker w lays transaction i down: dropped or Complete.
  lay_down : (e : Execution X O) (w i : ℕ) (row : Row X O) → held_by (e.work w) ≡ some i
      → RowRight B e.contents i row → ((v : ℕ) → row ≡ executing v → ◌≡◌ {A = ℕ} 0 1) → ExecutionRight B e
      → ExecutionRight B (with_both e w idle i row)
  lay_down e w i row h right not_executing inv =
      let mine : e.row i ≡ executing w = (inv.holder w i h).1 in
      both_keeps B e w idle i row (record {
        nobody_else = λ v x. (cc);
        nothing_else = λ a x. (cc);
        row_right = right;
        work_right = tt;
        held_after = λ v x. absurd (clash (not_executing v x));
        holder_after = λ a x. absurd (clash (cc));
      }) inv

  drop_keeps : (e : Execution X O) (w i : ℕ) → held_by (e.work w) ≡ some i → ExecutionRight B e
      → ExecutionRight B (dropped e w i)
  drop_keeps e w i h inv = lay_down e w i _ h tt (λ v x. (cc)) inv

  claim_keeps : (e : Execution X O) (w i : ℕ) → w < B.workers → i < B.size → e.work w ≡ idle → e.row i ≡ unprocessed
      → ExecutionRight B e → ExecutionRight B (with_both e w (reading i 0 []) i (executing w))
  unfolding values_read_to values_at first_values
  claim_keeps e w i hw hi idle_now open_now inv =
      both_keeps B e w (reading i 0 []) i (executing w) (record {
        nobody_else = λ v x. (cc);
        nothing_else = λ a x. (cc);
        row_right = tt;
        work_right = record { within = omega arith; so_far = refl };
        held_after = λ v x. let same : v ≡ w = cc in (omega arith, same, refl);
        holder_after = λ a x. let same : a ≡ i = cc in (omega arith, same, refl);
      }) inv

  -- One value more: still a prefix of the run's.
  read_right : (i k : ℕ) (values : List X) (x : X) → ReadingRight B i k values → k < B.read_count i
      → x ≡ records_before B i (B.read_record i k) → ReadingRight B i (suc k) (values ++ (x ∷ []))
  unfolding values_read_to values_at first_values
  read_right i k values x g h e = record {
    within = h;
    so_far = let z : values ≡ first_values (λ read. records_before B i (B.read_record i read)) k = g.so_far in cc;
  }

  all_read : (i k : ℕ) (values : List X) → ReadingRight B i k values → B.read_count i ≤ k → values ≡ values_read B i
  unfolding values_read
  all_read i k values g h =
      let e : k ≡ B.read_count i = omega (arith, g.within) in
      g.so_far ∙ ap (values_read_to B i) e

  same_decision : (i : ℕ) (values : List X) → values ≡ values_read B i → B.decide i values ≡ decision_of B i
  unfolding decision_of decision_on values_read values_read_to
  same_decision i values h = ap (B.decide i) h

  -- After the fill of write m, the writes up to m are produced.
  filled_to_lem : (contents : ℕ → ℕ → Contents X) (i m : ℕ) (x : X) → ((j : ℕ) → j < m → IsProduced (contents i j))
      → (j : ℕ) → j < suc m → IsProduced (updated_entry contents i m (produced x) i j)
  filled_to_lem contents i m x h j l = go (ℕ_discrete j m)
    where
      go : Dec (j ≡ m) → IsProduced (updated_entry contents i m (produced x) i j)
      go (yes e) = rw (e, entry_here) tt
      go (no n) = produced_grows B contents i m x i j (h j (omega arith))

  module _ (ok : Proper B) where
    decided_right : (contents : ℕ → ℕ → Contents X) (i : ℕ) (values : List X) → values ≡ values_read B i
        → 0 < B.write_count i → DecidedRight B contents i (decided_on values (B.decide i values))
    decided_right contents i values h some_write =
        let same : B.decide i values ≡ decision_of B i = same_decision i values h in
        record {
          values_are = h;
          outcome_is = ap (λ d. d.outcome) same;
          fill_left = some_write;
          marks_are = λ j. ap (λ d. d.carried j) same;
          contents_are = λ j l u.
              let v : (decision_of B i).carried j ≡ false = rw same at u in
              rw same (sym (written B ok i j l ∙ rw v));
          carried_are = λ j l u v. absurd (omega arith);
          carries_fit = omega arith;
          filled = λ j l. absurd (omega arith);
          carried_first = λ l. absurd (omega arith);
        }

    -- A carry takes the record as it is just before the transaction: that is what the run leaves in a carried write.
    carry_right : (contents : ℕ → ℕ → Contents X) (i : ℕ) (d : Decided X O) (j : ℕ) (x : X)
        → DecidedRight B contents i d → NextCarry B i d j → x ≡ records_before B i (B.write_record i j)
        → DecidedRight B contents i (after_carry d j x)
    carry_right contents i d j x g next e = record {
      values_are = g.values_are;
      outcome_is = g.outcome_is;
      fill_left = g.fill_left;
      marks_are = g.marks_are;
      contents_are = λ a l u. updated_elsewhere d.contents j x a (unmarked a u) ∙ g.contents_are a l u;
      carried_are = λ a l u. carried_are a l u (ℕ_discrete a j);
      carries_fit = omega (arith, next.in_turn, more);
      filled = g.filled;
      carried_first = λ l. absurd (omega (arith, next.none_filled));
    }
      where
        more : marks_below d.carried j < marks_below d.carried (B.write_count i)
        more = marks_rise d.carried j (B.write_count i) next.declared next.marked

        now : x ≡ leaves B i j
        now =
            let carried : (decision_of B i).carried j ≡ true = sym (g.marks_are j) ∙ next.marked in
            e ∙ sym (written B ok i j next.declared ∙ rw carried)

        unmarked : (a : ℕ) → d.carried a ≡ false → a ≢ j
        unmarked a u same = clash (cc (ap d.carried same, next.marked))

        carried_are : (a : ℕ) → a < B.write_count i → d.carried a ≡ true → Dec (a ≡ j)
            → marks_below d.carried a < suc d.carries → updated d.contents j x a ≡ leaves B i a
        carried_are a l u (yes same) v = rw (same, updated_here) now
        carried_are a l u (no other) v =
            updated_elsewhere d.contents j x a other ∙ g.carried_are a l u (omega (arith, v, earlier))
          where
            earlier : marks_below d.carried a ≢ d.carries
            earlier e = other (marks_apart d.carried a j u next.marked (e ∙ sym next.in_turn))

    -- Once all carries are done, every write has the contents that the run leaves.
    all_right : (contents : ℕ → ℕ → Contents X) (i : ℕ) (d : Decided X O) → DecidedRight B contents i d
        → AllCarried B i d
        → (j : ℕ) → j < B.write_count i → d.contents j ≡ leaves B i j
    all_right contents i d g all j h = go (d.carried j) refl
      where
        go : (b : Bool) → d.carried j ≡ b → d.contents j ≡ leaves B i j
        go false u = g.contents_are j h u
        go true u = g.carried_are j h u (omega (arith, marks_rise d.carried j (B.write_count i) h u))

    module _ (e : Execution X O) (w i : ℕ) (d : Decided X O)
        (busy : e.work w ≡ decided i d) (carried : AllCarried B i d) (inv : ExecutionRight B e) where
      right : DecidedRight B e.contents i d
      right = rw busy at (inv.works w)

      abbrev after : Execution X O
      after = produce e i d.fills (d.contents d.fills)

      produced_right : ExecutionRight B after
      produced_right =
          produce_keeps B e i d.fills (d.contents d.fills) (inv.holder w i (ap held_by busy)).0
          (all_right e.contents i d right carried d.fills right.fill_left) inv

      fill_keeps : suc d.fills < B.write_count i → ExecutionRight B (with_work after w (decided i (after_fill d)))
      unfolding produce
      fill_keeps more =
          work_keeps B after w (decided i (after_fill d)) (cc)
          (record {
            values_are = right.values_are;
            outcome_is = right.outcome_is;
            fill_left = more;
            marks_are = right.marks_are;
            contents_are = right.contents_are;
            carried_are = right.carried_are;
            carries_fit = right.carries_fit;
            filled = filled_to_lem e.contents i d.fills (d.contents d.fills) right.filled;
            carried_first = λ _. carried;
          })
          produced_right

      fill_last_keeps : suc d.fills ≡ B.write_count i
          → ExecutionRight B (completed after w i d.outcome d.values_read)
      unfolding produce
      fill_last_keeps last =
          lay_down after w i (complete d.outcome d.values_read) (cc)
          (record {
            outcome_is = right.outcome_is;
            values_are = right.values_are;
            all_produced = λ j h.
                filled_to_lem e.contents i d.fills (d.contents d.fills) right.filled j (omega arith);
          })
          (λ v x. (cc)) produced_right

    pub executes_keeps : (p : Plan) → Planned B p → PlanningOver B p → {e f : Execution X O} {a : Act} {answer : Answer}
        → Executes B p e a answer f → ExecutionRight B e → ExecutionRight B f
    executes_keeps p planned over {e} (claims {w} {i} hw hi idle_now open_now) inv =
        claim_keeps e w i hw hi idle_now open_now inv
    executes_keeps p planned over {e} (reads {w} {i} {k} {values} {found} {x} hw busy left f) inv =
        let known : i < B.size = (inv.holder w i (cc)).0 in
        work_keeps B e w (reading i (suc k) (values ++ (x ∷ []))) (cc)
        (read_right i k values x (rw busy at (inv.works w)) left
        (found_right B ok p planned over inv.versions (omega arith) f)) inv
    executes_keeps p planned over {e} (read_waits {w} {i} hw busy left f) inv = drop_keeps e w i (cc) inv
    executes_keeps p planned over {e} (decides {w} {i} {k} {values} hw busy none_left some_write) inv =
        work_keeps B e w (decided i (decided_on values (B.decide i values))) (cc)
        (decided_right e.contents i values (all_read i k values (rw busy at (inv.works w)) none_left) some_write)
        inv
    executes_keeps p planned over {e} (decides_last {w} {i} {k} {values} hw busy none_left no_write) inv =
        let h : values ≡ values_read B i = all_read i k values (rw busy at (inv.works w)) none_left in
        lay_down e w i (complete (B.decide i values).outcome values) (cc)
        (record {
          outcome_is = ap (λ d. d.outcome) (same_decision i values h);
          values_are = h;
          all_produced = λ j l. absurd (omega arith);
        })
        (λ v x. (cc)) inv
    executes_keeps p planned over {e} (carries {w} {i} {d} {j} {found} {x} hw busy next f) inv =
        let known : i < B.size = (inv.holder w i (cc)).0 in
        work_keeps B e w (decided i (after_carry d j x)) (cc)
        (carry_right e.contents i d j x (rw busy at (inv.works w)) next
        (found_right B ok p planned over inv.versions (omega arith) f)) inv
    executes_keeps p planned over {e} (carry_waits {w} {i} hw busy next f) inv = drop_keeps e w i (cc) inv
    executes_keeps p planned over {e} (fills {w} {i} {d} hw busy carried more) inv =
        fill_keeps e w i d busy carried inv more
    executes_keeps p planned over {e} (fills_last {w} {i} {d} hw busy carried last) inv =
        fill_last_keeps e w i d busy carried inv last
    executes_keeps p planned over {e} (abandons {w} {i} hw holds) inv = drop_keeps e w i holds inv
