-- Carry marks, as the engine keeps them in a list and as the machine has them by number.
use Prim.Native.Nat.{ℕ, zero, suc, ◌+◌, ◌-◌, ◌≤◌, ◌<◌}
use Rattle.std.specs.Prelude.{Bool, true, false, ◌&&◌, cond, ◌≡◌, List, leb, eqb, get_or}
use Rattle.std.proofs.Math.Path.{refl}
use Rattle.std.proofs.Common.{sym, ap, ◌∙◌, subst, add-one, eq-eqb, eqb-true}
use Rattle.std.proofs.Math.Decide.{dec_lt}
use native.Mathlib.Omega.{arith}
use Rattle.std.proofs.lemmas.Bool.{lt-leb}
use Rattle.packed.specs.LawsRecords.{not_both}
use Rattle.counters.specs.LawsPlaces.{both_left, both_right}
use Rattle.engine.specs.Acts.{mark_at, one, marks_below, marks_of, mark_past, next_is, next_carried}
use Rattle.order.specs.Tables as table
use Rattle.order.specs.TableLaws.{marks_apart, Mark}
use Rattle.ordered.specs.Chains.{right_fails}

-- one more number counted
counted : (n : ℕ) (mark : Bool) → n + one mark ≡ cond mark (suc n) n
counted n true = add-one n
counted n false = omega arith

module _ (carried : List Bool) (marked : ℕ → Bool) (same : (j : ℕ) → get_or carried j false ≡ marked j) where
  -- as many marks are counted
  pub marks_same : (k : ℕ) → marks_below carried k ≡ table.marks_below marked k
  unfolding table.marks_below
  marks_same zero = refl
  marks_same (suc k) = rw (same k, marks_same k) (counted (table.marks_below marked k) (marked k))

  module _ (count : ℕ) (few : count ≤ 4) (past : (j : ℕ) → count ≤ j → marked j ≡ false) where
    -- no mark stands past the write count, so none is counted there
    more_none : (more : ℕ) → table.marks_below marked (more + count) ≡ table.marks_below marked count
    unfolding table.marks_below
    more_none zero = let none : 0 + count ≡ count = omega arith in rw none
    more_none (suc more) =
        let next : suc more + count ≡ suc (more + count) = omega arith in
        rw (next, past (more + count) (omega arith)) (more_none more)

    pub marks_all : marks_of carried ≡ table.marks_below marked count
    marks_all =
        let all : 4 - count + count ≡ 4 = omega (arith, few) in
        marks_same 4
        ∙ subst (λ (k : ℕ). table.marks_below marked k ≡ table.marks_below marked count) all (more_none (4 - count))

    no_mark : (j : ℕ) → (leb count j && mark_at carried j) ≡ false
    no_mark j = go (dec_lt j count)
      where
        go : Dec (j < count) → (leb count j && mark_at carried j) ≡ false
        go (yes within) = rw (lt-leb count j within)
        go (no beyond) = rw (same j, past j (omega arith)) (right_fails (leb count j) false refl)

    pub none_past : mark_past carried count ≡ false
    none_past = rw (no_mark 0, no_mark 1, no_mark 2, no_mark 3)

    -- the next carried write is the marked one with as many marks below it as carries are done
    module _ (carries : ℕ) (mark : Mark marked count carries) where
      here : next_is carried carries mark.place ≡ true
      here =
          rw (same mark.place, mark.is_marked, marks_same mark.place)
          (eq-eqb (table.marks_below marked mark.place) carries mark.before)

      only : (j : ℕ) → next_is carried carries j ≡ true → j ≡ mark.place
      only j next =
          let is_marked : marked j ≡ true =
          sym (same j) ∙ both_left (mark_at carried j) (eqb (marks_below carried j) carries) next in
          let as_many : marks_below carried j ≡ carries =
          eqb-true (marks_below carried j) carries
          (both_right (mark_at carried j) (eqb (marks_below carried j) carries) next) in
          marks_apart marked j mark.place is_marked mark.is_marked
          (sym (marks_same j) ∙ as_many ∙ sym mark.before)

      -- where a test fails, the place is another
      not_there : (j : ℕ) → next_is carried carries j ≡ false → mark.place ≡ j → ⊥
      not_there j fails at = not_both (sym here ∙ ap (next_is carried carries) at ∙ fails)

      pub next_carried_lem : next_carried carried carries ≡ mark.place
      next_carried_lem =
          first (next_is carried carries 0) refl (next_is carried carries 1) refl (next_is carried carries 2) refl
        where
          four : mark.place < 4
          four = omega (arith, mark.below, few)

          last : (place : ℕ) → place < 4 → (place ≡ 0 → ⊥) → (place ≡ 1 → ⊥) → (place ≡ 2 → ⊥) → 3 ≡ place
          last place below not_first not_second not_third = omega (arith, below)

          first : (a : Bool) → next_is carried carries 0 ≡ a → (b : Bool) → next_is carried carries 1 ≡ b
              → (c : Bool) → next_is carried carries 2 ≡ c → cond a 0 (cond b 1 (cond c 2 3)) ≡ mark.place
          first true is_a b is_b c is_c = only 0 is_a
          first false is_a true is_b c is_c = only 1 is_b
          first false is_a false is_b true is_c = only 2 is_c
          first false is_a false is_b false is_c =
              last mark.place four (not_there 0 is_a) (not_there 1 is_b) (not_there 2 is_c)
