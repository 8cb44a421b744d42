-- Laws of a worker's next act.
use Rattle.std.specs.Prelude.{ℕ, zero, suc, ◌+◌, ◌<◌, Bool, true, false, cond}
use Rattle.std.specs.Prelude.{List, [], ◌∷◌, ◌≡◌, refl, length}
use Rattle.std.specs.List.{filter}
use Rattle.std.proofs.Common.{arith, add-one, ne_eqb}
use Rattle.engine.specs.Acts.{one, mark_at, marks_below, marks_of, next_is, next_carried}

abbrev marked : Bool → Bool
marked mark = mark

one_more : (mark : Bool) (marks : List Bool)
    → length (filter marked (mark ∷ marks)) ≡ one mark + length (filter marked marks)
one_more true marks = omega arith
one_more false marks = omega arith

-- the marks are as many as those of four that are set
pub marks_counted : (carried : List Bool) → length carried ≡ 4
    → length (filter (λ mark. mark) carried) ≡ marks_of carried
marks_counted [] four = absurd (omega (arith, four))
marks_counted (a ∷ []) four = absurd (omega (arith, four))
marks_counted (a ∷ b ∷ []) four = absurd (omega (arith, four))
marks_counted (a ∷ b ∷ c ∷ []) four = absurd (omega (arith, four))
marks_counted (a ∷ b ∷ c ∷ d ∷ []) four =
    omega (
      arith,
      one_more a (b ∷ c ∷ d ∷ []),
      one_more b (c ∷ d ∷ []),
      one_more c (d ∷ []),
      one_more d [],
    )
marks_counted (a ∷ b ∷ c ∷ d ∷ e ∷ rest) four = absurd (omega (arith, four))

-- ---- the next carried write is looked for write after write
-- what it is where none below write j is it
abbrev pub found_from : List Bool → ℕ → ℕ → ℕ
found_from carried carries zero = next_carried carried carries
found_from carried carries (suc zero) =
    cond (next_is carried carries 1) 1 (cond (next_is carried carries 2) 2 3)
found_from carried carries (suc (suc zero)) = cond (next_is carried carries 2) 2 3
found_from carried carries (suc (suc (suc j))) = 3

pub found_here : (carried : List Bool) (carries j : ℕ) → j < 4 → next_is carried carries j ≡ true
    → found_from carried carries j ≡ j
found_here carried carries zero below found = rw found refl
found_here carried carries (suc zero) below found = rw found refl
found_here carried carries (suc (suc zero)) below found = rw found refl
found_here carried carries (suc (suc (suc zero))) below found = refl
found_here carried carries (suc (suc (suc (suc j)))) below found = absurd (omega (arith, below))

pub found_later : (carried : List Bool) (carries j : ℕ) → next_is carried carries j ≡ false
    → found_from carried carries j ≡ found_from carried carries (suc j)
found_later carried carries zero other = rw other refl
found_later carried carries (suc zero) other = rw other refl
found_later carried carries (suc (suc zero)) other = rw other refl
found_later carried carries (suc (suc (suc j))) other = refl

-- one write more is looked at: it has no mark,
pub unmarked_on : (carried : List Bool) (carries j : ℕ) → mark_at carried j ≡ false
    → (marks_below carried j ≡ marks_below carried (j + 1))
    × (found_from carried carries j ≡ found_from carried carries (j + 1))
unmarked_on carried carries j none =
    rw (add-one j) (rw none (omega arith), found_later carried carries j (rw none refl))

-- or a mark, and another count below it than is asked
pub marked_on : (carried : List Bool) (carries j : ℕ) → mark_at carried j ≡ true
    → (marks_below carried j ≡ carries → ⊥)
    → (marks_below carried j + 1 ≡ marks_below carried (j + 1))
    × (found_from carried carries j ≡ found_from carried carries (j + 1))
marked_on carried carries j some other =
    rw (add-one j) (
      rw some refl,
      found_later carried carries j (rw (some, ne_eqb (marks_below carried j) carries other) refl),
    )
