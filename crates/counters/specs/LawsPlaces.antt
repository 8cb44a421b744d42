-- Laws of the place of a record in a set.
use Rattle.std.specs.Prelude.{◌≡◌, ℕ, zero, suc, ◌<◌, Bool, true, false, cond, not, ◌&&◌}
use Rattle.std.specs.Prelude.{◌||◌, List, [], ◌∷◌, get_or, ◌==◌, ◌≢◌, nat_lt, slice_index, slice_index_or, refl}
use Rattle.std.specs.Prelude.{Option, Some, None}
use Rattle.std.proofs.Common.{sym, ap, ◌∙◌, arith, ltb-true, eqb-true, lt-ltb, eq-eqb}
use Rattle.std.proofs.lemmas.Bool.{not-false}
use Rattle.packed.specs.Records.{unlisted}
use Rattle.counters.specs.Working.{stands_at, place_in}

pub both_left : (a b : Bool) → (a && b) ≡ true → a ≡ true
both_left true b both = refl
both_left false b both = both

pub both_right : (a b : Bool) → (a && b) ≡ true → b ≡ true
both_right true b both = both
both_right false true both = refl
both_right false false both = both

pub true_is_not_false : true ≡ false → ⊥
true_is_not_false same = let never : ◌≡◌ {A = ℕ} 0 1 = cc in omega arith

-- a place as the code has it: none where it is none of the four
abbrev pub place_found : ℕ → Option ℕ
place_found place = cond (nat_lt place 4) (Some place) None

-- the first of four tests that holds, and 4 where none does
abbrev pub first_of : Bool → Bool → Bool → Bool → ℕ
first_of a b c d = cond a 0 (cond b 1 (cond c 2 (cond d 3 4)))

by_first : (P : ℕ → Type 0) (a b c d : Bool)
    → (a ≡ true → P 0) → (b ≡ true → P 1) → (c ≡ true → P 2) → (d ≡ true → P 3) → P 4 → P (first_of a b c d)
by_first P true b c d first second third fourth none = first refl
by_first P false true c d first second third fourth none = second refl
by_first P false false true d first second third fourth none = third refl
by_first P false false false true first second third fourth none = fourth refl
by_first P false false false false first second third fourth none = none

some_first : (a b c d : Bool) → (a || b || c || d) ≡ true → first_of a b c d < 4
some_first true b c d some = omega arith
some_first false true c d some = omega arith
some_first false false true d some = omega arith
some_first false false false true some = omega arith
some_first false false false false some = absurd (true_is_not_false (sym some))

pub none_at : (i : ℕ) → slice_index_or (false ∷ false ∷ false ∷ false ∷ []) i false ≡ false
none_at zero = refl
none_at (suc zero) = refl
none_at (suc (suc zero)) = refl
none_at (suc (suc (suc zero))) = refl
none_at (suc (suc (suc (suc i)))) = refl

ith_first : (a b c d : Bool) (i : ℕ) → slice_index_or (a ∷ b ∷ c ∷ d ∷ []) i false ≡ true → first_of a b c d < 4
ith_first true b c d i holds = omega arith
ith_first false true c d i holds = omega arith
ith_first false false true d i holds = omega arith
ith_first false false false true i holds = omega arith
ith_first false false false false i holds = absurd (true_is_not_false (sym holds ∙ none_at i))

module _ (set : List ℕ) (count number : ℕ) where
  stands : (place : ℕ) → stands_at set count number place ≡ true → (slice_index set place ≡ number) × (place < count)
  stands place holds = (
    eqb-true (slice_index set place) number (both_right (nat_lt place count) ((slice_index set place) == number) holds),
    ltb-true place count (both_left (nat_lt place count) ((slice_index set place) == number) holds),
  )

  -- a record that has a place stands there, within the count
  pub at_place : place_in set count number < 4
      → (slice_index set (place_in set count number) ≡ number) × (place_in set count number < count)
  unfolding place_in
  at_place =
      by_first (λ place. place < 4 → (slice_index set place ≡ number) × (place < count))
      (stands_at set count number 0)
      (stands_at set count number 1)
      (stands_at set count number 2)
      (stands_at set count number 3)
      (λ holds _. stands 0 holds)
      (λ holds _. stands 1 holds)
      (λ holds _. stands 2 holds)
      (λ holds _. stands 3 holds)
      (λ below. absurd (omega arith))

  -- a declared record has a place
  pub listed_place : unlisted set count number ≡ false → place_in set count number < 4
  unfolding place_in
  listed_place listed =
      some_first
      (stands_at set count number 0)
      (stands_at set count number 1)
      (stands_at set count number 2)
      (stands_at set count number 3)
      (not-false _ listed)

  -- and so has one that stands anywhere within the count
  pub has_place : (i : ℕ) → i < count → i < 4 → slice_index set i ≡ number → place_in set count number < 4
  unfolding place_in
  has_place i within below there =
      ith_first
      (stands_at set count number 0)
      (stands_at set count number 1)
      (stands_at set count number 2)
      (stands_at set count number 3)
      i (ith i below (rw (lt-ltb i count within) (eq-eqb (slice_index set i) number there)))
    where
      ith : (i : ℕ) → i < 4 → stands_at set count number i ≡ true
          → get_or (stands_at set count number 0 ∷ stands_at set count number 1
          ∷ stands_at set count number 2 ∷ stands_at set count number 3 ∷ []) i false ≡ true
      ith zero below holds = holds
      ith (suc zero) below holds = holds
      ith (suc (suc zero)) below holds = holds
      ith (suc (suc (suc zero))) below holds = holds
      ith (suc (suc (suc (suc i)))) below holds = absurd (omega arith)

-- two records at one place are one
pub one_at_place : (set : List ℕ) (count r s : ℕ) → place_in set count r < 4 → (r ≢ s)
    → place_in set count r ≡ place_in set count s → ⊥
one_at_place set count r s below other same =
    let below_too : place_in set count s < 4 = rw (← same) below in
    other (
    sym (at_place set count r below).0
    ∙ ap (λ place. slice_index set place) same
    ∙ (at_place set count s below_too).0)

-- a record that has a place is declared
first_some : (a b c d : Bool) → first_of a b c d < 4 → not (a || b || c || d) ≡ false
first_some true b c d below = refl
first_some false true c d below = refl
first_some false false true d below = refl
first_some false false false true below = refl
first_some false false false false below = absurd (omega arith)

pub place_listed : (set : List ℕ) (count number : ℕ) → place_in set count number < 4 → unlisted set count number ≡ false
unfolding place_in
place_listed set count number below =
    first_some
    (stands_at set count number 0)
    (stands_at set count number 1)
    (stands_at set count number 2)
    (stands_at set count number 3)
    below
