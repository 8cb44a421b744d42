-- The values read, in the places of a worker and of the results table.
use Rattle.std.specs.Prelude.{ℕ, ◌+◌, ◌*◌, ◌≤◌, ◌<◌, ◌≢◌, ◌≡◌, refl, List, [], ◌∷◌, ◌++◌, length, get_or, set, take}
use Rattle.std.proofs.Common.{◌∙◌, subst, arith, length-set, get_or-set_same, get_or-set_other}
use Rattle.counters.specs.Storing.{in_four}
use Rattle.engine.specs.Advance.{results_of, put_four}
use Rattle.ordered.specs.Relation.{four_at}

-- one more value is kept behind those before it
pub set_in_four : (values : List ℕ) (x : ℕ) → length values < 4
    → set (in_four values) (length values) x ≡ in_four (values ++ (x ∷ []))
set_in_four [] x few = refl
set_in_four (a ∷ []) x few = refl
set_in_four (a ∷ b ∷ []) x few = refl
set_in_four (a ∷ b ∷ c ∷ []) x few = refl
set_in_four (a ∷ b ∷ c ∷ y ∷ values) x few = absurd (omega (arith, few))

-- "the values read, then zeros"
pub results_in_four : (values : List ℕ) → length values ≤ 4
    → results_of (in_four values) (length values) ≡ in_four values
results_in_four [] few = refl
results_in_four (a ∷ []) few = refl
results_in_four (a ∷ b ∷ []) few = refl
results_in_four (a ∷ b ∷ c ∷ []) few = refl
results_in_four (a ∷ b ∷ c ∷ y ∷ []) few = refl
results_in_four (a ∷ b ∷ c ∷ y ∷ z ∷ values) few = absurd (omega (arith, few))

-- as many of the four as were read are the values
pub taken_of_four : (values : List ℕ) → length values ≤ 4 → take (length values) (in_four values) ≡ values
taken_of_four [] few = refl
taken_of_four (a ∷ []) few = refl
taken_of_four (a ∷ b ∷ []) few = refl
taken_of_four (a ∷ b ∷ c ∷ []) few = refl
taken_of_four (a ∷ b ∷ c ∷ y ∷ []) few = refl
taken_of_four (a ∷ b ∷ c ∷ y ∷ z ∷ values) few = absurd (omega (arith, few))

module _ (results : List ℕ) (at : ℕ) (values : List ℕ) where
  abbrev one_put : List ℕ
  one_put = set results at (get_or values 0 0)

  abbrev two_put : List ℕ
  two_put = set one_put (at + 1) (get_or values 1 0)

  abbrev three_put : List ℕ
  three_put = set two_put (at + 2) (get_or values 2 0)

  pub put_length : length (put_four results at values) ≡ length results
  put_length =
      length-set three_put (at + 3) (get_or values 3 0)
      ∙ length-set two_put (at + 2) (get_or values 2 0)
      ∙ length-set one_put (at + 1) (get_or values 1 0)
      ∙ length-set results at (get_or values 0 0)

  -- elsewhere nothing changes
  pub put_elsewhere : (k : ℕ) → k ≢ at → k ≢ at + 1 → k ≢ at + 2 → k ≢ at + 3
      → get_or (put_four results at values) k 0 ≡ get_or results k 0
  put_elsewhere k not_first not_second not_third not_fourth =
      get_or-set_other three_put (at + 3) k (get_or values 3 0) 0 not_fourth
      ∙ get_or-set_other two_put (at + 2) k (get_or values 2 0) 0 not_third
      ∙ get_or-set_other one_put (at + 1) k (get_or values 1 0) 0 not_second
      ∙ get_or-set_other results at k (get_or values 0 0) 0 not_first

  -- the four are put
  module _ (inside : at + 3 < length results) where
    first : get_or (put_four results at values) at 0 ≡ get_or values 0 0
    first =
        get_or-set_other three_put (at + 3) at (get_or values 3 0) 0 (λ same. absurd (omega (arith, same)))
        ∙ get_or-set_other two_put (at + 2) at (get_or values 2 0) 0 (λ same. absurd (omega (arith, same)))
        ∙ get_or-set_other one_put (at + 1) at (get_or values 1 0) 0 (λ same. absurd (omega (arith, same)))
        ∙ get_or-set_same results at (get_or values 0 0) 0 (omega (arith, inside))

    second : get_or (put_four results at values) (at + 1) 0 ≡ get_or values 1 0
    second =
        get_or-set_other three_put (at + 3) (at + 1) (get_or values 3 0) 0 (λ same. absurd (omega (arith, same)))
        ∙ get_or-set_other two_put (at + 2) (at + 1) (get_or values 2 0) 0 (λ same. absurd (omega (arith, same)))
        ∙ get_or-set_same one_put (at + 1) (get_or values 1 0) 0
        (omega (arith, inside, length-set results at (get_or values 0 0)))

    third : get_or (put_four results at values) (at + 2) 0 ≡ get_or values 2 0
    third =
        get_or-set_other three_put (at + 3) (at + 2) (get_or values 3 0) 0 (λ same. absurd (omega (arith, same)))
        ∙ get_or-set_same two_put (at + 2) (get_or values 2 0) 0
        (omega (
          arith,
          inside,
          length-set results at (get_or values 0 0),
          length-set one_put (at + 1)
              (get_or values 1 0),
        ))

    fourth : get_or (put_four results at values) (at + 3) 0 ≡ get_or values 3 0
    fourth =
        get_or-set_same three_put (at + 3) (get_or values 3 0) 0
        (omega (
          arith,
          inside,
          length-set results at (get_or values 0 0),
          length-set one_put (at + 1) (get_or values 1 0),
          length-set two_put (at + 2) (get_or values 2 0),
        ))

    pub put_here : four_at (put_four results at values) at ≡ in_four values
    put_here = rw (first, second, third, fourth)

-- those of another transaction stay
pub put_others : (results : List ℕ) (i : ℕ) (values : List ℕ) (a : ℕ) → a ≢ i
    → four_at (put_four results (4 * i) values) (4 * a) ≡ four_at results (4 * a)
put_others results i values a other =
    rw (kept_first, kept 1 (omega arith), kept 2 (omega arith), kept 3 (omega arith))
  where
    apart : (j k : ℕ) → j < 4 → k < 4 → 4 * a + j ≡ 4 * i + k → ⊥
    apart j k few_j few_k same = other (omega arith)

    kept : (j : ℕ) → j < 4 → get_or (put_four results (4 * i) values) (4 * a + j) 0 ≡ get_or results (4 * a + j) 0
    kept j few =
        put_elsewhere results (4 * i) values (4 * a + j)
        (λ same. apart j 0 few (omega arith) (omega (arith, same)))
        (λ same. apart j 1 few (omega arith) same)
        (λ same. apart j 2 few (omega arith) same)
        (λ same. apart j 3 few (omega arith) same)

    kept_first : get_or (put_four results (4 * i) values) (4 * a) 0 ≡ get_or results (4 * a) 0
    kept_first =
        let at : 4 * a + 0 ≡ 4 * a = omega arith in
        subst (λ (k : ℕ). get_or (put_four results (4 * i) values) k 0 ≡ get_or results k 0) at (kept 0 (omega arith))
