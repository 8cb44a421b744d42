-- A test over the numbers below a bound, and the loops and chains that ask it.
use Rattle.std.specs.Prelude.{ℕ, zero, suc, ◌+◌, ◌≤◌, ◌<◌, Bool, true, false, ◌||◌, ◌≡◌, refl}
use Rattle.std.specs.Prelude.{List, length, get_or, take}
use Rattle.std.specs.List.{enumerate_from, list_any, range_with_len}
use Rattle.std.proofs.Common.{ap, sym, ◌∙◌, subst, add-one, arith}
use Rattle.std.proofs.Math.Decide.{dec_lt}
use Rattle.std.proofs.lemmas.List.{take_all, get_or_past}
use Rattle.std.proofs.lemmas.List.Folds.{list_any_more}
use Rattle.std.proofs.lemmas.List.FromFn.{
  length-enumerate_from,
  get_or-enumerate_from,
  length-range_with_len,
  get_or-range_with_len,
}
use Rattle.packed.specs.LawsForm.{not_left, not_right}
use Rattle.engine.specs.Counting.{some_below}

-- a test that holds of no number below the bound fails for each of them
pub none_below : (bound : ℕ) (test : ℕ → Bool) → some_below bound test ≡ false → (k : ℕ) → k < bound → test k ≡ false
unfolding some_below
none_below zero test none k below = absurd (omega (arith, below))
none_below (suc bound) test none k below =
    go (none_below bound test (not_left (some_below bound test) (test bound) none) k) (dec_lt k bound)
  where
    go : (k < bound → test k ≡ false) → Dec (k < bound) → test k ≡ false
    go earlier (yes before) = earlier before
    go earlier (no last) =
        let same : bound ≡ k = omega (arith, below) in
        subst (λ j. test j ≡ false) same (not_right (some_below bound test) (test bound) none)

-- tests that agree below the bound
pub same_below : (bound : ℕ) (one two : ℕ → Bool) → ((k : ℕ) → k < bound → one k ≡ two k)
    → some_below bound one ≡ some_below bound two
unfolding some_below
same_below zero one two same = refl
same_below (suc bound) one two same =
    rw (same_below bound one two (λ k below. same k (omega (arith, below))), same bound (omega arith))

or_none : (test : Bool) → test ≡ (test || false)
or_none true = refl
or_none false = refl

-- a test that fails from a number on
pub none_past : (low high : ℕ) (test : ℕ → Bool) → low ≤ high → ((k : ℕ) → low ≤ k → k < high → test k ≡ false)
    → some_below low test ≡ some_below high test
unfolding some_below
none_past low zero test most none =
    let same : low ≡ 0 = omega (arith, most) in
    ap (λ n. some_below n test) same
none_past low (suc high) test most none =
    go (λ before. none_past low high test before (λ k past below. none k past (omega (arith, below)))) (dec_lt high low)
  where
    go : (low ≤ high → some_below low test ≡ some_below high test) → Dec (high < low)
        → some_below low test ≡ some_below (suc high) test
    go rest (yes last) =
        let same : low ≡ suc high = omega (arith, most, last) in
        ap (λ n. some_below n test) same
    go rest (no before) =
        rw (none high (omega arith) (omega arith)) (rest (omega arith) ∙ or_none (some_below high test))

-- ---- a chain that asks each entry of a list with its number

-- the first entries; past the last one the test fails
pub any_first : {A : Type 0} (test : ℕ → A → Bool) (past : A) (bound : ℕ) (xs : List A)
    → ((k : ℕ) → length xs ≤ k → k < bound → test k past ≡ false)
    → list_any (λ entry. test entry.0 entry.1) (take bound (enumerate_from 0 xs))
    ≡ some_below bound (λ k. test k (get_or xs k past))
unfolding some_below
any_first test past zero xs none = refl
any_first {A} test past (suc bound) xs none =
    go (any_first test past bound xs (λ k more below. none k more (omega (arith, below)))) (dec_lt bound (length xs))
  where
    entries : List (ℕ × A)
    entries = enumerate_from 0 xs

    asks : ℕ × A → Bool
    asks entry = test entry.0 entry.1

    go : list_any asks (take bound entries) ≡ some_below bound (λ k. test k (get_or xs k past))
        → Dec (bound < length xs)
        → list_any asks (take (suc bound) entries)
        ≡ (some_below bound (λ k. test k (get_or xs k past)) || test bound (get_or xs bound past))
    go rest (yes there) =
        let number : 0 + bound ≡ bound = omega arith in
        ap (λ n. list_any asks (take n entries)) (sym (add-one bound))
        ∙ list_any_more asks entries bound (0, past) (rw (length-enumerate_from 0 xs) there)
        ∙ rw (rest, get_or-enumerate_from 0 xs bound (0, past) there, number) refl
    go rest (no last) =
        let all : length xs ≤ bound = omega arith in
        rw (
          take_all (suc bound) entries (rw (length-enumerate_from 0 xs) (omega (arith, all))),
          get_or_past xs bound past all,
          none bound all (omega arith),
          ← rest,
          take_all bound entries (rw (length-enumerate_from 0 xs) all),
        )
        (or_none (list_any asks entries))

-- all of them, of so many
pub any_entry : {A : Type 0} (test : ℕ → A → Bool) (past : A) (bound : ℕ) (xs : List A) → length xs ≡ bound
    → list_any (λ entry. test entry.0 entry.1) (enumerate_from 0 xs)
    ≡ some_below bound (λ k. test k (get_or xs k past))
any_entry test past bound xs many =
    ap (list_any (λ entry. test entry.0 entry.1))
    (sym (take_all bound (enumerate_from 0 xs) (rw (length-enumerate_from 0 xs) (omega (arith, many)))))
    ∙ any_first test past bound xs (λ k more below. absurd (omega (arith, many, more, below)))

-- ---- a chain that asks the numbers themselves
any_ranged : (bound : ℕ) (test : ℕ → Bool) (k : ℕ) → k ≤ bound
    → list_any test (take k (range_with_len 0 bound)) ≡ some_below k test
unfolding some_below
any_ranged bound test zero most = refl
any_ranged bound test (suc k) most =
    let number : 0 + k ≡ k = omega arith in
    ap (λ n. list_any test (take n (range_with_len 0 bound))) (sym (add-one k))
    ∙ list_any_more test (range_with_len 0 bound) k 0 (rw (length-range_with_len 0 bound) (omega (arith, most)))
    ∙ rw (
      any_ranged bound test k (omega (arith, most)),
      get_or-range_with_len 0 bound k 0 (omega (arith, most)),
      number,
    ) refl

pub any_below : (bound : ℕ) (test : ℕ → Bool) → list_any test (range_with_len 0 bound) ≡ some_below bound test
any_below bound test =
    ap (list_any test)
    (sym (take_all bound (range_with_len 0 bound) (rw (length-range_with_len 0 bound) (omega arith))))
    ∙ any_ranged bound test bound (omega arith)
