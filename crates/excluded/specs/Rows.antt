-- What the tables of this crate share: a row, what it says, and that every row of a table holds. A table is a list of
-- rows, and its theorem is `all_exclude` with `refl`: the parts of every row are computed and compared, and where
-- `refl`
-- is refused, the message has the numbers of the rows that exclude nothing.
--
--     abbrev pub rows : List Row
--     rows = row number (number_of NotAscending) 7 ∷ row mark (eqb 65534 no_slot) true ∷ []
--
--     pub terms_exclude : AllExclude rows
--     terms_exclude = all_exclude rows refl
use Rattle.std.specs.Prelude.{ℕ, suc, Bool, true, false, ◌||◌, not, cond, List, [], ◌∷◌, ◌≢◌, ◌≡◌, refl, eqb}
use Rattle.std.proofs.Common.{ap, arith, eq-eqb}

-- ---- a row: what a definition gives at a named input, the answer that a wrong program gives there, and a part of such
-- answers, told in numbers, by which the two differ
pub record Row : Type 1 where
  pub Result : Type 0
  pub part : Result → List ℕ
  pub given : Result
  pub wrong : Result

abbrev pub row : {A : Type 0} → (A → List ℕ) → A → A → Row
row {A} part given wrong = record { Result = A; part = part; given = given; wrong = wrong }

-- the definition does not give the wrong answer
abbrev pub Excludes : Row → Type 0
Excludes r = r.given ≢ r.wrong

abbrev pub AllExclude : List Row → Type 0
AllExclude [] = Unit {0}
AllExclude (r ∷ rows) = Excludes r × AllExclude rows

-- ---- the parts of plain answers
abbrev pub number : ℕ → List ℕ
number n = n ∷ []

abbrev pub numbers : List ℕ → List ℕ
numbers ns = ns

abbrev pub mark : Bool → List ℕ
mark b = cond b 1 0 ∷ []

-- ---- two lists of numbers differ
abbrev pub differ : List ℕ → List ℕ → Bool
differ [] [] = false
differ [] (y ∷ ys) = true
differ (x ∷ xs) [] = true
differ (x ∷ xs) (y ∷ ys) = not (eqb x y) || differ xs ys

-- the numbers of the rows, counted from n on, whose parts do not differ
abbrev pub idle : ℕ → List Row → List ℕ
idle n [] = []
idle n (r ∷ rows) =
    cond (differ (r.part r.given) (r.part r.wrong)) (idle (suc n) rows) (n ∷ idle (suc n) rows)

-- `cc` proves 0 ≡ 1 of an equation of two different constructors, and this makes it a contradiction
pub clash : ◌≡◌ {A = ℕ} 0 1 → ⊥
clash h = omega arith

-- none differs from itself
differ_not : (xs : List ℕ) → differ xs xs ≡ false
differ_not [] = refl
differ_not (x ∷ xs) = rw (eq-eqb x x refl) (differ_not xs)

pub excludes : (r : Row) → differ (r.part r.given) (r.part r.wrong) ≡ true → Excludes r
excludes r differs same =
    let itself = ap (λ x. differ (r.part r.given) (r.part x)) same in
    let never = differ_not (r.part r.given) in
    clash (cc)

idle_none : (n : ℕ) (test : Bool) (rest : List ℕ) → cond test rest (n ∷ rest) ≡ [] → (test ≡ true) × (rest ≡ [])
idle_none n true rest h = (refl, h)
idle_none n false rest h = absurd (clash (cc))

all_from : (n : ℕ) (rows : List Row) → idle n rows ≡ [] → AllExclude rows
all_from n [] h = tt
all_from n (r ∷ rows) h =
    let here = idle_none n (differ (r.part r.given) (r.part r.wrong)) (idle (suc n) rows) h in
    (excludes r here.0, all_from (suc n) rows here.1)

-- ---- the theorem of a table
pub all_exclude : (rows : List Row) → idle 1 rows ≡ [] → AllExclude rows
all_exclude rows h = all_from 1 rows h
