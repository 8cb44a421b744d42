-- Laws of refusals 5 to 8 in what an entry means: the places within a count are the first of four.
use Rattle.std.specs.Prelude.{ℕ, zero, suc, Bool, true, false, ◌&&◌, ◌||◌}
use Rattle.std.specs.Prelude.{◌≡◌, refl, List, [], ◌∷◌, ltb, get_or, length, take, Option, Some, None}
use Rattle.std.specs.List.{list_any}
use Rattle.std.proofs.Common.{arith, lt-ltb}
use Rattle.packed.specs.Decode.{action_of}
use Rattle.packed.specs.Encode.{fields_of}
use Rattle.packed.specs.Kinds.{uses_of}
use Rattle.packed.specs.Records.{uses_too_large, reads_unlisted, writes_unlisted}
use Rattle.packed.specs.declared.fields.Fields.{Fields}
use Rattle.terms.specs.declared.refusal.Refusal.{Refusal}
use Rattle.terms.specs.declared.refusal.Refusal.TheVariants.{UndeclaredRead, UndeclaredWrite}

-- ---- the actions
-- what an action reads and writes is not in its zero field
abbrev made : ℕ → ℕ → ℕ → ℕ → Fields
made kind r s c = record { kind = kind; r = r; s = s; c = c }

uses_kept : (kind r s c : ℕ)
    → ((uses_of (fields_of (action_of (made kind r s c)))).reads ≡ (uses_of (made kind r s c)).reads)
    × ((uses_of (fields_of (action_of (made kind r s c)))).writes ≡ (uses_of (made kind r s c)).writes)
unfolding uses_of action_of
uses_kept zero r s c = (refl, refl)
uses_kept (suc zero) r s c = (refl, refl)
uses_kept (suc (suc zero)) r s c = (refl, refl)
uses_kept (suc (suc (suc zero))) r s c = (refl, refl)
uses_kept (suc (suc (suc (suc zero)))) r s c = (refl, refl)
uses_kept (suc (suc (suc (suc (suc zero))))) r s c = (refl, refl)
uses_kept (suc (suc (suc (suc (suc (suc zero)))))) r s c = (refl, refl)
uses_kept (suc (suc (suc (suc (suc (suc (suc kind))))))) r s c = (refl, refl)

-- a test that asks no more of an action
abbrev pub Kept : (Fields → Bool) → Type 0
Kept test = (x : Fields) → test (fields_of (action_of x)) ≡ test x

pub too_large_kept : (n : ℕ) → Kept (uses_too_large n)
too_large_kept n x =
    let kept = uses_kept x.kind x.r x.s x.c in
    rw (kept.0, kept.1)

pub reads_kept : (set : List ℕ) (count : ℕ) → Kept (reads_unlisted set count)
reads_kept set count x = rw (uses_kept x.kind x.r x.s x.c).0

pub writes_kept : (set : List ℕ) (count : ℕ) → Kept (writes_unlisted set count)
writes_kept set count x = rw (uses_kept x.kind x.r x.s x.c).1

from_two : (a b : Bool) → (a || (b || false)) ≡ (a || b)
from_two true b = refl
from_two false true = refl
from_two false false = refl

from_three : (a b c : Bool) → (a || (b || (c || false))) ≡ ((a || b) || c)
from_three true b c = refl
from_three false b c = from_two b c

from_four : (a b c d : Bool) → (a || (b || (c || (d || false)))) ≡ (((a || b) || c) || d)
from_four true b c d = refl
from_four false b c d = from_three b c d

-- which of 7 and 8 comes first
abbrev pub written_by : Bool → Option Refusal
written_by true = Some UndeclaredWrite
written_by false = None

abbrev pub first_undeclared : Bool → Bool → Option Refusal
first_undeclared true written = Some UndeclaredRead
first_undeclared false written = written_by written

-- ---- the records within the count of a set
abbrev pub by_count : (ℕ → Bool) → List ℕ → ℕ → Bool
by_count test set count =
    (ltb 0 count && test (get_or set 0 0))
    || (ltb 1 count && test (get_or set 1 0))
    || (ltb 2 count && test (get_or set 2 0))
    || (ltb 3 count && test (get_or set 3 0))

first_one : (a : Bool) → (a || false) ≡ (((a || false) || false) || false)
first_one true = refl
first_one false = refl

first_two : (a b : Bool) → (a || (b || false)) ≡ (((a || b) || false) || false)
first_two true b = refl
first_two false true = refl
first_two false false = refl

first_three : (a b c : Bool) → (a || (b || (c || false))) ≡ (((a || b) || c) || false)
first_three true b c = refl
first_three false true c = refl
first_three false false true = refl
first_three false false false = refl

-- a test of the first entries
pub any_within : (test : ℕ → Bool) (set : List ℕ) (count : ℕ) → length set ≡ 4
    → list_any test (take count set) ≡ by_count test set count
any_within test [] count four = absurd (omega arith)
any_within test (p ∷ []) count four = absurd (omega arith)
any_within test (p ∷ q ∷ []) count four = absurd (omega arith)
any_within test (p ∷ q ∷ r ∷ []) count four = absurd (omega arith)
any_within test (p ∷ q ∷ r ∷ s ∷ t ∷ set) count four = absurd (omega arith)
any_within test (p ∷ q ∷ r ∷ s ∷ []) zero four = refl
any_within test (p ∷ q ∷ r ∷ s ∷ []) (suc zero) four = first_one (test p)
any_within test (p ∷ q ∷ r ∷ s ∷ []) (suc (suc zero)) four = first_two (test p) (test q)
any_within test (p ∷ q ∷ r ∷ s ∷ []) (suc (suc (suc zero))) four = first_three (test p) (test q) (test r)
any_within test (p ∷ q ∷ r ∷ s ∷ []) (suc (suc (suc (suc zero)))) four =
    from_four (test p) (test q) (test r) (test s)
any_within test (p ∷ q ∷ r ∷ s ∷ []) (suc (suc (suc (suc (suc count))))) four =
    let many = suc (suc (suc (suc (suc count)))) in
    rw (
      lt-ltb 0 many (omega arith),
      lt-ltb 1 many (omega arith),
      lt-ltb 2 many (omega arith),
      lt-ltb 3 many (omega arith),
    )
    (from_four (test p) (test q) (test r) (test s))
