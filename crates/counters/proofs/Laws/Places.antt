-- The place of a record as the code finds it, and what its being there or not tells.
use Rattle.std.proofs.Common.{◌≡◌, refl, ℕ, ◌<◌, ◌≤◌, Bool, true, false, cond, List, [], ◌∷◌, length, ltb, set, get_or}
use Rattle.std.proofs.Common.{arith, ap, sym, ltb-true}
use Rattle.std.proofs.lemmas.Bool.{ltb-false}
use Rattle.std.proofs.lemmas.List.{set_past, get_or_past}
use Rattle.std.specs.Prelude.{Option, Some, None}
use Rattle.std.specs.List.{find}
use Rattle.std.specs.Option.{option_map_or}
use Rattle.counters.specs.LawsPlaces.{place_found, first_of}
use Rattle.counters.specs.Working.{stands_at, place_in}

first_found : (a b c d : Bool)
    → cond a (Some 0) (cond b (Some 1) (cond c (Some 2) (cond d (Some 3) None))) ≡ place_found (first_of a b c d)
first_found true b c d = refl
first_found false true c d = refl
first_found false false true d = refl
first_found false false false true = refl
first_found false false false false = refl

pub found_place : (set : List ℕ) (count number : ℕ)
    → find (stands_at set count number) (0 ∷ 1 ∷ 2 ∷ 3 ∷ []) ≡ place_found (place_in set count number)
unfolding place_in
found_place set count number =
    first_found
    (stands_at set count number 0)
    (stands_at set count number 1)
    (stands_at set count number 2)
    (stands_at set count number 3)

some_if : (t : Bool) (place number : ℕ) → Some place ≡ cond t (Some number) None
    → (t ≡ true) × (place ≡ number)
some_if true place number same = (refl, cc)
some_if false place number same = absurd cc

-- a place that the code has found is the place, one of the four
pub at_found : (place number : ℕ) → Some place ≡ place_found number → (place ≡ number) × (place < 4)
at_found place number same =
    let both = some_if (ltb number 4) place number same in
    let below : number < 4 = ltb-true number 4 both.0 in
    (both.1, omega arith)

none_if : (t : Bool) (number : ℕ) → ◌≡◌ {A = Option ℕ} None (cond t (Some number) None) → t ≡ false
none_if true number same = absurd cc
none_if false number same = refl

-- and where it has found none the place is none of the four
pub none_found : (number : ℕ) → ◌≡◌ {A = Option ℕ} None (place_found number) → 4 ≤ number
none_found number same = ltb-false number 4 (none_if (ltb number 4) number same)

-- what is stored at none of the four places changes nothing
pub none_stored : {A : Type 0} (list : List A) (number : ℕ) (value : A) → length list ≡ 4
    → ◌≡◌ {A = Option ℕ} None (place_found number) → set list number value ≡ list
none_stored list number value four same =
    let past = none_found number same in
    set_past list number value (omega arith)

-- what stands at the place that the code has found, and 0 where it has found none
pub held_at : {found : Option ℕ} (values : List ℕ) (number : ℕ) → length values ≡ 4 → found ≡ place_found number
    → option_map_or (λ place. get_or values place 0) found 0 ≡ get_or values number 0
held_at {found = Some place} values number four same =
    ap (λ at. get_or values at 0) (at_found place number same).0
held_at {found = None} values number four same =
    let past = none_found number same in
    sym (get_or_past values number 0 (omega arith))
