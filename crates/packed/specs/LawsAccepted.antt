-- What an entry that is not malformed has: laws of refusal 4 that the round trips rest on.
use Rattle.std.specs.Prelude.{ℕ, zero, suc, ◌+◌, ◌≤◌, Bool, true, false, ◌&&◌, ◌||◌}
use Rattle.std.specs.Prelude.{not, cond, ◌≡◌, refl, List, [], ◌∷◌, get_or, ltb, eqb}
use Rattle.std.proofs.Common.{arith, eqb-true, ltb-false}
use Rattle.std.proofs.lemmas.Bool.{not-false}
use Rattle.packed.specs.Decode.{action_of}
use Rattle.packed.specs.Encode.{fields_of}
use Rattle.packed.specs.Fields.{byte_at, set_at, fields_at}
use Rattle.packed.specs.Form.{
  count_above,
  kind_outside,
  kinds_outside,
  is_nonzero,
  past_set,
  wholly,
  action_nonzero,
  nonzero,
  malformed,
}
use Rattle.packed.specs.Kinds.{uses_of}
use Rattle.packed.specs.LawsForm.{not_left, not_right}
use Rattle.packed.specs.declared.fields.Fields.{Fields}

-- faults joined from the left, as `||` joins them
unfoldable pub joined : Bool → List Bool → Bool
joined fault [] = fault
joined fault (next ∷ faults) = joined (fault || next) faults

first_none : (fault : Bool) (faults : List Bool) → joined fault faults ≡ false → fault ≡ false
unfolding joined
first_none fault [] none = none
first_none fault (next ∷ faults) none = not_left fault next (first_none (fault || next) faults none)

-- where none is there, the i-th is not
pub none_of : (fault : Bool) (faults : List Bool) (i : ℕ) → joined fault faults ≡ false
    → get_or (fault ∷ faults) i false ≡ false
unfolding joined
none_of fault faults zero none = first_none fault faults none
none_of fault [] (suc i) none = refl
none_of fault (next ∷ faults) (suc zero) none = not_right fault next (first_none (fault || next) faults none)
none_of fault (next ∷ faults) (suc (suc i)) none = none_of (fault || next) faults (suc i) none

-- of two tests both hold
left_true : (a b : Bool) → (a && b) ≡ true → a ≡ true
left_true true b both = refl
left_true false b both = both

right_true : (a b : Bool) → (a && b) ≡ true → b ≡ true
right_true true b both = both
right_true false true both = refl
right_true false false both = both

-- a number that must be zero and is no fault is zero
pub is_zero : (number : ℕ) → is_nonzero number ≡ false → number ≡ 0
is_zero number none = eqb-true number 0 (not-false (eqb number 0) none)

-- the bytes that must be zero, in the order of the entry
abbrev zero_faults : List ℕ → List Bool
zero_faults b =
    past_set (set_at b 4) (byte_at b 0)
    ∷ past_set (set_at b 12) (byte_at b 1)
    ∷ is_nonzero (byte_at b 20)
    ∷ is_nonzero (byte_at b 21)
    ∷ is_nonzero (byte_at b 22)
    ∷ is_nonzero (byte_at b 23)
    ∷ action_nonzero b 24 (ltb 0 (byte_at b 2))
    ∷ action_nonzero b 40 (ltb 1 (byte_at b 2))
    ∷ action_nonzero b 56 (ltb 2 (byte_at b 2))
    ∷ action_nonzero b 72 (ltb 3 (byte_at b 2))
    ∷ []

abbrev kind_faults : List ℕ → List Bool
kind_faults b =
    (ltb 1 (byte_at b 2) && kind_outside (byte_at b 40))
    ∷ (ltb 2 (byte_at b 2) && kind_outside (byte_at b 56))
    ∷ (ltb 3 (byte_at b 2) && kind_outside (byte_at b 72))
    ∷ []

-- an action that is not malformed is written as it was read: its fields are those of its meaning, and its spare bytes
-- are zero
pub record Kept (b : List ℕ) (at : ℕ) : Type 0 where
  pub same : fields_of (action_of (fields_at b at)) ≡ fields_at b at
  pub second : byte_at b (at + 1) ≡ 0
  pub seventh : byte_at b (at + 6) ≡ 0
  pub eighth : byte_at b (at + 7) ≡ 0

-- within the count
known : (kind r s c : ℕ) → 1 ≤ kind → kind ≤ 6
    → (let x : Fields = record { kind = kind; r = r; s = s; c = c } in
    (uses_of x).zero ≡ 0 → fields_of (action_of x) ≡ x)
unfolding uses_of action_of
known zero r s c least most spare = absurd (omega arith)
known (suc zero) r s c least most spare = rw spare
known (suc (suc zero)) r s c least most spare = rw spare
known (suc (suc (suc zero))) r s c least most spare = rw spare
known (suc (suc (suc (suc zero)))) r s c least most spare = rw spare
known (suc (suc (suc (suc (suc zero))))) r s c least most spare = rw spare
known (suc (suc (suc (suc (suc (suc zero)))))) r s c least most spare = rw spare
known (suc (suc (suc (suc (suc (suc (suc kind))))))) r s c least most spare = absurd (omega arith)

-- past the count
blank : (x : Fields) → wholly x ≡ true → fields_of (action_of x) ≡ x
unfolding action_of
blank x zeros =
    let three = left_true (eqb x.kind 0 && eqb x.r 0 && eqb x.s 0) (eqb x.c 0) zeros in
    let two = left_true (eqb x.kind 0 && eqb x.r 0) (eqb x.s 0) three in
    let kind = eqb-true x.kind 0 (left_true (eqb x.kind 0) (eqb x.r 0) two) in
    let r = eqb-true x.r 0 (right_true (eqb x.kind 0) (eqb x.r 0) two) in
    let s = eqb-true x.s 0 (right_true (eqb x.kind 0 && eqb x.r 0) (eqb x.s 0) three) in
    let c = eqb-true x.c 0 (right_true (eqb x.kind 0 && eqb x.r 0 && eqb x.s 0) (eqb x.c 0) zeros) in
    rw (kind, r, s, c)

-- either way
same_fields : (within : Bool) (x : Fields) → (within && kind_outside x.kind) ≡ false
    → cond within (is_nonzero (uses_of x).zero) (not (wholly x)) ≡ false → fields_of (action_of x) ≡ x
same_fields true x inside none =
    known x.kind x.r x.s x.c
    (ltb-false x.kind 1 (not_left (ltb x.kind 1) (ltb 6 x.kind) inside))
    (ltb-false 6 x.kind (not_right (ltb x.kind 1) (ltb 6 x.kind) inside))
    (is_zero (uses_of x).zero none)
same_fields false x inside none = blank x (not-false (wholly x) none)

kept : (b : List ℕ) (at : ℕ) (within : Bool) → (within && kind_outside (byte_at b at)) ≡ false
    → action_nonzero b at within ≡ false → Kept b at
unfolding action_nonzero joined
kept b at within inside none =
    let x : Fields = fields_at b at in
    let second = is_nonzero (byte_at b (at + 1)) in
    let seventh = is_nonzero (byte_at b (at + 6)) in
    let eighth = is_nonzero (byte_at b (at + 7)) in
    let rest = cond within (is_nonzero (uses_of x).zero) (not (wholly x)) in
    let faults = seventh ∷ eighth ∷ rest ∷ [] in
    record {
      same = same_fields within x inside (none_of second faults 3 none);
      second = is_zero (byte_at b (at + 1)) (none_of second faults 0 none);
      seventh = is_zero (byte_at b (at + 6)) (none_of second faults 1 none);
      eighth = is_zero (byte_at b (at + 7)) (none_of second faults 2 none);
    }

-- all that an entry which is not malformed keeps
pub record Formed (b : List ℕ) : Type 0 where
  pub after_counts : byte_at b 3 ≡ 0
  pub gap_first : byte_at b 20 ≡ 0
  pub gap_second : byte_at b 21 ≡ 0
  pub gap_third : byte_at b 22 ≡ 0
  pub gap_fourth : byte_at b 23 ≡ 0
  pub action_first : Kept b 24
  pub action_second : Kept b 40
  pub action_third : Kept b 56
  pub action_fourth : Kept b 72

pub formed : (b : List ℕ) → malformed b ≡ false → Formed b
unfolding malformed nonzero joined
formed b none =
    let kinds : kinds_outside b ≡ false =
    not_right (count_above b) (kinds_outside b) (not_left (count_above b || kinds_outside b) (nonzero b) none) in
    let zeros : nonzero b ≡ false = not_right (count_above b || kinds_outside b) (nonzero b) none in
    let kind = ltb 0 (byte_at b 2) && kind_outside (byte_at b 24) in
    let fault = is_nonzero (byte_at b 3) in
    record {
      after_counts = is_zero (byte_at b 3) (none_of fault (zero_faults b) 0 zeros);
      gap_first = is_zero (byte_at b 20) (none_of fault (zero_faults b) 3 zeros);
      gap_second = is_zero (byte_at b 21) (none_of fault (zero_faults b) 4 zeros);
      gap_third = is_zero (byte_at b 22) (none_of fault (zero_faults b) 5 zeros);
      gap_fourth = is_zero (byte_at b 23) (none_of fault (zero_faults b) 6 zeros);
      action_first = kept b 24 _ (none_of kind (kind_faults b) 0 kinds) (none_of fault (zero_faults b) 7 zeros);
      action_second = kept b 40 _ (none_of kind (kind_faults b) 1 kinds) (none_of fault (zero_faults b) 8 zeros);
      action_third = kept b 56 _ (none_of kind (kind_faults b) 2 kinds) (none_of fault (zero_faults b) 9 zeros);
      action_fourth = kept b 72 _ (none_of kind (kind_faults b) 3 kinds) (none_of fault (zero_faults b) 10 zeros);
    }
