-- Laws of the six kinds.
use Rattle.std.specs.Prelude.{ℕ, zero, suc, ◌<◌, ◌≡◌, refl, []}
use Rattle.std.proofs.Common.{arith}
use Rattle.packed.specs.Kinds.{by_kind, line, uses_of}
use Rattle.packed.specs.declared.fields.Fields.{Fields}

abbrev Not : ℕ → ℕ → Type 0
Not kind number = kind ≡ number → ⊥

-- a kind that is none of the six, as a match on the six leaves it
abbrev pub Other : ℕ → Type 0
Other kind =
    (((((Unit {0} × Not kind 1) × Not kind 2) × Not kind 3) × Not kind 4) × Not kind 5) × Not kind 6

pub above_six : (kind : ℕ) → 6 < kind → Other kind
above_six kind above =
    let none_of : (number : ℕ) → number < 7 → Not kind number = λ number small same. omega arith in (
      (
        ((((tt, none_of 1 (omega arith)), none_of 2 (omega arith)), none_of 3 (omega arith)), none_of 4 (omega arith)),
        none_of 5 (omega arith),
      ),
      none_of 6 (omega arith),
    )

pub other_kind : {A : Type 0} (none set add take copy move floor : A) (kind : ℕ) → Other kind
    → by_kind none set add take copy move floor kind ≡ none
other_kind none set add take copy move floor zero other = refl
other_kind none set add take copy move floor (suc zero) other = absurd (other.0.0.0.0.0.1 refl)
other_kind none set add take copy move floor (suc (suc zero)) other = absurd (other.0.0.0.0.1 refl)
other_kind none set add take copy move floor (suc (suc (suc zero))) other = absurd (other.0.0.0.1 refl)
other_kind none set add take copy move floor (suc (suc (suc (suc zero)))) other = absurd (other.0.0.1 refl)
other_kind none set add take copy move floor (suc (suc (suc (suc (suc zero))))) other = absurd (other.0.1 refl)
other_kind none set add take copy move floor (suc (suc (suc (suc (suc (suc zero)))))) other = absurd (other.1 refl)
other_kind none set add take copy move floor (suc (suc (suc (suc (suc (suc (suc kind))))))) other = refl

pub uses_other : (x : Fields) → Other x.kind → uses_of x ≡ line [] [] 0
unfolding uses_of
uses_other x other = other_kind _ _ _ _ _ _ _ x.kind other
