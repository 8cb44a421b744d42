-- Each contract determines its function's result: two results that satisfy it are equal.
use Rattle.std.specs.Prelude.{ℕ, Bool, ◌≡◌, eqb, Ok}
use Rattle.std.proofs.Common.{sym, ◌∙◌}
use Rattle.terms.specs.Refusals.{number_of, place_of, Verdict, refused_at, refused, refuse_if}
use Rattle.terms.specs.Refusals.{verdict_number, verdict_place}
use Rattle.terms.specs.Reserved.{no_slot, no_end}
use Rattle.terms.specs.declared.refusal.Place.{Place}
use Rattle.terms.specs.declared.refusal.Refusal.{Refusal}
use Rattle.terms.specs.declared.refusal.Refused.{Refused}

-- what equals the same is equal
pub same : {A : Type 0} {x a b : A} → a ≡ x → b ≡ x → a ≡ b
same first second = first ∙ sym second

pub number_unique : (refusal : Refusal) (a b : ℕ) → a ≡ number_of refusal → b ≡ number_of refusal → a ≡ b
number_unique refusal a b = same

pub of_unique : (refusal : Refusal) (transaction : ℕ) (a b : Place)
    → a ≡ place_of refusal transaction → b ≡ place_of refusal transaction → a ≡ b
of_unique refusal transaction a b = same

pub at_unique : (refusal : Refusal) (transaction : ℕ) (a b : Refused)
    → a ≡ refused_at refusal transaction → b ≡ refused_at refusal transaction → a ≡ b
at_unique refusal transaction a b = same

pub refuse_unique : (refusal : Refusal) (transaction : ℕ) (a b : Verdict)
    → a ≡ refused refusal transaction → b ≡ refused refusal transaction → a ≡ b
refuse_unique refusal transaction a b = same

pub refuse_if_unique : (fault : Bool) (refusal : Refusal) (transaction : ℕ) (a b : Verdict)
    → a ≡ refuse_if fault refusal transaction (Ok tt) → b ≡ refuse_if fault refusal transaction (Ok tt) → a ≡ b
refuse_if_unique fault refusal transaction a b = same

pub verdict_number_unique : (verdict : Verdict) (a b : ℕ)
    → a ≡ verdict_number verdict → b ≡ verdict_number verdict → a ≡ b
verdict_number_unique verdict a b = same

pub verdict_place_unique : (verdict : Verdict) (a b : ℕ) → a ≡ verdict_place verdict → b ≡ verdict_place verdict → a ≡ b
verdict_place_unique verdict a b = same

pub is_no_slot_unique : (slot : ℕ) (a b : Bool) → a ≡ eqb slot no_slot → b ≡ eqb slot no_slot → a ≡ b
is_no_slot_unique slot a b = same

pub is_no_end_unique : (end : ℕ) (a b : Bool) → a ≡ eqb end no_end → b ≡ eqb end no_end → a ≡ b
is_no_end_unique end a b = same
