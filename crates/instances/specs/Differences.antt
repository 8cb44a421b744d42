-- What is never equal, and what differs where a part of it does.
use Rattle.std.specs.Prelude.{ℕ, true, false, ◌≡◌, Ok, Err}
use Rattle.std.proofs.Common.{ap, arith}
use Rattle.terms.specs.declared.refusal.Place.{Place}
use Rattle.terms.specs.Refusals.{Verdict}
use Rattle.terms.specs.declared.refusal.Refusal.{Refusal}
use Rattle.terms.specs.declared.refusal.Refused.{Refused as Refusing}
use Rattle.engine.specs.Answers.{answer_position}
use Rattle.engine.specs.declared.Answer.TheVariants.{Accepted, Waits, Refused}

-- `cc` proves 0 ≡ 1 of an equation of two different constructors, and this makes it a contradiction
pub clash : ◌≡◌ {A = ℕ} 0 1 → ⊥
clash h = omega arith

pub true_false : true ≡ false → ⊥
true_false h = clash (cc)

pub false_true : false ≡ true → ⊥
false_true h = clash (cc)

pub accepted_refused : {refusal : Refusal} {at : Place} → Accepted ≡ Refused refusal at → ⊥
accepted_refused h = clash (cc)

pub waits_refused : {refusal : Refusal} {at : Place} {t : ℕ} → Waits (record { 0 = t }) ≡ Refused refusal at → ⊥
waits_refused h = clash (cc)

pub accepted_waits : {t : ℕ} → Accepted ≡ Waits (record { 0 = t }) → ⊥
accepted_waits h = clash (cc)

pub passed_fails : {why : Refusing} → ◌≡◌ {A = Verdict} (Ok tt) (Err why) → ⊥
passed_fails h = clash (cc)

-- the position of a wait
pub waits_same : {t u : ℕ} → Waits (record { 0 = t }) ≡ Waits (record { 0 = u }) → t ≡ u
waits_same h = ap answer_position h

-- two things of which a part differs
pub unlike : {A B : Type 0} {x y : A} (part : A → B) → (part x ≡ part y → ⊥) → x ≡ y → ⊥
unlike part differs same = differs (ap part same)
