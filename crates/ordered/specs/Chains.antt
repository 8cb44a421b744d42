-- Chains of checks: what passing one tells; and tests over the numbers below a bound.
use Rattle.std.specs.Prelude.{ℕ, zero, suc, ◌≤◌, ◌<◌, Bool, true, false, ◌&&◌, ◌||◌, ◌≡◌, refl, Ok, Err}
use Rattle.std.proofs.Common.{subst, arith}
use Rattle.std.proofs.Math.Decide.{dec_lt}
use Rattle.terms.specs.Refusals.{refuse_if, Verdict}
use Rattle.terms.specs.declared.refusal.Refusal.{Refusal}
use Rattle.engine.specs.Counting.{some_below}
use Rattle.order.specs.TableLaws.{clash}

-- a check that is passed: its fault is not there, and the rest is passed
pub record Passes (fault : Bool) (rest : Verdict) : Type 0 where
  pub no_fault : fault ≡ false
  pub onward : rest ≡ Ok tt

pub passes : (fault : Bool) (refusal : Refusal) (transaction : ℕ) (rest : Verdict)
    → refuse_if fault refusal transaction rest ≡ Ok tt → Passes fault rest
passes true refusal transaction rest accepted = absurd (clash (cc))
passes false refusal transaction rest accepted = record { no_fault = refl; onward = accepted }

-- a verdict that refuses
abbrev pub IsRefused : Verdict → Type 0
IsRefused (Ok _) = ⊥
IsRefused (Err why) = Unit {0}

-- where a later check refuses, the chain does, by it or by an earlier one
pub refused_later : (fault : Bool) (refusal : Refusal) (transaction : ℕ) (rest : Verdict) → IsRefused rest
    → IsRefused (refuse_if fault refusal transaction rest)
refused_later true refusal transaction rest refused = tt
refused_later false refusal transaction rest refused = refused

-- tests joined
pub neither : (a b : Bool) → a ≡ false → b ≡ false → (a || b) ≡ false
neither a b no_a no_b = rw (no_a, no_b)

pub right_fails : (a b : Bool) → b ≡ false → (a && b) ≡ false
right_fails true b no_b = no_b
right_fails false b no_b = refl

either_left : (a b : Bool) → a ≡ true → (a || b) ≡ true
either_left a b is_a = rw is_a

either_right : (a b : Bool) → b ≡ true → (a || b) ≡ true
either_right true b is_b = refl
either_right false b is_b = is_b

-- a test that fails for each number below the bound, and one that holds of some
pub none_holds : (bound : ℕ) (test : ℕ → Bool) → ((k : ℕ) → k < bound → test k ≡ false)
    → some_below bound test ≡ false
unfolding some_below
none_holds zero test fails = refl
none_holds (suc bound) test fails =
    neither (some_below bound test) (test bound) (none_holds bound test (λ k below. fails k (omega (arith, below))))
    (fails bound (omega arith))

pub some_holds : (bound : ℕ) (test : ℕ → Bool) (k : ℕ) → k < bound → test k ≡ true → some_below bound test ≡ true
unfolding some_below
some_holds zero test k below holds = absurd (omega (arith, below))
some_holds (suc bound) test k below holds = go (dec_lt k bound) (some_holds bound test k)
  where
    go : Dec (k < bound) → (k < bound → test k ≡ true → some_below bound test ≡ true)
        → (some_below bound test || test bound) ≡ true
    go (yes before) earlier = either_left (some_below bound test) (test bound) (earlier before holds)
    go (no last) earlier =
        let same : k ≡ bound = omega (arith, below) in
        either_right (some_below bound test) (test bound) (subst (λ j. test j ≡ true) same holds)

-- at most, and not the same: below
pub below_of : (a b : ℕ) → a ≤ b → (a ≡ b → ⊥) → a < b
below_of a b most apart = go (dec_lt a b)
  where
    go : Dec (a < b) → a < b
    go (yes below) = below
    go (no above) = absurd (apart (omega (arith, most)))
