-- Making a store. "A fresh store gets its next position from the caller (1 to 2^64 − 1) and batch number 0."
use Rattle.std.specs.Prelude.{ℕ, Bool, true, false, ◌||◌, ltb, eqb, Ok}
use Rattle.terms.specs.Refusals.{refused}
use Rattle.terms.specs.declared.refusal.Refusal.TheVariants.{WrongParameter}
use Rattle.engine.specs.States.{unopened}
use Rattle.engine.specs.declared.Made.{Made}

-- 1: "N, P, W, the starting position .. is wrong"
abbrev pub wrong_parameter : ℕ → ℕ → ℕ → ℕ → Bool
wrong_parameter n p w start =
    (ltb n 1 || ltb 1024 n) || (ltb p 1 || ltb 8 p) || (ltb w 1 || ltb 8 w) || eqb start 0

-- "A refused making .. hands back the all-zero store"
abbrev pub made_if : Bool → ℕ → ℕ → ℕ → ℕ → Made
made_if true n p w start = record { verdict = refused WrongParameter 0; state = unopened 0 0 0 0 }
made_if false n p w start = record { verdict = Ok tt; state = unopened n p w start }

unfoldable pub make_of : ℕ → ℕ → ℕ → ℕ → Made
make_of n p w start = made_if (wrong_parameter n p w start) n p w start
