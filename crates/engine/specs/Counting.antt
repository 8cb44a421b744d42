-- A test over the numbers below a bound.
use Rattle.std.specs.Prelude.{ℕ, zero, suc, Bool, false, ◌||◌}

-- it holds of some number below the bound
unfoldable pub some_below : ℕ → (ℕ → Bool) → Bool
some_below zero test = false
some_below (suc k) test = some_below k test || test k
