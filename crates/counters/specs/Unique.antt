-- The contract determines the function's result: two results that satisfy it are equal.
use Rattle.std.specs.Prelude.{◌≡◌, ℕ, List}
use Rattle.terms.specs.Unique.{same}
use Rattle.packed.specs.declared.Transaction.{Transaction}
use Rattle.counters.specs.Deciding.{decide_of}
use Rattle.counters.specs.declared.Decision.{Decision}

pub decide_unique : (meaning : Transaction) (values : List ℕ) (a b : Decision)
    → a ≡ decide_of meaning values → b ≡ decide_of meaning values → a ≡ b
decide_unique meaning values a b = same
