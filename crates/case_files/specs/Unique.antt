-- The contract determines the function's result: two results that satisfy it are equal.
use Rattle.std.specs.Prelude.{ℕ, ◌≡◌, List}
use Rattle.case_files.specs.Meaning.{meaning_in}
use Rattle.packed.specs.declared.Transaction.{Transaction}
use Rattle.terms.specs.Unique.{same}

pub meaning_unique : (b : List ℕ) (x y : Transaction) → x ≡ meaning_in b → y ≡ meaning_in b → x ≡ y
meaning_unique b x y = same
