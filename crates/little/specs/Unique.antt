-- Each contract determines its function's result: two results that satisfy it are equal.
use Rattle.std.specs.Prelude.{ℕ, List, ◌≡◌}
use Rattle.std.proofs.Common.{sym, ◌∙◌}
use Rattle.little.specs.Little.{number_in, bytes_of}

-- `word` and `long`
pub number_unique : (bytes : List ℕ) (a b : ℕ) → a ≡ number_in bytes → b ≡ number_in bytes → a ≡ b
number_unique bytes a b first second = first ∙ sym second

-- `word_bytes` and `long_bytes`
pub bytes_unique : (width value : ℕ) (a b : List ℕ) → a ≡ bytes_of width value → b ≡ bytes_of width value → a ≡ b
bytes_unique width value a b first second = first ∙ sym second
