-- The arrays that a caller lends besides the records, and the newest-version table that a run has itself.
use Rattle.std.specs.Prelude.{ℕ, Bool, ◌||◌, cond, List, ltb, replicate, take}
use Rattle.terms.specs.Reserved.{no_slot}
use Rattle.engine.specs.Tables.{not_of}

-- 1: "a lent table's length is wrong"; 256 results, 64 outcomes and 4 counts
abbrev pub wrong_lent : ℕ → ℕ → ℕ → Bool
wrong_lent results outcomes counts = not_of results 256 || not_of outcomes 64 || not_of counts 4

-- so many, and at most 1,024
abbrev pub shorter_of : ℕ → ℕ
shorter_of size = cond (ltb size 1024) size 1024

-- "the newest-version table (N numbers, a slot or 65,535 for none)": the first N of 1,024
unfoldable pub slots_of : ℕ → List ℕ
slots_of size = take (shorter_of size) (replicate 1024 no_slot)
