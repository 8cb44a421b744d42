-- What the checks 4 to 8 leave of a transaction in a store of n records.
use Rattle.std.specs.Prelude.{◌≡◌, ℕ, suc, ◌<◌, ◌≤◌, false, List, [], ◌∷◌, length, slice_index}
use Rattle.packed.specs.Encode.{fields_of, action_in}
use Rattle.packed.specs.Records.{reads_unlisted, writes_unlisted}
use Rattle.packed.specs.declared.Transaction.{Transaction}

pub record Declared (n : ℕ) (t : Transaction) : Type 0 where
  -- four places for reads and four for writes, of which the counts say how many are taken
  pub four_reads : length t.reads ≡ 4
  pub four_writes : length t.writes ≡ 4
  pub few_reads : t.readcount ≤ 4
  pub few_writes : t.writecount ≤ 4
  -- the records are there
  pub reads_exist : (i : ℕ) → i < t.readcount → slice_index t.reads i < n
  pub writes_exist : (j : ℕ) → j < t.writecount → slice_index t.writes j < n
  -- the writes ascend strictly
  pub writes_ascend : (j : ℕ) → suc j < t.writecount → slice_index t.writes j < slice_index t.writes (suc j)
  -- "An action may read only declared reads and write only declared writes"
  pub reads_declared : (k : ℕ) → k < t.actioncount
      → reads_unlisted t.reads t.readcount (fields_of (action_in t k)) ≡ false
  pub writes_declared : (k : ℕ) → k < t.actioncount
      → writes_unlisted t.writes t.writecount (fields_of (action_in t k)) ≡ false

-- each transaction of a log
abbrev pub AllDeclared : ℕ → List Transaction → Type 0
AllDeclared n [] = Unit {0}
AllDeclared n (t ∷ log) = Declared n t × AllDeclared n log
