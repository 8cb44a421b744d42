-- The lent tables: their lengths, and how opening and the seal empty them.
use Rattle.std.specs.Prelude.{ℕ, Bool, not, List, eqb, length, get_or, replicate}
use Rattle.terms.specs.Reserved.{no_slot}
use Rattle.versions.specs.Entry.{empty_entry}
use Rattle.versions.specs.declared.Version.{Version}

-- 1: "a lent table's length is wrong"; "The caller lends the records (N numbers), the newest-version table (N numbers
-- ..), the version table (256 versions) and the results table (256 numbers)."
abbrev pub not_of : ℕ → ℕ → Bool
not_of size right = not (eqb size right)

-- the newest slot of a record
abbrev pub newest_of : List ℕ → ℕ → ℕ
newest_of newest r = get_or newest r no_slot

-- "fills the newest-version table with 65,535"
abbrev pub none_newest : List ℕ → List ℕ
none_newest newest = replicate (length newest) no_slot

-- "the version table with empty entries"
abbrev pub all_empty : List Version → List Version
all_empty versions = replicate (length versions) empty_entry

-- "and the results with 0"
abbrev pub all_zero : List ℕ → List ℕ
all_zero results = replicate (length results) 0
