-- The version table, "one lent run of version entries".
use Rattle.std.specs.Prelude.{ℕ, zero, suc, cond, List, [], ◌∷◌, ltb, get_or, set}
use Rattle.versions.specs.Entry.{empty_entry}
use Rattle.versions.specs.declared.Version.{Version}

-- the entry at a slot; past the end of the table, the empty one
abbrev pub entry_of : List Version → ℕ → Version
entry_of versions slot = get_or versions slot empty_entry

-- the table with another entry at a slot; past its end nothing changes
abbrev pub put_of : List Version → ℕ → Version → List Version
put_of versions slot version = set versions slot version

-- the table with so many of its first entries empty
abbrev pub clear_of : List Version → ℕ → List Version
clear_of versions zero = versions
clear_of [] (suc count) = []
clear_of (version ∷ versions) (suc count) = empty_entry ∷ clear_of versions count

-- the lesser of two counts
abbrev pub lesser_of : ℕ → ℕ → ℕ
lesser_of a b = cond (ltb a b) a b
