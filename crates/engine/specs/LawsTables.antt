-- Laws of emptying a table.
use Rattle.std.specs.Prelude.{List, [], ◌∷◌, ◌≡◌, refl, length}
use Rattle.std.proofs.Common.{ap}
use Rattle.versions.specs.Entry.{empty_entry}
use Rattle.versions.specs.Table.{clear_of}
use Rattle.versions.specs.declared.Version.{Version}
use Rattle.engine.specs.Tables.{all_empty}

-- the version table emptied
pub cleared_all : (versions : List Version) → clear_of versions (length versions) ≡ all_empty versions
cleared_all [] = refl
cleared_all (version ∷ versions) = ap (λ rest. empty_entry ∷ rest) (cleared_all versions)
