-- What a step writes into the version table.
use Rattle.std.specs.Prelude.{ℕ, ◌&&◌, not, cond, List, ltb, eqb, length}
use Rattle.terms.specs.Reserved.{no_slot}
use Rattle.versions.specs.Entry.{linked_of, ended_of, filled_of}
use Rattle.versions.specs.Table.{entry_of, put_of}
use Rattle.versions.specs.declared.Version.{Version}
use Rattle.versions.specs.declared.plan.Fill.{Fill}
use Rattle.versions.specs.declared.plan.Link.{Link}

-- the slot of the entry that precedes a link: its previous slot. Where that is 65,535, and where the link's own slot
-- lies past the end of the table, there is none, and the slot is the table's length: past its end
abbrev pub preceding_of : Link → ℕ → ℕ
preceding_of link size = cond (ltb link.slot size && not (eqb link.previous no_slot)) link.previous size

-- "a preceding entry's end becomes this position"
abbrev pub end_at : List Version → ℕ → ℕ → List Version
end_at versions slot position = put_of versions slot (ended_of (entry_of versions slot) position)

-- "begin is its position, end 2^64 − 1, previous is the newest slot, not produced"
abbrev pub link_at : List Version → Link → List Version
link_at versions link =
    put_of versions link.slot (linked_of (entry_of versions link.slot) link.position link.previous)

-- a link: the preceding entry ends, and the entry at its slot is linked
abbrev pub link_of : List Version → Link → List Version
link_of versions link = link_at (end_at versions (preceding_of link (length versions)) link.position) link

-- "Filling stores contents and marks produced."
abbrev pub fill_of : List Version → Fill → List Version
fill_of versions fill = put_of versions fill.slot (filled_of (entry_of versions fill.slot) fill.contents)
