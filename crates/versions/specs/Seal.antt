-- What the seal does with the newest versions.
use Rattle.std.specs.Prelude.{ℕ, zero, suc, Bool, true, ◌&&◌, ◌||◌, not, cond, List, ltb, eqb, length, get_or, set}
use Rattle.terms.specs.Reserved.{no_slot}
use Rattle.versions.specs.Table.{entry_of, lesser_of}
use Rattle.versions.specs.declared.Version.{Version}

-- a record's newest slot; none for a record that the newest-version table does not have
abbrev pub slot_of : List ℕ → ℕ → ℕ
slot_of newest number = get_or newest number no_slot

-- a newest slot is 65,535, or below the limit with a version that is produced
abbrev pub slot_sound : ℕ → Version → ℕ → Bool
slot_sound slot version limit = eqb slot no_slot || (ltb slot limit && version.produced)

-- one more newest slot, after others that were sound or not
abbrev pub sound_on : Bool → ℕ → Version → ℕ → Bool
sound_on sound slot version limit = sound && slot_sound slot version limit

-- the newest slots of the first so many records are sound
abbrev pub sound_below : List Version → List ℕ → ℕ → ℕ → Bool
sound_below versions newest limit zero = true
sound_below versions newest limit (suc count) =
    sound_on
    (sound_below versions newest limit count)
    (slot_of newest count)
    (entry_of versions (slot_of newest count))
    limit

-- every newest slot is sound, where slots must lie below the bound (4n) and in the table
abbrev pub newest_sound_of : List Version → List ℕ → ℕ → Bool
newest_sound_of versions newest bound =
    sound_below versions newest (lesser_of bound (length versions)) (length newest)

-- a record with a newest version takes its contents
abbrev pub take_of : List ℕ → ℕ → ℕ → Version → Bool → List ℕ
take_of records number slot version on =
    cond (on && not (eqb slot no_slot)) (set records number version.contents) records

-- the first so many records, each in turn
abbrev pub collect_below : List Version → List ℕ → List ℕ → Bool → ℕ → List ℕ
collect_below versions newest records on zero = records
collect_below versions newest records on (suc count) =
    take_of
    (collect_below versions newest records on count)
    count
    (slot_of newest count)
    (entry_of versions (slot_of newest count))
    on

-- "Each record with a newest version takes its contents." A slot past the end of the version table has the empty entry
abbrev pub collect_of : List Version → List ℕ → List ℕ → Bool → List ℕ
collect_of versions newest records on = collect_below versions newest records on (length records)
