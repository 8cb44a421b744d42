-- Wrong answers of the functions of `versions`, at small tables. Beside each stands the edit that gives it, where one
-- keeps the code's shape; tools/try-edits tries them again.
use Rattle.std.specs.Prelude.{ℕ, Bool, true, false, List, [], ◌∷◌, ◌++◌, set, refl}
use Rattle.terms.specs.Reserved.{no_slot, no_end}
use Rattle.versions.specs.Chain.{walk_of}
use Rattle.versions.specs.Entry.{empty_entry, linked_of, ended_of, filled_of}
use Rattle.versions.specs.Seal.{newest_sound_of, collect_of}
use Rattle.versions.specs.Step.{link_of, fill_of}
use Rattle.versions.specs.Table.{entry_of, put_of, clear_of}
use Rattle.versions.specs.declared.Version.{Version}
use Rattle.versions.specs.declared.chain.Walked.{Walked}
use Rattle.versions.specs.declared.chain.Walked.TheVariants.{Stored, Found, Broken}
use Rattle.versions.specs.declared.plan.Fill.{Fill}
use Rattle.versions.specs.declared.plan.Link.{Link}
use Rattle.excluded.specs.Rows.{Row, row, numbers, mark, AllExclude, all_exclude}

-- ---- the parts of an answer
abbrev pub entry_parts : Version → List ℕ
entry_parts v = v.begin ∷ v.end ∷ v.previous ∷ v.contents ∷ mark v.produced

abbrev pub table_parts : List Version → List ℕ
table_parts [] = []
table_parts (v ∷ versions) = entry_parts v ++ table_parts versions

abbrev walk_parts : Walked → List ℕ
walk_parts Stored = 0 ∷ []
walk_parts (Found v) = 1 ∷ entry_parts v
walk_parts Broken = 2 ∷ []

-- ---- what the rows speak of
abbrev entry : ℕ → ℕ → ℕ → ℕ → Bool → Version
entry begin end previous contents produced =
    record { begin = begin; end = end; previous = previous; contents = contents; produced = produced }

-- a produced version of position 4 that ended at 9, the newest one of its record, of position 9, and a placed entry of
-- position 9 that is not filled
abbrev first : Version
first = entry 4 9 no_slot 11 true

abbrev second : Version
second = entry 9 no_end 0 12 true

abbrev placed : Version
placed = entry 9 no_end 0 0 false

-- the version of position 4 before it ended
abbrev unended : Version
unended = entry 4 no_end no_slot 11 true

abbrev link : ℕ → ℕ → ℕ → Link
link slot position previous = record { slot = slot; position = position; previous = previous }

abbrev fill : ℕ → ℕ → Fill
fill slot contents = record { slot = slot; contents = contents }

-- ---- the rows
abbrev pub rows : List Row
rows =
    -- empty: slot 0 for previous (empty_names_a_slot); produced (empty_is_produced)
    row entry_parts empty_entry (entry 0 0 0 0 false)
    ∷ row entry_parts empty_entry (entry 0 0 no_slot 0 true)
    -- linked: contents 0 (placing_takes_the_contents); its own position for end (link_ends_at_once); the mark kept
    -- (link_keeps_the_mark)
    ∷ row entry_parts (linked_of first 12 1) (entry 12 no_end 1 0 false)
    ∷ row entry_parts (linked_of first 12 1) (entry 12 12 1 11 false)
    ∷ row entry_parts (linked_of first 12 1) (entry 12 no_end 1 11 true)
    -- ended: the end kept (end_is_kept); the begin moved too (end_moves_the_begin)
    ∷ row entry_parts (ended_of unended 9) unended
    ∷ row entry_parts (ended_of unended 9) (entry 9 9 no_slot 11 true)
    -- filled: the mark left as it was (fill_leaves_the_mark); the contents left (fill_leaves_the_contents)
    ∷ row entry_parts (filled_of placed 12) (entry 9 no_end 0 12 false)
    ∷ row entry_parts (filled_of placed 12) (entry 9 no_end 0 0 true)
    -- entry_at: the empty entry for every slot; the first one for every slot
    ∷ row entry_parts (entry_of (first ∷ second ∷ []) 1) empty_entry
    ∷ row entry_parts (entry_of (first ∷ second ∷ []) 1) first
    -- put: the first entry left as it was (put_leaves_the_first); always the first entry
    ∷ row numbers (set (1 ∷ 2 ∷ []) 0 7) (1 ∷ 2 ∷ [])
    ∷ row numbers (set (1 ∷ 2 ∷ []) 1 7) (7 ∷ 2 ∷ [])
    -- put_at: nothing stored; always in the first slot
    ∷ row table_parts (put_of (first ∷ empty_entry ∷ []) 1 second) (first ∷ empty_entry ∷ [])
    ∷ row table_parts (put_of (first ∷ empty_entry ∷ []) 1 second) (second ∷ empty_entry ∷ [])
    -- clear: the first entry left (clear_leaves_the_first); the whole table (clear_takes_all)
    ∷ row table_parts (clear_of (first ∷ second ∷ []) 1) (first ∷ second ∷ [])
    ∷ row table_parts (clear_of (first ∷ second ∷ []) 1) (empty_entry ∷ empty_entry ∷ [])
    -- walk: a version that begins at the position of the read (begin_at_most_t); a newest slot at the bound, and a
    -- previous slot that is not below its own (slot_may_stay, both); a slot past the table (limit_is_the_bound)
    ∷ row walk_parts (walk_of (first ∷ second ∷ []) 1 8 9) (Found second)
    ∷ row walk_parts (walk_of (first ∷ second ∷ []) 1 1 10) (Found second)
    ∷ row walk_parts (walk_of (first ∷ entry 9 no_end 1 12 true ∷ []) 1 8 9) (Found (entry 9 no_end 1 12 true))
    ∷ row walk_parts (walk_of (first ∷ second ∷ []) 5 8 10) (Found empty_entry)
    -- link: the preceding entry not ended (link_forgets_the_end); an entry ended by a link past the table
    -- (link_past_the_table)
    ∷ row table_parts (link_of (unended ∷ empty_entry ∷ []) (link 1 9 0)) (unended ∷ placed ∷ [])
    ∷ row table_parts (link_of (unended ∷ []) (link 1 9 0)) (first ∷ [])
    -- fill: the two of filled, which it stores
    ∷ row table_parts (fill_of (first ∷ placed ∷ []) (fill 1 12)) (first ∷ entry 9 no_end 0 12 false ∷ [])
    ∷ row table_parts (fill_of (first ∷ placed ∷ []) (fill 1 12)) (first ∷ entry 9 no_end 0 0 true ∷ [])
    -- newest_sound: a newest version not produced (newest_not_produced); 65,535 for a broken slot
    -- (no_slot_is_broken, in slot_sound)
    ∷ row mark (newest_sound_of (first ∷ placed ∷ []) (1 ∷ []) 8) true
    ∷ row mark (newest_sound_of (first ∷ placed ∷ []) (no_slot ∷ []) 8) false
    -- collect: a record without a version overwritten (collect_without_a_version); the begin for the contents
    -- (collect_takes_the_begin)
    ∷ row numbers (collect_of (first ∷ second ∷ []) (no_slot ∷ 1 ∷ []) (5 ∷ 6 ∷ []) true) (0 ∷ 12 ∷ [])
    ∷ row numbers (collect_of (first ∷ second ∷ []) (no_slot ∷ 1 ∷ []) (5 ∷ 6 ∷ []) true) (5 ∷ 9 ∷ [])
    ∷ []

pub versions_exclude : AllExclude rows
versions_exclude = all_exclude rows refl
