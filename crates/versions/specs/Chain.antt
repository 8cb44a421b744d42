-- "A read or carry at position t walks from the newest slot back to the first version with begin < t; past the last one
-- lies the stored record."
use Rattle.std.specs.Prelude.{ℕ, zero, suc, Bool, true, false, List, ltb, leb, eqb, length}
use Rattle.terms.specs.Reserved.{no_slot}
use Rattle.versions.specs.Table.{entry_of, lesser_of}
use Rattle.versions.specs.declared.Version.{Version}
use Rattle.versions.specs.declared.chain.Walked.{Walked}
use Rattle.versions.specs.declared.chain.Walked.TheVariants.{Stored, Found, Broken}

-- what a walk comes to at a slot: it is none; it does not lie below the limit; its version has begin < t; and else the
-- walk goes on
abbrev pub at_slot : Bool → Bool → Bool → Version → Walked → Walked
at_slot true above before version onward = Stored
at_slot false true before version onward = Broken
at_slot false false true version onward = Found version
at_slot false false false version onward = onward

-- the walk of a read at this position, from a slot that must lie below a limit. The limit of the previous slot is the
-- slot that it stands in, so that the slots fall along the chain, and so many steps are enough
abbrev pub walk_from : List Version → ℕ → ℕ → ℕ → ℕ → Walked
walk_from versions at zero limit slot = Broken
walk_from versions at (suc steps) limit slot =
    at_slot
    (eqb slot no_slot)
    (leb limit slot)
    (ltb (entry_of versions slot).begin at)
    (entry_of versions slot)
    (walk_from versions at steps slot (entry_of versions slot).previous)

-- the walk from the newest slot, which must lie below the bound (4n) and in the table
abbrev pub walk_of : List Version → ℕ → ℕ → ℕ → Walked
walk_of versions newest bound at =
    walk_from versions at (suc (lesser_of bound (length versions))) (lesser_of bound (length versions)) newest
