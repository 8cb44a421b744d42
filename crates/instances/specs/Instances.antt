-- The instances of document 01 that are marked P: one table, with one claim.
use Rattle.std.specs.Prelude.{ℕ, true, List, [], ◌∷◌, ◌≡◌, refl}
use Rattle.terms.specs.Reserved.{no_slot, no_end}
use Rattle.packed.specs.declared.Action.TheVariants.{Add, Take, Move, Floor}
use Rattle.packed.specs.declared.Transaction.{Transaction}
use Rattle.counters.specs.Listing.{transaction, listing}
use Rattle.counters.specs.OneByOne.{values_on, changed_copy, one_by_one}
use Rattle.counters.specs.declared.Outcome.{Outcome}
use Rattle.counters.specs.declared.Outcome.TheVariants.{Committed, Aborted}
use Rattle.versions.specs.Chain.{walk_of}
use Rattle.versions.specs.declared.Version.{Version}
use Rattle.versions.specs.declared.chain.Walked.{Walked}
use Rattle.versions.specs.declared.chain.Walked.TheVariants.{Stored, Found, Broken}

-- ---- what the rows speak of

-- a produced version with a begin, an end, a previous slot and contents
abbrev pub version : ℕ → ℕ → ℕ → ℕ → Version
version first last before value =
    record { begin = first; end = last; previous = before; contents = value; produced = true }

-- the version table: a record with versions begun at 4 and 9, in slots 0 and 1, and one with a version begun at
-- 16,777,216, in slot 2
abbrev pub versions : List Version
versions = version 4 9 no_slot 11 ∷ version 9 no_end 0 12 ∷ version 16777216 no_end no_slot 13 ∷ []

-- what a read finds: the position at which a version began, or the stored record
pub data Finds : Type 0 where
  the_stored_record : Finds
  the_version_of : ℕ → Finds
  a_broken_chain : Finds

abbrev pub found : Walked → Finds
found Stored = the_stored_record
found (Found entry) = the_version_of entry.begin
found Broken = a_broken_chain

-- ---- the rows

pub data Instance : Type 0 where
  -- the newest slot of a record and the position that reads it: what the read finds
  reading : ℕ → ℕ → Finds → Instance
  -- records and the transactions of a log: their outcomes, the values that they read, and the records at the end
  running : List ℕ → List Transaction → List Outcome → List (List ℕ) → List ℕ → Instance

-- what a row says: of the walk, where the three slots of the table may be followed, and of the one-by-one run
abbrev pub Holds : Instance → Type 0
Holds (reading newest position finds) = found (walk_of versions newest 3 position) ≡ finds
Holds (running records log outcomes values_read after) =
    one_by_one log records ≡ record { outcomes = outcomes; values_read = values_read; records = after }

-- a log of one transaction
abbrev pub one : List ℕ → Transaction → Outcome → List ℕ → List ℕ → Instance
one records t outcome values after = running records (t ∷ []) (outcome ∷ []) (values ∷ []) after

unfoldable pub instances : List Instance
instances =
    -- "Versions begun at 4 and 9: reading at 4 finds the stored record, at 5 and at 9 the version of 4, at 10
    -- that of 9."
    reading 1 4 the_stored_record
    ∷ reading 1 5 (the_version_of 4)
    ∷ reading 1 9 (the_version_of 4)
    ∷ reading 1 10 (the_version_of 9)
    -- "Reading at 16,777,217 finds the version begun at 16,777,216."
    ∷ reading 2 16777217 (the_version_of 16777216)
    -- "Take 5 from 5 commits with 0; take 6 from 5 aborts."
    ∷ one (5 ∷ []) (transaction (0 ∷ []) (0 ∷ []) (Take 0 5 ∷ [])) Committed (5 ∷ []) (0 ∷ [])
    ∷ one (5 ∷ []) (transaction (0 ∷ []) (0 ∷ []) (Take 0 6 ∷ [])) Aborted (5 ∷ []) (5 ∷ [])
    -- "Floor 5 on 5 commits."
    ∷ one (5 ∷ []) (transaction (0 ∷ []) [] (Floor 0 5 ∷ [])) Committed (5 ∷ []) (5 ∷ [])
    -- "Records 10, 20; add 5 to record 0, then floor 99 on record 1: aborted, record 0 stays 10."
    ∷ one (10 ∷ 20 ∷ []) (transaction (0 ∷ 1 ∷ []) (0 ∷ []) (Add 0 5 ∷ Floor 1 99 ∷ []))
    Aborted (10 ∷ 20 ∷ []) (10 ∷ 20 ∷ [])
    -- "Move 0 from 1 on 10, 20: 30, 0."
    ∷ one (10 ∷ 20 ∷ []) (transaction (0 ∷ 1 ∷ []) (0 ∷ 1 ∷ []) (Move 0 1 ∷ []))
    Committed (10 ∷ 20 ∷ []) (30 ∷ 0 ∷ [])
    -- "Move 0 from 0 on 10: 0."
    ∷ one (10 ∷ []) (transaction (0 ∷ []) (0 ∷ []) (Move 0 0 ∷ [])) Committed (10 ∷ []) (0 ∷ [])
    -- "The listing. P for its serial outcome."
    ∷ running (10 ∷ 20 ∷ 30 ∷ 40 ∷ []) listing
    (Committed ∷ Committed ∷ Aborted ∷ Committed ∷ [])
    ((10 ∷ []) ∷ (15 ∷ []) ∷ (15 ∷ []) ∷ [] ∷ [])
    (7 ∷ 15 ∷ 30 ∷ 40 ∷ [])
    ∷ []

-- ---- the claim: every row holds

abbrev pub AllHold : List Instance → Type 0
AllHold [] = Unit {0}
AllHold (row ∷ rows) = Holds row × AllHold rows

pub instances_hold : AllHold instances
unfolding instances listing one_by_one values_on changed_copy
instances_hold = (
  refl,
  (refl, (refl, (refl, (refl, (refl, (refl, (refl, (refl, (refl, (refl, (refl, tt))))))))))),
)
