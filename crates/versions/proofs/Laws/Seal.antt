-- The newest slots as the code looks at them: each in turn, to the end; and past the end there is none to take.
use Rattle.std.proofs.Common.{◌≡◌, refl, ap, ◌∙◌, ℕ, zero, suc, ◌+◌, ◌≤◌, List, Bool, true, false, length, take, arith}
use Rattle.std.proofs.Math.Seq.{take-length}
use Rattle.std.proofs.lemmas.List.{get_or_past}
use Rattle.std.proofs.lemmas.List.Folds.{list_all_more}
use Rattle.std.specs.List.{list_all}
use Rattle.terms.specs.Reserved.{no_slot}
use Rattle.versions.specs.Seal.{slot_of, slot_sound, sound_below, take_of, collect_below}
use Rattle.versions.specs.Table.{entry_of}
use Rattle.versions.specs.declared.Version.{Version}

module _ (versions : List Version) (newest : List ℕ) (limit : ℕ) where
  abbrev sound_at : ℕ → Bool
  sound_at slot = slot_sound slot (entry_of versions slot) limit

  sound_to : (count : ℕ) → count ≤ length newest
      → list_all sound_at (take count newest) ≡ sound_below versions newest limit count
  sound_to zero within = refl
  sound_to (suc count) within =
      let next : suc count ≡ count + 1 = omega arith in
      let before = sound_to count (omega arith) in
      rw next (list_all_more sound_at newest count no_slot (omega arith) ∙ rw before refl)

  pub all_sound : list_all sound_at newest ≡ sound_below versions newest limit (length newest)
  all_sound = rw take-length at (sound_to (length newest) (omega arith))

-- ---- a record that the newest-version table does not have keeps its contents
none_taken : (records : List ℕ) (number slot : ℕ) (version : Version) (on : Bool) → slot ≡ no_slot
    → take_of records number slot version on ≡ records
none_taken records number slot version on none = rw none (go on)
  where
    go : (t : Bool) → take_of records number no_slot version t ≡ records
    go true = refl
    go false = refl

module _ (versions : List Version) (newest records : List ℕ) (on : Bool) where
  past_end : (count : ℕ) → length newest ≤ count
      → collect_below versions newest records on (suc count) ≡ collect_below versions newest records on count
  past_end count past =
      none_taken (collect_below versions newest records on count) count (slot_of newest count)
      (entry_of versions (slot_of newest count)) on (get_or_past newest count no_slot past)

  -- so many records are enough as have a newest slot
  pub collect_enough : (more count : ℕ) → length newest ≤ count
      → collect_below versions newest records on (count + more) ≡ collect_below versions newest records on count
  collect_enough zero count past =
      let none : count + 0 ≡ count = omega arith in
      ap (collect_below versions newest records on) none
  collect_enough (suc more) count past =
      let next : count + suc more ≡ suc (count + more) = omega arith in
      ap (collect_below versions newest records on) next
      ∙ (past_end (count + more) (omega (arith, past)) ∙ collect_enough more count past)
