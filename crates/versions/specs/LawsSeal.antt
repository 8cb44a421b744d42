-- Facts about what the seal does with the newest versions, which the proofs of its callers cite.
use Rattle.std.specs.Prelude.{Bool, true, false, cond, ◌&&◌, not, List, ◌≡◌, refl, ℕ, zero, suc, ◌<◌, ◌≤◌}
use Rattle.std.specs.Prelude.{T, eqb, length, get_or, set}
use Rattle.std.proofs.Common.{sym, ap, ◌∙◌, subst, le_refl, length-set, arith}
use Rattle.std.proofs.Math.Decide.{ℕ_discrete}
use Rattle.terms.specs.Reserved.{no_slot}
use Rattle.versions.specs.LawsTable.{set_here, set_other}
use Rattle.versions.specs.Seal.{slot_of, slot_sound, sound_below, newest_sound_of, collect_below, collect_of}
use Rattle.versions.specs.Table.{entry_of, lesser_of}
use Rattle.versions.specs.declared.Version.{Version}

-- a number below the next one is the last, or below it
last_or_below : {P : Type 0} (m n : ℕ) → m < suc n → (m ≡ n → P) → (m < n → P) → P
last_or_below {P} m n less last below = cases (ℕ_discrete m n)
  where
    cases : Dec (m ≡ n) → P
    cases (yes same) = last same
    cases (no differs) = below (omega arith)

-- ---- the newest contents taken
take_length : (t : Bool) (records : List ℕ) (number contents : ℕ)
    → length (cond t (set records number contents) records) ≡ length records
take_length true records number contents = length-set records number contents
take_length false records number contents = refl

pub collect_below_length : (versions : List Version) (newest records : List ℕ) (on : Bool) (count : ℕ)
    → length (collect_below versions newest records on count) ≡ length records
collect_below_length versions newest records on zero = refl
collect_below_length versions newest records on (suc count) =
    take_length
    (on && not (eqb (slot_of newest count) no_slot))
    (collect_below versions newest records on count)
    count
    (entry_of versions (slot_of newest count)).contents
    ∙ collect_below_length versions newest records on count

pub collect_length : (versions : List Version) (newest records : List ℕ) (on : Bool)
    → length (collect_of versions newest records on) ≡ length records
collect_length versions newest records on = collect_below_length versions newest records on (length records)

-- with `on` false nothing changes
pub collect_off : (versions : List Version) (newest records : List ℕ)
    → collect_of versions newest records false ≡ records
collect_off versions newest records = go (length records)
  where
    go : (count : ℕ) → collect_below versions newest records false count ≡ records
    go zero = refl
    go (suc count) = go count

-- what a record has after the seal has taken the newest contents
abbrev pub taken_of : List Version → List ℕ → List ℕ → Bool → ℕ → ℕ
taken_of versions newest records on number =
    cond
    (on && not (eqb (slot_of newest number) no_slot))
    (entry_of versions (slot_of newest number)).contents
    (get_or records number 0)

take_here : (t : Bool) (records : List ℕ) (number contents : ℕ) → number < length records
    → get_or (cond t (set records number contents) records) number 0 ≡ cond t contents (get_or records number 0)
take_here true records number contents l = set_here 0 records number contents l
take_here false records number contents l = refl

take_other : (t : Bool) (records : List ℕ) (number other contents : ℕ) → (other ≡ number → ⊥)
    → get_or (cond t (set records number contents) records) other 0 ≡ get_or records other 0
take_other true records number other contents f = set_other 0 records number other contents f
take_other false records number other contents f = refl

module _ (versions : List Version) (newest records : List ℕ) (on : Bool) where
  -- a record that was not looked at yet is as it was
  collect_kept : (count number : ℕ) → count ≤ number
      → get_or (collect_below versions newest records on count) number 0 ≡ get_or records number 0
  collect_kept zero number l = refl
  collect_kept (suc count) number l =
      take_other
      (on && not (eqb (slot_of newest count) no_slot))
      (collect_below versions newest records on count)
      count
      number
      (entry_of versions (slot_of newest count)).contents
      (λ same. absurd (omega arith))
      ∙ collect_kept count number (omega arith)

  collect_turn : (count : ℕ) → count < length records
      → get_or (collect_below versions newest records on (suc count)) count 0
      ≡ taken_of versions newest records on count
  collect_turn count l =
      take_here
      (on && not (eqb (slot_of newest count) no_slot))
      (collect_below versions newest records on count)
      count
      (entry_of versions (slot_of newest count)).contents
      (rw (collect_below_length versions newest records on count) l)
      ∙ ap
      (λ (k : ℕ).
      cond
      (on && not (eqb (slot_of newest count) no_slot))
      (entry_of versions (slot_of newest count)).contents
      k)
      (collect_kept count count (le_refl count))

  collect_taken : (count number : ℕ) → number < count → number < length records
      → get_or (collect_below versions newest records on count) number 0 ≡ taken_of versions newest records on number
  collect_taken zero number h l = absurd (omega arith)
  collect_taken (suc count) number h l =
      last_or_below number count h
      (λ same. let last : count < length records = omega arith in rw same (collect_turn count last))
      (λ below.
      take_other
      (on && not (eqb (slot_of newest count) no_slot))
      (collect_below versions newest records on count)
      count
      number
      (entry_of versions (slot_of newest count)).contents
      (λ same. absurd (omega arith))
      ∙ collect_taken count number below l)

  -- "Each record with a newest version takes its contents", and each other one keeps its own
  pub collect_at : (number : ℕ) → number < length records
      → get_or (collect_of versions newest records on) number 0 ≡ taken_of versions newest records on number
  collect_at number l = collect_taken (length records) number l l

-- ---- the newest slots
both_left : (a b : Bool) → (a && b) ≡ true → a ≡ true
both_left true b e = refl
both_left false b e = absurd (subst (λ (t : Bool). T t) (sym e) tt)

both_right : (a b : Bool) → (a && b) ≡ true → b ≡ true
both_right true b e = e
both_right false b e = absurd (subst (λ (t : Bool). T t) (sym e) tt)

sound_below_lem : (versions : List Version) (newest : List ℕ) (limit count number : ℕ) → number < count
    → sound_below versions newest limit count ≡ true
    → slot_sound (slot_of newest number) (entry_of versions (slot_of newest number)) limit ≡ true
sound_below_lem versions newest limit zero number h e = absurd (omega arith)
sound_below_lem versions newest limit (suc count) number h e =
    last_or_below number count h
    (λ same. rw same (both_right (sound_below versions newest limit count) _ e))
    (λ below.
    sound_below_lem versions newest limit count number below (both_left (sound_below versions newest limit count) _ e))

-- where the newest slots are sound, each of them is 65,535, or a followed slot whose version is produced
pub sound_at : (versions : List Version) (newest : List ℕ) (bound number : ℕ) → number < length newest
    → newest_sound_of versions newest bound ≡ true
    → slot_sound (slot_of newest number) (entry_of versions (slot_of newest number)) (lesser_of bound (length versions))
    ≡ true
sound_at versions newest bound number l e =
    sound_below_lem versions newest (lesser_of bound (length versions)) (length newest) number l e
