-- Wrong answers of the functions of `terms`, beside those that the gate tries as edits (crates/terms/must-fail). Edits
-- that give these stand in tools/edits/terms.
use Rattle.std.specs.Prelude.{ℕ, true, false, List, [], ◌∷◌, refl, eqb, Ok, Err}
use Rattle.terms.specs.Refusals.{number_of, place_of, refused, refuse_if, verdict_number, verdict_place, Verdict}
use Rattle.terms.specs.Reserved.{no_slot, no_end}
use Rattle.terms.specs.declared.refusal.Place.{Place}
use Rattle.terms.specs.declared.refusal.Refusal.{Refusal}
use Rattle.terms.specs.declared.refusal.Refusal.TheVariants.{WrongLength, Malformed, NotAscending}
use Rattle.excluded.specs.Rows.{Row, row, number, mark, AllExclude, all_exclude}

-- ---- the parts of an answer
abbrev place_parts : Place → List ℕ
place_parts place = place.transaction ∷ []

abbrev pub verdict_parts : Verdict → List ℕ
verdict_parts verdict = verdict_number verdict ∷ verdict_place verdict ∷ []

-- ---- what the rows speak of: a refusal by 6 of the transaction at index 3
abbrev pub at : ℕ → Place
at index = record { transaction = index }

abbrev pub refusing : Refusal → Place → Verdict
refusing refusal place = Err (record { refusal = refusal; place = place })

abbrev six_at_three : Verdict
six_at_three = refusing NotAscending (at 3)

-- ---- the rows
abbrev pub rows : List Row
rows =
    -- Refusal::number: 1 for a wrong length
    row number (number_of WrongLength) 1
    -- Place::of: 0 for every refusal
    ∷ row place_parts (place_of NotAscending 3) (at 0)
    -- Refusal::at: another refusal; the place of transaction 0
    ∷ row verdict_parts (refused NotAscending 3) (refusing Malformed (at 3))
    ∷ row verdict_parts (refused NotAscending 3) (refusing NotAscending (at 0))
    -- refuse_if: accepted where the fault is there; refused where it is not
    ∷ row verdict_parts (refuse_if true NotAscending 3 (Ok tt)) (Ok tt)
    ∷ row verdict_parts (refuse_if false NotAscending 3 (Ok tt)) six_at_three
    -- verdict_number: 4 for every refusal; 0 for every refusal
    ∷ row number (verdict_number six_at_three) 4
    ∷ row number (verdict_number six_at_three) 0
    -- verdict_place: 0 for every refusal; 1 for every refusal
    ∷ row number (verdict_place six_at_three) 0
    ∷ row number (verdict_place six_at_three) 1
    -- is_no_slot: 65,534 for none; the opposite
    ∷ row mark (eqb 65534 no_slot) true
    ∷ row mark (eqb 65535 no_slot) false
    -- is_no_end: the opposite
    ∷ row mark (eqb 18446744073709551615 no_end) false
    ∷ []

pub terms_exclude : AllExclude rows
terms_exclude = all_exclude rows refl
