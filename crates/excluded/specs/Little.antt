-- Wrong answers of the functions of `little`, beside the one that the gate tries as an edit (crates/little/must-fail).
-- Edits that give these stand in tools/edits/little.
use Rattle.std.specs.Prelude.{ℕ, List, [], ◌∷◌, refl}
use Rattle.little.specs.Little.{number_in, bytes_of}
use Rattle.excluded.specs.Rows.{Row, row, number, numbers, AllExclude, all_exclude}

-- eight bytes
abbrev eight : ℕ → ℕ → ℕ → ℕ → ℕ → ℕ → ℕ → ℕ → List ℕ
eight a b c d e f g h = a ∷ b ∷ c ∷ d ∷ e ∷ f ∷ g ∷ h ∷ []

-- the number whose bytes are 1 to 8, from the low one on
abbrev one_to_eight : ℕ
one_to_eight = 578437695752307201

abbrev pub rows : List Row
rows =
    -- word: another base, 255; the low byte left out
    row number (number_in (1 ∷ 2 ∷ [])) 511
    ∷ row number (number_in (1 ∷ 2 ∷ [])) 512
    -- long: another base, 255; the low byte left out
    ∷ row number (number_in (eight 1 2 0 0 0 0 0 0)) 511
    ∷ row number (number_in (eight 1 2 3 4 5 6 7 8)) 578437695752307200
    -- word_bytes: the low byte twice
    ∷ row numbers (bytes_of 2 513) (1 ∷ 1 ∷ [])
    -- long_bytes: a byte twice; the last byte left out
    ∷ row numbers (bytes_of 8 one_to_eight) (eight 1 2 3 3 5 6 7 8)
    ∷ row numbers (bytes_of 8 one_to_eight) (eight 1 2 3 4 5 6 7 0)
    ∷ []

pub little_exclude : AllExclude rows
unfolding number_in bytes_of
little_exclude = all_exclude rows refl
