-- The numbers that stand in the bytes of an entry. Numbers are little-endian.
use Rattle.std.specs.Prelude.{ℕ, ◌+◌, List, [], ◌∷◌, get_or}
use Rattle.little.specs.Little.{number_in}
use Rattle.packed.specs.declared.fields.Fields.{Fields}

-- the byte at a place
abbrev pub byte_at : List ℕ → ℕ → ℕ
byte_at b at = get_or b at 0

-- the 16-bit number that starts there
abbrev pub word_at : List ℕ → ℕ → ℕ
word_at b at = number_in (byte_at b at ∷ byte_at b (at + 1) ∷ [])

-- the 64-bit number that starts there
abbrev pub long_at : List ℕ → ℕ → ℕ
long_at b at =
    number_in (
    byte_at b at
    ∷ byte_at b (at + 1)
    ∷ byte_at b (at + 2)
    ∷ byte_at b (at + 3)
    ∷ byte_at b (at + 4)
    ∷ byte_at b (at + 5)
    ∷ byte_at b (at + 6)
    ∷ byte_at b (at + 7)
    ∷ []
    )

-- "four 16-bit .. record numbers"
abbrev pub set_at : List ℕ → ℕ → List ℕ
set_at b at = word_at b at ∷ word_at b (at + 2) ∷ word_at b (at + 4) ∷ word_at b (at + 6) ∷ []

-- "kind (1), zero (1), record r (2), record s (2), zero (2), constant c (8)"
abbrev pub fields_at : List ℕ → ℕ → Fields
fields_at b at =
    record { kind = byte_at b at; r = word_at b (at + 2); s = word_at b (at + 4); c = long_at b (at + 8) }
