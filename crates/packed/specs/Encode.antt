-- The bytes of a meaning, proper or not. Document 01, "A packed transaction".
use Rattle.std.specs.Prelude.{ℕ, List, ◌∷◌, ◌++◌, get_or}
use Rattle.little.specs.Little.{bytes_of}
use Rattle.packed.specs.Decode.{row}
use Rattle.packed.specs.declared.Action.{Action}
use Rattle.packed.specs.declared.Action.TheVariants.{Nothing, Set, Add, Take, Copy, Move, Floor}
use Rattle.packed.specs.declared.Transaction.{Transaction}
use Rattle.packed.specs.declared.fields.Fields.{Fields}

abbrev pub fields : ℕ → ℕ → ℕ → ℕ → Fields
fields kind r s c = record { kind = kind; r = r; s = s; c = c }

-- the fields of an action: its kind, and 0 in a field that it does not have
abbrev pub fields_of : Action → Fields
fields_of Nothing = fields 0 0 0 0
fields_of (Set r c) = fields 1 r 0 c
fields_of (Add r c) = fields 2 r 0 c
fields_of (Take r c) = fields 3 r 0 c
fields_of (Copy r s) = fields 4 r s 0
fields_of (Move r s) = fields 5 r s 0
fields_of (Floor r c) = fields 6 r 0 c

-- "kind (1), zero (1), record r (2), record s (2), zero (2), constant c (8)"
unfoldable pub action_bytes : Fields → List ℕ
action_bytes x = x.kind ∷ 0 ∷ bytes_of 2 x.r ++ bytes_of 2 x.s ++ 0 ∷ 0 ∷ bytes_of 8 x.c

-- "four 16-bit .. record numbers"
unfoldable pub set_bytes : List ℕ → List ℕ
set_bytes set =
    bytes_of 2 (get_or set 0 0)
    ++ bytes_of 2 (get_or set 1 0)
    ++ bytes_of 2 (get_or set 2 0)
    ++ bytes_of 2 (get_or set 3 0)

-- the action in one of the four places
abbrev pub action_in : Transaction → ℕ → Action
action_in t k = (get_or t.actions k (row Nothing)).action

-- "Byte 0: read count; 1: write count; 2: action count, each 0 to 4; 3: zero. Bytes 4–11: four 16-bit read record
-- numbers. 12–19: four write record numbers. 20–23: zero. 24–87: four actions of 16 bytes"
unfoldable pub encode : Transaction → List ℕ
encode t =
    t.readcount
    ∷ t.writecount
    ∷ t.actioncount
    ∷ 0
    ∷ set_bytes t.reads
    ++ set_bytes t.writes
    ++ 0 ∷ 0 ∷ 0 ∷ 0
    ∷ action_bytes (fields_of (action_in t 0))
    ++ action_bytes (fields_of (action_in t 1))
    ++ action_bytes (fields_of (action_in t 2))
    ++ action_bytes (fields_of (action_in t 3))
