-- What the bytes of an entry mean, proper or not. Document 01, "A packed transaction".
use Rattle.std.specs.Prelude.{ℕ, List, [], ◌∷◌}
use Rattle.packed.specs.Fields.{byte_at, set_at, fields_at}
use Rattle.packed.specs.Kinds.{by_kind}
use Rattle.packed.specs.declared.Action.{Action}
use Rattle.packed.specs.declared.Action.TheVariants.{Nothing, Set, Add, Take, Copy, Move, Floor}
use Rattle.packed.specs.declared.ActionRow.{ActionRow}
use Rattle.packed.specs.declared.Transaction.{Transaction}
use Rattle.packed.specs.declared.fields.Fields.{Fields}

-- the action of these fields; a kind outside 1 to 6 is none
unfoldable pub action_of : Fields → Action
action_of x =
    by_kind
    Nothing
    (Set x.r x.c)
    (Add x.r x.c)
    (Take x.r x.c)
    (Copy x.r x.s)
    (Move x.r x.s)
    (Floor x.r x.c)
    x.kind

abbrev pub row : Action → ActionRow
row action = record { action = action }

-- the action in the 16 bytes from `at` on
abbrev pub row_at : List ℕ → ℕ → ActionRow
row_at b at = row (action_of (fields_at b at))

-- "Byte 0: read count; 1: write count; 2: action count .. Bytes 4–11: four 16-bit read record numbers. 12–19: four
-- write record numbers .. 24–87: four actions of 16 bytes"
unfoldable pub decode : List ℕ → Transaction
decode b =
    record {
      readcount = byte_at b 0;
      writecount = byte_at b 1;
      actioncount = byte_at b 2;
      reads = set_at b 4;
      writes = set_at b 12;
      actions = row_at b 24 ∷ row_at b 40 ∷ row_at b 56 ∷ row_at b 72 ∷ [];
    }

-- the all-zero meaning
unfoldable pub nothing : Transaction
nothing =
    record {
      readcount = 0;
      writecount = 0;
      actioncount = 0;
      reads = 0 ∷ 0 ∷ 0 ∷ 0 ∷ [];
      writes = 0 ∷ 0 ∷ 0 ∷ 0 ∷ [];
      actions = row Nothing ∷ row Nothing ∷ row Nothing ∷ row Nothing ∷ [];
    }
