-- A meaning as it stands in a case file (reference/README.md).
use Rattle.std.specs.Prelude.{ℕ, ◌+◌, List, [], ◌∷◌}
use Rattle.packed.specs.Decode.{row, action_of}
use Rattle.packed.specs.Fields.{byte_at, word_at, long_at, set_at}
use Rattle.packed.specs.declared.ActionRow.{ActionRow}
use Rattle.packed.specs.declared.Transaction.{Transaction}

-- the action in the 13 bytes from `at` on: "kind (1), r (2), s (2), c (8)"
abbrev pub row_in : List ℕ → ℕ → ActionRow
row_in b at =
    row (action_of
    record { kind = byte_at b at; r = word_at b (at + 1); s = word_at b (at + 3); c = long_at b (at + 5) })

-- the counts, the reads, the writes and the four actions, in 71 bytes
unfoldable pub meaning_in : List ℕ → Transaction
meaning_in b =
    record {
      readcount = byte_at b 0;
      writecount = byte_at b 1;
      actioncount = byte_at b 2;
      reads = set_at b 3;
      writes = set_at b 11;
      actions = row_in b 19 ∷ row_in b 32 ∷ row_in b 45 ∷ row_in b 58 ∷ [];
    }
