-- Wrong answers of the functions of `packed`, at small entries, beside those that the gate tries as edits
-- (crates/packed/must-fail). Beside each stands the edit that gives it; tools/try-edits tries them again.
use Rattle.std.specs.Prelude.{ℕ, List, [], ◌∷◌, ◌++◌, refl, set, replicate, Ok}
use Rattle.terms.specs.declared.refusal.Refusal.{Refusal}
use Rattle.terms.specs.declared.refusal.Refusal.TheVariants.{
  WrongLength,
  Malformed,
  NotAscending,
  UndeclaredRead,
  UndeclaredWrite,
}
use Rattle.little.specs.Little.{number_in, bytes_of}
use Rattle.packed.specs.Checks.{entry_verdict, verdict_of}
use Rattle.packed.specs.Decode.{action_of, decode, nothing}
use Rattle.packed.specs.Encode.{fields, fields_of, action_bytes, set_bytes, encode}
use Rattle.packed.specs.Form.{action_nonzero, nonzero, malformed}
use Rattle.packed.specs.Kinds.{uses_of}
use Rattle.packed.specs.Packing.{Packed, packed, pack_of}
use Rattle.packed.specs.Records.{some_of, no_such_record, not_ascending, undeclared_read, undeclared_write}
use Rattle.packed.specs.Unpacking.{unpacked, answered, unpack_of, unpack_at_of}
use Rattle.packed.specs.declared.Action.{Action}
use Rattle.packed.specs.declared.Action.TheVariants.{Set, Add, Copy, Move}
use Rattle.packed.specs.declared.Transaction.{Transaction}
use Rattle.packed.specs.declared.Unpacked.{Unpacked}
use Rattle.packed.specs.declared.fields.Fields.{Fields}
use Rattle.counters.specs.Listing.{transaction}
use Rattle.excluded.specs.Rows.{Row, row, AllExclude, all_exclude}
use Rattle.excluded.specs.Terms.{verdict_parts, at, refusing}

-- ---- the parts of an answer
abbrev pub unpacked_parts : Unpacked → List ℕ
unpacked_parts u = verdict_parts u.verdict ++ encode u.meaning

abbrev pub packed_parts : Packed → List ℕ
packed_parts p = verdict_parts p.verdict ++ p.buffer

abbrev fields_parts : Fields → List ℕ
fields_parts x = x.kind ∷ x.r ∷ x.s ∷ x.c ∷ []

abbrev action_parts : Action → List ℕ
action_parts action = fields_parts (fields_of action)

-- ---- what the rows speak of, in a store of 4 records
-- a transaction of which so many actions count
abbrev pub counting : ℕ → Transaction → Transaction
counting count t =
    record {
      readcount = t.readcount;
      writecount = t.writecount;
      actioncount = count;
      reads = t.reads;
      writes = t.writes;
      actions = t.actions;
    }

-- the bytes are taken for what they mean
abbrev accepts : List ℕ → Unpacked
accepts b = unpacked (Ok tt) (decode b)

-- they are refused, with this place
abbrev refuses : Refusal → ℕ → Unpacked
refuses refusal index = unpacked (refusing refusal (at index)) nothing

abbrev zeros : List ℕ
zeros = replicate 88 0

-- reads these records and does nothing with them; writes these
abbrev reading : List ℕ → Transaction
reading records = transaction records [] []

abbrev writing : List ℕ → Transaction
writing records = transaction [] records []

-- record 1 becomes record 0; record 0 becomes 7
abbrev copying : Transaction
copying = transaction (0 ∷ []) (1 ∷ []) (Copy 1 0 ∷ [])

abbrev setting : Transaction
setting = transaction [] (0 ∷ []) (Set 0 7 ∷ [])

-- a count of 5 before four records
abbrev five_read : List ℕ
five_read = set (encode (reading (0 ∷ 1 ∷ 2 ∷ 3 ∷ []))) 0 5

abbrev five_written : List ℕ
five_written = set (encode (writing (0 ∷ 1 ∷ 2 ∷ 3 ∷ []))) 1 5

-- a constant in a copy; a byte among 20 to 23
abbrev copy_with_constant : List ℕ
copy_with_constant = set (encode copying) 32 5

abbrev byte_of_the_gap : List ℕ
byte_of_the_gap = set zeros 20 1

abbrev four_actions : Transaction
four_actions = transaction [] (0 ∷ []) (Set 0 1 ∷ Set 0 2 ∷ Set 0 3 ∷ Set 0 4 ∷ [])

-- ---- the rows
abbrev pub rows : List Row
rows =
    -- unpack: record N accepted (record_of_n); N not looked at (any_number_of_records)
    row unpacked_parts (unpack_of 4 (encode (reading (4 ∷ [])))) (accepts (encode (reading (4 ∷ []))))
    ∷ row unpacked_parts (unpack_of 1025 zeros) (accepts zeros)
    -- a count of 5 accepted (read_count_of_five, write_count_of_five); an action count of 4 refused
    -- (action_count_of_four)
    ∷ row unpacked_parts (unpack_of 4 five_read) (accepts five_read)
    ∷ row unpacked_parts (unpack_of 4 five_written) (accepts five_written)
    ∷ row unpacked_parts (unpack_of 4 (encode four_actions)) (refuses Malformed 0)
    -- a zero field not looked at (zero_field_of_copy); byte 20 of 20 to 23 not looked at (gap_not_looked_at)
    ∷ row unpacked_parts (unpack_of 4 copy_with_constant) (accepts copy_with_constant)
    ∷ row unpacked_parts (unpack_of 4 byte_of_the_gap) (accepts byte_of_the_gap)
    -- equal neighbours ascending (ascends_not_strictly)
    ∷ row unpacked_parts (unpack_of 4 (encode (reading (0 ∷ 1 ∷ 1 ∷ []))))
    (accepts (encode (reading (0 ∷ 1 ∷ 1 ∷ []))))
    -- copy reads its target (copy_reads_its_target); 7 and 8 exchanged (seven_is_eight)
    ∷ row unpacked_parts (unpack_of 4 (encode copying)) (refuses UndeclaredRead 0)
    ∷ row unpacked_parts (unpack_of 4 (encode (transaction [] (0 ∷ []) (Add 0 5 ∷ [])))) (refuses UndeclaredWrite 0)
    -- unpack_at: the place lost, N told for it (place_is_lost); an entry from elsewhere, the first
    -- (entry_from_elsewhere)
    ∷ row unpacked_parts (unpack_at_of 4 (zeros ++ encode (reading (1 ∷ 0 ∷ []))) 1) (refuses NotAscending 4)
    ∷ row unpacked_parts (unpack_at_of 4 (zeros ++ encode setting) 1) (accepts zeros)
    -- no_meaning: one that reads (no_meaning_reads); one with an action (no_meaning_acts)
    ∷ row encode nothing (reading (0 ∷ []))
    ∷ row encode nothing (counting 1 nothing)
    -- Action::from: kind 0 a set (kind_zero_sets)
    ∷ row action_parts (action_of (fields 0 1 2 3)) (Set 1 3)
    -- Fields::from: a move with r and s exchanged (move_exchanged)
    ∷ row fields_parts (fields_of (Move 1 2)) (fields 5 2 1 0)
    -- Unpacked::from: the all-zero meaning for what was read (meaning_lost)
    ∷ row unpacked_parts (answered (Ok copying)) (unpacked (Ok tt) nothing)
    -- pack: reads packed as writes (reads_packed_as_writes); a buffer of 88 bytes refused (buffer_refused); a constant
    -- with its high byte first (constant_exchanged)
    ∷ row packed_parts (pack_of 4 (transaction (1 ∷ []) (2 ∷ []) []) zeros)
    (packed (Ok tt) (encode (transaction (1 ∷ []) (1 ∷ []) [])))
    ∷ row packed_parts (pack_of 4 setting zeros) (packed (refusing WrongLength (at 0)) zeros)
    ∷ row packed_parts (pack_of 4 setting zeros) (packed (Ok tt) (set (set (encode setting) 32 0) 39 7))
    ∷ []

pub packed_exclude : AllExclude rows
unfolding
    unpack_of unpack_at_of pack_of verdict_of entry_verdict malformed nonzero action_nonzero no_such_record
    not_ascending
    undeclared_read undeclared_write some_of uses_of decode encode action_of action_bytes set_bytes nothing number_in
    bytes_of
packed_exclude = all_exclude rows refl
