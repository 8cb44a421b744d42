-- The checks of one entry, in the paper's order: 1, 2, 4 to 8. Each is looked for in the whole entry before the next.
use Rattle.std.specs.Prelude.{ℕ, Bool, ◌||◌, List, ltb, Ok}
use Rattle.terms.specs.Refusals.{refuse_if, Verdict}
use Rattle.terms.specs.declared.refusal.Refusal.TheVariants.{
  WrongParameter,
  WrongLength,
  Malformed,
  NoSuchRecord,
  NotAscending,
  UndeclaredRead,
  UndeclaredWrite,
}
use Rattle.packed.specs.Form.{malformed}
use Rattle.packed.specs.Records.{no_such_record, not_ascending, undeclared_read, undeclared_write}

-- checks 4 to 8 of the entry of a transaction
unfoldable pub entry_verdict : ℕ → ℕ → List ℕ → Verdict
entry_verdict n transaction b =
    -- 4
    refuse_if (malformed b) Malformed transaction
    -- 5
    (refuse_if (no_such_record n b) NoSuchRecord transaction
    -- 6
    (refuse_if (not_ascending b) NotAscending transaction
    -- 7
    (refuse_if (undeclared_read b) UndeclaredRead transaction
    -- 8
    (refuse_if (undeclared_write b) UndeclaredWrite transaction (Ok tt)))))

-- "N from 1 to 1,024": it is not
abbrev pub wrong_record_count : ℕ → Bool
wrong_record_count n = ltb n 1 || ltb 1024 n

-- the same after checks 1 and 2, of N and of a length
unfoldable pub verdict_of : ℕ → ℕ → Bool → List ℕ → Verdict
verdict_of n transaction wrong_length b =
    -- 1
    refuse_if (wrong_record_count n) WrongParameter transaction
    -- 2
    (refuse_if wrong_length WrongLength transaction
    -- 4 to 8
    (entry_verdict n transaction b))
