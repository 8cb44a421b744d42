-- The memory that a transaction's actions work on while it is decided: its own copy of the values read. A WorkingCopy
-- has, of each declared read, what it holds now; of each declared write, the new contents and whether an action reached
-- it.
use Rattle.std.specs.Prelude.{ℕ, Bool, true, false, cond, ◌&&◌, List}
use Rattle.std.specs.Prelude.{[], ◌∷◌, set, ◌==◌, nat_lt, slice_index, slice_set}
use Rattle.packed.specs.declared.Transaction.{Transaction}
use Rattle.counters.specs.Actions.{Memory}
use Rattle.counters.specs.declared.working.WorkingCopy.{WorkingCopy}

-- a record stands at a place of a set, within the count
abbrev pub stands_at : List ℕ → ℕ → ℕ → ℕ → Bool
stands_at set count number place = nat_lt place count && slice_index set place == number

-- the place of a record among the first `count` of a set, and 4 where it is none of them
unfoldable pub place_in : List ℕ → ℕ → ℕ → ℕ
place_in set count number =
    cond (stands_at set count number 0) 0
    (cond (stands_at set count number 1) 1
    (cond (stands_at set count number 2) 2
    (cond (stands_at set count number 3) 3
    4)))

abbrev pub read_place : Transaction → ℕ → ℕ
read_place t number = place_in t.reads t.readcount number

abbrev pub write_place : Transaction → ℕ → ℕ
write_place t number = place_in t.writes t.writecount number

-- a record that is a declared read holds its value in the copy
unfoldable pub contents_in : Transaction → WorkingCopy → ℕ → ℕ
contents_in t copy number = slice_index copy.values (read_place t number)

-- a record that becomes another number does so among the declared reads, where later actions see it, and among the
-- declared writes, where it is marked as reached
unfoldable pub written : Transaction → WorkingCopy → ℕ → ℕ → WorkingCopy
written t copy number value =
    record {
      values = slice_set copy.values (read_place t number) value;
      contents = slice_set copy.contents (write_place t number) value;
      reached = slice_set copy.reached (write_place t number) true;
    }

abbrev pub memory_of : Transaction → Memory WorkingCopy
memory_of t = record { holds = contents_in t; becomes = written t }

-- before the first action: the values read, and nothing reached
abbrev pub start_of : List ℕ → WorkingCopy
start_of values =
    record { values = values; contents = 0 ∷ 0 ∷ 0 ∷ 0 ∷ []; reached = false ∷ false ∷ false ∷ false ∷ [] }
