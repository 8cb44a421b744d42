-- Refusals 5 to 8: the records of an entry. What an action reads and writes is said by the table of kinds.
use Rattle.std.specs.Prelude.{ℕ, zero, suc, ◌+◌, ◌*◌, Bool, false, ◌&&◌, ◌||◌}
use Rattle.std.specs.Prelude.{not, List, [], ◌∷◌, get_or, ltb, leb, eqb}
use Rattle.packed.specs.Fields.{byte_at, set_at, fields_at}
use Rattle.packed.specs.Kinds.{uses_of}
use Rattle.packed.specs.declared.fields.Fields.{Fields}

-- a test holds of some number of a list
abbrev pub any : (ℕ → Bool) → List ℕ → Bool
any test [] = false
any test (number ∷ numbers) = any test numbers || test number

-- a test holds of one of the first k actions
unfoldable pub some_of : (Fields → Bool) → List ℕ → ℕ → Bool
some_of test b zero = false
some_of test b (suc k) = some_of test b k || test (fields_at b (24 + 16 * k))

-- a test holds of some action within the count
abbrev pub some_action : (Fields → Bool) → List ℕ → Bool
some_action test b = some_of test b (byte_at b 2)

-- 5: "a record number, in a set or used by an action, is N or more"
abbrev pub too_large : ℕ → ℕ → Bool
too_large n number = leb n number

abbrev pub set_too_large : ℕ → List ℕ → ℕ → Bool
set_too_large n set count =
    (ltb 0 count && too_large n (get_or set 0 0))
    || (ltb 1 count && too_large n (get_or set 1 0))
    || (ltb 2 count && too_large n (get_or set 2 0))
    || (ltb 3 count && too_large n (get_or set 3 0))

abbrev pub uses_too_large : ℕ → Fields → Bool
uses_too_large n x = any (too_large n) (uses_of x).reads || any (too_large n) (uses_of x).writes

unfoldable pub no_such_record : ℕ → List ℕ → Bool
no_such_record n b =
    set_too_large n (set_at b 4) (byte_at b 0)
    || set_too_large n (set_at b 12) (byte_at b 1)
    || some_action (uses_too_large n) b

-- 6: "a set does not ascend strictly"
abbrev pub descends : List ℕ → ℕ → Bool
descends set count =
    (ltb 1 count && leb (get_or set 1 0) (get_or set 0 0))
    || (ltb 2 count && leb (get_or set 2 0) (get_or set 1 0))
    || (ltb 3 count && leb (get_or set 3 0) (get_or set 2 0))

unfoldable pub not_ascending : List ℕ → Bool
not_ascending b = descends (set_at b 4) (byte_at b 0) || descends (set_at b 12) (byte_at b 1)

-- a record is not declared: it is not among the first `count` of a set
abbrev pub unlisted : List ℕ → ℕ → ℕ → Bool
unlisted set count number =
    not (
    (ltb 0 count && eqb (get_or set 0 0) number)
    || (ltb 1 count && eqb (get_or set 1 0) number)
    || (ltb 2 count && eqb (get_or set 2 0) number)
    || (ltb 3 count && eqb (get_or set 3 0) number)
    )

-- 7: "an action reads an undeclared record"
abbrev pub reads_unlisted : List ℕ → ℕ → Fields → Bool
reads_unlisted set count x = any (unlisted set count) (uses_of x).reads

unfoldable pub undeclared_read : List ℕ → Bool
undeclared_read b = some_action (reads_unlisted (set_at b 4) (byte_at b 0)) b

-- 8: "an action writes an undeclared record"
abbrev pub writes_unlisted : List ℕ → ℕ → Fields → Bool
writes_unlisted set count x = any (unlisted set count) (uses_of x).writes

unfoldable pub undeclared_write : List ℕ → Bool
undeclared_write b = some_action (writes_unlisted (set_at b 12) (byte_at b 1)) b
