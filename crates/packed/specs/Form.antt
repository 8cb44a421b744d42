-- Refusal 4: "a count above 4, a kind outside 1–6 within the count, or a byte that must be zero is not".
use Rattle.std.specs.Prelude.{ℕ, ◌+◌, Bool, ◌&&◌, ◌||◌, not, cond, List, get_or, ltb, leb, eqb}
use Rattle.packed.specs.Fields.{byte_at, set_at, fields_at}
use Rattle.packed.specs.Kinds.{uses_of}
use Rattle.packed.specs.declared.fields.Fields.{Fields}

-- "a count above 4"
abbrev pub count_above : List ℕ → Bool
count_above b = ltb 4 (byte_at b 0) || ltb 4 (byte_at b 1) || ltb 4 (byte_at b 2)

-- "a kind outside 1–6"
abbrev pub kind_outside : ℕ → Bool
kind_outside kind = ltb kind 1 || ltb 6 kind

-- ".. within the count"
abbrev pub kinds_outside : List ℕ → Bool
kinds_outside b =
    (ltb 0 (byte_at b 2) && kind_outside (byte_at b 24))
    || (ltb 1 (byte_at b 2) && kind_outside (byte_at b 40))
    || (ltb 2 (byte_at b 2) && kind_outside (byte_at b 56))
    || (ltb 3 (byte_at b 2) && kind_outside (byte_at b 72))

abbrev pub is_nonzero : ℕ → Bool
is_nonzero number = not (eqb number 0)

-- "Entries past a count are all zero": one of a set is not
abbrev pub past_set : List ℕ → ℕ → Bool
past_set set count =
    (leb count 0 && is_nonzero (get_or set 0 0))
    || (leb count 1 && is_nonzero (get_or set 1 0))
    || (leb count 2 && is_nonzero (get_or set 2 0))
    || (leb count 3 && is_nonzero (get_or set 3 0))

-- every field of an action is zero
abbrev pub wholly : Fields → Bool
wholly x = eqb x.kind 0 && eqb x.r 0 && eqb x.s 0 && eqb x.c 0

-- of an action's 16 bytes the second, the seventh and the eighth are zero; within the count "the 'zero field' must hold
-- zero", and past it all are zero: one that must be zero is not
unfoldable pub action_nonzero : List ℕ → ℕ → Bool → Bool
action_nonzero b at within =
    is_nonzero (byte_at b (at + 1))
    || is_nonzero (byte_at b (at + 6))
    || is_nonzero (byte_at b (at + 7))
    || cond within (is_nonzero (uses_of (fields_at b at)).zero) (not (wholly (fields_at b at)))

-- "a byte that must be zero is not": byte 3, the sets past their counts, bytes 20–23, the actions
unfoldable pub nonzero : List ℕ → Bool
nonzero b =
    is_nonzero (byte_at b 3)
    || past_set (set_at b 4) (byte_at b 0)
    || past_set (set_at b 12) (byte_at b 1)
    || is_nonzero (byte_at b 20)
    || is_nonzero (byte_at b 21)
    || is_nonzero (byte_at b 22)
    || is_nonzero (byte_at b 23)
    || action_nonzero b 24 (ltb 0 (byte_at b 2))
    || action_nonzero b 40 (ltb 1 (byte_at b 2))
    || action_nonzero b 56 (ltb 2 (byte_at b 2))
    || action_nonzero b 72 (ltb 3 (byte_at b 2))

-- 4
unfoldable pub malformed : List ℕ → Bool
malformed b = count_above b || kinds_outside b || nonzero b
