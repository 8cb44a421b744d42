-- The six kinds of action, described once: what an action reads, what it writes, which of its fields must hold zero.
use Rattle.std.specs.Prelude.{ℕ, List, [], ◌∷◌, get_or}
use Rattle.packed.specs.declared.fields.Fields.{Fields}

-- what a kind decides, a value for each of the six, and the first for a kind outside 1 to 6
abbrev pub by_kind : {A : Type 0} → A → A → A → A → A → A → A → ℕ → A
by_kind none set add take copy move floor kind =
    get_or (none ∷ set ∷ add ∷ take ∷ copy ∷ move ∷ floor ∷ []) kind none

pub record Uses : Type 0 where
  pub reads : List ℕ
  pub writes : List ℕ
  pub zero : ℕ

abbrev pub line : List ℕ → List ℕ → ℕ → Uses
line reads writes field = record { reads = reads; writes = writes; zero = field }

-- | kind | reads | writes | zero field |
unfoldable pub uses_of : Fields → Uses
uses_of x =
    by_kind
    (line [] [] 0)
    -- 1 set
    (line [] (x.r ∷ []) x.s)
    -- 2 add
    (line (x.r ∷ []) (x.r ∷ []) x.s)
    -- 3 take
    (line (x.r ∷ []) (x.r ∷ []) x.s)
    -- 4 copy
    (line (x.s ∷ []) (x.r ∷ []) x.c)
    -- 5 move
    (line (x.r ∷ x.s ∷ []) (x.r ∷ x.s ∷ []) x.c)
    -- 6 floor
    (line (x.r ∷ []) [] x.s)
    x.kind
