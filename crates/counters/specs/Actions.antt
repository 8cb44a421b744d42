-- What actions do, described once, over any memory of records: the one-by-one run has the records themselves for its
-- memory, and deciding has a transaction's own copy of the values read.
use Rattle.std.specs.Prelude.{ℕ, ◌+◌, ◌-◌, ◌%◌, ◌^◌, Bool, true, false, List, [], ◌∷◌, take, nat_lt}
use Rattle.packed.specs.Encode.{action_in}
use Rattle.packed.specs.declared.Action.{Action}
use Rattle.packed.specs.declared.Action.TheVariants.{Nothing, Set, Add, Take, Copy, Move, Floor}
use Rattle.packed.specs.declared.Transaction.{Transaction}

-- a memory M: what a record holds in it, and the memory in which a record has become another number
pub record Memory (M : Type 0) : Type 0 where
  pub holds : M → ℕ → ℕ
  pub becomes : M → ℕ → ℕ → M

-- what some actions leave: they go on with a memory, or the transaction aborts
pub data After (M : Type 0) : Type 0 where
  goes_on : M → After M
  aborts : After M

abbrev pub abort_if : {M : Type 0} → Bool → After M → After M
abort_if true otherwise = aborts
abort_if false otherwise = otherwise

module _ {M : Type 0} (memory : Memory M) where
  -- | kind | does |, and one of no kind does nothing
  abbrev pub act : Action → M → After M
  act Nothing m = goes_on m
  -- 1 set: r becomes c
  act (Set r c) m = goes_on (memory.becomes m r c)
  -- 2 add: r + c, wrapped at 2^64
  act (Add r c) m = goes_on (memory.becomes m r ((memory.holds m r + c) % 2 ^ 64))
  -- 3 take: abort if r < c, else r − c
  act (Take r c) m =
      abort_if (nat_lt (memory.holds m r) c) (goes_on (memory.becomes m r (memory.holds m r - c)))
  -- 4 copy: r becomes s
  act (Copy r s) m = goes_on (memory.becomes m r (memory.holds m s))
  -- 5 move: r becomes r + s wrapped, then s becomes 0
  act (Move r s) m =
      goes_on (memory.becomes (memory.becomes m r ((memory.holds m r + memory.holds m s) % 2 ^ 64)) s 0)
  -- 6 floor: abort if r < c
  act (Floor r c) m = abort_if (nat_lt (memory.holds m r) c) (goes_on m)

  -- nothing is done after an abort
  abbrev pub then_act : Action → After M → After M
  then_act action (goes_on m) = act action m
  then_act action aborts = aborts

  -- "Actions run in order and see earlier writes of their own transaction."
  abbrev pub act_all : List Action → After M → After M
  act_all [] after = after
  act_all (action ∷ actions) after = act_all actions (then_act action after)

-- a transaction's actions: those within the action count
abbrev pub actions_of : Transaction → List Action
actions_of t = take t.actioncount (action_in t 0 ∷ action_in t 1 ∷ action_in t 2 ∷ action_in t 3 ∷ [])
