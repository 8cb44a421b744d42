-- A worker and its transaction: whether they fit, and what the worker does next.
use Rattle.std.specs.Prelude.{ℕ, zero, suc, ◌+◌, Bool, true, false, ◌&&◌, ◌||◌, cond, List, ltb, leb, eqb, get_or}
use Rattle.packed.specs.declared.Transaction.{Transaction}
use Rattle.engine.specs.declared.Phase.{Phase}
use Rattle.engine.specs.declared.Phase.TheVariants.{Idle, Reading, Decided}
use Rattle.engine.specs.declared.Worker.{Worker}
use Rattle.engine.specs.declared.acts.Act.{Act}
use Rattle.engine.specs.declared.acts.Act.TheVariants.{Read, Decide, Carry, Fill}

abbrev pub mark_at : List Bool → ℕ → Bool
mark_at carried j = get_or carried j false

abbrev pub one : Bool → ℕ
one true = 1
one false = 0

-- how many of the writes below j have a carry mark
abbrev pub marks_below : List Bool → ℕ → ℕ
marks_below carried zero = 0
marks_below carried (suc j) = marks_below carried j + one (mark_at carried j)

abbrev pub marks_of : List Bool → ℕ
marks_of carried = marks_below carried 4

-- "a carry mark past the write count"
abbrev pub mark_past : List Bool → ℕ → Bool
mark_past carried writecount =
    (leb writecount 0 && mark_at carried 0)
    || (leb writecount 1 && mark_at carried 1)
    || (leb writecount 2 && mark_at carried 2)
    || (leb writecount 3 && mark_at carried 3)

-- 15: "a worker has more values than declared reads, a carry mark past the write count, more carries done than marks, a
-- fill done before the last carry, or no fill left"
abbrev pub unfit_in : Phase → List Bool → ℕ → ℕ → Bool
unfit_in Idle carried readcount writecount = false
unfit_in (Reading values) carried readcount writecount = ltb readcount values
unfit_in (Decided outcome values carries fills) carried readcount writecount =
    ltb readcount values
    || mark_past carried writecount
    || ltb (marks_of carried) carries
    || (ltb 0 fills && ltb carries (marks_of carried))
    || leb writecount fills

unfoldable pub unfit : Worker → Transaction → Bool
unfit worker t = unfit_in worker.phase worker.carried t.readcount t.writecount

-- "Carries all come before fills, both in write-set order": the next carried write has a mark, and as many marks below
-- it as carries are done
abbrev pub next_is : List Bool → ℕ → ℕ → Bool
next_is carried carries j = mark_at carried j && eqb (marks_below carried j) carries

abbrev pub next_carried : List Bool → ℕ → ℕ
next_carried carried carries =
    cond (next_is carried carries 0) 0
    (cond (next_is carried carries 1) 1
    (cond (next_is carried carries 2) 2 3))

-- "One of: read the next declared read; with none left, decide; carry the next carried write; fill the next write."
-- An idle worker does nothing: it is refused by 12
abbrev pub act_in : Phase → List Bool → ℕ → Act
act_in Idle carried readcount = Decide
act_in (Reading values) carried readcount = cond (ltb values readcount) (Read values) Decide
act_in (Decided outcome values carries fills) carried readcount =
    cond (ltb carries (marks_of carried)) (Carry (next_carried carried carries)) (Fill fills)

unfoldable pub act_of : Worker → Transaction → Act
act_of worker t = act_in worker.phase worker.carried t.readcount
