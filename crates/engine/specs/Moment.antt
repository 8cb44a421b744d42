-- Refusal 9: "wrong moment". "Planning lasts until every partition has placed all n."
use Rattle.std.specs.Prelude.{ℕ, Bool, ◌&&◌, ◌||◌, not, ltb, eqb}
use Rattle.engine.specs.Counting.{some_below}
use Rattle.engine.specs.Range.{placed_by, row_at}
use Rattle.engine.specs.Rows.{is_complete}
use Rattle.engine.specs.declared.State.{State}

-- "n (0 when no batch is open)"
abbrev pub no_batch : State → Bool
no_batch s = eqb s.size 0

-- a partition has not placed all
abbrev pub places_still : State → ℕ → Bool
places_still s p = ltb p s.partitions && not (eqb (placed_by s p) s.size)

abbrev pub planning_lasts : State → Bool
planning_lasts s = some_below 8 (places_still s)

-- "claim or advance before planning ends or with none open"
unfoldable pub not_running : State → Bool
not_running s = no_batch s || planning_lasts s

-- "place outside planning"
unfoldable pub not_planning : State → Bool
not_planning s = no_batch s || not (planning_lasts s)

-- "seal with none open or something not Complete"
abbrev pub row_unfinished : State → ℕ → Bool
row_unfinished s i = ltb i s.size && not (is_complete (row_at s i))

unfoldable pub not_sealable : State → Bool
not_sealable s = no_batch s || some_below 64 (row_unfinished s)
