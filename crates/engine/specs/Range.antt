-- Refusal 14: "the state has a number out of range".
use Rattle.std.specs.Prelude.{ℕ, ◌+◌, Bool, false, ◌&&◌, ◌||◌, not, [], get_or, ltb, leb, eqb}
use Rattle.terms.specs.Reserved.{no_end}
use Rattle.engine.specs.Counting.{some_below}
use Rattle.engine.specs.Rows.{row, executing_by}
use Rattle.engine.specs.Workers.{is_idle, count_above}
use Rattle.engine.specs.declared.Phase.TheVariants.{Idle}
use Rattle.engine.specs.declared.Progress.{Progress}
use Rattle.engine.specs.declared.Progress.TheVariants.{Unprocessed, Executing, Complete}
use Rattle.engine.specs.declared.Row.{Row}
use Rattle.engine.specs.declared.State.{State}
use Rattle.engine.specs.declared.Worker.{Worker}

-- transaction i, and worker w; past the last there is an Unprocessed and an idle one
abbrev pub row_at : State → ℕ → Row
row_at s i = get_or s.rows i (row Unprocessed)

abbrev pub no_worker : Worker
no_worker = record { phase = Idle; transaction = 0; values = []; contents = []; carried = [] }

abbrev pub worker_at : State → ℕ → Worker
worker_at s w = get_or s.crew w no_worker

abbrev pub placed_by : State → ℕ → ℕ
placed_by s p = get_or s.placed p 0

-- "N, P, W; n above 64; F zero or F + n above 2^64 − 1; batch number not below F"
unfoldable pub numbers_wrong : State → Bool
numbers_wrong s =
    (ltb s.records 1 || ltb 1024 s.records)
    || (ltb s.partitions 1 || ltb 8 s.partitions)
    || (ltb s.workers 1 || ltb 8 s.workers)
    || ltb 64 s.size
    || eqb s.next.0 0
    || ltb no_end (s.next.0 + s.size)
    || leb s.next.0 s.batch.0

-- "a placed count above n, or not 0 past P"
abbrev pub placed_wrong : State → ℕ → Bool
placed_wrong s p = ltb s.size (placed_by s p) || (leb s.partitions p && not (eqb (placed_by s p) 0))

-- "a worker past W not idle; a worker's transaction not below n, or one of its counts above 4; a worker holding a
-- transaction that is not Executing by it"
abbrev pub worker_wrong : State → ℕ → Bool
worker_wrong s w =
    not (is_idle (worker_at s w))
    && (leb s.workers w
    || leb s.size (worker_at s w).transaction
    || count_above (worker_at s w)
    || not (executing_by (row_at s (worker_at s w).transaction) w))

-- worker w holds transaction i; there are eight workers
abbrev pub holds : State → ℕ → ℕ → Bool
holds s w i = ltb w 8 && not (is_idle (worker_at s w)) && eqb (worker_at s w).transaction i

-- "a transaction below n Executing by a worker that does not hold it"
abbrev pub not_held : State → ℕ → Progress → Bool
not_held s i Unprocessed = false
not_held s i (Executing w) = not (holds s w i)
not_held s i (Complete outcome) = false

abbrev pub row_wrong : State → ℕ → Bool
row_wrong s i = ltb i s.size && not_held s i (row_at s i).progress

-- 14
unfoldable pub out_of_range : State → Bool
out_of_range s =
    numbers_wrong s
    || some_below 8 (placed_wrong s)
    || some_below 8 (worker_wrong s)
    || some_below 64 (row_wrong s)
