-- Refusal 14 as the code looks for it: a worker and what it is held against, and the rows of the batch alone.
use Rattle.std.specs.Prelude.{ℕ, ◌≤◌, ◌<◌, Bool, ◌&&◌, ◌||◌, not, List, ◌≡◌, refl, leb, get_or, min}
use Rattle.std.proofs.Common.{◌∙◌, arith, lt-ltb, le-ltb}
use Rattle.engine.specs.Counting.{some_below}
use Rattle.engine.specs.LawsCounting.{same_below, none_past}
use Rattle.engine.specs.Range.{row_at, not_held, row_wrong}
use Rattle.engine.specs.Rows.{row, executing_by}
use Rattle.engine.specs.Workers.{is_idle, count_above}
use Rattle.engine.specs.declared.Progress.TheVariants.{Unprocessed}
use Rattle.engine.specs.declared.Row.{Row}
use Rattle.engine.specs.declared.State.{State}
use Rattle.engine.specs.declared.Worker.{Worker}

-- `worker_wrong`, of a worker and what it is held against
abbrev pub wrong_among : ℕ → ℕ → List Row → ℕ → Worker → Bool
wrong_among workers size rows w worker =
    not (is_idle worker)
    && (leb workers w
    || leb size worker.transaction
    || count_above worker
    || not (executing_by (get_or rows worker.transaction (row Unprocessed)) w))

-- the transactions of the batch, and never more than there are
abbrev pub few_of : ℕ → ℕ
few_of size = min size 64

pub few_most : (size : ℕ) → (few_of size ≤ 64) × (few_of size ≤ size)
few_most size = (omega arith, omega arith)

pub few_all : (size k : ℕ) → few_of size ≤ k → k < 64 → size ≤ k
few_all size k past below = omega (arith, past, below)

-- none past the batch is wrong
pub all_rows : (s : State) → some_below (few_of s.size) (λ i. not_held s i (row_at s i).progress)
    ≡ some_below 64 (row_wrong s)
all_rows s =
    let most = few_most s.size in
    same_below (few_of s.size) (λ i. not_held s i (row_at s i).progress) (row_wrong s) (λ k below.
    rw (lt-ltb k s.size (omega (arith, below, most.1))) refl)
    ∙ none_past (few_of s.size) 64 (row_wrong s) most.0 (λ k past below.
    rw (le-ltb k s.size (few_all s.size k past below)) refl)
