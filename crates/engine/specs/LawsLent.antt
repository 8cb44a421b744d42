-- Refusal 14 as it is looked for in lent transactions and workers.
use Rattle.std.specs.Prelude.{ℕ, zero, suc, ◌+◌, ◌≤◌, Bool, true, false, ◌&&◌, ◌||◌, not}
use Rattle.std.specs.Prelude.{List, [], ◌∷◌, ◌≡◌, refl, ltb, eqb, get_or, min, take}
use Rattle.std.specs.List.{enumerate_from, list_any}
use Rattle.std.proofs.Common.{ap, ◌∙◌, arith}
use Rattle.terms.specs.Reserved.{no_end}
use Rattle.engine.specs.Counting.{some_below}
use Rattle.engine.specs.LawsCounting.{same_below, any_first}
use Rattle.engine.specs.LawsHeld.{wrong_among, few_of, all_rows}
use Rattle.engine.specs.Lent.{unprocessed, row_of, worker_of, joined}
use Rattle.engine.specs.Range.{no_worker, numbers_wrong, placed_wrong, worker_wrong, not_held, row_wrong, out_of_range}
use Rattle.engine.specs.Workers.{is_idle, idle_worker}
use Rattle.engine.specs.declared.Progress.{Progress}
use Rattle.engine.specs.declared.Progress.TheVariants.{Unprocessed, Executing, Complete}
use Rattle.engine.specs.declared.Row.{Row}
use Rattle.engine.specs.declared.Worker.{Worker}
use Rattle.engine.specs.declared.lent.Numbers.{Numbers}

-- ---- workers

-- past the last worker lies an idle one, whatever its values
same_worker : (workers size : ℕ) (rows : List Row) (k : ℕ) (crew : List Worker) (w : ℕ)
    → wrong_among workers size rows k (worker_of crew w) ≡ wrong_among workers size rows k (get_or crew w no_worker)
same_worker workers size rows k [] w = refl
same_worker workers size rows k (worker ∷ crew) zero = refl
same_worker workers size rows k (worker ∷ crew) (suc w) = same_worker workers size rows k crew w

-- the eight workers, each with its number
pub workers_told : (numbers : Numbers) (rows : List Row) (crew : List Worker)
    → list_any (λ entry. wrong_among numbers.workers numbers.size rows entry.0 entry.1) (take 8 (enumerate_from 0 crew))
    ≡ some_below 8 (worker_wrong (joined numbers rows crew))
workers_told numbers rows crew =
    any_first (wrong_among numbers.workers numbers.size rows) idle_worker 8 crew (λ k past below. refl)
    ∙ same_below 8 (λ k. wrong_among numbers.workers numbers.size rows k (worker_of crew k))
    (worker_wrong (joined numbers rows crew)) (λ k below.
    same_worker numbers.workers numbers.size rows k crew k)

-- ---- transactions

-- `not_held`, of a lent crew
abbrev pub held_by : Worker → ℕ → ℕ → Bool
held_by worker w i = ltb w 8 && not (is_idle worker) && eqb worker.transaction i

abbrev pub not_held_by : List Worker → ℕ → Progress → Bool
not_held_by crew i Unprocessed = false
not_held_by crew i (Executing w) = not (held_by (worker_of crew w) w i)
not_held_by crew i (Complete outcome) = false

same_holder : (i w : ℕ) (crew : List Worker) (k : ℕ)
    → held_by (worker_of crew k) w i ≡ held_by (get_or crew k no_worker) w i
same_holder i w [] k = refl
same_holder i w (worker ∷ crew) zero = refl
same_holder i w (worker ∷ crew) (suc k) = same_holder i w crew k

held_lent : (numbers : Numbers) (rows : List Row) (crew : List Worker) (i : ℕ) (progress : Progress)
    → not_held_by crew i progress ≡ not_held (joined numbers rows crew) i progress
held_lent numbers rows crew i Unprocessed = refl
held_lent numbers rows crew i (Executing w) = ap not (same_holder i w crew w)
held_lent numbers rows crew i (Complete outcome) = refl

-- the transactions of the batch, each with its number; past the last lent one nothing is Executing
pub rows_told : (numbers : Numbers) (rows : List Row) (crew : List Worker)
    → list_any (λ entry. not_held_by crew entry.0 entry.1.progress) (take (few_of numbers.size) (enumerate_from 0 rows))
    ≡ some_below 64 (row_wrong (joined numbers rows crew))
rows_told numbers rows crew =
    any_first (λ i row. not_held_by crew i row.progress) unprocessed (few_of numbers.size) rows (λ k past below. refl)
    ∙ same_below (few_of numbers.size) (λ i. not_held_by crew i (row_of rows i).progress)
    (λ i. not_held (joined numbers rows crew) i (row_of rows i).progress) (λ k below.
    held_lent numbers rows crew k (row_of rows k).progress)
    ∙ all_rows (joined numbers rows crew)

-- ---- all of it
numbers_alone : (numbers : Numbers) (rows : List Row) (crew : List Worker)
    → numbers_wrong (joined numbers [] []) ≡ numbers_wrong (joined numbers rows crew)
unfolding numbers_wrong
numbers_alone numbers rows crew = refl

or_joined : (a b c d : Bool) → (((a || b) || c) || d) ≡ (a || b || c || d)
or_joined true b c d = refl
or_joined false true c d = refl
or_joined false false c d = refl

pub range_told : (numbers : Numbers) (rows : List Row) (crew : List Worker)
    → (((numbers_wrong (joined numbers [] []) || some_below 8 (placed_wrong (joined numbers [] [])))
    || some_below 8 (worker_wrong (joined numbers rows crew)))
    || some_below 64 (row_wrong (joined numbers rows crew)))
    ≡ out_of_range (joined numbers rows crew)
unfolding out_of_range
range_told numbers rows crew =
    rw (numbers_alone numbers rows crew)
    (or_joined (numbers_wrong (joined numbers rows crew)) (some_below 8 (placed_wrong (joined numbers rows crew)))
    (some_below 8 (worker_wrong (joined numbers rows crew))) (some_below 64 (row_wrong (joined numbers rows crew))))

-- a position, and past the last position that one
abbrev pub position_by : Numbers → ℕ → ℕ
position_by numbers i = min (numbers.next.0 + i) no_end

pub position_within : (numbers : Numbers) (i : ℕ) → numbers.next.0 + i ≤ no_end
    → position_by numbers i ≡ numbers.next.0 + i
position_within numbers i most = omega (arith, most)
