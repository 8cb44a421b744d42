-- "Claim, worker w, transaction i. After planning. The transaction becomes Executing."
use Rattle.std.specs.Prelude.{ℕ, Bool, ◌||◌, not, leb}
use Rattle.terms.specs.declared.refusal.Refusal.TheVariants.{
  WrongMoment,
  NoSuchParty,
  WorkerBusyOrIdle,
  NotUnprocessed,
  StateOutOfRange,
}
use Rattle.engine.specs.Answers.{accept, refuse_if}
use Rattle.engine.specs.Moment.{not_running}
use Rattle.engine.specs.Range.{row_at, worker_at, out_of_range}
use Rattle.engine.specs.Rows.{row, is_unprocessed}
use Rattle.engine.specs.States.{with_row, with_worker}
use Rattle.engine.specs.Workers.{is_idle, claimed}
use Rattle.engine.specs.declared.Progress.TheVariants.{Executing}
use Rattle.engine.specs.declared.State.{State}
use Rattle.engine.specs.declared.Stepped.{Stepped}

-- 10: "no such .. worker or transaction"
abbrev pub no_such_claim : State → ℕ → ℕ → Bool
no_such_claim s w i = leb s.workers w || leb s.size i

-- the worker holds the transaction, with nothing read yet
abbrev pub after_claim : State → ℕ → ℕ → State
after_claim s w i = with_worker (with_row s i (row (Executing w))) w (claimed i)

unfoldable pub claim_of : State → ℕ → ℕ → Stepped
claim_of s w i =
    -- 14
    refuse_if s (out_of_range s) StateOutOfRange
    -- 9
    (refuse_if s (not_running s) WrongMoment
    -- 10
    (refuse_if s (no_such_claim s w i) NoSuchParty
    -- 12: "claim by a busy worker"
    (refuse_if s (not (is_idle (worker_at s w))) WorkerBusyOrIdle
    -- 13: "claim of a transaction that is not Unprocessed"
    (refuse_if s (not (is_unprocessed (row_at s i))) NotUnprocessed (accept (after_claim s w i))))))
