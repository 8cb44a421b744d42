-- Laws of claiming.
use Rattle.std.specs.Prelude.{ℕ, not, Result, Ok}
use Rattle.terms.specs.Refusals.{refuse_if, Verdict}
use Rattle.terms.specs.declared.refusal.Refused.{Refused}
use Rattle.terms.specs.declared.refusal.Refusal.TheVariants.{
  WrongMoment,
  NoSuchParty,
  WorkerBusyOrIdle,
  NotUnprocessed,
  StateOutOfRange,
}
use Rattle.engine.specs.Claim.{no_such_claim}
use Rattle.engine.specs.LawsPlan.{if_accepted}
use Rattle.engine.specs.Moment.{not_running}
use Rattle.engine.specs.Range.{row_at, worker_at, out_of_range}
use Rattle.engine.specs.Rows.{row, is_unprocessed}
use Rattle.engine.specs.Workers.{is_idle, claimed}
use Rattle.engine.specs.declared.Progress.TheVariants.{Executing}
use Rattle.engine.specs.declared.State.{State}
use Rattle.engine.specs.declared.lent.claiming.Claiming.{Claiming}

-- the checks alone
abbrev pub claim_verdict : State → ℕ → ℕ → Verdict
claim_verdict s w i =
    refuse_if (out_of_range s) StateOutOfRange 0
    (refuse_if (not_running s) WrongMoment 0
    (refuse_if (no_such_claim s w i) NoSuchParty 0
    (refuse_if (not (is_idle (worker_at s w))) WorkerBusyOrIdle 0
    (refuse_if (not (is_unprocessed (row_at s i))) NotUnprocessed 0 (Ok tt)))))

abbrev pub claim_plan : State → ℕ → ℕ → Result Claiming Refused
claim_plan s w i = if_accepted (claim_verdict s w i) (record { executing = row (Executing w); starting = claimed i })
