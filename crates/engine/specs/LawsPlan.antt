-- Laws of a plan: what a step is to do where its verdict accepts.
use Rattle.std.specs.Prelude.{ℕ, zero, suc, Bool, true, false, ◌||◌, List, [], ◌∷◌, ◌≡◌, refl, eqb, get_or}
use Rattle.std.specs.Prelude.{Result, Ok, Err}
use Rattle.terms.specs.Refusals.{refuse_if, Verdict}
use Rattle.terms.specs.declared.refusal.Refusal.{Refusal}
use Rattle.terms.specs.declared.refusal.Refused.{Refused}
use Rattle.engine.specs.Counting.{some_below}
use Rattle.engine.specs.Lent.{worker_of, joined}
use Rattle.engine.specs.Moment.{not_running, not_planning, row_unfinished, not_sealable}
use Rattle.engine.specs.Range.{no_worker}
use Rattle.engine.specs.Workers.{is_idle}
use Rattle.engine.specs.declared.Answer.{Answer}
use Rattle.engine.specs.declared.Answer.TheVariants as answer
use Rattle.engine.specs.declared.Row.{Row}
use Rattle.engine.specs.declared.Worker.{Worker}
use Rattle.engine.specs.declared.lent.Numbers.{Numbers}

-- the plan, or the refusal
abbrev pub if_accepted : {A : Type 0} → Verdict → A → Result A Refused
if_accepted (Ok _) plan = Ok plan
if_accepted (Err why) plan = Err why

-- the answer
abbrev pub answered : {A : Type 0} → Result A Refused → Answer
answered (Ok plan) = answer.Accepted
answered (Err why) = answer.Refused why.refusal why.place

-- a check that finds nothing
pub passed : (fault : Bool) (refusal : Refusal) (place : ℕ) → Ok tt ≡ refuse_if fault refusal place (Ok tt)
    → fault ≡ false
passed false refusal place told = refl
passed true refusal place told = cc

-- ---- what a check asks of lent parts, and of the whole
pub planning_told : (numbers : Numbers) (rows : List Row) (crew : List Worker)
    → not_planning (joined numbers rows crew) ≡ not_planning (joined numbers [] [])
unfolding not_planning
planning_told numbers rows crew = refl

pub running_told : (numbers : Numbers) (rows : List Row) (crew : List Worker)
    → not_running (joined numbers rows crew) ≡ not_running (joined numbers [] [])
unfolding not_running
running_told numbers rows crew = refl

pub sealable_told : (numbers : Numbers) (rows : List Row) (crew : List Worker)
    → not_sealable (joined numbers rows crew)
    ≡ (eqb numbers.size 0 || some_below 64 (row_unfinished (joined numbers rows [])))
unfolding not_sealable
sealable_told numbers rows crew = refl

-- past the last worker lies an idle one, whatever its values
pub same_idle : (crew : List Worker) (w : ℕ) → is_idle (worker_of crew w) ≡ is_idle (get_or crew w no_worker)
same_idle [] w = refl
same_idle (worker ∷ crew) zero = refl
same_idle (worker ∷ crew) (suc w) = same_idle crew w

pub ruleset asked = (planning_told, running_told, sealable_told, same_idle)
