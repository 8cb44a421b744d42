-- Laws of advancing with lent transactions and workers: the way that the code goes.
use Rattle.std.specs.Prelude.{ℕ, zero, suc, ◌*◌, Bool, true, false, Result}
use Rattle.std.specs.Prelude.{List, [], ◌∷◌, ◌≡◌, refl, leb, length, get_or}
use Rattle.std.proofs.Common.{ap, ◌∙◌, arith, leb-false}
use Rattle.terms.specs.Refusals.{refuse_if, Verdict}
use Rattle.terms.specs.declared.refusal.Refusal.TheVariants.{
  WrongParameter,
  WrongLength,
  WrongMoment,
  NoSuchParty,
  WorkerBusyOrIdle,
  StateOutOfRange,
}
use Rattle.terms.specs.declared.refusal.Refused.{Refused}
use Rattle.versions.specs.declared.Version.{Version}
use Rattle.engine.specs.Advance.{wrong_for_advance, work_fits}
use Rattle.engine.specs.Advance.{advance_verdict, advance_of}
use Rattle.engine.specs.LawsAdvance.{aim_at, aim_when, move_when, answered, rows_by, crew_by, versions_by, results_by}
use Rattle.engine.specs.LawsAdvance.{decided, advance_answer, advance_rows, advance_crew}
use Rattle.engine.specs.LawsAdvance.{advance_versions, advance_results}
use Rattle.engine.specs.LawsLent.{position_by, position_within}
use Rattle.engine.specs.LawsRange.{in_range, holds_below}
use Rattle.engine.specs.Lent.{worker_of, joined}
use Rattle.engine.specs.Moment.{not_running}
use Rattle.engine.specs.Place.{position_of}
use Rattle.engine.specs.Range.{no_worker, worker_at, out_of_range}
use Rattle.engine.specs.Tables.{not_of}
use Rattle.engine.specs.Workers.{is_idle}
use Rattle.engine.specs.declared.Row.{Row}
use Rattle.engine.specs.declared.State.{State}
use Rattle.engine.specs.declared.Worker.{Worker}
use Rattle.engine.specs.declared.advance.Aim.{Aim}
use Rattle.engine.specs.declared.lent.Numbers.{Numbers}
use Rattle.engine.specs.declared.moves.Move.{Move}

-- the checks after 1, with what 14 says, and the worker
abbrev pub verdict_by : Bool → State → ℕ → Worker → List ℕ → Verdict
verdict_by out s w worker log =
    refuse_if out StateOutOfRange 0
    (refuse_if (not_running s) WrongMoment 0
    (refuse_if (leb s.workers w) NoSuchParty 0
    (refuse_if (is_idle worker) WorkerBusyOrIdle 0
    (refuse_if (not_of (length log) (88 * s.size)) WrongLength 0 (work_fits s worker log)))))

-- what the worker aims at, where other checks come first
abbrev pub aim_with : (Verdict → Verdict) → List Row → List Worker → Numbers → ℕ → List ℕ → Result Aim Refused
aim_with first rows crew numbers w log =
    let worker = worker_of crew w in
    aim_when
    (first (verdict_by (out_of_range (joined numbers rows crew)) (joined numbers [] []) w worker log))
    (aim_at (joined numbers [] []) worker log (position_by numbers worker.transaction))

abbrev pub aim_by : List Row → List Worker → Numbers → ℕ → List ℕ → Result Aim Refused
aim_by = aim_with (λ rest. rest)

unfoldable pub turn_with : List Row → List Worker → Numbers → ℕ → List ℕ → List ℕ → List ℕ → List Version → ℕ
    → Result Move Refused
turn_with rows crew numbers w log records newest versions results =
    move_when
    (aim_with
    (refuse_if
    (wrong_for_advance (joined numbers [] []) (length records) (length newest) (length versions) results)
    WrongParameter
    0)
    rows crew numbers w log)
    records newest versions

-- ---- that is the definition
module _ (numbers : Numbers) (rows : List Row) (crew : List Worker) (w : ℕ) (log records newest : List ℕ)
    (versions : List Version) (results : List ℕ) where
  abbrev stood : State
  stood = joined numbers rows crew

  abbrev mine : Worker
  mine = worker_at stood w

  abbrev chain : Bool → Bool → Bool → Bool → Bool → Bool → Verdict → Verdict
  chain a b c d e f rest =
      refuse_if a WrongParameter 0
      (refuse_if b StateOutOfRange 0
      (refuse_if c WrongMoment 0
      (refuse_if d NoSuchParty 0
      (refuse_if e WorkerBusyOrIdle 0
      (refuse_if f WrongLength 0 rest)))))

  -- what the advance of a worker with a position changes, under a verdict
  abbrev move_under : Verdict → Worker → ℕ → Result Move Refused
  move_under v worker position = move_when (aim_when v (aim_at stood worker log position)) records newest versions

  -- a busy worker's transaction has its position
  placed_at : out_of_range stood ≡ false → leb numbers.workers w ≡ false → is_idle mine ≡ false
      → position_by numbers mine.transaction ≡ position_of stood mine.transaction
  placed_at inside there busy =
      let ranged = in_range stood inside in
      let below = leb-false numbers.workers w there in
      let held = holds_below stood ranged w (omega (arith, below, ranged.few_workers)) busy in
      position_within numbers mine.transaction (omega (arith, held, ranged.positions_last))

  -- past the last worker lies an idle one, whatever its values
  same_worker : (a b c d f : Bool) (own : List Worker) (k : ℕ)
      → move_under (chain a b c d (is_idle (worker_of own k)) f (work_fits stood (worker_of own k) log))
      (worker_of own k) (position_by numbers (worker_of own k).transaction)
      ≡ move_under (chain a b c d (is_idle (get_or own k no_worker)) f (work_fits stood (get_or own k no_worker) log))
      (get_or own k no_worker) (position_by numbers (get_or own k no_worker).transaction)
  same_worker true b c d f [] k = refl
  same_worker false true c d f [] k = refl
  same_worker false false true d f [] k = refl
  same_worker false false false true f [] k = refl
  same_worker false false false false f [] k = refl
  same_worker a b c d f (worker ∷ own) zero = refl
  same_worker a b c d f (worker ∷ own) (suc k) = same_worker a b c d f own k

  same_transaction : (own : List Worker) (k : ℕ)
      → (worker_of own k).transaction ≡ (get_or own k no_worker).transaction
  same_transaction [] k = refl
  same_transaction (worker ∷ own) zero = refl
  same_transaction (worker ∷ own) (suc k) = same_transaction own k

  same_position : (a b c d e f : Bool) → out_of_range stood ≡ b → leb numbers.workers w ≡ d → is_idle mine ≡ e
      → move_under (chain a b c d e f (work_fits stood mine log)) mine (position_by numbers mine.transaction)
      ≡ move_under (chain a b c d e f (work_fits stood mine log)) mine (position_of stood mine.transaction)
  same_position true b c d e f inside there busy = refl
  same_position false true c d e f inside there busy = refl
  same_position false false true d e f inside there busy = refl
  same_position false false false true e f inside there busy = refl
  same_position false false false false true f inside there busy = refl
  same_position false false false false false true inside there busy = refl
  same_position false false false false false false inside there busy =
      ap (move_under (work_fits stood mine log) mine) (placed_at inside there busy)

  abbrev turn : Result Move Refused
  turn =
      turn_with rows crew numbers w log records newest versions (length results)

  turn_same : turn ≡ decided stood w log records newest versions results
  unfolding advance_verdict turn_with not_running
  turn_same =
      let tables = wrong_for_advance stood (length records) (length newest) (length versions) (length results) in
      let bytes = not_of (length log) (88 * numbers.size) in
      same_worker tables (out_of_range stood) (not_running stood) (leb numbers.workers w) bytes crew w
      ∙ same_position tables (out_of_range stood) (not_running stood) (leb numbers.workers w) (is_idle mine) bytes
      refl refl refl

  pub advanced_answer : answered turn ≡ (advance_of stood w log records newest versions results).stepped.answer
  advanced_answer = ap answered turn_same ∙ advance_answer stood w log records newest versions results

  pub advanced_rows : rows_by turn rows (worker_of crew w).transaction
      ≡ (advance_of stood w log records newest versions results).stepped.state.rows
  advanced_rows =
      rw (turn_same, same_transaction crew w) (advance_rows stood w log records newest versions results)

  pub advanced_crew : crew_by turn crew w ≡ (advance_of stood w log records newest versions results).stepped.state.crew
  advanced_crew = rw turn_same (advance_crew stood w log records newest versions results)

  pub advanced_versions : versions_by turn versions ≡ (advance_of stood w log records newest versions results).versions
  advanced_versions = rw turn_same (advance_versions stood w log records newest versions results)

  pub advanced_results : results_by turn results (worker_of crew w).transaction
      ≡ (advance_of stood w log records newest versions results).results
  advanced_results =
      rw (turn_same, same_transaction crew w) (advance_results stood w log records newest versions results)
