-- "Advance, worker w. One of: read the next declared read; with none left, decide; carry the next carried write; fill
-- the next write."
use Rattle.std.specs.Prelude.{ℕ, ◌+◌, ◌*◌, Bool, ◌||◌, cond, List, Option, Some, None, Result, Ok, Err}
use Rattle.std.specs.Prelude.{[], ◌∷◌, ltb, leb, eqb, length, get_or, set}
use Rattle.terms.specs.Refusals.{refuse_if, refused_at, Verdict}
use Rattle.terms.specs.declared.position.Position.{Position}
use Rattle.terms.specs.declared.refusal.Refusal.TheVariants.{
  WrongParameter,
  WrongLength,
  WrongMoment,
  NoSuchParty,
  WorkerBusyOrIdle,
  StateOutOfRange,
  BrokenTables,
}
use Rattle.terms.specs.declared.refusal.Refused.{Refused}
use Rattle.packed.specs.Unpacking.{unpack_at_of}
use Rattle.packed.specs.declared.Transaction.{Transaction}
use Rattle.counters.specs.Deciding.{decide_of}
use Rattle.counters.specs.declared.Decision.{Decision}
use Rattle.counters.specs.declared.Outcome.{Outcome}
use Rattle.versions.specs.Chain.{walk_of}
use Rattle.versions.specs.Step.{fill_of}
use Rattle.versions.specs.declared.Version.{Version}
use Rattle.versions.specs.declared.chain.Walked.{Walked}
use Rattle.versions.specs.declared.chain.Walked.TheVariants.{Stored, Found, Broken}
use Rattle.versions.specs.declared.plan.Fill.{Fill as FillPlan}
use Rattle.engine.specs.Acts.{unfit, act_of}
use Rattle.engine.specs.Answers.{refuse_by, and_then}
use Rattle.engine.specs.Moment.{not_running}
use Rattle.engine.specs.Place.{meaning_at, slot_of, position_of, write_of}
use Rattle.engine.specs.Range.{worker_at, out_of_range}
use Rattle.engine.specs.Rows.{row}
use Rattle.engine.specs.States.{with_row, with_worker}
use Rattle.engine.specs.Tables.{not_of, newest_of}
use Rattle.engine.specs.Workers.{is_idle, idle_worker, one_more, with_value, count_in, with_decision, with_carry}
use Rattle.engine.specs.Workers.{with_phase}
use Rattle.engine.specs.declared.Answer.{Answer}
use Rattle.engine.specs.declared.Answer.TheVariants.{Accepted, Waits}
use Rattle.engine.specs.declared.Phase.{Phase}
use Rattle.engine.specs.declared.Phase.TheVariants.{Idle, Reading, Decided}
use Rattle.engine.specs.declared.Progress.TheVariants.{Unprocessed, Complete}
use Rattle.engine.specs.declared.Row.{Row}
use Rattle.engine.specs.declared.State.{State}
use Rattle.engine.specs.declared.Stepped.{Stepped}
use Rattle.engine.specs.declared.Worker.{Worker}
use Rattle.engine.specs.declared.acts.Act.{Act}
use Rattle.engine.specs.declared.acts.Act.TheVariants.{Read, Decide, Carry, Fill}
use Rattle.engine.specs.declared.moves.Move.{Move}
use Rattle.engine.specs.declared.moves.Seen.{Seen}
use Rattle.engine.specs.declared.moves.Seen.TheVariants.{Contents, NotYet, Unsound}

-- what an advance hands back
pub record Advanced : Type 0 where
  pub stepped : Stepped
  pub versions : List Version
  pub results : List ℕ

-- ---- the checks

-- 1, for the tables that an advance is lent
abbrev pub wrong_for_advance : State → ℕ → ℕ → ℕ → ℕ → Bool
wrong_for_advance s records newest versions results =
    not_of records s.records || not_of newest s.records || not_of versions 256 || not_of results 256

-- what is left to check of a worker and its transaction
abbrev pub work_fits : State → Worker → List ℕ → Verdict
work_fits s worker log =
    -- 4 to 8
    and_then (unpack_at_of s.records log worker.transaction).verdict
    -- 15
    (refuse_if (unfit worker (meaning_at s log worker.transaction)) BrokenTables 0 (Ok tt))

-- "Steps check 1, 14, 9, 10, .. 12, .. then, in place and advance, 2 and the one transaction's 4 to 8, then 15."
unfoldable pub advance_verdict : State → ℕ → List ℕ → ℕ → ℕ → ℕ → ℕ → Verdict
advance_verdict s w log records newest versions results =
    -- 1
    refuse_if (wrong_for_advance s records newest versions results) WrongParameter 0
    -- 14
    (refuse_if (out_of_range s) StateOutOfRange 0
    -- 9
    (refuse_if (not_running s) WrongMoment 0
    -- 10
    (refuse_if (leb s.workers w) NoSuchParty 0
    -- 12: "advance by an idle one"
    (refuse_if (is_idle (worker_at s w)) WorkerBusyOrIdle 0
    -- 2: "length not 88n"
    (refuse_if (not_of (length log) (88 * s.size)) WrongLength 0
    -- 4 to 8, 15
    (work_fits s (worker_at s w) log))))))

-- ---- a look at a record

-- "past the last one lies the stored record"; "If it is not produced, the answer is 'waits for' its begin"
abbrev pub seen_of : Walked → ℕ → Seen
seen_of Stored stored = Contents stored
seen_of (Found version) stored = cond version.produced (Contents version.contents) (NotYet version.begin)
seen_of Broken stored = Unsound

-- "A read or carry at position t walks from the newest slot back to the first version with begin < t"
abbrev pub look_of : State → ℕ → List ℕ → List ℕ → List Version → ℕ → Seen
look_of s i records newest versions r =
    seen_of (walk_of versions (newest_of newest r) (4 * s.size) (position_of s i)) (get_or records r 0)

-- ---- what a step changes

-- what a step waits for, the worker as it goes on, where it leaves its transaction how that stands then, and where that
-- is complete its results; no entry is filled
abbrev pub unfilled : Option Position → Worker → Option Row → Option (List ℕ) → Move
unfilled waits worker left results =
    record { waits = waits; worker = worker; left = left; fill = None; results = results }

-- nothing changes but the worker
abbrev pub goes_on : Worker → Move
goes_on worker = unfilled None worker None None

-- 15: nothing changes
abbrev pub breaks : Result Move Refused
breaks = Err (refused_at BrokenTables 0)

-- "the worker drops all it read and becomes idle, the transaction becomes Unprocessed"
abbrev pub waits_for : ℕ → Move
waits_for position = unfilled (Some (record { 0 = position })) idle_worker (Some (row Unprocessed)) None

-- value k of so many read, and 0 past them
abbrev pub value_or : List ℕ → ℕ → ℕ → ℕ
value_or values count k = cond (ltb k count) (get_or values k 0) 0

-- "the values read, then zeros"
abbrev pub results_of : List ℕ → ℕ → List ℕ
results_of values count =
    value_or values count 0 ∷ value_or values count 1 ∷ value_or values count 2 ∷ value_or values count 3 ∷ []

-- "completes the transaction: four result numbers at 4i are the values read, then zeros, and the worker becomes idle"
abbrev pub completed : Outcome → List ℕ → ℕ → Move
completed outcome values count =
    unfilled None idle_worker (Some (row (Complete outcome))) (Some (results_of values count))

-- "Filling stores contents and marks produced."
abbrev pub with_fill : Move → ℕ → ℕ → Move
with_fill move slot contents =
    record {
      waits = move.waits;
      worker = move.worker;
      left = move.left;
      fill = Some (record { slot = slot; contents = contents });
      results = move.results;
    }

-- ---- the four acts

abbrev pub reads : Worker → ℕ → Seen → Result Move Refused
reads worker k (Contents contents) = Ok (goes_on (with_value worker k contents))
reads worker k (NotYet position) = Ok (waits_for position)
reads worker k Unsound = breaks

-- "Deciding runs the actions on the values read"; "the decision when there are no writes, completes the transaction"
abbrev pub decides_by : Worker → ℕ → Decision → Move
decides_by worker writecount decision =
    cond (eqb writecount 0)
    (completed decision.outcome worker.values (count_in worker.phase))
    (goes_on (with_decision worker decision))

abbrev pub decides : Worker → Transaction → Move
decides worker t = decides_by worker t.writecount (decide_of t worker.values)

abbrev pub carries : Worker → ℕ → Seen → Result Move Refused
carries worker j (Contents contents) = Ok (goes_on (with_carry worker j contents))
carries worker j (NotYet position) = Ok (waits_for position)
carries worker j Unsound = breaks

-- "The last fill .. completes the transaction"
abbrev pub after_fill : Worker → Outcome → ℕ → ℕ → ℕ → ℕ → Move
after_fill worker outcome count carries j writecount =
    cond (leb writecount (one_more j))
    (completed outcome worker.values count)
    (goes_on (with_phase worker (Decided outcome count carries (one_more j))))

-- only a decided worker fills
abbrev pub fills_in : Phase → Worker → ℕ → ℕ → Result Move Refused
fills_in Idle worker writecount j = breaks
fills_in (Reading values) worker writecount j = breaks
fills_in (Decided outcome values carries fills) worker writecount j =
    Ok (with_fill
    (after_fill worker outcome values carries j writecount)
    (slot_of worker.transaction j)
    (get_or worker.contents j 0))

-- what an act changes, where a look at a record shows what it shows
abbrev pub move_by : Act → Worker → Transaction → (ℕ → Seen) → Result Move Refused
move_by (Read k) worker t look = reads worker k (look (get_or t.reads k 0))
move_by Decide worker t look = Ok (decides worker t)
move_by (Carry j) worker t look = carries worker j (look (write_of t j))
move_by (Fill j) worker t look = fills_in worker.phase worker t.writecount j

abbrev pub move_of : State → Worker → List ℕ → List ℕ → List ℕ → List Version → Result Move Refused
move_of s worker log records newest versions =
    move_by (act_of worker (meaning_at s log worker.transaction)) worker (meaning_at s log worker.transaction)
    (look_of s worker.transaction records newest versions)

-- ---- the change made

-- the transaction as the worker leaves it, where it does
abbrev pub with_left : State → ℕ → Option Row → State
with_left s i None = s
with_left s i (Some left) = with_row s i left

abbrev pub moved_state : State → ℕ → ℕ → Move → State
moved_state s w i move = with_worker (with_left s i move.left) w move.worker

-- "A wait is an accepted step."
abbrev pub answer_of : Option Position → Answer
answer_of None = Accepted
answer_of (Some position) = Waits position

abbrev pub with_filled : List Version → Option FillPlan → List Version
with_filled versions None = versions
with_filled versions (Some fill) = fill_of versions fill

abbrev pub put_four : List ℕ → ℕ → List ℕ → List ℕ
put_four results at values =
    set (set (set (set results at (get_or values 0 0)) (at + 1) (get_or values 1 0)) (at + 2) (get_or values 2 0))
    (at + 3)
    (get_or values 3 0)

abbrev pub with_results : List ℕ → ℕ → Option (List ℕ) → List ℕ
with_results results at None = results
with_results results at (Some values) = put_four results at values

-- "State and all tables keep their contents."
abbrev pub kept : Refused → State → List Version → List ℕ → Advanced
kept why s versions results =
    record { stepped = refuse_by s why.refusal why.place; versions = versions; results = results }

abbrev pub carried_out : Result Move Refused → State → ℕ → ℕ → List Version → List ℕ → Advanced
carried_out (Ok move) s w i versions results =
    record {
      stepped = record { answer = answer_of move.waits; state = moved_state s w i move };
      versions = with_filled versions move.fill;
      results = with_results results (4 * i) move.results;
    }
carried_out (Err why) s w i versions results = kept why s versions results

abbrev pub advanced_when : Verdict → State → ℕ → List ℕ → List ℕ → List ℕ → List Version → List ℕ → Advanced
advanced_when (Ok _) s w log records newest versions results =
    carried_out (move_of s (worker_at s w) log records newest versions) s w (worker_at s w).transaction versions results
advanced_when (Err why) s w log records newest versions results = kept why s versions results

unfoldable pub advance_of : State → ℕ → List ℕ → List ℕ → List ℕ → List Version → List ℕ → Advanced
advance_of s w log records newest versions results =
    advanced_when
    (advance_verdict s w log (length records) (length newest) (length versions) (length results))
    s
    w
    log
    records
    newest
    versions
    results
