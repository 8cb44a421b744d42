-- Laws of advancing: the way that the code goes.
use Rattle.std.specs.Prelude.{ℕ, zero, suc, ◌+◌, ◌*◌, List, Option, Some, None, Result, Ok, Err}
use Rattle.std.specs.Prelude.{◌≡◌, refl, length, get_or, set}
use Rattle.std.proofs.Common.{ap, ◌∙◌}
use Rattle.terms.specs.Refusals.{Verdict}
use Rattle.terms.specs.declared.refusal.Refused.{Refused}
use Rattle.versions.specs.Chain.{walk_of}
use Rattle.versions.specs.declared.Version.{Version}
use Rattle.engine.specs.Acts.{act_of}
use Rattle.engine.specs.Advance.{Advanced, advance_verdict, seen_of, move_by, with_left, answer_of}
use Rattle.engine.specs.Advance.{with_filled, with_results, carried_out, advanced_when, advance_of}
use Rattle.engine.specs.Lent.{joined, numbers_of}
use Rattle.engine.specs.Place.{meaning_at, position_of}
use Rattle.engine.specs.Range.{worker_at}
use Rattle.engine.specs.States.{with_worker}
use Rattle.engine.specs.Tables.{newest_of}
use Rattle.engine.specs.declared.Answer.{Answer}
use Rattle.engine.specs.declared.Answer.TheVariants.{Refused as RefusedBy}
use Rattle.engine.specs.declared.Row.{Row}
use Rattle.engine.specs.declared.State.{State}
use Rattle.engine.specs.declared.Stepped.{Stepped}
use Rattle.engine.specs.declared.Worker.{Worker}
use Rattle.engine.specs.declared.advance.Aim.{Aim}
use Rattle.engine.specs.declared.moves.Move.{Move}
use Rattle.engine.specs.declared.moves.Seen.{Seen}

-- ---- what an advance aims at, and what it changes
abbrev pub aim_at : State → Worker → List ℕ → ℕ → Aim
aim_at s worker log position =
    record {
      worker = worker;
      meaning = meaning_at s log worker.transaction;
      bound = 4 * s.size;
      position = position;
    }

-- what a look at a record shows
abbrev pub looked_by : Aim → List ℕ → List ℕ → List Version → ℕ → Seen
looked_by aim records newest versions r =
    seen_of (walk_of versions (newest_of newest r) aim.bound aim.position) (get_or records r 0)

abbrev pub move_at : Aim → List ℕ → List ℕ → List Version → Result Move Refused
move_at aim records newest versions =
    move_by (act_of aim.worker aim.meaning) aim.worker aim.meaning (looked_by aim records newest versions)

-- the aim where no check refuses, and what the advance changes then
abbrev pub aim_when : Verdict → Aim → Result Aim Refused
aim_when (Ok _) aim = Ok aim
aim_when (Err why) aim = Err why

abbrev pub move_when : Result Aim Refused → List ℕ → List ℕ → List Version → Result Move Refused
move_when (Ok aim) records newest versions = move_at aim records newest versions
move_when (Err why) records newest versions = Err why

-- ---- the change made
abbrev pub answered : Result Move Refused → Answer
answered (Ok move) = answer_of move.waits
answered (Err why) = RefusedBy why.refusal why.place

abbrev pub row_left : List Row → ℕ → Option Row → List Row
row_left rows i None = rows
row_left rows i (Some row) = set rows i row

abbrev pub rows_by : Result Move Refused → List Row → ℕ → List Row
rows_by (Ok move) rows i = row_left rows i move.left
rows_by (Err why) rows i = rows

abbrev pub crew_by : Result Move Refused → List Worker → ℕ → List Worker
crew_by (Ok move) crew w = set crew w move.worker
crew_by (Err why) crew w = crew

abbrev pub versions_by : Result Move Refused → List Version → List Version
versions_by (Ok move) versions = with_filled versions move.fill
versions_by (Err why) versions = versions

abbrev pub results_by : Result Move Refused → List ℕ → ℕ → List ℕ
results_by (Ok move) results i = with_results results (4 * i) move.results
results_by (Err why) results i = results

-- so many of the four result numbers put
abbrev pub put_some : List ℕ → ℕ → List ℕ → ℕ → List ℕ
put_some results at values zero = results
put_some results at values (suc k) = set (put_some results at values k) (at + k) (get_or values k 0)

-- ---- that is the definition
module _ (s : State) (w : ℕ) (log records newest : List ℕ) (versions : List Version) (results : List ℕ) where
  abbrev mine : Worker
  mine = worker_at s w

  abbrev advanced : Advanced
  advanced = advance_of s w log records newest versions results

  -- what the worker's advance changes, under a verdict
  abbrev move_under : Verdict → Result Move Refused
  move_under v =
      move_when (aim_when v (aim_at s mine log (position_of s mine.transaction))) records newest versions

  abbrev pub decided : Result Move Refused
  decided =
      move_under (advance_verdict s w log (length records) (length newest) (length versions) (length results))

  abbrev whole : Result Move Refused → Advanced
  whole move = carried_out move s w mine.transaction versions results

  decided_is : whole decided ≡ advanced
  unfolding advance_of
  decided_is = go (advance_verdict s w log (length records) (length newest) (length versions) (length results))
    where
      go : (v : Verdict) → whole (move_under v) ≡ advanced_when v s w log records newest versions results
      go (Ok tt) = refl
      go (Err why) = refl

  pub advance_answer : answered decided ≡ advanced.stepped.answer
  advance_answer = go decided ∙ ap (λ z. z.stepped.answer) decided_is
    where
      go : (move : Result Move Refused) → answered move ≡ (whole move).stepped.answer
      go (Ok move) = refl
      go (Err why) = refl

  pub advance_rows : rows_by decided s.rows mine.transaction ≡ advanced.stepped.state.rows
  advance_rows = go decided ∙ ap (λ z. z.stepped.state.rows) decided_is
    where
      left : (row : Option Row) (i : ℕ) → row_left s.rows i row ≡ (with_left s i row).rows
      left None i = refl
      left (Some row) i = refl

      go : (move : Result Move Refused) → rows_by move s.rows mine.transaction ≡ (whole move).stepped.state.rows
      go (Ok move) = left move.left mine.transaction
      go (Err why) = refl

  pub advance_crew : crew_by decided s.crew w ≡ advanced.stepped.state.crew
  advance_crew = go decided ∙ ap (λ z. z.stepped.state.crew) decided_is
    where
      left : (row : Option Row) (i : ℕ) → s.crew ≡ (with_left s i row).crew
      left None i = refl
      left (Some row) i = refl

      go : (move : Result Move Refused) → crew_by move s.crew w ≡ (whole move).stepped.state.crew
      go (Ok move) = ap (λ own. set own w move.worker) (left move.left mine.transaction)
      go (Err why) = refl

  pub advance_versions : versions_by decided versions ≡ advanced.versions
  advance_versions = go decided ∙ ap (λ z. z.versions) decided_is
    where
      go : (move : Result Move Refused) → versions_by move versions ≡ (whole move).versions
      go (Ok move) = refl
      go (Err why) = refl

  pub advance_results : results_by decided results mine.transaction ≡ advanced.results
  advance_results = go decided ∙ ap (λ z. z.results) decided_is
    where
      go : (move : Result Move Refused) → results_by move results mine.transaction ≡ (whole move).results
      go (Ok move) = refl
      go (Err why) = refl

  -- the state is its numbers, joined with the transactions and the workers as the advance leaves them
  abbrev put_together : Answer → List Row → List Worker → Stepped
  put_together answer rows crew = record { answer = answer; state = joined (numbers_of s) rows crew }

  pub advance_joined : (answer : Answer) (rows : List Row) (crew : List Worker) → answer ≡ advanced.stepped.answer
      → rows ≡ advanced.stepped.state.rows → crew ≡ advanced.stepped.state.crew
      → put_together answer rows crew ≡ advanced.stepped
  advance_joined answer rows crew answer_is rows_are crew_are =
      rw (answer_is, rows_are, crew_are, ← decided_is) (go decided)
    where
      again : Stepped → Stepped
      again z = put_together z.answer z.state.rows z.state.crew

      left : (row : Option Row) (i : ℕ) (worker : Worker) (answer : Answer)
          → again (record { answer = answer; state = with_worker (with_left s i row) w worker })
          ≡ record { answer = answer; state = with_worker (with_left s i row) w worker }
      left None i worker answer = refl
      left (Some row) i worker answer = refl

      go : (move : Result Move Refused) → again (whole move).stepped ≡ (whole move).stepped
      go (Ok move) = left move.left mine.transaction move.worker (answer_of move.waits)
      go (Err why) = refl

  -- what is decided is the definition's: its answer, and the numbers as they were, joined with the transactions and the
  -- workers that it leaves
  pub advance_stepped : record {
    answer = answered decided;
    state = joined (numbers_of s) (rows_by decided s.rows mine.transaction) (crew_by decided s.crew w);
  }
      ≡ advanced.stepped
  advance_stepped =
      advance_joined (answered decided) (rows_by decided s.rows mine.transaction) (crew_by decided s.crew w)
      advance_answer advance_rows advance_crew
