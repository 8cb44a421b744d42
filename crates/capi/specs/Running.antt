-- A whole batch from memory: making a store, opening the batch, offering every step, telling what came of it.
use Rattle.std.specs.Prelude.{ℕ, cond, List, eqb, length, replicate}
use Rattle.terms.specs.Refusals.{verdict_number}
use Rattle.versions.specs.Entry.{empty_entry}
use Rattle.versions.specs.declared.Version.{Version}
use Rattle.engine.specs.Answers.{answer_number, is_refused}
use Rattle.engine.specs.Make.{make_of}
use Rattle.engine.specs.Open.{open_of, Opened}
use Rattle.engine.specs.declared.Answer.{Answer}
use Rattle.engine.specs.declared.Made.{Made}
use Rattle.engine.specs.declared.State.{State}
use Rattle.engine.specs.declared.Stepped.{Stepped}
use Rattle.desk.specs.Counts.{begun}
use Rattle.desk.specs.Offer.{Session, session_of, run_of}
use Rattle.capi.specs.Lent.{wrong_lent, slots_of}
use Rattle.capi.specs.Report.{told_outcomes, told_counts}

-- what a run hands back: the number, and what each array of the caller holds then
pub record Returned : Type 0 where
  pub number : ℕ
  pub records : List ℕ
  pub results : List ℕ
  pub outcomes : List ℕ
  pub counts : List ℕ

-- how many bytes of the steps are offered: all of them, and none after a refused opening
abbrev pub offered_bytes : Answer → ℕ → ℕ
offered_bytes answer bytes = cond (is_refused answer) 0 bytes

-- an opening is answered, and the steps are offered
abbrev pub after_opening : Stepped → List ℕ → List ℕ → List ℕ → List ℕ → List Version → List ℕ → Session
after_opening stepped log steps records newest versions results =
    run_of steps (offered_bytes stepped.answer (length steps)) log
    (session_of (begun stepped.state) records newest versions results)

abbrev pub after_opened : Opened → List ℕ → List ℕ → List ℕ → Session
after_opened opened log steps records =
    after_opening opened.stepped log steps records opened.newest opened.versions opened.results

-- a batch from its opening to its last step
abbrev pub batch_of : State → List ℕ → List ℕ → List ℕ → List ℕ → List Version → List ℕ → Session
batch_of s log steps records newest versions results =
    after_opened (open_of s log newest versions results) log steps records

-- the number that the opening is refused with, 0 for none
abbrev pub opening_number : State → List ℕ → List ℕ → List Version → List ℕ → ℕ
opening_number s log newest versions results = answer_number (open_of s log newest versions results).stepped.answer

abbrev pub returned_by : ℕ → Session → List ℕ → List ℕ → Returned
returned_by number s outcomes counts =
    record {
      number = number;
      records = s.records;
      results = s.results;
      outcomes = told_outcomes number s.tally outcomes;
      counts = told_counts number s.tally counts;
    }

-- a store was made; its newest-version and version table are the run's own
abbrev pub made_ran : State → List ℕ → List ℕ → List ℕ → List ℕ → List ℕ → List ℕ → Returned
made_ran s log steps records results outcomes counts =
    returned_by (opening_number s log (slots_of (length records)) (replicate 256 empty_entry) results)
    (batch_of s log steps records (slots_of (length records)) (replicate 256 empty_entry) results) outcomes counts

-- "State and all tables keep their contents."
abbrev pub keeps : ℕ → List ℕ → List ℕ → List ℕ → List ℕ → Returned
keeps number records results outcomes counts =
    record { number = number; records = records; results = results; outcomes = outcomes; counts = counts }

abbrev pub after_making : Made → List ℕ → List ℕ → List ℕ → List ℕ → List ℕ → List ℕ → Returned
after_making made log steps records results outcomes counts =
    cond (eqb (verdict_number made.verdict) 0)
    (made_ran made.state log steps records results outcomes counts)
    (keeps (verdict_number made.verdict) records results outcomes counts)

-- P, W, the first position, the log and the steps; the records, the results, the outcomes and the counts
abbrev pub ran_of : ℕ → ℕ → ℕ → List ℕ → List ℕ → List ℕ → List ℕ → List ℕ → List ℕ → Returned
ran_of p w first log steps records results outcomes counts =
    cond (wrong_lent (length results) (length outcomes) (length counts))
    (keeps 1 records results outcomes counts)
    (after_making (make_of (length records) p w first) log steps records results outcomes counts)
