-- Demand 3 of a batch that is run from C: whatever the steps are, if the run tells that the batch was sealed, then the
-- records, the results and the outcomes are, as whole lists, those of running the log's transactions one by one on the
-- records that were handed in.
--
-- The hypotheses are what the call hands back: its number is 0, and its fourth count is 1. Nothing is asked of the
-- arguments.
use Rattle.std.specs.Prelude.{ℕ, ◌≤◌, Bool, true, false, ◌||◌, cond, List, Ok, Err}
use Rattle.std.specs.Prelude.{map, ◌≡◌, refl, eqb, length, get_or, take, replicate}
use Rattle.std.proofs.Common.{sym, ap, ◌∙◌, arith, eq-eqb, eqb-true}
use Rattle.std.proofs.Math.Path.{subst}
use Rattle.std.proofs.lemmas.Bool.{eqb-false, not-false}
use Rattle.terms.specs.Refusals.{verdict_number, Verdict}
use Rattle.versions.specs.Entry.{empty_entry}
use Rattle.versions.specs.declared.Version.{Version}
use Rattle.engine.specs.Answers.{answer_number}
use Rattle.engine.specs.LawsRefused.{never}
use Rattle.engine.specs.Make.{make_of}
use Rattle.engine.specs.Open.{open_verdict, opened_by, open_of, entries_in}
use Rattle.engine.specs.Running.{Engine, opening}
use Rattle.engine.specs.States.{unopened}
use Rattle.engine.specs.Tables.{not_of}
use Rattle.engine.specs.declared.Answer.{Answer}
use Rattle.engine.specs.declared.Made.{Made}
use Rattle.engine.specs.declared.State.{State}
use Rattle.desk.specs.Counts.{begun}
use Rattle.desk.specs.Offer.{Session, session_of}
use Rattle.desk.specs.Steps.{whole_steps}
use Rattle.desk.specs.declared.Tally.{Tally}
use Rattle.counters.specs.OneByOne.{Ran, one_by_one}
use Rattle.ordered.proofs.Meanings.{meanings_length}
use Rattle.ordered.proofs.Opening.{opens}
use Rattle.ordered.specs.Promise.{AsOneByOne, meanings_from, ran_one_by_one, complete_row, results_for}
use Rattle.ordered.proofs.Theorem.{safety}
use Rattle.capi.specs.Lent.{wrong_lent, slots_of}
use Rattle.capi.specs.Report.{outcomes_of, counts_of, sealed_number}
use Rattle.capi.specs.Running.{Returned, offered_bytes, batch_of, opening_number, made_ran, keeps, after_making, ran_of}
use Rattle.promised.specs.LawsMade.{positive, accepts, made_fresh, eight_placed, as_many}
use Rattle.promised.specs.LawsSessions.{all_engine, all_sealed}
use Rattle.promised.specs.LawsTold.{counts_are, as_many_outcomes, outcomes_read}
use Rattle.promised.specs.Sessions.{engine_of, offers_up_to}
use Rattle.promised.specs.Told.{outcome_number}

module _ (s : State) (log steps records results : List ℕ) where
  abbrev start : Engine
  start =
      record {
        state = s;
        records = records;
        newest = slots_of (length records);
        versions = replicate 256 empty_entry;
        results = results;
      }

  -- the session that a run ends in
  abbrev last : Session
  last = batch_of s log steps records (slots_of (length records)) (replicate 256 empty_entry) results

  as_one_by_one : length s.placed ≡ 8
      → opening_number s log (slots_of (length records)) (replicate 256 empty_entry) results ≡ 0
      → last.tally.sealed ≡ true → AsOneByOne s log records (engine_of last)
  unfolding opening
  as_one_by_one eight none is =
      subst (AsOneByOne s log records) (sym (all_engine steps log first count))
      (safety log start eight (accepts (opened_answer) none) (offers_up_to steps count)
      (all_sealed steps log first count is))
    where
      opened_answer : Answer
      opened_answer =
          (open_of s log (slots_of (length records)) (replicate 256 empty_entry) results).stepped.answer

      first : Session
      first =
          let o = open_of s log (slots_of (length records)) (replicate 256 empty_entry) results in
          session_of (begun o.stepped.state) records o.newest o.versions o.results

      count : ℕ
      count = whole_steps (length steps) (offered_bytes opened_answer (length steps))

-- a batch that was opened has at most 64 transactions
few_entries : (s : State) (log newest results : List ℕ) (versions : List Version)
    → opening_number s log newest versions results ≡ 0 → entries_in log ≤ 64
unfolding open_of
few_entries s log newest results versions = go (open_verdict s log (length newest) (length versions) (length results))
    refl
  where
    go : (verdict : Verdict) → open_verdict s log (length newest) (length versions) (length results) ≡ verdict
        → answer_number (opened_by verdict s log newest versions results).stepped.answer ≡ 0 → entries_in log ≤ 64
    go (Ok tt) is none = (opens s log (length newest) (length versions) (length results) is).few_entries
    go (Err why) is none = absurd (omega (arith, none, positive why.refusal))

-- the lengths that a run asks for
each_right : (a b c : Bool) → (a || b || c) ≡ false → (b ≡ false) × (c ≡ false)
each_right true b c is = never (sym is)
each_right false true c is = never (sym is)
each_right false false c is = (refl, is)

right_length : (size right : ℕ) → not_of size right ≡ false → size ≡ right
right_length size right is = eqb-true size right (not-false (eqb size right) is)

-- the fourth count tells whether the batch was sealed
fourth_count : (tally : Tally) (counts : List ℕ) → length counts ≡ 4 → get_or (counts_of tally counts) 3 0 ≡ 1
    → tally.sealed ≡ true
fourth_count tally counts four one =
    sealed tally.sealed (sym (ap (λ (l : List ℕ). get_or l 3 0) (counts_are tally counts four)) ∙ one)
  where
    sealed : (is : Bool) → sealed_number is ≡ 1 → is ≡ true
    sealed true told = refl
    sealed false told = absurd (omega (arith, told))

module _ (p w first : ℕ) (log steps records results outcomes counts : List ℕ) where
  -- the store as it is made
  abbrev pub fresh : State
  fresh = unopened (length records) p w first

  -- the log's transactions run one by one on the records that were handed in
  abbrev pub run : Ran
  run = one_by_one (meanings_from (length records) log (entries_in log) 0) records

  ran_made : (ran_of p w first log steps records results outcomes counts).number ≡ 0
      → (ran_of p w first log steps records results outcomes counts
      ≡ made_ran fresh log steps records results outcomes counts)
      × ((length outcomes ≡ 64) × (length counts ≡ 4))
  ran_made = go (wrong_lent (length results) (length outcomes) (length counts)) refl
    where
      made : Made
      made = make_of (length records) p w first

      making : (right : Bool) → eqb (verdict_number made.verdict) 0 ≡ right
          → (cond right (made_ran made.state log steps records results outcomes counts)
          (keeps (verdict_number made.verdict) records results outcomes counts)).number ≡ 0
          → cond right (made_ran made.state log steps records results outcomes counts)
          (keeps (verdict_number made.verdict) records results outcomes counts)
          ≡ made_ran fresh log steps records results outcomes counts
      making true is none =
          ap (λ (s : State). made_ran s log steps records results outcomes counts)
          (made_fresh (length records) p w first (eqb-true _ 0 is))
      making false is none = absurd (eqb-false _ 0 is none)

      go : (wrong : Bool) → wrong_lent (length results) (length outcomes) (length counts) ≡ wrong
          → (cond wrong (keeps 1 records results outcomes counts)
          (after_making made log steps records results outcomes counts)).number ≡ 0
          → (cond wrong (keeps 1 records results outcomes counts)
          (after_making made log steps records results outcomes counts)
          ≡ made_ran fresh log steps records results outcomes counts)
          × ((length outcomes ≡ 64) × (length counts ≡ 4))
      go true is none = absurd (omega (arith, none))
      go false is none =
          let right = each_right (not_of (length results) 256) (not_of (length outcomes) 64)
          (not_of (length counts) 4) is
          in (
            making (eqb (verdict_number made.verdict) 0) refl none,
            (right_length (length outcomes) 64 right.0, right_length (length counts) 4 right.1),
          )

  module _ (opened : (ran_of p w first log steps records results outcomes counts).number ≡ 0)
      (sealed : get_or (ran_of p w first log steps records results outcomes counts).counts 3 0 ≡ 1) where
    made : ran_of p w first log steps records results outcomes counts
        ≡ made_ran fresh log steps records results outcomes counts
    made = (ran_made opened).0

    none : opening_number fresh log (slots_of (length records)) (replicate 256 empty_entry) results ≡ 0
    none = sym (ap (λ (x : Returned). x.number) made) ∙ opened

    told : (made_ran fresh log steps records results outcomes counts).counts
        ≡ counts_of (last fresh log steps records results).tally counts
    told =
        ap (λ (b : Bool). cond b (counts_of (last fresh log steps records results).tally counts) counts)
        (eq-eqb _ 0 none)

    was_sealed : (last fresh log steps records results).tally.sealed ≡ true
    was_sealed =
        fourth_count (last fresh log steps records results).tally counts (ran_made opened).1.1
        (sym (ap (λ (l : List ℕ). get_or l 3 0) (ap (λ (x : Returned). x.counts) made ∙ told)) ∙ sealed)

    -- the engine at the end, its rows' outcomes among it
    pub engine_as_run : AsOneByOne fresh log records (engine_of (last fresh log steps records results))
    engine_as_run =
        as_one_by_one fresh log steps records results (eight_placed (length records) p w first) none was_sealed

    same_run : ran_one_by_one fresh log records ≡ run
    same_run =
        ap (λ (n : ℕ). one_by_one (meanings_from n log (entries_in log) 0) records)
        (as_many (length records) p w first)

    -- the caller's records and results
    pub records_as_run : (ran_of p w first log steps records results outcomes counts).records ≡ run.records
    records_as_run =
        ap (λ (x : Returned). x.records) made
        ∙ (engine_as_run.records_held ∙ ap (λ (r : Ran). r.records) same_run)

    pub results_as_run : (ran_of p w first log steps records results outcomes counts).results
        ≡ results_for 64 run.values_read
    results_as_run =
        ap (λ (x : Returned). x.results) made
        ∙ (engine_as_run.reads ∙ ap (λ (r : Ran). results_for 64 r.values_read) same_run)

    told_outcomes_lem : (made_ran fresh log steps records results outcomes counts).outcomes
        ≡ outcomes_of (last fresh log steps records results).tally.state outcomes
    told_outcomes_lem =
        ap (λ (b : Bool).
        cond b (outcomes_of (last fresh log steps records results).tally.state outcomes) outcomes)
        (eq-eqb _ 0 none)

    -- "what became of each transaction": the first n of the caller's outcomes, 1 for committed and 2 for aborted
    pub outcomes_as_run : take (entries_in log) (ran_of p w first log steps records results outcomes counts).outcomes
        ≡ map outcome_number run.outcomes
    outcomes_as_run =
        ap (λ (l : List ℕ). take (entries_in log) l) (ap (λ (x : Returned). x.outcomes) made ∙ told_outcomes_lem)
        ∙ outcomes_read (last fresh log steps records results).tally.state outcomes (entries_in log) run.outcomes
        (few_entries fresh log (slots_of (length records)) results (replicate 256 empty_entry) none)
        (ran_made opened).1.0
        (as_many_outcomes (meanings_from (length records) log (entries_in log) 0) records
        ∙ meanings_length (length records) log (entries_in log) 0)
        (engine_as_run.outcomes ∙ ap (λ (r : Ran). map complete_row r.outcomes) same_run)
