-- The program's run and the library's are one: the same store made, the same batch opened with tables that hold the
-- same, and the same steps offered.
use Rattle.std.specs.Prelude.{ℕ, zero, suc, ◌≤◌, Bool, true, false, ◌||◌, cond, Ok, Err}
use Rattle.std.specs.Prelude.{List, [], ◌∷◌, ◌≡◌, ltb, eqb, length, take, replicate}
use Rattle.std.proofs.Math.Path.{refl, sym, ap}
use Rattle.std.proofs.Common.{◌∙◌, arith, ltb-false, ne_eqb, length-append}
use Rattle.std.proofs.lemmas.List.{length-replicate}
use Rattle.terms.specs.Refusals.{number_of, Verdict}
use Rattle.terms.specs.Reserved.{no_slot}
use Rattle.packed.specs.LawsForm.{not_left, not_right}
use Rattle.versions.specs.Entry.{empty_entry}
use Rattle.versions.specs.declared.Version.{Version}
use Rattle.engine.specs.Answers.{answer_number}
use Rattle.engine.specs.Make.{wrong_parameter, made_if, make_of}
use Rattle.engine.specs.Open.{open_verdict, opened, opened_by, open_of, entries_in}
use Rattle.engine.specs.Running.{Engine, opening}
use Rattle.engine.specs.States.{unopened}
use Rattle.engine.specs.Tables.{none_newest, all_empty, all_zero}
use Rattle.engine.specs.declared.Made.{Made}
use Rattle.engine.specs.declared.State.{State}
use Rattle.desk.specs.Counts.{begun}
use Rattle.desk.specs.Offer.{Session, session_of, run_of}
use Rattle.desk.specs.Program.{number_at, numbers_of, printed}
use Rattle.desk.specs.Program as program
use Rattle.desk.specs.Steps.{whole_steps}
use Rattle.desk.specs.Text.{refused_line}
use Rattle.ordered.proofs.Opening.{opens}
use Rattle.ordered.proofs.Reached as reached
use Rattle.capi.specs.Lent.{wrong_lent, slots_of}
use Rattle.capi.specs.Running.{Returned, returned_by, after_opened, batch_of, opening_number, ran_of}
use Rattle.capi.specs.Running as library
use Rattle.promised.specs.LawsMade.{positive, eight_placed, as_many}
use Rattle.promised.specs.LawsSessions.{all_engine, all_sealed}
use Rattle.promised.specs.LawsTold.{printed_told}
use Rattle.promised.specs.Sessions.{engine_of, offers_up_to}
use Rattle.promised.specs.Told.{lines_of, text_of}

-- the numbers of a file are as many as are asked for
pub length_numbers : (stored : List ℕ) (count : ℕ) → length (numbers_of stored count) ≡ count
length_numbers stored zero = refl
length_numbers stored (suc count) =
    omega (
      arith,
      length-append (numbers_of stored count) (number_at stored count ∷ []),
      length_numbers stored count,
    )

-- the newest-version table of a run from C
take_replicate : {A : Type 0} (count most : ℕ) (a : A) → count ≤ most
    → take count (replicate most a) ≡ replicate count a
take_replicate zero most a within = refl
take_replicate (suc count) zero a within = absurd (omega (arith, within))
take_replicate (suc count) (suc most) a within =
    ap (λ (rest : List _). a ∷ rest) (take_replicate count most a (omega (arith, within)))

slots_are : (n : ℕ) → n ≤ 1024 → slots_of n ≡ replicate n no_slot
unfolding slots_of
slots_are n most =
    ap (λ (k : ℕ). take k (replicate 1024 no_slot)) (shorter (ltb n 1024) refl)
    ∙ take_replicate n 1024 no_slot most
  where
    shorter : (test : Bool) → ltb n 1024 ≡ test → cond test n 1024 ≡ n
    shorter true less = refl
    shorter false less = omega (arith, most, ltb-false n 1024 less)

-- a store is made of at most 1,024 records
few_records : (n p w start : ℕ) → wrong_parameter n p w start ≡ false → n ≤ 1024
few_records n p w start right =
    let parties = (ltb p 1 || ltb 8 p) in
    let crew = (ltb w 1 || ltb 8 w) in
    let records = ltb n 1 || ltb 1024 n in
    ltb-false 1024 n
    (not_right (ltb n 1) (ltb 1024 n)
    (not_left records parties
    (not_left (records || parties) crew (not_left (records || parties || crew) (eqb start 0) right))))

-- an opening is answered
module _ (s : State) (n : ℕ) (as_made : s.records ≡ n) (eight : length s.placed ≡ 8) (log steps records newest
    results outcomes counts : List ℕ) (lent : length results ≡ 256) (long : length outcomes ≡ 64) (four : length counts
    ≡ 4) where
  abbrev versions : List Version
  versions = replicate 256 empty_entry

  abbrev zeros : List ℕ
  zeros = replicate 256 0

  abbrev verdict : Verdict
  verdict = open_verdict s log (length newest) (length versions) (length results)

  abbrev start : Engine
  start = record { state = s; records = records; newest = newest; versions = versions; results = results }

  -- where the opening is accepted: the session, and the number of records that it has at a seal
  module _ (passes : verdict ≡ Ok tt) where
    abbrev first : Session
    first =
        session_of (begun (opened s (entries_in log))) records (none_newest newest) (all_empty versions)
        (all_zero results)

    abbrev last : Session
    last = run_of steps (length steps) log first

    accepted : opening log start ≡ record {
      answer = (opened_by (Ok tt) s log newest versions results).stepped.answer;
      engine = engine_of first;
    }
    unfolding opening open_of
    accepted = rw passes

    same_count : last.tally.sealed ≡ true → last.tally.state.records ≡ n
    same_count is =
        let count = whole_steps (length steps) (length steps) in
        let offers = offers_up_to steps count in
        ap (λ (e : Engine). e.state.records) (all_engine steps log first count)
        ∙ (rw accepted at (reached.closed log start eight (rw accepted refl) offers
        (rw accepted (all_sealed steps log first count is))).same_count
        ∙ as_made)

  -- the library's run of the batch
  abbrev handed : Verdict → Returned
  handed v =
      let o = opened_by v s log newest versions results in
      returned_by (answer_number o.stepped.answer) (after_opened o log steps records) outcomes counts

  -- the program's
  abbrev output : Verdict → List ℕ
  output v =
      let o = opened_by v s log newest versions zeros in
      program.after_opening o.stepped.answer o records log steps

  by_verdict : (v : Verdict) → verdict ≡ v → output v ≡ text_of n log (handed v)
  by_verdict (Ok tt) is =
      ap (λ (k : ℕ).
      printed log (run_of steps (length steps) log
      (session_of (begun (opened s (entries_in log))) records (none_newest newest) (all_empty versions)
      (replicate k 0))))
      (length-replicate {A = ℕ} 256 0 ∙ sym lent)
      ∙ printed_told n log (last is) outcomes counts long four
      (opens s log (length newest) (length versions) (length results) is).few_entries (same_count is)
  by_verdict (Err why) is =
      sym
      (ap (λ (none : Bool).
      cond none (lines_of n log (handed (Err why))) (refused_line (number_of why.refusal)))
      (ne_eqb (number_of why.refusal) 0 (λ none. omega (arith, none, positive why.refusal))))

  pub opened_told : program.after_opening (open_of s log newest versions zeros).stepped.answer
      (open_of s log newest versions zeros) records log steps
      ≡ text_of n log (returned_by (opening_number s log newest versions results)
      (batch_of s log steps records newest versions results) outcomes counts)
  unfolding open_of
  opened_told =
      ap (λ (k : ℕ). output (open_verdict s log (length newest) (length versions) k))
      (length-replicate {A = ℕ} 256 0 ∙ sym lent)
      ∙ by_verdict verdict refl

-- the whole run
module _ (stored log steps results outcomes counts : List ℕ) (n : ℕ) (lent : length results ≡ 256) (long : length
    outcomes ≡ 64) (four : length counts ≡ 4) where
  abbrev records : List ℕ
  records = numbers_of stored n

  abbrev made_text : Made → List ℕ
  made_text made = text_of n log (library.after_making made log steps records results outcomes counts)

  by_making : (wrong : Bool) → wrong_parameter n 2 2 1 ≡ wrong
      → program.after_making (made_if wrong n 2 2 1).verdict (made_if wrong n 2 2 1).state stored log steps
      ≡ made_text (made_if wrong n 2 2 1)
  by_making true is = refl
  by_making false is =
      ap (λ (k : ℕ).
      let o = open_of fresh log (replicate k no_slot) (replicate 256 empty_entry) (replicate 256 0) in
      program.after_opening o.stepped.answer o (numbers_of stored k) log steps) (as_many n 2 2 1)
      ∙ (opened_told fresh n (as_many n 2 2 1) (eight_placed n 2 2 1) log steps records (replicate n no_slot) results
      outcomes counts lent long four
      ∙ ap (λ (newest : List ℕ).
      text_of n log (returned_by (opening_number fresh log newest (replicate 256 empty_entry) results)
      (batch_of fresh log steps records newest (replicate 256 empty_entry) results) outcomes counts)) (sym own))
    where
      fresh : State
      fresh = unopened n 2 2 1

      own : slots_of (length records) ≡ replicate n no_slot
      own = ap slots_of (length_numbers stored n) ∙ slots_are n (few_records n 2 2 1 is)

  right_lent : wrong_lent (length results) (length outcomes) (length counts) ≡ false
  right_lent = rw (lent, long, four)

  pub run_told : program.after_making (make_of n 2 2 1).verdict (make_of n 2 2 1).state stored log steps
      ≡ text_of n log (ran_of 2 2 1 log steps records results outcomes counts)
  unfolding make_of
  run_told =
      by_making (wrong_parameter n 2 2 1) refl
      ∙ (ap (λ (k : ℕ). made_text (made_if (wrong_parameter k 2 2 1) k 2 2 1)) (sym (length_numbers stored n))
      ∙ ap (λ (wrong : Bool).
      text_of n log (cond wrong (library.keeps 1 records results outcomes counts)
      (library.after_making (make_of (length records) 2 2 1) log steps records results outcomes counts)))
      (sym right_lent))
