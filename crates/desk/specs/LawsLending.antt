-- An offered step, whose engine step is lent the state's transactions and workers beside its numbers: the session after
-- it is that of the step on the whole state.
use Rattle.std.specs.Prelude.{ℕ, ◌*◌, Bool, true, false, not, cond, List, Option, Some, None, ◌≡◌, refl, length, T}
use Rattle.std.specs.Prelude.{Result, Ok, Err}
use Rattle.std.proofs.Common.{sym, ap, ◌∙◌}
use Rattle.terms.specs.Refusals.{Verdict}
use Rattle.terms.specs.declared.refusal.Refused.{Refused as Refusing}
use Rattle.versions.specs.declared.Version.{Version}
use Rattle.versions.specs.Seal.{newest_sound_of}
use Rattle.engine.specs.Advance.{advance_verdict, move_of, with_left, carried_out, advanced_when, advance_of}
use Rattle.engine.specs.Answers.{refuse_if, accept}
use Rattle.engine.specs.Claim.{no_such_claim, after_claim, claim_of}
use Rattle.engine.specs.Lent.{joined, numbers_of, counted_of}
use Rattle.engine.specs.Moment.{not_running}
use Rattle.engine.specs.Place.{place_verdict, placed_when, place_of}
use Rattle.engine.specs.Range.{worker_at, row_at, out_of_range}
use Rattle.engine.specs.Rows.{is_unprocessed}
use Rattle.engine.specs.Seal.{seal_verdict, sealed_by, seal_of}
use Rattle.engine.specs.States.{with_worker}
use Rattle.engine.specs.Workers.{is_idle}
use Rattle.engine.specs.declared.Answer.{Answer}
use Rattle.engine.specs.declared.Answer.TheVariants.{Accepted, Waits, Refused}
use Rattle.engine.specs.declared.Row.{Row}
use Rattle.engine.specs.declared.moves.Move.{Move}
use Rattle.engine.specs.declared.State.{State}
use Rattle.engine.specs.declared.Stepped.{Stepped}
use Rattle.engine.specs.declared.Worker.{Worker}
use Rattle.engine.specs.declared.lent.Counted.{Counted}
use Rattle.engine.specs.declared.lent.Numbers.{Numbers}
use Rattle.terms.specs.declared.refusal.Refusal.TheVariants.{
  WrongMoment,
  NoSuchParty,
  WorkerBusyOrIdle,
  NotUnprocessed,
  StateOutOfRange,
}
use Rattle.desk.specs.Counts.{counted, counted_seal, refused_at_once}
use Rattle.desk.specs.LawsOffer.{offered_by, offered_asked}
use Rattle.desk.specs.LawsSteps.{asked_of}
use Rattle.desk.specs.Offer.{Session, session_of, offer_of}
use Rattle.desk.specs.Steps.{is_place, is_claim, is_advance, is_seal}
use Rattle.desk.specs.declared.Step.{Step}
use Rattle.desk.specs.declared.Tally.{Tally}
use Rattle.desk.specs.declared.steps.Asked.{Asked}
use Rattle.desk.specs.declared.steps.Asked.TheVariants.{Place, Claim, Advance, Seal}

-- a tally whose state has other numbers
abbrev pub with_numbers : Tally → Numbers → Tally
with_numbers tally numbers = record tally { state = joined numbers tally.state.rows tally.state.crew }

-- ---- what a step keeps
keeps_numbers : (s : State) (w i : ℕ) (a b c d e : Bool)
    → numbers_of (refuse_if s a StateOutOfRange
    (refuse_if s b WrongMoment
    (refuse_if s c NoSuchParty
    (refuse_if s d WorkerBusyOrIdle
    (refuse_if s e NotUnprocessed (accept (after_claim s w i))))))).state
    ≡ numbers_of s
keeps_numbers s w i true b c d e = refl
keeps_numbers s w i false true c d e = refl
keeps_numbers s w i false false true d e = refl
keeps_numbers s w i false false false true e = refl
keeps_numbers s w i false false false false true = refl
keeps_numbers s w i false false false false false = refl

claim_numbers : (s : State) (w i : ℕ) → numbers_of (claim_of s w i).state ≡ numbers_of s
unfolding claim_of
claim_numbers s w i =
    keeps_numbers s w i (out_of_range s) (not_running s) (no_such_claim s w i) (not (is_idle (worker_at s w)))
    (not (is_unprocessed (row_at s i)))

left_numbers : (s : State) (w i : ℕ) (left : Option Row) (worker : Worker)
    → numbers_of (with_worker (with_left s i left) w worker) ≡ numbers_of s
left_numbers s w i None worker = refl
left_numbers s w i (Some row) worker = refl

carried_numbers : (s : State) (w i : ℕ) (move : Result Move Refusing) (versions : List Version) (results : List ℕ)
    → numbers_of (carried_out move s w i versions results).stepped.state ≡ numbers_of s
carried_numbers s w i (Ok move) versions results = left_numbers s w i move.left move.worker
carried_numbers s w i (Err why) versions results = refl

advance_numbers : (s : State) (w : ℕ) (log records newest : List ℕ) (versions : List Version) (results : List ℕ)
    → numbers_of (advance_of s w log records newest versions results).stepped.state ≡ numbers_of s
unfolding advance_of
advance_numbers s w log records newest versions results =
    go (advance_verdict s w log (length records) (length newest) (length versions) (length results))
  where
    go : (v : Verdict)
        → numbers_of (advanced_when v s w log records newest versions results).stepped.state ≡ numbers_of s
    go (Ok tt) =
        carried_numbers s w (worker_at s w).transaction (move_of s (worker_at s w) log records newest versions) versions
        results
    go (Err why) = refl

place_keeps : (s : State) (p : ℕ) (log newest : List ℕ) (versions : List Version)
    → (s.rows ≡ (place_of s p log newest versions).stepped.state.rows)
    × (s.crew ≡ (place_of s p log newest versions).stepped.state.crew)
unfolding place_of
place_keeps s p log newest versions = go (place_verdict s p log newest (length versions))
  where
    go : (v : Verdict)
        → (s.rows ≡ (placed_when v s p log (record { newest = newest; versions = versions })).stepped.state.rows)
        × (s.crew ≡ (placed_when v s p log (record { newest = newest; versions = versions })).stepped.state.crew)
    go (Ok tt) = (refl, refl)
    go (Err why) = (refl, refl)

seal_keeps : (s : State) (records newest : List ℕ) (versions : List Version)
    → (s.rows ≡ (seal_of s records newest versions).stepped.state.rows)
    × (s.crew ≡ (seal_of s records newest versions).stepped.state.crew)
unfolding seal_of
seal_keeps s records newest versions =
    go (seal_verdict s (length records) (length newest) (length versions)
    (newest_sound_of versions newest (4 * s.size)))
  where
    go : (v : Verdict)
        → (s.rows ≡ (sealed_by v s records newest versions).stepped.state.rows)
        × (s.crew ≡ (sealed_by v s records newest versions).stepped.state.crew)
    go (Ok tt) = (refl, refl)
    go (Err why) = (refl, refl)

-- ---- counting in place, with the numbers beside the state
abbrev Counts : Type 0
Counts = Tally → Answer → State → Tally

-- it makes no difference when the numbers are put in
abbrev Apart : Counts → Type 0
Apart count =
    (tally : Tally) (rows : List Row) (crew : List Worker) (answer : Answer) (before numbers : Numbers)
    → with_numbers (count (record tally { state = joined (numbers_of tally.state) rows crew }) answer
    (joined (numbers_of tally.state) rows crew)) numbers
    ≡ count (with_numbers tally before) answer (joined numbers rows crew)

counted_apart : Apart counted
counted_apart tally rows crew Accepted before numbers = refl
counted_apart tally rows crew (Waits position) before numbers = refl
counted_apart tally rows crew (Refused refusal place) before numbers = refl

sealed_apart : Apart counted_seal
sealed_apart tally rows crew Accepted before numbers = refl
sealed_apart tally rows crew (Waits position) before numbers = refl
sealed_apart tally rows crew (Refused refusal place) before numbers = refl

-- a state put together from the parts after a step is counted as the state after the step
counted_whole : (count : Counts) → Apart count → (tally after : Tally) (before numbers : Numbers) (stepped : Stepped)
    (rows : List Row) (crew : List Worker) (answer : Answer) → numbers ≡ numbers_of stepped.state
    → rows ≡ stepped.state.rows → crew ≡ stepped.state.crew → answer ≡ stepped.answer
    → after
    ≡ count (record tally { state = joined (numbers_of tally.state) rows crew }) answer
    (joined (numbers_of tally.state) rows crew)
    → with_numbers after numbers ≡ count (with_numbers tally before) stepped.answer stepped.state
counted_whole count apart tally after before numbers stepped rows crew answer one two three four is =
    ap (λ t. with_numbers t numbers) is
    ∙ (apart tally rows crew answer before numbers ∙ rw (one, two, three, four) refl)

sessions : (a b : Tally) (records records_same newest newest_same : List ℕ) (versions versions_same : List Version)
    (results results_same : List ℕ) → a ≡ b → records ≡ records_same → newest ≡ newest_same
    → versions ≡ versions_same → results ≡ results_same
    → session_of a records newest versions results ≡ session_of b records_same newest_same versions_same results_same
sessions a b records records_same newest newest_same versions versions_same results results_same one two three four
    five = rw (one, two, three, four, five)

-- ---- an offered step
module _ (step : Step) (tally after : Tally) (before : Numbers) (log records newest : List ℕ)
    (versions : List Version) (results : List ℕ) where
  abbrev whole : Tally
  whole = with_numbers tally before

  abbrev session : Session
  session = session_of whole records newest versions results

  offered : (asked : Option Asked) → asked ≡ asked_of step → offered_by asked log session ≡ offer_of step log session
  offered asked is = ap (λ a. offered_by a log session) is ∙ offered_asked step log session

  pub place_met : (party : ℕ) (placed : Counted) (newest_exit : List ℕ) (versions_exit : List Version)
      → Some (Place party) ≡ asked_of step
      → (placed ≡ counted_of (place_of whole.state party log newest versions).stepped)
      × ((newest_exit ≡ (place_of whole.state party log newest versions).plans.newest)
      × (versions_exit ≡ (place_of whole.state party log newest versions).plans.versions))
      → after ≡ counted tally placed.answer tally.state
      → session_of (with_numbers after placed.numbers) records newest_exit versions_exit results
      ≡ offer_of step log session
  place_met party placed newest_exit versions_exit asks own is =
      let keeps = place_keeps whole.state party log newest versions in
      sessions _ _ _ _ _ _ _ _ _ _
      (counted_whole counted counted_apart tally after before placed.numbers
      (place_of whole.state party log newest versions).stepped tally.state.rows tally.state.crew placed.answer
      (ap (λ c. c.numbers) own.0) keeps.0 keeps.1 (ap (λ c. c.answer) own.0) is)
      refl own.1.0 own.1.1 refl
      ∙ offered (Some (Place party)) asks

  pub seal_met : (sealed : Counted) (records_exit newest_exit : List ℕ) (versions_exit : List Version)
      → Some Seal ≡ asked_of step
      → (sealed ≡ counted_of (seal_of whole.state records newest versions).stepped)
      × ((records_exit ≡ (seal_of whole.state records newest versions).records)
      × ((newest_exit ≡ (seal_of whole.state records newest versions).newest)
      × (versions_exit ≡ (seal_of whole.state records newest versions).versions)))
      → after ≡ counted_seal tally sealed.answer tally.state
      → session_of (with_numbers after sealed.numbers) records_exit newest_exit versions_exit results
      ≡ offer_of step log session
  seal_met sealed records_exit newest_exit versions_exit asks own is =
      let keeps = seal_keeps whole.state records newest versions in
      sessions _ _ _ _ _ _ _ _ _ _
      (counted_whole counted_seal sealed_apart tally after before sealed.numbers
      (seal_of whole.state records newest versions).stepped tally.state.rows tally.state.crew sealed.answer
      (ap (λ c. c.numbers) own.0) keeps.0 keeps.1 (ap (λ c. c.answer) own.0) is)
      own.1.0 own.1.1.0 own.1.1.1 refl
      ∙ offered (Some Seal) asks

  -- transactions and workers that are written, under the numbers as they were
  module _ (rows : List Row) (crew : List Worker) (answer : Answer)
      (is : after
      ≡ counted (record tally { state = joined (numbers_of tally.state) rows crew }) answer
      (joined (numbers_of tally.state) rows crew)) where
    pub claim_met : (party transaction : ℕ) → Some (Claim party transaction) ≡ asked_of step
        → (answer ≡ (claim_of whole.state party transaction).answer)
        × ((rows ≡ (claim_of whole.state party transaction).state.rows)
        × (crew ≡ (claim_of whole.state party transaction).state.crew))
        → session_of (with_numbers after before) records newest versions results ≡ offer_of step log session
    claim_met party transaction asks own =
        sessions _ _ _ _ _ _ _ _ _ _
        (counted_whole counted counted_apart tally after before before (claim_of whole.state party transaction)
        rows crew answer (sym (claim_numbers whole.state party transaction)) own.1.0 own.1.1 own.0 is)
        refl refl refl refl
        ∙ offered (Some (Claim party transaction)) asks

    pub advance_met : (party : ℕ) (versions_exit : List Version) (results_exit : List ℕ)
        → Some (Advance party) ≡ asked_of step
        → (answer ≡ (advance_of whole.state party log records newest versions results).stepped.answer)
        × ((rows ≡ (advance_of whole.state party log records newest versions results).stepped.state.rows)
        × ((crew ≡ (advance_of whole.state party log records newest versions results).stepped.state.crew)
        × ((versions_exit ≡ (advance_of whole.state party log records newest versions results).versions)
        × (results_exit ≡ (advance_of whole.state party log records newest versions results).results))))
        → session_of (with_numbers after before) records newest versions_exit results_exit
        ≡ offer_of step log session
    advance_met party versions_exit results_exit asks own =
        sessions _ _ _ _ _ _ _ _ _ _
        (counted_whole counted counted_apart tally after before before
        (advance_of whole.state party log records newest versions results).stepped rows crew answer
        (sym (advance_numbers whole.state party log records newest versions results)) own.1.0 own.1.1.0 own.0 is)
        refl refl own.1.1.1.0 own.1.1.1.1
        ∙ offered (Some (Advance party)) asks

  pub none_met : None ≡ asked_of step → after ≡ refused_at_once tally
      → session_of (with_numbers after before) records newest versions results ≡ offer_of step log session
  none_met asks is =
      sessions _ _ _ _ _ _ _ _ _ _ (ap (λ t. with_numbers t before) is) refl refl refl refl ∙ offered None asks

  -- what holds of a step by what it asks, where that is neither a place nor a claim
  abbrev LaterMet : Option Asked → Type 0
  LaterMet (Some (Place party)) = ⊥
  LaterMet (Some (Claim party transaction)) = ⊥
  LaterMet (Some (Advance party)) =
      (rows : List Row) (crew : List Worker) (answer : Answer) (versions_exit : List Version)
      (results_exit : List ℕ)
      → (answer ≡ (advance_of whole.state party log records newest versions results).stepped.answer)
      × ((rows ≡ (advance_of whole.state party log records newest versions results).stepped.state.rows)
      × ((crew ≡ (advance_of whole.state party log records newest versions results).stepped.state.crew)
      × ((versions_exit ≡ (advance_of whole.state party log records newest versions results).versions)
      × (results_exit ≡ (advance_of whole.state party log records newest versions results).results))))
      → after
      ≡ counted (record tally { state = joined (numbers_of tally.state) rows crew }) answer
      (joined (numbers_of tally.state) rows crew)
      → session_of (with_numbers after before) records newest versions_exit results_exit
      ≡ offer_of step log session
  LaterMet (Some Seal) =
      (sealed : Counted) (records_exit newest_exit : List ℕ) (versions_exit : List Version)
      → (sealed ≡ counted_of (seal_of whole.state records newest versions).stepped)
      × ((records_exit ≡ (seal_of whole.state records newest versions).records)
      × ((newest_exit ≡ (seal_of whole.state records newest versions).newest)
      × (versions_exit ≡ (seal_of whole.state records newest versions).versions)))
      → after ≡ counted_seal tally sealed.answer tally.state
      → session_of (with_numbers after sealed.numbers) records_exit newest_exit versions_exit results
      ≡ offer_of step log session
  LaterMet None =
      after ≡ refused_at_once tally
      → session_of (with_numbers after before) records newest versions results ≡ offer_of step log session

  pub later_met : T (not (is_place step)) → T (not (is_claim step)) → LaterMet (asked_of step)
  later_met off off2 = go (is_place step) (is_claim step) (is_advance step) (is_seal step) off off2 refl
    where
      asks : Bool → Bool → Bool → Bool → Option Asked
      asks place claim advance seal =
          cond place (Some (Place step.party)) (cond claim (Some (Claim step.party step.transaction))
          (cond advance (Some (Advance step.party)) (cond seal (Some Seal) None)))

      go : (place claim advance seal : Bool) → T (not place) → T (not claim)
          → asks place claim advance seal ≡ asked_of step → LaterMet (asks place claim advance seal)
      go true claim advance seal off off2 is = off
      go false true advance seal off off2 is = off2
      go false false true seal off off2 is =
          λ rows crew answer versions_exit results_exit own count.
          advance_met rows crew answer count step.party versions_exit results_exit is own
      go false false false true off off2 is =
          λ sealed records_exit newest_exit versions_exit own count.
          seal_met sealed records_exit newest_exit versions_exit is own count
      go false false false false off off2 is = λ count. none_met is count
