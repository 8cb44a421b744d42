-- A run from its parts: each law takes what the calls of a function say and gives what the function says.
use Rattle.std.specs.Prelude.{ℕ, Bool, true, false, cond, List, ◌≡◌, refl, eqb, length, min, replicate, take, ltb}
use Rattle.std.specs.Prelude.{◌/◌}
use Rattle.std.proofs.Common.{ap, sym, subst, arith, ltb-true, ltb-false}
use Rattle.terms.specs.Refusals.{number_of}
use Rattle.terms.specs.Reserved.{no_slot}
use Rattle.terms.specs.declared.refusal.Place.{Place}
use Rattle.terms.specs.declared.refusal.Refusal.{Refusal}
use Rattle.terms.specs.declared.refusal.Refusal.TheVariants.{
  WrongParameter,
  WrongLength,
  PositionsRunOut,
  Malformed,
  NoSuchRecord,
  NotAscending,
  UndeclaredRead,
  UndeclaredWrite,
  WrongMoment,
  NoSuchParty,
  PartitionDone,
  WorkerBusyOrIdle,
  NotUnprocessed,
  StateOutOfRange,
  BrokenTables,
}
use Rattle.engine.specs.Answers.{answer_number}
use Rattle.engine.specs.Open.{Opened}
use Rattle.engine.specs.declared.Answer.{Answer}
use Rattle.engine.specs.declared.Answer.TheVariants.{Accepted, Waits, Refused}
use Rattle.desk.specs.Counts.{begun}
use Rattle.desk.specs.Offer.{Session, session_of, offers_of, run_of}
use Rattle.desk.specs.Steps.{whole_steps}
use Rattle.capi.specs.Lent.{slots_of}
use Rattle.capi.specs.Report.{outcomes_of, counts_of}
use Rattle.capi.specs.Running.{Returned, returned_by, offered_bytes, after_opened}

-- what a whole run says
abbrev pub ReturnedMet : Returned → ℕ → List ℕ → List ℕ → List ℕ → List ℕ → Type 0
ReturnedMet x r records results outcomes counts =
    (r ≡ x.number)
    × ((records ≡ x.records)
    × ((results ≡ x.results) × ((outcomes ≡ x.outcomes) × (counts ≡ x.counts))))

pub other : (A : Type 0) (test : Bool) (x y : A) → test ≡ false → y ≡ cond test x y
other A test x y off = rw off

-- no step is offered of no bytes
none_whole : (size : ℕ) → whole_steps size 0 ≡ 0
none_whole size = go (ltb 0 size) refl
  where
    go : (test : Bool) → ltb 0 size ≡ test → cond test (0 / 4) (size / 4) ≡ 0
    go true more = refl
    go false none = omega (arith, ltb-false 0 size none)

pub none_offered : (steps log : List ℕ) (s : Session) → run_of steps 0 log s ≡ s
none_offered steps log s = ap (λ (k : ℕ). offers_of steps log s k) (none_whole (length steps))

-- a refusal has a number
pub numbered : (refusal : Refusal) → eqb (number_of refusal) 0 ≡ false
numbered WrongParameter = refl
numbered WrongLength = refl
numbered PositionsRunOut = refl
numbered Malformed = refl
numbered NoSuchRecord = refl
numbered NotAscending = refl
numbered UndeclaredRead = refl
numbered UndeclaredWrite = refl
numbered WrongMoment = refl
numbered NoSuchParty = refl
numbered PartitionDone = refl
numbered WorkerBusyOrIdle = refl
numbered NotUnprocessed = refl
numbered StateOutOfRange = refl
numbered BrokenTables = refl

-- the newest-version table is as long as the records, and at most as there is room for
pub slots : (records : ℕ) → take (min records 1024) (replicate 1024 no_slot) ≡ slots_of records
unfolding slots_of
slots records = go (ltb records 1024) refl
  where
    go : (test : Bool) → ltb records 1024 ≡ test
        → take (min records 1024) (replicate 1024 no_slot) ≡ take (cond test records 1024) (replicate 1024 no_slot)
    go true less =
        let few : min records 1024 ≡ records = omega (arith, ltb-true records 1024 less) in
        ap (λ (k : ℕ). take k (replicate 1024 no_slot)) few
    go false less =
        let all : min records 1024 ≡ 1024 = omega (arith, ltb-false records 1024 less) in
        ap (λ (k : ℕ). take k (replicate 1024 no_slot)) all

-- an opening that was answered, and what is told after it
module _ (opened : Opened) (log steps records outcomes counts : List ℕ) where
  abbrev begins : Session
  begins = session_of (begun opened.stepped.state) records opened.newest opened.versions opened.results

  abbrev returned : Returned
  returned =
      returned_by (answer_number opened.stepped.answer) (after_opened opened log steps records) outcomes counts

  abbrev returned_when : Answer → Returned
  returned_when answer =
      returned_by (answer_number answer) (run_of steps (offered_bytes answer (length steps)) log begins) outcomes counts

  pub refused_met : (refusal : Refusal) (place : Place) → opened.stepped.answer ≡ Refused refusal place
      → ReturnedMet returned (number_of refusal) records opened.results outcomes counts
  refused_met refusal place is =
      subst (λ (answer : Answer). ReturnedMet (returned_when answer) (number_of refusal) records opened.results outcomes
      counts) (sym is) (
        refl,
        (
          sym (ap (λ (s : Session). s.records) none),
          (
            sym (ap (λ (s : Session). s.results) none),
            (other (List ℕ) _ _ outcomes (numbered refusal), other (List ℕ) _ _ counts (numbered refusal)),
          ),
        ),
      )
    where
      none : run_of steps 0 log begins ≡ begins
      none = none_offered steps log begins

  -- all steps are offered after an opening that is not refused
  abbrev ends : Session
  ends = run_of steps (length steps) log begins

  pub offered_met : ((refusal : Refusal) (place : Place) → opened.stepped.answer ≡ Refused refusal place → ⊥)
      → ReturnedMet returned 0 ends.records ends.results (outcomes_of ends.tally.state outcomes)
      (counts_of ends.tally counts)
  offered_met = go opened.stepped.answer
    where
      go : (answer : Answer) → ((refusal : Refusal) (place : Place) → answer ≡ Refused refusal place → ⊥)
          → ReturnedMet (returned_when answer) 0 ends.records ends.results (outcomes_of ends.tally.state outcomes)
          (counts_of ends.tally counts)
      go Accepted on = (refl, (refl, (refl, (refl, refl))))
      go (Waits position) on = (refl, (refl, (refl, (refl, refl))))
      go (Refused refusal place) on = absurd (on refusal place refl)
