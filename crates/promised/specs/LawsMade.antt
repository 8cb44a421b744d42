-- A store that was made, and the numbers of what refuses.
use Rattle.std.specs.Prelude.{ℕ, ◌≤◌, Bool, true, false, ◌≡◌, refl, length}
use Rattle.std.proofs.Common.{arith}
use Rattle.terms.specs.Refusals.{verdict_number, number_of}
use Rattle.terms.specs.declared.refusal.Refusal.{Refusal}
use Rattle.terms.specs.declared.refusal.Refusal.TheVariants.{
  WrongParameter,
  WrongLength,
  PositionsRunOut,
  Malformed,
  NoSuchRecord,
  NotAscending,
  UndeclaredRead,
  UndeclaredWrite,
  WrongMoment,
  NoSuchParty,
  PartitionDone,
  WorkerBusyOrIdle,
  NotUnprocessed,
  StateOutOfRange,
  BrokenTables,
}
use Rattle.engine.specs.Answers.{answer_number}
use Rattle.engine.specs.Make.{wrong_parameter, made_if, make_of}
use Rattle.engine.specs.Running.{is_accepted}
use Rattle.engine.specs.States.{unopened}
use Rattle.engine.specs.declared.Answer.{Answer}
use Rattle.engine.specs.declared.Answer.TheVariants.{Accepted, Waits, Refused}

-- the numbers of refusals are not 0
pub positive : (refusal : Refusal) → 1 ≤ number_of refusal
positive WrongParameter = omega arith
positive WrongLength = omega arith
positive PositionsRunOut = omega arith
positive Malformed = omega arith
positive NoSuchRecord = omega arith
positive NotAscending = omega arith
positive UndeclaredRead = omega arith
positive UndeclaredWrite = omega arith
positive WrongMoment = omega arith
positive NoSuchParty = omega arith
positive PartitionDone = omega arith
positive WorkerBusyOrIdle = omega arith
positive NotUnprocessed = omega arith
positive StateOutOfRange = omega arith
positive BrokenTables = omega arith

pub accepts : (answer : Answer) → answer_number answer ≡ 0 → is_accepted answer ≡ true
accepts Accepted none = refl
accepts (Waits position) none = refl
accepts (Refused refusal place) none = absurd (omega (arith, none, positive refusal))

pub made_fresh : (n p w start : ℕ) → verdict_number (make_of n p w start).verdict ≡ 0
    → (make_of n p w start).state ≡ unopened n p w start
unfolding make_of
made_fresh n p w start = go (wrong_parameter n p w start)
  where
    go : (wrong : Bool) → verdict_number (made_if wrong n p w start).verdict ≡ 0
        → (made_if wrong n p w start).state ≡ unopened n p w start
    go true none = absurd (omega (arith, none))
    go false none = refl

pub eight_placed : (n p w start : ℕ) → length (unopened n p w start).placed ≡ 8
unfolding unopened
eight_placed n p w start = refl

pub as_many : (n p w start : ℕ) → (unopened n p w start).records ≡ n
unfolding unopened
as_many n p w start = refl
