-- Wrong answers of making a store, and of the three numbers that an answer has.
use Rattle.std.specs.Prelude.{ℕ, ◌≤◌, ◌≡◌, Ok}
use Rattle.std.proofs.Common.{ap, arith}
use Rattle.terms.specs.Refusals.{number_of}
use Rattle.terms.specs.declared.refusal.Place.{Place}
use Rattle.terms.specs.declared.refusal.Refusal.{Refusal}
use Rattle.terms.specs.declared.refusal.Refusal.TheVariants.{
  WrongParameter,
  WrongLength,
  PositionsRunOut,
  Malformed,
  NoSuchRecord,
  NotAscending,
  UndeclaredRead,
  UndeclaredWrite,
  WrongMoment,
  NoSuchParty,
  PartitionDone,
  WorkerBusyOrIdle,
  NotUnprocessed,
  StateOutOfRange,
  BrokenTables,
}
use Rattle.engine.specs.Answers.{answer_number, answer_place, answer_position}
use Rattle.engine.specs.Make.{make_of}
use Rattle.engine.specs.declared.Answer.TheVariants.{Waits, Refused}
use Rattle.engine.specs.declared.State.{State}
use Rattle.instances.specs.Differences.{passed_fails}

-- nine partitions, and a first position of 0, whatever the store that is handed back
pub nine_partitions_accepted : (s : State) → record { verdict = Ok tt; state = s } ≡ make_of 4 9 2 1 → ⊥
unfolding make_of
nine_partitions_accepted s same = passed_fails (ap (λ r. r.verdict) same)

pub no_position_accepted : (s : State) → record { verdict = Ok tt; state = s } ≡ make_of 4 2 2 0 → ⊥
unfolding make_of
no_position_accepted s same = passed_fails (ap (λ r. r.verdict) same)

-- every refusal has a number
numbered : (refusal : Refusal) → 1 ≤ number_of refusal
numbered WrongParameter = omega arith
numbered WrongLength = omega arith
numbered PositionsRunOut = omega arith
numbered Malformed = omega arith
numbered NoSuchRecord = omega arith
numbered NotAscending = omega arith
numbered UndeclaredRead = omega arith
numbered UndeclaredWrite = omega arith
numbered WrongMoment = omega arith
numbered NoSuchParty = omega arith
numbered PartitionDone = omega arith
numbered WorkerBusyOrIdle = omega arith
numbered NotUnprocessed = omega arith
numbered StateOutOfRange = omega arith
numbered BrokenTables = omega arith

-- 0 for a refusal, and any other number for a wait: "A wait is an accepted step."
pub number_lost : (refusal : Refusal) (at : Place) → 0 ≡ answer_number (Refused refusal at) → ⊥
number_lost refusal at same = omega (arith, numbered refusal)

pub wait_numbered : (number t : ℕ) → 1 ≤ number → number ≡ answer_number (Waits (record { 0 = t })) → ⊥
wait_numbered number t some same = omega arith

-- 0 for the place of another transaction than the first, and any other place for a wait
pub place_lost : (refusal : Refusal) (i : ℕ) → 1 ≤ i
    → 0 ≡ answer_place (Refused refusal (record { transaction = i })) → ⊥
place_lost refusal i some same = omega arith

pub wait_placed : (i t : ℕ) → 1 ≤ i → i ≡ answer_place (Waits (record { 0 = t })) → ⊥
wait_placed i t some same = omega arith

-- 0 for the position that is waited for, and any other position for a refusal
pub position_lost : (t : ℕ) → 1 ≤ t → 0 ≡ answer_position (Waits (record { 0 = t })) → ⊥
position_lost t some same = omega arith

pub refusal_positioned : (t : ℕ) (refusal : Refusal) (at : Place) → 1 ≤ t → t ≡ answer_position (Refused refusal at) → ⊥
refusal_positioned t refusal at some same = omega arith
