-- The refusals of document 01: the number that the table gives to each, and the place that goes with it.
use Rattle.std.specs.Prelude.{ℕ, Bool, true, false, ◌&&◌, cond, leb, Result, Ok, Err, ⊤}
use Rattle.terms.specs.declared.refusal.Refusal.{Refusal}
use Rattle.terms.specs.declared.refusal.Refusal.TheVariants.{
  WrongParameter,
  WrongLength,
  PositionsRunOut,
  Malformed,
  NoSuchRecord,
  NotAscending,
  UndeclaredRead,
  UndeclaredWrite,
  WrongMoment,
  NoSuchParty,
  PartitionDone,
  WorkerBusyOrIdle,
  NotUnprocessed,
  StateOutOfRange,
  BrokenTables,
}
use Rattle.terms.specs.declared.refusal.Place.{Place}
use Rattle.terms.specs.declared.refusal.Refused.{Refused}

-- no.
abbrev pub number_of : Refusal → ℕ
-- N, P, W, the starting position or a lent table's length is wrong
number_of WrongParameter = 1
-- opening: length 0, above 5,632, or no multiple of 88; later: length not 88n
number_of WrongLength = 2
-- F + n above 2^64 − 1
number_of PositionsRunOut = 3
-- a count above 4, a kind outside 1–6 within the count, or a byte that must be zero is not
number_of Malformed = 4
-- a record number, in a set or used by an action, is N or more
number_of NoSuchRecord = 5
-- a set does not ascend strictly
number_of NotAscending = 6
-- an action reads an undeclared record
number_of UndeclaredRead = 7
-- an action writes an undeclared record
number_of UndeclaredWrite = 8
-- wrong moment
number_of WrongMoment = 9
-- no such partition, worker or transaction
number_of NoSuchParty = 10
-- the partition has placed all, while another has not
number_of PartitionDone = 11
-- claim by a busy worker; advance by an idle one
number_of WorkerBusyOrIdle = 12
-- claim of a transaction that is not Unprocessed
number_of NotUnprocessed = 13
-- the state has a number out of range
number_of StateOutOfRange = 14
-- a followed slot, a worker's counts or a newest version that no run leaves so
number_of BrokenTables = 15

-- "transaction index for 4–8, else 0"
abbrev pub place_of : Refusal → ℕ → Place
place_of refusal transaction =
    record { transaction = cond (leb 4 (number_of refusal) && leb (number_of refusal) 8) transaction 0 }

-- what a call that can only accept or refuse answers
abbrev pub Verdict : Type 0
Verdict = Result ⊤ Refused

-- what the paper has for a verdict: a number and a place, both 0 where nothing is refused
abbrev pub verdict_number : Verdict → ℕ
verdict_number (Ok _) = 0
verdict_number (Err why) = number_of why.refusal

abbrev pub verdict_place : Verdict → ℕ
verdict_place (Ok _) = 0
verdict_place (Err why) = why.place.transaction

-- a refusal of the transaction at this index
abbrev pub refused_at : Refusal → ℕ → Refused
refused_at refusal transaction = record { refusal = refusal; place = place_of refusal transaction }

abbrev pub refused : Refusal → ℕ → Verdict
refused refusal transaction = Err (refused_at refusal transaction)

-- a check of a chain: the transaction is refused where the fault is there, and the rest decides where it is not
abbrev pub refuse_if : Bool → Refusal → ℕ → Verdict → Verdict
refuse_if true refusal transaction rest = refused refusal transaction
refuse_if false refusal transaction rest = rest
