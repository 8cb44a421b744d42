-- What a call answers, with the paper's number and values for each case.
use Rattle.std.specs.Prelude.{ℕ, Bool, true, false, Ok, Err}
use Rattle.terms.specs.Refusals.{number_of, place_of, Verdict}
use Rattle.terms.specs.declared.refusal.Place.{Place}
use Rattle.terms.specs.declared.refusal.Refusal.{Refusal}
use Rattle.engine.specs.declared.Answer.{Answer}
use Rattle.engine.specs.declared.Answer.TheVariants.{Accepted, Waits, Refused}
use Rattle.engine.specs.declared.State.{State}
use Rattle.engine.specs.declared.Stepped.{Stepped}

-- the refusal number, and 0 for an accepted step; "a wait is an accepted step"
abbrev pub answer_number : Answer → ℕ
answer_number Accepted = 0
answer_number (Waits position) = 0
answer_number (Refused refusal place) = number_of refusal

-- the place of a refusal, else 0
abbrev pub answer_place : Answer → ℕ
answer_place Accepted = 0
answer_place (Waits position) = 0
answer_place (Refused refusal place) = place.transaction

-- the position waited for, else 0
abbrev pub answer_position : Answer → ℕ
answer_position Accepted = 0
answer_position (Waits position) = position.0
answer_position (Refused refusal place) = 0

-- "State and all tables keep their contents"
abbrev pub refuse : State → Refusal → ℕ → Stepped
refuse s refusal transaction = record { answer = Refused refusal (place_of refusal transaction); state = s }

abbrev pub accept : State → Stepped
accept s = record { answer = Accepted; state = s }

-- a check of a chain: the state is kept and the step refused where the fault is there, and the rest decides where it is
-- not
abbrev pub refuse_if : State → Bool → Refusal → Stepped → Stepped
refuse_if s true refusal rest = refuse s refusal 0
refuse_if s false refusal rest = rest

-- a refusal that was found, with its place
abbrev pub refuse_by : State → Refusal → Place → Stepped
refuse_by s refusal place = record { answer = Refused refusal place; state = s }

-- checks that come after others
abbrev pub and_then : Verdict → Verdict → Verdict
and_then (Ok _) later = later
and_then (Err why) later = Err why

abbrev pub is_accepted : Verdict → Bool
is_accepted (Ok _) = true
is_accepted (Err why) = false

-- the answer is a refusal
abbrev pub is_refused : Answer → Bool
is_refused Accepted = false
is_refused (Waits position) = false
is_refused (Refused refusal place) = true
