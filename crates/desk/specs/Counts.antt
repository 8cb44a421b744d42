-- The counts after a step.
use Rattle.std.specs.Prelude.{ℕ, ◌+◌, true, false, cond, ltb}
use Rattle.engine.specs.declared.Answer.{Answer}
use Rattle.engine.specs.declared.Answer.TheVariants.{Accepted, Waits, Refused}
use Rattle.engine.specs.declared.State.{State}
use Rattle.desk.specs.declared.Tally.{Tally}

-- one more, of a count that stays at 2^64 − 1; a file has fewer than 2^62 steps
abbrev pub one_more : ℕ → ℕ
one_more count = cond (ltb count 18446744073709551615) (count + 1) 18446744073709551615

-- a step that the engine has answered, with the state after it; "A wait is an accepted step."
abbrev pub counted : Tally → Answer → State → Tally
counted tally Accepted state =
    record {
      state = state;
      offered = one_more tally.offered;
      refused = tally.refused;
      waits = tally.waits;
      sealed = tally.sealed;
    }
counted tally (Waits position) state =
    record {
      state = state;
      offered = one_more tally.offered;
      refused = tally.refused;
      waits = one_more tally.waits;
      sealed = tally.sealed;
    }
counted tally (Refused refusal place) state =
    record {
      state = state;
      offered = one_more tally.offered;
      refused = one_more tally.refused;
      waits = tally.waits;
      sealed = tally.sealed;
    }

-- a seal that the engine has answered: it is noted where it is accepted
abbrev pub counted_seal : Tally → Answer → State → Tally
counted_seal tally Accepted state =
    record {
      state = state;
      offered = one_more tally.offered;
      refused = tally.refused;
      waits = tally.waits;
      sealed = true;
    }
counted_seal tally (Waits position) state = counted tally (Waits position) state
counted_seal tally (Refused refusal place) state = counted tally (Refused refusal place) state

-- "counts as offered and refused"
abbrev pub refused_at_once : Tally → Tally
refused_at_once tally =
    record {
      state = tally.state;
      offered = one_more tally.offered;
      refused = one_more tally.refused;
      waits = tally.waits;
      sealed = tally.sealed;
    }

-- nothing is offered yet
abbrev pub begun : State → Tally
begun state = record { state = state; offered = 0; refused = 0; waits = 0; sealed = false }
