-- Laws of a claim on lent transactions and workers: what the code does with its plan is the definition.
use Rattle.std.specs.Prelude.{ℕ, List, ◌≡◌, set}
use Rattle.std.specs.Prelude.{Result, Ok, Err}
use Rattle.std.proofs.Common.{arith}
use Rattle.terms.specs.declared.refusal.Refused.{Refused}
use Rattle.engine.specs.Claim.{claim_of}
use Rattle.engine.specs.LawsClaim.{claim_plan}
use Rattle.engine.specs.LawsPlan.{answered}
use Rattle.engine.specs.Lent.{joined, numbers_of}
use Rattle.engine.specs.declared.Row.{Row}
use Rattle.engine.specs.declared.State.{State}
use Rattle.engine.specs.declared.Worker.{Worker}
use Rattle.engine.specs.declared.lent.claiming.Claiming.{Claiming}

-- the transactions and the workers after it
abbrev pub rows_after : Result Claiming Refused → List Row → ℕ → List Row
rows_after (Ok plan) rows i = set rows i plan.executing
rows_after (Err why) rows i = rows

abbrev pub crew_after : Result Claiming Refused → List Worker → ℕ → List Worker
crew_after (Ok plan) crew w = set crew w plan.starting
crew_after (Err why) crew w = crew

pub claim_same : (s : State) (w i : ℕ) → (answered (claim_plan s w i) ≡ (claim_of s w i).answer)
    × ((rows_after (claim_plan s w i) s.rows i ≡ (claim_of s w i).state.rows)
    × (crew_after (claim_plan s w i) s.crew w ≡ (claim_of s w i).state.crew))
unfolding claim_of
claim_same s w i = grind arith

-- nothing else changes: the state by value, put together again
pub claim_stepped : (s : State) (w i : ℕ)
    → record {
      answer = (claim_of s w i).answer;
      state = joined (numbers_of s) (claim_of s w i).state.rows (claim_of s w i).state.crew;
    }
    ≡ claim_of s w i
unfolding claim_of
claim_stepped s w i = grind arith
