-- A session of the desk is the engine with its tables, and the steps of a run of bytes are a list of offers.
-- Definitions only.
use Rattle.std.specs.Prelude.{ℕ, zero, suc, cond, List, [], ◌∷◌, ◌++◌}
use Rattle.engine.specs.Running.{Engine, Offer, place, claim, advance, seal}
use Rattle.desk.specs.Offer.{Session}
use Rattle.desk.specs.Steps.{step_at, is_place, is_claim, is_advance, is_seal}
use Rattle.desk.specs.declared.Step.{Step}

abbrev pub engine_of : Session → Engine
engine_of s =
    record {
      state = s.tally.state;
      records = s.records;
      newest = s.newest;
      versions = s.versions;
      results = s.results;
    }

-- what a step offers to the engine: itself, or nothing where it is refused at once
abbrev pub offers_in : Step → List Offer
offers_in step =
    cond (is_place step) (place step.party ∷ [])
    (cond (is_claim step) (claim step.party step.transaction ∷ [])
    (cond (is_advance step) (advance step.party ∷ []) (cond (is_seal step) (seal ∷ []) [])))

-- the first so many steps
abbrev pub offers_up_to : List ℕ → ℕ → List Offer
offers_up_to steps zero = []
offers_up_to steps (suc count) = offers_up_to steps count ++ offers_in (step_at steps count)
