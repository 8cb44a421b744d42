-- What a step asks.
use Rattle.std.specs.Prelude.{cond, Option, Some, None}
use Rattle.desk.specs.Steps.{is_place, is_claim, is_advance, is_seal}
use Rattle.desk.specs.declared.Step.{Step}
use Rattle.desk.specs.declared.steps.Asked.{Asked}
use Rattle.desk.specs.declared.steps.Asked.TheVariants.{Place, Claim, Advance, Seal}

-- which step of the engine it is, and with what
abbrev pub asked_of : Step → Option Asked
asked_of step =
    cond (is_place step)
    (Some (Place step.party))
    (cond (is_claim step)
    (Some (Claim step.party step.transaction))
    (cond (is_advance step) (Some (Advance step.party)) (cond (is_seal step) (Some Seal) None)))
