use Rattle.engine.specs.LawsAdvance.{advance_joined}
use Rattle.engine.proofs.State.advance.Goals as goal

pub returns : goal.returns
returns c =
    let told = rw c.numbers_of-numbers.ensures at c.advance-answer.ensures in (
      advance_joined _ _ _ _ _ _ _ _ _ _ told.0 told.1.0 told.1.1.0,
      (told.1.1.1.0, told.1.1.1.1),
    )
