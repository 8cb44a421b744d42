-- Steps offered one after the other, by the engine's definitions: what is answered to each, and the program's counts.
use Rattle.std.specs.Prelude.{ℕ, ◌+◌, List, [], ◌∷◌}
use Rattle.engine.specs.Running.{Engine, Offer, offered}
use Rattle.engine.specs.declared.Answer.{Answer}
use Rattle.engine.specs.declared.Answer.TheVariants.{Accepted, Waits, Refused}

-- a list of steps: what is answered to each, and the engine at the end
pub record Played : Type 0 where
  pub answers : List Answer
  pub engine : Engine

abbrev pub with_answer : Answer → Played → Played
with_answer answer rest = record { answers = answer ∷ rest.answers; engine = rest.engine }

unfoldable pub played : List ℕ → List Offer → Engine → Played
played log [] c = record { answers = []; engine = c }
played log (step ∷ steps) c =
    with_answer (offered log c step).answer (played log steps (offered log c step).engine)

-- ---- the program's three counts: "steps 29 refused 0 waits 1", and the positions that the waits name

abbrev pub refused_in : List Answer → ℕ
refused_in [] = 0
refused_in (Accepted ∷ answers) = refused_in answers
refused_in (Waits position ∷ answers) = refused_in answers
refused_in (Refused refusal at ∷ answers) = refused_in answers + 1

abbrev pub waits_in : List Answer → List ℕ
waits_in [] = []
waits_in (Accepted ∷ answers) = waits_in answers
waits_in (Waits position ∷ answers) = position.0 ∷ waits_in answers
waits_in (Refused refusal at ∷ answers) = waits_in answers
