-- A step as it stands in steps.bin: "4 bytes a step: kind 1 place, 2 claim, 3 advance, 4 seal; party; 16-bit
-- transaction, zero except for a claim".
use Rattle.std.specs.Prelude.{ℕ, ◌+◌, ◌*◌, ◌/◌, Bool, ◌&&◌, cond, List, [], ◌∷◌, ltb, eqb, get_or}
use Rattle.little.specs.Little.{number_in}
use Rattle.desk.specs.declared.Step.{Step}

-- step k of a run of bytes
abbrev pub step_at : List ℕ → ℕ → Step
step_at bytes k =
    record {
      kind = get_or bytes (4 * k) 0;
      party = get_or bytes (4 * k + 1) 0;
      transaction = number_in (get_or bytes (4 * k + 2) 0 ∷ get_or bytes (4 * k + 3) 0 ∷ []);
    }

-- how many steps the first `bytes` of so many bytes hold: "a short last step is dropped"
abbrev pub whole_steps : ℕ → ℕ → ℕ
whole_steps size bytes = cond (ltb bytes size) (bytes / 4) (size / 4)

-- which step of the engine it is; "a step of another kind, or with a nonzero transaction where none belongs" is none
abbrev pub is_place : Step → Bool
is_place step = eqb step.kind 1 && eqb step.transaction 0

abbrev pub is_claim : Step → Bool
is_claim step = eqb step.kind 2

abbrev pub is_advance : Step → Bool
is_advance step = eqb step.kind 3 && eqb step.transaction 0

abbrev pub is_seal : Step → Bool
is_seal step = eqb step.kind 4 && eqb step.transaction 0
