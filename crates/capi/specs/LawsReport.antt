-- What a run tells: the first 64 outcomes are all.
use Rattle.std.specs.Prelude.{ℕ, ◌≤◌, List, ◌≡◌}
use Rattle.std.proofs.Common.{le_antisymm, ap, ◌∙◌}
use Rattle.engine.specs.declared.State.{State}
use Rattle.capi.specs.Report.{outcomes_to, outcomes_of}

pub all_told : (s : State) (outcomes after : List ℕ) (i : ℕ) → after ≡ outcomes_to s outcomes i → i ≤ 64 → 64 ≤ i
    → after ≡ outcomes_of s outcomes
unfolding outcomes_of
all_told s outcomes after i told least most =
    told ∙ ap (λ (k : ℕ). outcomes_to s outcomes k) (le_antisymm least most)
