-- Laws of refusal 4.
use Rattle.std.specs.Prelude.{ℕ, ◌≤◌, Bool, true, false, ◌||◌, ◌≡◌, refl, List, ltb}
use Rattle.std.proofs.Common.{ltb-false}
use Rattle.packed.specs.Fields.{byte_at}
use Rattle.packed.specs.Form.{count_above, kinds_outside, nonzero, malformed}

-- of two faults neither is there
pub not_left : (a b : Bool) → (a || b) ≡ false → a ≡ false
not_left true b none = none
not_left false b none = refl

pub not_right : (a b : Bool) → (a || b) ≡ false → b ≡ false
not_right true true none = none
not_right true false none = refl
not_right false b none = none

-- an entry that is not malformed has at most four actions
pub few_actions : (b : List ℕ) → malformed b ≡ false → byte_at b 2 ≤ 4
unfolding malformed
few_actions b none =
    let counts : count_above b ≡ false =
    not_left (count_above b) (kinds_outside b) (not_left (count_above b || kinds_outside b) (nonzero b) none) in
    ltb-false 4 (byte_at b 2) (not_right (ltb 4 (byte_at b 0) || ltb 4 (byte_at b 1)) (ltb 4 (byte_at b 2)) counts)
