-- What is left of a walk after a step is the whole: more steps than are enough change nothing.
use Rattle.std.proofs.Common.{◌≡◌, refl, Bool, true, false, List, ℕ, zero, suc, ◌<◌, ◌≤◌}
use Rattle.std.proofs.Common.{ltb, leb, eqb, arith, le-ltb}
use Rattle.std.proofs.lemmas.Bool.{leb-false, lt-leb}
use Rattle.terms.specs.Reserved.{no_slot}
use Rattle.versions.specs.Chain.{at_slot, walk_from}
use Rattle.versions.specs.Table.{entry_of}
use Rattle.versions.specs.declared.Version.{Version}
use Rattle.versions.specs.declared.chain.Walked.{Walked}

onward_same : (a b c : Bool) (version : Version) (k j : Walked) → (b ≡ false → k ≡ j)
    → at_slot a b c version k ≡ at_slot a b c version j
onward_same true b c version k j same = refl
onward_same false true c version k j same = refl
onward_same false false true version k j same = refl
onward_same false false false version k j same = same refl

module _ (versions : List Version) (at : ℕ) where
  -- where k and j steps are both enough, they come to the same
  enough : (k j limit slot : ℕ) → limit < k → limit < j
      → walk_from versions at k limit slot ≡ walk_from versions at j limit slot
  enough zero j limit slot h g = absurd (omega arith)
  enough (suc k) zero limit slot h g = absurd (omega arith)
  enough (suc k) (suc j) limit slot h g =
      onward_same
      (eqb slot no_slot)
      (leb limit slot)
      (ltb (entry_of versions slot).begin at)
      (entry_of versions slot)
      _
      _
      (λ e.
      let less : slot < limit = leb-false limit slot e in
      enough k j slot (entry_of versions slot).previous (omega arith) (omega arith))

  pub pass_on : (limit slot : ℕ) (version : Version) → version ≡ entry_of versions slot → eqb slot no_slot ≡ false
      → slot < limit → at ≤ version.begin
      → walk_from versions at (suc slot) slot version.previous ≡ walk_from versions at (suc limit) limit slot
  pass_on limit slot version is some less later =
      let least : at ≤ (entry_of versions slot).begin = rw is at later in
      rw (is, some, lt-leb limit slot less, le-ltb (entry_of versions slot).begin at least)
      (enough (suc slot) limit slot (entry_of versions slot).previous (omega arith) less)
