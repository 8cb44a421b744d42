-- The first entries of the table emptied, as the code does it: so many empty ones, and then what lies past them.
use Rattle.std.proofs.Common.{◌≡◌, refl, ap, ℕ, zero, suc, ◌≤◌, ◌<◌, List, [], ◌∷◌, ◌++◌}
use Rattle.std.proofs.Common.{length, drop, arith, lt-ltb, le-ltb}
use Rattle.std.proofs.Math.Decide.{dec_lt}
use Rattle.std.proofs.Math.ListN.{replicate}
use Rattle.std.proofs.Common.{min}
use native.Mathlib.Numerals.{unary_clauses}
use Rattle.versions.specs.Entry.{empty_entry}
use Rattle.versions.specs.Table.{clear_of, lesser_of}
use Rattle.versions.specs.declared.Version.{Version}

pub clear_is : (versions : List Version) (count : ℕ)
    → replicate (min count (length versions)) empty_entry ++ drop (min count (length versions)) versions
    ≡ clear_of versions count
clear_is [] zero = refl
clear_is [] (suc count) = simp unary_clauses
clear_is (version ∷ versions) zero = simp unary_clauses
clear_is (version ∷ versions) (suc count) =
    simp unary_clauses (ap (λ (rest : List Version). empty_entry ∷ rest) (clear_is versions count))

pub lesser_is : (a b : ℕ) → lesser_of a b ≡ min a b
lesser_is a b = cases (dec_lt a b)
  where
    cases : Dec (a < b) → lesser_of a b ≡ min a b
    cases (yes below) = rw (lt-ltb a b below) (omega arith)
    cases (no above) = let least : b ≤ a = omega arith in rw (le-ltb a b least) (omega arith)
