-- Laws of refusals 7 and 8: a record among the first `count` of a set, and what it is below.
use Rattle.std.specs.Prelude.{ℕ, zero, suc, ◌+◌, ◌*◌, Bool, true, false, ◌&&◌, ◌||◌}
use Rattle.std.specs.Prelude.{not, ◌≡◌, refl, List, [], ◌∷◌, leb, ltb, eqb, get_or}
use Rattle.std.proofs.Common.{sym, ap, ◌∙◌, arith, eqb-true, lt-ltb}
use Rattle.std.proofs.lemmas.Bool.{lt-leb, not-false}
use Rattle.packed.specs.Fields.{byte_at, set_at, fields_at}
use Rattle.packed.specs.Kinds.{uses_of}
use Rattle.packed.specs.LawsForm.{not_left, not_right}
use Rattle.packed.specs.LawsRecords.{not_both}
use Rattle.packed.specs.LawsSets.{InSets}
use Rattle.packed.specs.Records.{
  any,
  some_of,
  some_action,
  too_large,
  set_too_large,
  uses_too_large,
  unlisted,
  reads_unlisted,
  writes_unlisted,
  undeclared_read,
  undeclared_write,
}
use Rattle.packed.specs.declared.fields.Fields.{Fields}

-- The first entry that is the record tells whether one within the count is.
abbrev pub unlisted_by : ℕ → Bool → Bool → Bool → Bool → Bool
unlisted_by count first second third fourth =
    not (
    (ltb 0 count && first)
    || (ltb 1 count && second)
    || (ltb 2 count && third)
    || (ltb 3 count && fourth)
    )

pub at_first : (count : ℕ) (second third fourth : Bool) → leb count 0 ≡ unlisted_by count true second third fourth
at_first zero second third fourth = refl
at_first (suc count) second third fourth =
    rw (lt-leb (suc count) 0 (omega arith), lt-ltb 0 (suc count) (omega arith))

pub at_second : (count : ℕ) (third fourth : Bool) → leb count 1 ≡ unlisted_by count false true third fourth
at_second zero third fourth = refl
at_second (suc zero) third fourth = refl
at_second (suc (suc count)) third fourth =
    let many = suc (suc count) in
    rw (lt-leb many 1 (omega arith), lt-ltb 0 many (omega arith), lt-ltb 1 many (omega arith))

pub at_third : (count : ℕ) (fourth : Bool) → leb count 2 ≡ unlisted_by count false false true fourth
at_third zero fourth = refl
at_third (suc zero) fourth = refl
at_third (suc (suc zero)) fourth = refl
at_third (suc (suc (suc count))) fourth =
    let many = suc (suc (suc count)) in
    rw (
      lt-leb many 2 (omega arith),
      lt-ltb 0 many (omega arith),
      lt-ltb 1 many (omega arith),
      lt-ltb 2 many (omega arith),
    )

pub at_fourth : (count : ℕ) (fourth : Bool) → (not fourth || leb count 3) ≡ unlisted_by count false false false fourth
at_fourth zero true = refl
at_fourth zero false = refl
at_fourth (suc zero) true = refl
at_fourth (suc zero) false = refl
at_fourth (suc (suc zero)) true = refl
at_fourth (suc (suc zero)) false = refl
at_fourth (suc (suc (suc zero))) true = refl
at_fourth (suc (suc (suc zero))) false = refl
at_fourth (suc (suc (suc (suc count)))) fourth =
    let many = suc (suc (suc (suc count))) in
    rw (
      lt-leb many 3 (omega arith),
      lt-ltb 0 many (omega arith),
      lt-ltb 1 many (omega arith),
      lt-ltb 2 many (omega arith),
      lt-ltb 3 many (omega arith),
    )
    (ends fourth)
  where
    ends : (fourth : Bool) → (not fourth || false) ≡ not fourth
    ends true = refl
    ends false = refl

-- A record that is listed in a set where none is N or more is below N.
either : {A : Type 0} (a b : Bool) → (a || b) ≡ true → (a ≡ true → A) → (b ≡ true → A) → A
either true b one left right = left refl
either false b one left right = right one

same_entry : (within : Bool) (n entry number : ℕ) → (within && leb n entry) ≡ false
    → (within && eqb entry number) ≡ true → leb n number ≡ false
same_entry true n entry number below same = ap (leb n) (sym (eqb-true entry number same)) ∙ below
same_entry false n entry number below same = not_both (sym same)

listed_below : (n : ℕ) (set : List ℕ) (count number : ℕ) → set_too_large n set count ≡ false
    → unlisted set count number ≡ false → too_large n number ≡ false
listed_below n set count number none listed =
    let large : ℕ → Bool = λ i. ltb i count && leb n (get_or set i 0) in
    let same : ℕ → Bool = λ i. ltb i count && eqb (get_or set i 0) number in
    let three = not_left (large 0 || large 1 || large 2) (large 3) none in
    let two = not_left (large 0 || large 1) (large 2) three in
    let entry : (i : ℕ) → large i ≡ false → same i ≡ true → leb n number ≡ false =
    λ i. same_entry (ltb i count) n (get_or set i 0) number in
    either
    (same 0 || same 1 || same 2)
    (same 3)
    (not-false (same 0 || same 1 || same 2 || same 3) listed)
    (λ in_three.
    either
    (same 0 || same 1)
    (same 2)
    in_three
    (λ in_two.
    either
    (same 0)
    (same 1)
    in_two
    (entry 0 (not_left (large 0) (large 1) two))
    (entry 1 (not_right (large 0) (large 1) two)))
    (entry 2 (not_right (large 0 || large 1) (large 2) three)))
    (entry 3 (not_right (large 0 || large 1 || large 2) (large 3) none))

any_below : (n : ℕ) (set : List ℕ) (count : ℕ) → set_too_large n set count ≡ false → (numbers : List ℕ)
    → any (unlisted set count) numbers ≡ false → any (too_large n) numbers ≡ false
any_below n set count none [] listed = refl
any_below n set count none (number ∷ numbers) listed =
    let rest = any (unlisted set count) numbers in
    let own = unlisted set count number in
    rw (
      any_below n set count none numbers (not_left rest own listed),
      listed_below n set count number none (not_right rest own listed),
    )

uses_below : (n : ℕ) (b : List ℕ) → InSets n b → (x : Fields)
    → reads_unlisted (set_at b 4) (byte_at b 0) x ≡ false
    → writes_unlisted (set_at b 12) (byte_at b 1) x ≡ false → uses_too_large n x ≡ false
uses_below n b sets x read written =
    rw (
      any_below n (set_at b 4) (byte_at b 0) sets.reads_exist (uses_of x).reads read,
      any_below n (set_at b 12) (byte_at b 1) sets.writes_exist (uses_of x).writes written,
    )

some_below : (n : ℕ) (b : List ℕ) → InSets n b → (k : ℕ)
    → some_of (reads_unlisted (set_at b 4) (byte_at b 0)) b k ≡ false
    → some_of (writes_unlisted (set_at b 12) (byte_at b 1)) b k ≡ false → some_of (uses_too_large n) b k ≡ false
unfolding some_of
some_below n b sets zero read written = refl
some_below n b sets (suc k) read written =
    let reads = reads_unlisted (set_at b 4) (byte_at b 0) in
    let writes = writes_unlisted (set_at b 12) (byte_at b 1) in
    let x = fields_at b (24 + 16 * k) in
    let before_read = not_left (some_of reads b k) (reads x) read in
    let before_written = not_left (some_of writes b k) (writes x) written in
    let own_read = not_right (some_of reads b k) (reads x) read in
    let own_written = not_right (some_of writes b k) (writes x) written in
    rw (some_below n b sets k before_read before_written, uses_below n b sets x own_read own_written)

-- where nothing is undeclared, no action uses a record that is N or more
pub declared_below : (n : ℕ) (b : List ℕ) → InSets n b → undeclared_read b ≡ false → undeclared_write b ≡ false
    → some_action (uses_too_large n) b ≡ false
unfolding undeclared_read undeclared_write
declared_below n b sets read written = some_below n b sets (byte_at b 2) read written
