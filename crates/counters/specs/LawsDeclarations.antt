-- An entry that the checks accept means a transaction that is declared as it must be.
use Rattle.std.specs.Prelude.{◌≡◌, ℕ, zero, suc, ◌+◌, ◌*◌, ◌<◌, ◌≤◌, Bool, false, Ok}
use Rattle.std.specs.Prelude.{◌&&◌, ◌||◌, List, [], ◌∷◌, nat_le, nat_lt, slice_index, refl}
use Rattle.std.proofs.Common.{ap, ◌∙◌, arith}
use Rattle.std.proofs.Math.Decide.{ℕ_discrete}
use borrow.Author.Tests.{ltb-false, leb-false, lt-ltb}
use Rattle.packed.specs.Checks.{entry_verdict}
use Rattle.packed.specs.Decode.{decode}
use Rattle.packed.specs.Encode.{fields_of, action_in}
use Rattle.packed.specs.Fields.{byte_at, set_at, fields_at}
use Rattle.packed.specs.Form.{count_above, kinds_outside, nonzero, malformed}
use Rattle.packed.specs.LawsAccepted.{joined, none_of, Formed, formed}
use Rattle.packed.specs.LawsForm.{not_left, not_right, few_actions}
use Rattle.packed.specs.LawsVerdict.{Proper, proper}
use Rattle.packed.specs.Records.{
  some_of,
  some_action,
  set_too_large,
  uses_too_large,
  no_such_record,
  descends,
  not_ascending,
  reads_unlisted,
  undeclared_read,
  writes_unlisted,
  undeclared_write,
}
use Rattle.packed.specs.declared.fields.Fields.{Fields}
use Rattle.counters.specs.Declarations.{Declared}

-- a fault that is looked for within a count is not there
clear : (count i : ℕ) (fault : Bool) → i < count → (nat_lt i count && fault) ≡ false → fault ≡ false
clear count i fault within none = rw (lt-ltb i count within) at none

-- 5
module _ (n : ℕ) (set : List ℕ) (count : ℕ) where
  abbrev large_at : ℕ → Bool
  large_at i = nat_lt i count && nat_le n (slice_index set i)

  set_exists : count ≤ 4 → set_too_large n set count ≡ false → (i : ℕ) → i < count → slice_index set i < n
  unfolding joined
  set_exists few none zero within =
      leb-false n _ (clear count 0 _ within (none_of (large_at 0) (large_at 1 ∷ large_at 2 ∷ large_at 3 ∷ []) 0 none))
  set_exists few none (suc zero) within =
      leb-false n _ (clear count 1 _ within (none_of (large_at 0) (large_at 1 ∷ large_at 2 ∷ large_at 3 ∷ []) 1 none))
  set_exists few none (suc (suc zero)) within =
      leb-false n _ (clear count 2 _ within (none_of (large_at 0) (large_at 1 ∷ large_at 2 ∷ large_at 3 ∷ []) 2 none))
  set_exists few none (suc (suc (suc zero))) within =
      leb-false n _ (clear count 3 _ within (none_of (large_at 0) (large_at 1 ∷ large_at 2 ∷ large_at 3 ∷ []) 3 none))
  set_exists few none (suc (suc (suc (suc i)))) within = absurd (omega arith)

-- 6
module _ (set : List ℕ) (count : ℕ) where
  abbrev descends_at : ℕ → Bool
  descends_at j = nat_lt (suc j) count && nat_le (slice_index set (suc j)) (slice_index set j)

  set_ascends : count ≤ 4 → descends set count ≡ false → (j : ℕ) → suc j < count
      → slice_index set j < slice_index set (suc j)
  unfolding joined
  set_ascends few none zero within =
      leb-false _ _ (clear count 1 _ within (none_of (descends_at 0) (descends_at 1 ∷ descends_at 2 ∷ []) 0 none))
  set_ascends few none (suc zero) within =
      leb-false _ _ (clear count 2 _ within (none_of (descends_at 0) (descends_at 1 ∷ descends_at 2 ∷ []) 1 none))
  set_ascends few none (suc (suc zero)) within =
      leb-false _ _ (clear count 3 _ within (none_of (descends_at 0) (descends_at 1 ∷ descends_at 2 ∷ []) 2 none))
  set_ascends few none (suc (suc (suc j))) within = absurd (omega arith)

-- 7 and 8: what holds of no action within the count
none_below : (test : Fields → Bool) (b : List ℕ) (bound k : ℕ) → some_of test b bound ≡ false → k < bound
    → test (fields_at b (24 + 16 * k)) ≡ false
unfolding some_of
none_below test b zero k none below = absurd (omega arith)
none_below test b (suc bound) k none below = cases (ℕ_discrete k bound) (none_below test b bound k)
  where
    cases : Dec (k ≡ bound)
        → (some_of test b bound ≡ false → k < bound → test (fields_at b (24 + 16 * k)) ≡ false)
        → test (fields_at b (24 + 16 * k)) ≡ false
    cases (yes same) earlier = rw same (not_right (some_of test b bound) (test (fields_at b (24 + 16 * bound))) none)
    cases (no other) earlier =
        earlier (not_left (some_of test b bound) (test (fields_at b (24 + 16 * bound))) none) (omega arith)

-- the fields of an action are those of its bytes
action_fields : (b : List ℕ) → Formed b → (k : ℕ) → k < 4
    → fields_of (action_in (decode b) k) ≡ fields_at b (24 + 16 * k)
unfolding decode
action_fields b form zero below = form.action_first.same
action_fields b form (suc zero) below = form.action_second.same
action_fields b form (suc (suc zero)) below = form.action_third.same
action_fields b form (suc (suc (suc zero))) below = form.action_fourth.same
action_fields b form (suc (suc (suc (suc k)))) below = absurd (omega arith)

no_action : (test : Fields → Bool) (b : List ℕ) → malformed b ≡ false → some_action test b ≡ false
    → (k : ℕ) → k < byte_at b 2 → test (fields_of (action_in (decode b) k)) ≡ false
no_action test b form none k within =
    let few : byte_at b 2 ≤ 4 = few_actions b form in
    ap test (action_fields b (formed b form) k (omega arith)) ∙ none_below test b (byte_at b 2) k none within

pub proper_declared : (n : ℕ) (b : List ℕ) → Proper n b → Declared n (decode b)
unfolding decode malformed no_such_record not_ascending undeclared_read undeclared_write
proper_declared n b checked =
    let counts : count_above b ≡ false =
    not_left (count_above b) (kinds_outside b)
    (not_left (count_above b || kinds_outside b) (nonzero b) checked.is_formed) in
    let two : (nat_lt 4 (byte_at b 0) || nat_lt 4 (byte_at b 1)) ≡ false =
    not_left (nat_lt 4 (byte_at b 0) || nat_lt 4 (byte_at b 1)) (nat_lt 4 (byte_at b 2)) counts in
    let few_reads = ltb-false 4 (byte_at b 0) (not_left (nat_lt 4 (byte_at b 0)) (nat_lt 4 (byte_at b 1)) two) in
    let few_writes = ltb-false 4 (byte_at b 1) (not_right (nat_lt 4 (byte_at b 0)) (nat_lt 4 (byte_at b 1)) two) in
    let reads_small = set_too_large n (set_at b 4) (byte_at b 0) in
    let writes_small = set_too_large n (set_at b 12) (byte_at b 1) in
    let sets : (reads_small || writes_small) ≡ false =
    not_left (reads_small || writes_small) (some_action (uses_too_large n) b) checked.records_exist in
    let reads_test = reads_unlisted (set_at b 4) (byte_at b 0) in
    let writes_test = writes_unlisted (set_at b 12) (byte_at b 1) in
    record {
      four_reads = refl;
      four_writes = refl;
      few_reads = few_reads;
      few_writes = few_writes;
      reads_exist = set_exists n (set_at b 4) (byte_at b 0) few_reads (not_left reads_small writes_small sets);
      writes_exist = set_exists n (set_at b 12) (byte_at b 1) few_writes (not_right reads_small writes_small sets);
      writes_ascend =
          set_ascends (set_at b 12) (byte_at b 1) few_writes
          (not_right (descends (set_at b 4) (byte_at b 0)) (descends (set_at b 12) (byte_at b 1)) checked.ascends);
      reads_declared = no_action reads_test b checked.is_formed checked.reads_declared;
      writes_declared = no_action writes_test b checked.is_formed checked.writes_declared;
    }

pub accepted_declared : (n transaction : ℕ) (b : List ℕ) → entry_verdict n transaction b ≡ Ok tt
    → Declared n (decode b)
accepted_declared n transaction b accepted = proper_declared n b (proper n transaction b accepted)
