-- Laws of refusals 5 to 8.
use Prim.Native.Nat.{ℕ, zero, suc, ◌+◌, ◌*◌, ◌<◌, ◌≤◌}
use Rattle.std.specs.Prelude.{Bool, false, ◌||◌, ◌≡◌, List}
use Rattle.std.proofs.Math.Bool.{true}
use Rattle.std.proofs.Math.Path.{refl, sym}
use Rattle.std.proofs.Common.{ap, ◌∙◌, arith, add-one}
use Rattle.std.proofs.Math.Decide.{ℕ_discrete}
use Rattle.std.specs.List.{list_any, range_with_len}
use Rattle.packed.specs.Fields.{byte_at, fields_at}
use Rattle.packed.specs.Records.{some_of, some_action}
use Rattle.packed.specs.declared.fields.Fields.{Fields}

pub or_same : (a : Bool) → a ≡ (a || a)
or_same true = refl
or_same false = refl

pub or_false : (a : Bool) → a ≡ (a || false)
or_false true = refl
or_false false = refl

pub or_true : (a : Bool) → (a || true) ≡ true
or_true true = refl
or_true false = refl

-- true is not false
pub not_both : {A : Type 0} → true ≡ false → A
not_both never =
    let one : ◌≡◌ {A = ℕ} 0 1 = cc in
    absurd (omega arith)

-- A pass over the actions of an entry that joins the answers of a test, or stops at the first of which it holds. Before
-- it the test holds of none;
module _ (test : Fields → Bool) (b : List ℕ) where
  pub none_yet : false ≡ some_of test b 0
  unfolding some_of
  none_yet = refl

  -- a turn joins one answer;
  pub one_joined : {x : Fields} {so_far answer : Bool} (k : ℕ) → so_far ≡ some_of test b k
      → x ≡ fields_at b (24 + 16 * k) → answer ≡ test x → (so_far || answer) ≡ some_of test b (k + 1)
  unfolding some_of
  one_joined k joined read told = rw (add-one k, joined, told, read)

  -- after it all within the count are joined;
  pub all_joined : {so_far : Bool} {count : ℕ} (k : ℕ) → so_far ≡ some_of test b k
      → count ≡ byte_at b 2 → k ≤ count → count ≤ k → so_far ≡ some_action test b
  all_joined k joined counted most least =
      let all : k ≡ byte_at b 2 = omega arith in
      joined ∙ ap (some_of test b) all

  -- after a turn that does not stop the test holds of none more;
  pub none_more : {x : Fields} {answer : Bool} (k : ℕ) → false ≡ some_of test b k
      → x ≡ fields_at b (24 + 16 * k) → answer ≡ test x → answer ≡ false → false ≡ some_of test b (k + 1)
  unfolding some_of
  none_more k none read told fails =
      rw (add-one k, ← none) (sym (ap test (sym read) ∙ sym told ∙ fails))

  -- where the pass stops, it holds of some.
  found_below : (bound k : ℕ) → k < bound → test (fields_at b (24 + 16 * k)) ≡ true → some_of test b bound ≡ true
  unfolding some_of
  found_below zero k below holds = absurd (omega arith)
  found_below (suc bound) k below holds = cases (ℕ_discrete k bound) (found_below bound k)
    where
      cases : Dec (k ≡ bound) → (k < bound → test (fields_at b (24 + 16 * k)) ≡ true → some_of test b bound ≡ true)
          → (some_of test b bound || test (fields_at b (24 + 16 * bound))) ≡ true
      cases (yes same) earlier = rw (← same, holds) (or_true (some_of test b k))
      cases (no other) earlier = rw (earlier (omega arith) holds)

  pub found : {x : Fields} {answer : Bool} {count : ℕ} (k : ℕ) → count ≡ byte_at b 2 → k < count
      → x ≡ fields_at b (24 + 16 * k) → answer ≡ test x → answer ≡ true → true ≡ some_action test b
  found k counted below read told holds =
      sym (found_below (byte_at b 2) k (omega arith) (ap test (sym read) ∙ sym told ∙ holds))

-- The actions from one on joined to those before it.
or_three : (a b c : Bool) → (a || (b || c)) ≡ ((a || b) || c)
or_three true b c = refl
or_three false b c = refl

joined_from : (test : Fields → Bool) (b : List ℕ) (k n : ℕ)
    → (some_of test b k || list_any (λ k. test (fields_at b (24 + 16 * k))) (range_with_len k n))
    ≡ some_of test b (k + n)
joined_from test b k zero =
    let same : k + 0 ≡ k = omega arith in
    rw same (sym (or_false (some_of test b k)))
joined_from test b k (suc n) =
    let next : k + 1 + n ≡ k + suc n = omega arith in
    let rest = list_any (λ k. test (fields_at b (24 + 16 * k))) (range_with_len (k + 1) n) in
    or_three (some_of test b k) (test (fields_at b (24 + 16 * k))) rest
    ∙ ap (λ a. a || rest) (one_joined test b k refl refl refl)
    ∙ joined_from test b (k + 1) n
    ∙ ap (some_of test b) next

pub all_actions : (test : Fields → Bool) (b : List ℕ) (n : ℕ)
    → list_any (λ k. test (fields_at b (24 + 16 * k))) (range_with_len 0 n) ≡ some_of test b n
all_actions test b n =
    let all : 0 + n ≡ n = omega arith in
    let some = list_any (λ k. test (fields_at b (24 + 16 * k))) (range_with_len 0 n) in
    ap (λ a. a || some) (none_yet test b) ∙ joined_from test b 0 n ∙ ap (some_of test b) all
