-- Deciding never looks at values past the read count: two arrays with the same values read give the same decision.
use Rattle.std.specs.Prelude.{◌≡◌, ℕ, ◌<◌, ◌≤◌, true, List, length, set, slice_index, slice_set, refl}
use Rattle.std.proofs.Math.Path.{sym, ap}
use Rattle.std.proofs.Common.{◌∙◌, arith, get_or-set_same, get_or-set_other}
use Rattle.std.proofs.Math.Decide.{ℕ_discrete, dec_lt}
use Rattle.std.proofs.Math.ListN.{length-set, get_or-eq_default}
use Rattle.packed.specs.declared.Transaction.{Transaction}
use Rattle.counters.specs.Actions.{After, goes_on, aborts, actions_of}
use Rattle.counters.specs.Deciding.{worked_of, decision_of, decide_of}
use Rattle.counters.specs.LawsPlaces.{at_place}
use Rattle.counters.specs.LawsRelated.{all_keep, SideBySide, RelatedAfter, all_related}
use Rattle.counters.specs.Working.{read_place, write_place}
use Rattle.counters.specs.Working.{contents_in, written, memory_of, start_of}
use Rattle.counters.specs.declared.working.WorkingCopy.{WorkingCopy}

module _ (t : Transaction) where
  abbrev read_at : ℕ → ℕ
  read_at r = read_place t r

  -- two copies that differ at most in values past the read count
  record Same (one other : WorkingCopy) : Type 0 where
    pub one_four : length one.values ≡ 4
    pub other_four : length other.values ≡ 4
    pub values_same : (i : ℕ) → i < t.readcount → slice_index one.values i ≡ slice_index other.values i
    pub contents_same : one.contents ≡ other.contents
    pub reached_same : one.reached ≡ other.reached

  holds_same : {one other : WorkingCopy} → Same one other → (r : ℕ)
      → contents_in t one r ≡ contents_in t other r
  unfolding contents_in
  holds_same {one} {other} same r = cases (dec_lt (read_at r) 4)
    where
      cases : Dec (read_at r < 4) → slice_index one.values (read_at r) ≡ slice_index other.values (read_at r)
      cases (yes below) = same.values_same (read_at r) (at_place t.reads t.readcount r below).1
      cases (no above) =
          let past_one : length one.values ≤ read_at r = omega (arith, same.one_four) in
          let past_other : length other.values ≤ read_at r = omega (arith, same.other_four) in
          get_or-eq_default one.values 0 past_one ∙ sym (get_or-eq_default other.values 0 past_other)

  becomes_same : {one other : WorkingCopy} → Same one other → (r number : ℕ)
      → Same (written t one r number) (written t other r number)
  unfolding written
  becomes_same {one} {other} same r number =
      record {
        one_four = length-set one.values (read_at r) number ∙ same.one_four;
        other_four = length-set other.values (read_at r) number ∙ same.other_four;
        values_same = λ i. at i (ℕ_discrete i (read_at r)) (dec_lt i 4);
        contents_same = ap (λ contents. set contents (write_place t r) number) same.contents_same;
        reached_same = ap (λ reached. set reached (write_place t r) true) same.reached_same;
      }
    where
      long_one : length (slice_set one.values (read_at r) number) ≡ 4
      long_one = length-set one.values (read_at r) number ∙ same.one_four

      long_other : length (slice_set other.values (read_at r) number) ≡ 4
      long_other = length-set other.values (read_at r) number ∙ same.other_four

      at : (i : ℕ) → Dec (i ≡ read_at r) → Dec (i < 4) → i < t.readcount
          → slice_index (slice_set one.values (read_at r) number) i
          ≡ slice_index (slice_set other.values (read_at r) number) i
      at i (no differs) _ within =
          get_or-set_other one.values (read_at r) i number 0 differs
          ∙ same.values_same i within
          ∙ sym (get_or-set_other other.values (read_at r) i number 0 differs)
      at i (yes equal) (yes below) within =
          let in_one : read_at r < length one.values = omega (arith, same.one_four) in
          let in_other : read_at r < length other.values = omega (arith, same.other_four) in
          rw equal (
          get_or-set_same one.values (read_at r) number 0 in_one
          ∙ sym (get_or-set_same other.values (read_at r) number 0 in_other))
      at i (yes equal) (no above) within =
          let past_one : length (slice_set one.values (read_at r) number) ≤ i = omega (arith, long_one) in
          let past_other : length (slice_set other.values (read_at r) number) ≤ i = omega (arith, long_other) in
          get_or-eq_default (slice_set one.values (read_at r) number) 0 past_one
          ∙ sym (get_or-eq_default (slice_set other.values (read_at r) number) 0 past_other)

  -- an action may use any record
  abbrev Any : ℕ → Type 0
  Any r = Unit {0}

  side_by_side : SideBySide (memory_of t) (memory_of t) Same Any Any
  side_by_side =
      record {
        holds_same = λ one other same r any. holds_same same r;
        becomes_same = λ one other same r number any. becomes_same same r number;
      }

  decision_same : (one other : After WorkingCopy) → RelatedAfter Same one other
      → decision_of t.writecount one ≡ decision_of t.writecount other
  decision_same (goes_on one) (goes_on other) same = rw (same.contents_same, same.reached_same)
  decision_same (goes_on one) aborts same = absurd same
  decision_same aborts (goes_on other) same = absurd same
  decision_same aborts aborts same = refl

  pub past_values_unseen : (one other : List ℕ) → length one ≡ 4 → length other ≡ 4
      → ((i : ℕ) → i < t.readcount → slice_index one i ≡ slice_index other i)
      → decide_of t one ≡ decide_of t other
  unfolding decide_of worked_of
  past_values_unseen one other one_four other_four same =
      decision_same (worked_of t one) (worked_of t other)
      (all_related side_by_side (actions_of t) (all_keep (λ r. tt) (λ r. tt) (actions_of t))
      (goes_on (start_of one)) (goes_on (start_of other))
      (record {
        one_four = one_four;
        other_four = other_four;
        values_same = same;
        contents_same = refl;
        reached_same = refl;
      }))
