-- Laws of refusal 4 outside the actions: the sets past their counts, and the bytes 20 to 23.
use Rattle.std.specs.Prelude.{ℕ, zero, suc, ◌+◌, ◌<◌, Bool, true, false, ◌||◌, ◌≡◌, refl, List, leb}
use Rattle.std.proofs.Common.{◌∙◌, arith}
use Rattle.std.proofs.lemmas.Bool.{lt-leb}
use Rattle.little.specs.Laws.{Bytes}
use Rattle.packed.specs.Fields.{byte_at, word_at, long_at, set_at}
use Rattle.packed.specs.Form.{is_nonzero, past_set}
use Rattle.packed.specs.LawsWords.{
  in_words,
  word_small,
  word_nonzero,
  from_first,
  from_second,
  from_third,
  from_fourth,
}

-- A set whose four numbers are taken as one:
module _ (b : List ℕ) (at : ℕ) where
  pub past_none : is_nonzero (long_at b at) ≡ past_set (set_at b at) 0
  past_none = rw (in_words b at)
      (from_first (word_at b at) (word_at b (at + 2)) (word_at b (at + 4)) (word_at b (at + 6)))

  pub past_one : Bytes b → leb 65536 (long_at b at) ≡ past_set (set_at b at) 1
  past_one small =
      rw (in_words b at)
      (from_second (word_at b at) (word_at b (at + 2)) (word_at b (at + 4)) (word_at b (at + 6))
      (word_small b at small))

  pub past_two : Bytes b → leb 4294967296 (long_at b at) ≡ past_set (set_at b at) 2
  past_two small =
      rw (in_words b at)
      (from_third _ _ _ _ (word_small b at small) (word_small b (at + 2) small))

  pub past_three : Bytes b → leb 281474976710656 (long_at b at) ≡ past_set (set_at b at) 3
  past_three small =
      rw (in_words b at)
      (from_fourth _ _ _ _ (word_small b at small) (word_small b (at + 2) small) (word_small b (at + 4) small))

-- a count that is none of the first four, as a match on them leaves it
abbrev Not : ℕ → ℕ → Type 0
Not count number = count ≡ number → ⊥

abbrev pub Many : ℕ → Type 0
Many count = (((Unit {0} × Not count 0) × Not count 1) × Not count 2) × Not count 3

pub many : (count : ℕ) → Many count → 3 < count
many zero other = absurd (other.0.0.0.1 refl)
many (suc zero) other = absurd (other.0.0.1 refl)
many (suc (suc zero)) other = absurd (other.0.1 refl)
many (suc (suc (suc zero))) other = absurd (other.1 refl)
many (suc (suc (suc (suc count)))) other = omega arith

pub past_more : (set : List ℕ) (count : ℕ) → 3 < count → false ≡ past_set set count
past_more set count above =
    rw (
      lt-leb count 0 (omega arith),
      lt-leb count 1 (omega arith),
      lt-leb count 2 (omega arith),
      lt-leb count 3 (omega arith),
    )

-- "20–23: zero": one is not
abbrev pub rest_nonzero : List ℕ → Bool
rest_nonzero b =
    is_nonzero (byte_at b 20) || is_nonzero (byte_at b 21) || is_nonzero (byte_at b 22) || is_nonzero (byte_at b 23)

four_joined : (a b c d : Bool) → ((a || b) || (c || d)) ≡ (((a || b) || c) || d)
four_joined true b c d = refl
four_joined false true c d = refl
four_joined false false c d = refl

pub rest_nonzero_lem : (b : List ℕ) → Bytes b → leb 4294967296 (long_at b 16) ≡ rest_nonzero b
rest_nonzero_lem b small =
    let low = word_small b 16 small in
    let words = from_third (word_at b 16) (word_at b 18) (word_at b 20) (word_at b 22) low (word_small b 18 small) in
    let first = is_nonzero (byte_at b 20) in
    let second = is_nonzero (byte_at b 21) in
    let third = is_nonzero (byte_at b 22) in
    let fourth = is_nonzero (byte_at b 23) in
    rw (in_words b 16) (words ∙ rw (word_nonzero b 20, word_nonzero b 22) (four_joined first second third fourth))
