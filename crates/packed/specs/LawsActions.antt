-- Laws of refusal 4 in the actions, whose first eight bytes are taken as one number, and in a whole entry.
use Rattle.std.specs.Prelude.{ℕ, zero, suc, ◌+◌, ◌*◌, ◌%◌, ◌<◌, Bool, true, false}
use Rattle.std.specs.Prelude.{◌&&◌, ◌||◌, not, ◌≡◌, refl, List, [], ◌∷◌, ltb, leb, eqb}
use Rattle.std.specs.List.{list_any}
use Rattle.std.proofs.Common.{sym, ◌∙◌, arith, lt-ltb, le-ltb}
use Rattle.little.specs.Laws.{Bytes}
use Rattle.little.specs.Little.{number_in}
use Rattle.packed.specs.Fields.{byte_at, word_at, long_at, set_at}
use Rattle.packed.specs.Form.{
  count_above,
  kind_outside,
  is_nonzero,
  past_set,
  action_nonzero,
  nonzero,
  malformed,
}
use Rattle.packed.specs.Kinds.{by_kind, uses_of}
use Rattle.packed.specs.LawsKinds.{other_kind, above_six}
use Rattle.packed.specs.LawsPast.{rest_nonzero}
use Rattle.packed.specs.LawsRecords.{or_true}
use Rattle.packed.specs.LawsWords.{
  in_words,
  word_small,
  word_nonzero,
  is_nonzero_lem,
  from_first,
  from_third,
  from_fourth,
}
use Rattle.packed.specs.declared.fields.Fields.{Fields}

-- The code's test of an action within the count, whose first eight bytes are the number `head`.
unfoldable pub within_malformed : ℕ → ℕ → Bool
within_malformed head c =
    by_kind
    true
    (leb 4294967296 head)
    (leb 4294967296 head)
    (leb 4294967296 head)
    (leb 281474976710656 head || is_nonzero c)
    (leb 281474976710656 head || is_nonzero c)
    (leb 4294967296 head)
    (head % 65536)

-- an action's part of refusal 4
abbrev pub action_malformed : List ℕ → ℕ → Bool → Bool
action_malformed b at within = (within && kind_outside (byte_at b at)) || action_nonzero b at within

abbrev pub actions_malformed : List ℕ → Bool
actions_malformed b =
    action_malformed b 24 (ltb 0 (byte_at b 2))
    || (action_malformed b 40 (ltb 1 (byte_at b 2))
    || (action_malformed b 56 (ltb 2 (byte_at b 2))
    || action_malformed b 72 (ltb 3 (byte_at b 2))))

or_none : (a : Bool) → (a || false) ≡ a
or_none true = refl
or_none false = refl

-- the four one after the other
pub actions_joined : (b : List ℕ)
    → list_any (λ k. action_malformed b (24 + 16 * k) (ltb k (byte_at b 2))) (0 ∷ 1 ∷ 2 ∷ 3 ∷ []) ≡ actions_malformed b
actions_joined b = rw (or_none (action_malformed b 72 (ltb 3 (byte_at b 2)))) refl

abbrev made : ℕ → ℕ → ℕ → ℕ → Fields
made kind r s c = record { kind = kind; r = r; s = s; c = c }

-- the first two bytes are the kind and a zero
by_first : (kind r s c : ℕ) (last high higher : Bool) → high ≡ (last || is_nonzero s) → higher ≡ last
    → by_kind true high high high (higher || is_nonzero c) (higher || is_nonzero c) high kind
    ≡ (kind_outside kind || (last || is_nonzero (uses_of (made kind r s c)).zero))
unfolding uses_of
by_first zero r s c last high higher told telling = refl
by_first (suc zero) r s c last high higher told telling = told
by_first (suc (suc zero)) r s c last high higher told telling = told
by_first (suc (suc (suc zero))) r s c last high higher told telling = told
by_first (suc (suc (suc (suc zero)))) r s c last high higher told telling = rw telling
by_first (suc (suc (suc (suc (suc zero))))) r s c last high higher told telling = rw telling
by_first (suc (suc (suc (suc (suc (suc zero)))))) r s c last high higher told telling = told
by_first (suc (suc (suc (suc (suc (suc (suc kind))))))) r s c last high higher told telling =
    let large = suc (suc (suc (suc (suc (suc (suc kind)))))) in
    rw (le-ltb large 1 (omega arith), lt-ltb 6 large (omega arith))

-- the last two of an action's first eight bytes
last_word : (b : List ℕ) (at : ℕ)
    → is_nonzero (word_at b (at + 6)) ≡ (is_nonzero (byte_at b (at + 6)) || is_nonzero (byte_at b (at + 7)))
last_word b at =
    let next : at + 6 + 1 ≡ at + 7 = omega arith in
    word_nonzero b (at + 6) ∙ rw next

swapped : (a b : Bool) → (a || b) ≡ (b || a)
swapped true true = refl
swapped true false = refl
swapped false true = refl
swapped false false = refl

-- A kind with something in the byte after it is none.
second_set : (b : List ℕ) (at c : ℕ) → Bytes b → 0 < byte_at b (at + 1) → within_malformed (long_at b at) c ≡ true
unfolding within_malformed number_in
second_set b at c small above =
    let kind = byte_at b at + 256 * byte_at b (at + 1) in
    let low : long_at b at % 65536 ≡ kind = omega (arith, small at, small (at + 1)) in
    rw low (other_kind _ _ _ _ _ _ _ kind (above_six kind (omega arith)))

second_unset : (b : List ℕ) (at : ℕ) → Bytes b → byte_at b (at + 1) ≡ 0 → long_at b at % 65536 ≡ byte_at b at
unfolding number_in
second_unset b at small none = omega (arith, small at)

-- the action of bytes that are within the count
pub within_malformed_lem : (b : List ℕ) (at : ℕ) → Bytes b
    → within_malformed (long_at b at) (long_at b (at + 8)) ≡ action_malformed b at true
unfolding action_nonzero within_malformed
within_malformed_lem b at small = go (byte_at b (at + 1)) refl
  where
    go : (second : ℕ) → byte_at b (at + 1) ≡ second
        → within_malformed (long_at b at) (long_at b (at + 8)) ≡ action_malformed b at true
    go zero none =
        let s = is_nonzero (word_at b (at + 4)) in
        let last =
        is_nonzero (byte_at b (at + 1)) || is_nonzero (byte_at b (at + 6)) || is_nonzero (byte_at b (at + 7)) in
        let same : is_nonzero (word_at b (at + 6)) ≡ last = last_word b at ∙ rw none in
        let third = word_small b (at + 4) small in
        let above : leb 4294967296 (long_at b at) ≡ (s || is_nonzero (word_at b (at + 6))) =
        rw (in_words b at) (from_third _ _ _ _ (word_small b at small) (word_small b (at + 2) small)) in
        let high : leb 4294967296 (long_at b at) ≡ (last || s) = above ∙ rw same (swapped s last) in
        let top : leb 281474976710656 (long_at b at) ≡ is_nonzero (word_at b (at + 6)) =
        rw (in_words b at) (from_fourth _ _ _ _ (word_small b at small) (word_small b (at + 2) small) third) in
        rw (second_unset b at small none)
        (by_first (byte_at b at) (word_at b (at + 2)) (word_at b (at + 4)) (long_at b (at + 8)) last _ _ high (top
        ∙ same))
    go (suc second) some =
        second_set b at (long_at b (at + 8)) small (omega arith)
        ∙ sym (rw (is_nonzero_lem (byte_at b (at + 1)) (omega arith)) (or_true (kind_outside (byte_at b at))))

past_faults : (kind second r s seventh eighth c : Bool)
    → (((((not kind || not second) || not r) || not s) || (not seventh || not eighth)) || not c)
    ≡ (((not second || not seventh) || not eighth) || not (((kind && r) && s) && c))
past_faults false second r s seventh eighth c = rw (or_true ((not second || not seventh) || not eighth))
past_faults true false r s seventh eighth c = refl
past_faults true true false s seventh eighth c = rw (or_true (not seventh || not eighth))
past_faults true true true false seventh eighth c = rw (or_true (not seventh || not eighth))
past_faults true true true true false eighth c = refl
past_faults true true true true true false c = refl
past_faults true true true true true true c = refl

-- the action of bytes that are past the count
pub past_malformed : (b : List ℕ) (at : ℕ)
    → (is_nonzero (long_at b at) || is_nonzero (long_at b (at + 8))) ≡ action_malformed b at false
unfolding action_nonzero
past_malformed b at =
    let words = from_first (word_at b at) (word_at b (at + 2)) (word_at b (at + 4)) (word_at b (at + 6)) in
    rw (in_words b at, words, word_nonzero b at, last_word b at)
    (past_faults
    (eqb (byte_at b at) 0)
    (eqb (byte_at b (at + 1)) 0)
    (eqb (word_at b (at + 2)) 0)
    (eqb (word_at b (at + 4)) 0)
    (eqb (byte_at b (at + 6)) 0)
    (eqb (byte_at b (at + 7)) 0)
    (eqb (long_at b (at + 8)) 0))

-- The faults of refusal 4 in the code's order: a is of the counts, z of byte 3, p and q of the sets, t to w of the
-- bytes 20 to 23, c to f of the kinds, k to n of the actions' bytes.
regrouped : (a z p q t u v w c d e f k l m n : Bool)
    → ((a || (((c || d) || e) || f)) || ((((((((((z || p) || q) || t) || u) || v) || w) || k) || l) || m) || n))
    ≡ (a || ((z || (((t || u) || v) || w)) || (p || (q || ((c || k) || ((d || l) || ((e || m) || (f || n))))))))
regrouped true z p q t u v w c d e f k l m n = refl
regrouped false true p q t u v w c d e f k l m n = rw (or_true (((c || d) || e) || f))
regrouped false false true q t u v w c d e f k l m n =
    rw (or_true (((c || d) || e) || f), or_true (((t || u) || v) || w))
regrouped false false false true t u v w c d e f k l m n =
    rw (or_true (((c || d) || e) || f), or_true (((t || u) || v) || w))
regrouped false false false false true u v w c d e f k l m n = rw (or_true (((c || d) || e) || f))
regrouped false false false false false true v w c d e f k l m n = rw (or_true (((c || d) || e) || f))
regrouped false false false false false false true w c d e f k l m n = rw (or_true (((c || d) || e) || f))
regrouped false false false false false false false true c d e f k l m n = rw (or_true (((c || d) || e) || f))
regrouped false false false false false false false false true d e f k l m n = refl
regrouped false false false false false false false false false d e f true l m n = rw (or_true ((d || e) || f))
regrouped false false false false false false false false false true e f false l m n = refl
regrouped false false false false false false false false false false e f false true m n = rw (or_true (e || f))
regrouped false false false false false false false false false false true f false false m n = refl
regrouped false false false false false false false false false false false f false false true n = rw (or_true f)
regrouped false false false false false false false false false false false true false false false n = refl
regrouped false false false false false false false false false false false false false false false n = refl

pub malformed_parts : (b : List ℕ)
    → malformed b
    ≡ (count_above b
    || ((is_nonzero (byte_at b 3) || rest_nonzero b)
    || (past_set (set_at b 4) (byte_at b 0) || (past_set (set_at b 12) (byte_at b 1) || actions_malformed b))))
unfolding malformed nonzero
malformed_parts b =
    regrouped
    (count_above b)
    (is_nonzero (byte_at b 3))
    (past_set (set_at b 4) (byte_at b 0))
    (past_set (set_at b 12) (byte_at b 1))
    (is_nonzero (byte_at b 20))
    (is_nonzero (byte_at b 21))
    (is_nonzero (byte_at b 22))
    (is_nonzero (byte_at b 23))
    (ltb 0 (byte_at b 2) && kind_outside (byte_at b 24))
    (ltb 1 (byte_at b 2) && kind_outside (byte_at b 40))
    (ltb 2 (byte_at b 2) && kind_outside (byte_at b 56))
    (ltb 3 (byte_at b 2) && kind_outside (byte_at b 72))
    (action_nonzero b 24 (ltb 0 (byte_at b 2)))
    (action_nonzero b 40 (ltb 1 (byte_at b 2)))
    (action_nonzero b 56 (ltb 2 (byte_at b 2)))
    (action_nonzero b 72 (ltb 3 (byte_at b 2)))
