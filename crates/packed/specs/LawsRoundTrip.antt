-- Reading and writing an entry undo each other.
use Rattle.std.specs.Prelude.{ℕ, zero, suc, ◌+◌, ◌<◌, false, ◌≡◌, refl, List, [], ◌∷◌, length, get_or, drop}
use Rattle.std.proofs.Common.{sym, ap, ◌∙◌, arith, drop-cons}
use Rattle.std.proofs.Math.Seq.{drop-length}
use Rattle.little.specs.Little.{bytes_of}
use Rattle.little.specs.Laws.{Bytes, bytes_of_number, number_of_bytes, picked}
use Rattle.packed.specs.Decode.{action_of, row, row_at, decode}
use Rattle.packed.specs.Encode.{fields_of, action_bytes, set_bytes, action_in, encode}
use Rattle.packed.specs.Fields.{byte_at, word_at, long_at, set_at, fields_at}
use Rattle.packed.specs.Form.{malformed}
use Rattle.packed.specs.Held.{HeldSet, HeldFields, Held}
use Rattle.packed.specs.LawsAccepted.{Formed, formed}
use Rattle.packed.specs.declared.Action.{Action}
use Rattle.packed.specs.declared.Action.TheVariants.{Nothing, Set, Add, Take, Copy, Move, Floor}
use Rattle.packed.specs.declared.Transaction.{Transaction}
use Rattle.packed.specs.declared.fields.Fields.{Fields}

-- From bytes to a meaning and back. The bytes from a place on, one by one:
unfoldable pub elements : List ℕ → ℕ → ℕ → List ℕ
elements b at zero = []
elements b at (suc count) = byte_at b at ∷ elements b (suc at) count

elements_all : (b : List ℕ) (at count : ℕ) → at + count ≡ length b → elements b at count ≡ drop at b
unfolding elements
elements_all b at zero whole =
    let end : at ≡ length b = omega arith in
    rw (end, drop-length b)
elements_all b at (suc count) whole =
    let inside : at < length b = omega arith in
    rw (elements_all b (suc at) count (omega arith), drop-cons b at 0 inside)

-- numbers that were read are written as they were
module _ (b : List ℕ) (small : Bytes b) where
  word_again : (at : ℕ) → bytes_of 2 (word_at b at) ≡ byte_at b at ∷ byte_at b (at + 1) ∷ []
  word_again at = bytes_of_number _ (picked b small (at ∷ (at + 1) ∷ []))

  long_again : (at : ℕ)
      → bytes_of 8 (long_at b at)
      ≡ byte_at b at ∷ byte_at b (at + 1) ∷ byte_at b (at + 2) ∷ byte_at b (at + 3)
      ∷ byte_at b (at + 4) ∷ byte_at b (at + 5) ∷ byte_at b (at + 6) ∷ byte_at b (at + 7) ∷ []
  long_again at =
      bytes_of_number _
      (picked b small (at ∷ (at + 1) ∷ (at + 2) ∷ (at + 3) ∷ (at + 4) ∷ (at + 5) ∷ (at + 6) ∷ (at + 7) ∷ []))

  -- and so is a whole entry that is not malformed
  laid : Formed b → encode (decode b) ≡ elements b 0 88
  unfolding encode decode set_bytes action_bytes elements
  laid form =
      rw (
        form.action_first.same,
        form.action_second.same,
        form.action_third.same,
        form.action_fourth.same,
        word_again 4,
        word_again 6,
        word_again 8,
        word_again 10,
        word_again 12,
        word_again 14,
        word_again 16,
        word_again 18,
        word_again 26,
        word_again 28,
        long_again 32,
        word_again 42,
        word_again 44,
        long_again 48,
        word_again 58,
        word_again 60,
        long_again 64,
        word_again 74,
        word_again 76,
        long_again 80,
        form.after_counts,
        form.gap_first,
        form.gap_second,
        form.gap_third,
        form.gap_fourth,
        form.action_first.second,
        form.action_first.seventh,
        form.action_first.eighth,
        form.action_second.second,
        form.action_second.seventh,
        form.action_second.eighth,
        form.action_third.second,
        form.action_third.seventh,
        form.action_third.eighth,
        form.action_fourth.second,
        form.action_fourth.seventh,
        form.action_fourth.eighth,
      )

  pub encode_decode : length b ≡ 88 → malformed b ≡ false → encode (decode b) ≡ b
  encode_decode long none = laid (formed b none) ∙ elements_all b 0 88 (sym long)

-- From a meaning to bytes and back. A list of four is its four elements,
four_of : {A : Type 0} (list : List A) (default : A) → length list ≡ 4
    → get_or list 0 default ∷ get_or list 1 default ∷ get_or list 2 default ∷ get_or list 3 default ∷ [] ≡ list
four_of [] default four = absurd (omega arith)
four_of (a ∷ []) default four = absurd (omega arith)
four_of (a ∷ b ∷ []) default four = absurd (omega arith)
four_of (a ∷ b ∷ c ∷ []) default four = absurd (omega arith)
four_of (a ∷ b ∷ c ∷ d ∷ []) default four = refl
four_of (a ∷ b ∷ c ∷ d ∷ e ∷ list) default four = absurd (omega arith)

-- an action is that of its fields,
action_again : (action : Action) → action_of (fields_of action) ≡ action
unfolding action_of
action_again Nothing = refl
action_again (Set r c) = refl
action_again (Add r c) = refl
action_again (Take r c) = refl
action_again (Copy r s) = refl
action_again (Move r s) = refl
action_again (Floor r c) = refl

-- and numbers that were written are read as they were.
set_again : (set : List ℕ) → HeldSet set → set_at (set_bytes set) 0 ≡ set
unfolding set_bytes bytes_of
set_again set held =
    rw (
      number_of_bytes 2 (get_or set 0 0) (held.fit 0),
      number_of_bytes 2 (get_or set 1 0) (held.fit 1),
      number_of_bytes 2 (get_or set 2 0) (held.fit 2),
      number_of_bytes 2 (get_or set 3 0) (held.fit 3),
    )
    (four_of set 0 held.four)

fields_again : (x : Fields) → HeldFields x → fields_at (action_bytes x) 0 ≡ x
unfolding action_bytes bytes_of
fields_again x held =
    rw (
      number_of_bytes 2 x.r held.r_fits,
      number_of_bytes 2 x.s held.s_fits,
      number_of_bytes 8 x.c held.c_fits,
    )

row_again : (action : Action) → HeldFields (fields_of action) → row_at (action_bytes (fields_of action)) 0 ≡ row action
row_again action held = ap (λ x. row (action_of x)) (fields_again (fields_of action) held)
    ∙ ap row (action_again action)

pub decode_encode : (t : Transaction) → Held t → decode (encode t) ≡ t
unfolding decode encode set_bytes action_bytes bytes_of
decode_encode t held =
    rw (
      set_again t.reads held.reads_held,
      set_again t.writes held.writes_held,
      row_again (action_in t 0) (held.actions_held 0),
      row_again (action_in t 1) (held.actions_held 1),
      row_again (action_in t 2) (held.actions_held 2),
      row_again (action_in t 3) (held.actions_held 3),
      four_of t.actions (row Nothing) held.four,
    )
