-- The theorems of packed transactions: unpacking and packing are inverse to each other. They speak of the definitions
-- that the functions `unpack` and `pack` are proved to equal. `Bytes` says that a list holds bytes, and `Held` that a
-- meaning is one that code can hold: of what code lends and passes both are true. None is vacuous: `zeros_are_proper`
-- accepts an entry.
use Rattle.std.specs.Prelude.{ℕ, false, not, ◌≡◌, refl, List, length, replicate, eqb, Ok}
use Rattle.std.proofs.Common.{sym, ap, ◌∙◌, eqb-true}
use Rattle.std.proofs.lemmas.Bool.{not-false}
use Rattle.little.specs.Little.{number_in}
use Rattle.little.specs.Laws.{Bytes}
use Rattle.packed.specs.Checks.{entry_verdict, wrong_record_count, verdict_of}
use Rattle.packed.specs.Decode.{action_of, decode, nothing}
use Rattle.packed.specs.Encode.{encode}
use Rattle.packed.specs.Form.{action_nonzero, nonzero, malformed}
use Rattle.packed.specs.Held.{Held}
use Rattle.packed.specs.Kinds.{uses_of}
use Rattle.packed.specs.LawsEncode.{length_encode}
use Rattle.packed.specs.LawsRoundTrip.{encode_decode, decode_encode}
use Rattle.packed.specs.LawsVerdict.{Sound, sound, unpacked_verdict, written_verdict}
use Rattle.packed.specs.Packing.{packed, pack_of}
use Rattle.packed.specs.Records.{some_of, no_such_record, not_ascending, undeclared_read, undeclared_write}
use Rattle.packed.specs.Unpacking.{unpacked, unpack_of}
use Rattle.packed.specs.declared.Transaction.{Transaction}

-- what unpacks packs to the same bytes
pub unpacked_packs : (n : ℕ) (b buffer : List ℕ) → Bytes b → length buffer ≡ 88
    → (unpack_of n b).verdict ≡ Ok tt
    → pack_of n (unpack_of n b).meaning buffer ≡ packed (Ok tt) b
unfolding unpack_of pack_of
unpacked_packs n b buffer small long accepted =
    let checked : verdict_of n 0 (not (eqb (length b) 88)) b ≡ Ok tt =
    sym (unpacked_verdict _ (decode b)) ∙ accepted in
    let is : Sound n (not (eqb (length b) 88)) b = sound n 0 _ b checked in
    let whole : length b ≡ 88 = eqb-true (length b) 88 (not-false _ is.length_right) in
    let again : encode (decode b) ≡ b = encode_decode b small whole is.entry_proper.is_formed in
    let same : length buffer ≡ length b = long ∙ sym whole in
    rw (checked, again, same, checked)

-- what packs unpacks to the same meaning
pub packed_unpacks : (n : ℕ) (t : Transaction) (buffer : List ℕ) → Held t
    → (pack_of n t buffer).verdict ≡ Ok tt
    → unpack_of n (pack_of n t buffer).buffer ≡ unpacked (Ok tt) t
unfolding unpack_of pack_of
packed_unpacks n t buffer held accepted =
    let checked : verdict_of n 0 (not (eqb (length buffer) 88)) (encode t) ≡ Ok tt =
    sym (written_verdict _ (encode t) buffer) ∙ accepted in
    let is : Sound n (not (eqb (length buffer) 88)) (encode t) = sound n 0 _ (encode t) checked in
    let whole : length buffer ≡ length (encode t) =
    eqb-true (length buffer) 88 (not-false _ is.length_right) ∙ sym (length_encode t) in
    let again : verdict_of n 0 (not (eqb (length (encode t)) 88)) (encode t) ≡ Ok tt = rw (← whole) checked in
    rw (checked, again, decode_encode t held)

-- a packed transaction has one meaning: two that pack to the same bytes are the same
pub one_meaning : (n : ℕ) (t u : Transaction) (buffer other : List ℕ) → Held t → Held u
    → (pack_of n t buffer).verdict ≡ Ok tt → (pack_of n u other).verdict ≡ Ok tt
    → (pack_of n t buffer).buffer ≡ (pack_of n u other).buffer
    → t ≡ u
one_meaning n t u buffer other t_held u_held t_packs u_packs same =
    ap (λ x. x.meaning)
    (sym (packed_unpacks n t buffer t_held t_packs) ∙ ap (unpack_of n) same ∙ packed_unpacks n u other u_held u_packs)

-- "88 zero bytes are a proper transaction that does nothing", in a store of any size
pub zeros_are_proper : (n : ℕ) → wrong_record_count n ≡ false → unpack_of n (replicate 88 0) ≡ unpacked (Ok tt) nothing
unfolding
    unpack_of verdict_of entry_verdict malformed nonzero action_nonzero no_such_record not_ascending undeclared_read
    undeclared_write some_of uses_of decode action_of nothing number_in
zeros_are_proper n right = rw right

-- it reads nothing, writes nothing and has no action
pub nothing_done : (nothing.readcount ≡ 0) × (nothing.writecount ≡ 0) × (nothing.actioncount ≡ 0)
unfolding nothing
nothing_done = (refl, refl, refl)
