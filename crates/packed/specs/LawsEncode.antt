-- Laws of the bytes of a meaning.
use Rattle.std.specs.Prelude.{ℕ, ◌≤◌, ◌≡◌, refl, List, []}
use Rattle.std.specs.Prelude.{◌∷◌, ◌++◌, length, take, drop, replicate}
use Rattle.std.proofs.Math.Seq.{paste}
use Rattle.std.proofs.Common.{arith, append-nil, drop_of_length-le}
use Rattle.std.proofs.Math.Seq.{take-length}
use Rattle.little.specs.Little.{bytes_of}
use Rattle.packed.specs.Encode.{fields_of, action_bytes, set_bytes, action_in, encode}
use Rattle.packed.specs.declared.Transaction.{Transaction}

-- the parts of a meaning put into zeros are its bytes
pub pasted_whole : (t : Transaction) →
    paste
    (paste
    (paste
    (paste
    (paste
    (paste
    (paste (replicate 88 0) 0 (t.readcount ∷ t.writecount ∷ t.actioncount ∷ []) 3)
    4 (set_bytes t.reads) 8)
    12 (set_bytes t.writes) 8)
    24 (action_bytes (fields_of (action_in t 0))) 16)
    40 (action_bytes (fields_of (action_in t 1))) 16)
    56 (action_bytes (fields_of (action_in t 2))) 16)
    72 (action_bytes (fields_of (action_in t 3))) 16
    ≡ encode t
unfolding encode action_bytes set_bytes bytes_of
pasted_whole t = refl

pub length_encode : (t : Transaction) → length (encode t) ≡ 88
unfolding encode action_bytes set_bytes bytes_of
length_encode t = refl

-- bytes copied over a buffer of their length are all that is in it
pub copied : {bytes : List ℕ} (t : Transaction) (buffer : List ℕ) → bytes ≡ encode t → length buffer ≡ 88
    → take (length bytes) bytes ++ drop (length bytes) buffer ≡ encode t
copied t buffer made long =
    let same : length buffer ≤ length (encode t) = omega (arith, length_encode t) in
    rw (made, take-length, drop_of_length-le buffer same, append-nil)
