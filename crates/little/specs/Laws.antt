-- Laws of numbers of several bytes, each over the width.
use Rattle.std.specs.Prelude.{◌≡◌, refl, List, [], ◌∷◌, map, ℕ, zero, suc, ◌+◌}
use Rattle.std.specs.Prelude.{◌*◌, ◌/◌, ◌%◌, ◌^◌, ◌<◌, ◌≤◌, length, get_or, drop}
use Rattle.std.specs.Int.{sum_through, byte_worth, bytes_low_first}
use Rattle.std.proofs.Common.{pow-suc, arith, drop-cons, drop_of_length-le}
use Rattle.std.proofs.Math.Nat.{div-div-eq-div-mul}
use Rattle.little.specs.Little.{number_in, bytes_of}

-- every number of the list is a byte
abbrev pub Bytes : List ℕ → Type 0
Bytes bytes = (i : ℕ) → get_or bytes i 0 < 256

-- the number in some bytes is below what that many bytes can hold
pub number_below : (bytes : List ℕ) → Bytes bytes → number_in bytes < 256 ^ length bytes
unfolding number_in
number_below [] small = omega arith
number_below (byte ∷ bytes) small =
    rw (pow-suc 256 (length bytes)) (omega (arith, number_below bytes (λ i. small (suc i)), small 0))

-- what was written is read, where it fits
pub number_of_bytes : (width number : ℕ) → number < 256 ^ width → number_in (bytes_of width number) ≡ number
unfolding number_in bytes_of
number_of_bytes zero number fits = omega arith
number_of_bytes (suc width) number fits =
    let below : number < 256 ^ width * 256 = rw (pow-suc 256 width) at fits in
    omega (arith, number_of_bytes width (number / 256) (omega (arith, below)))

-- what was read is written again
pub bytes_of_number : (bytes : List ℕ) → Bytes bytes → bytes_of (length bytes) (number_in bytes) ≡ bytes
unfolding number_in bytes_of
bytes_of_number [] small = refl
bytes_of_number (byte ∷ bytes) small =
    let first : (byte + 256 * number_in bytes) % 256 ≡ byte = omega (arith, small 0) in
    let rest : (byte + 256 * number_in bytes) / 256 ≡ number_in bytes = omega (arith, small 0) in
    rw (first, rest, bytes_of_number bytes (λ i. small (suc i)))

-- std's numbers of several bytes are these: what its sum over the first bytes leaves out is in the bytes after them
read_through : (bytes : List ℕ) (k : ℕ) → k < length bytes
    → sum_through (λ i. byte_worth i (get_or bytes i 0)) k + 256 ^ suc k * number_in (drop (suc k) bytes)
    ≡ number_in bytes
unfolding number_in
read_through [] k within = absurd (omega arith)
read_through (byte ∷ bytes) zero within = omega arith
read_through (byte ∷ bytes) (suc k) within =
    let before = read_through (byte ∷ bytes) k (omega arith) in
    let next = drop-cons bytes k 0 (omega arith) in
    let told = rw next at before in
    rw (pow-suc 256 (suc k)) (omega (arith, told))

pub read_whole : (bytes : List ℕ) (k : ℕ) → length bytes ≡ suc k
    → sum_through (λ i. byte_worth i (get_or bytes i 0)) k ≡ number_in bytes
unfolding number_in
read_whole bytes k whole =
    let short : length bytes ≤ suc k = omega arith in
    let none : drop (suc k) bytes ≡ [] = drop_of_length-le bytes short in
    let read = rw none at (read_through bytes k (omega arith)) in
    omega (arith, read)

-- and its bytes of a number, `i` bytes on
written_from : (i width number : ℕ) → bytes_low_first i width number ≡ bytes_of width (number / 256 ^ i)
unfolding bytes_of
written_from i zero number = refl
written_from zero (suc width) number =
    let first : number / 256 ^ 0 ≡ number = omega arith in
    rw (written_from 1 width number, first)
written_from (suc i) (suc width) number =
    rw (written_from (suc (suc i)) width number, div-div-eq-div-mul, pow-suc 256 (suc i))

pub written : (number width : ℕ) → bytes_low_first 0 width number ≡ bytes_of width number
written number width =
    let first : number / 256 ^ 0 ≡ number = omega arith in
    rw (written_from 0 width number, first)

-- bytes picked from bytes
pub picked : (bytes : List ℕ) → Bytes bytes → (places : List ℕ) → Bytes (map (λ at. get_or bytes at 0) places)
picked bytes small [] i = omega arith
picked bytes small (at ∷ places) zero = small at
picked bytes small (at ∷ places) (suc i) = picked bytes small places i
