-- Laws of eight bytes taken as one number: the bytes from some place on are zero where the number is below a power of
-- 256.
use Rattle.std.specs.Prelude.{ℕ, zero, suc, ◌+◌, ◌*◌, ◌<◌, true, ◌||◌, not, ◌≡◌, refl, List, leb}
use Rattle.std.proofs.Common.{ap, arith, le-leb, ne_eqb}
use Rattle.std.proofs.lemmas.Bool.{lt-leb}
use Rattle.little.specs.Laws.{Bytes}
use Rattle.little.specs.Little.{number_in}
use Rattle.packed.specs.Fields.{byte_at, word_at, long_at}
use Rattle.packed.specs.Form.{is_nonzero}

-- a number above zero
pub is_nonzero_lem : (number : ℕ) → 0 < number → is_nonzero number ≡ true
is_nonzero_lem number above = ap not (ne_eqb number 0 (λ same. omega arith))

pub word_small : (b : List ℕ) (at : ℕ) → Bytes b → word_at b at < 65536
unfolding number_in
word_small b at small = omega (arith, small at, small (at + 1))

-- the number in four words
abbrev pub of_words : ℕ → ℕ → ℕ → ℕ → ℕ
of_words first second third fourth = first + 65536 * (second + 65536 * (third + 65536 * fourth))

pub in_words : (b : List ℕ) (at : ℕ)
    → long_at b at ≡ of_words (word_at b at) (word_at b (at + 2)) (word_at b (at + 4)) (word_at b (at + 6))
unfolding number_in
in_words b at =
    let third : at + 2 + 1 ≡ at + 3 = omega arith in
    let fifth : at + 4 + 1 ≡ at + 5 = omega arith in
    let seventh : at + 6 + 1 ≡ at + 7 = omega arith in
    rw (third, fifth, seventh) (omega arith)

-- some word is not zero;
pub from_first : (p q r s : ℕ)
    → is_nonzero (of_words p q r s) ≡ (is_nonzero p || is_nonzero q || is_nonzero r || is_nonzero s)
from_first zero zero zero zero = refl
from_first (suc p) q r s =
    rw (is_nonzero_lem (of_words (suc p) q r s) (omega arith), is_nonzero_lem (suc p) (omega arith))
from_first zero (suc q) r s =
    rw (is_nonzero_lem (of_words zero (suc q) r s) (omega arith), is_nonzero_lem (suc q) (omega arith))
from_first zero zero (suc r) s =
    rw (is_nonzero_lem (of_words zero zero (suc r) s) (omega arith), is_nonzero_lem (suc r) (omega arith))
from_first zero zero zero (suc s) =
    rw (is_nonzero_lem (of_words zero zero zero (suc s)) (omega arith), is_nonzero_lem (suc s) (omega arith))

-- some from the second on;
pub from_second : (p q r s : ℕ) → p < 65536
    → leb 65536 (of_words p q r s) ≡ (is_nonzero q || is_nonzero r || is_nonzero s)
from_second p zero zero zero small = lt-leb 65536 (of_words p zero zero zero) (omega arith)
from_second p (suc q) r s small =
    rw (le-leb 65536 (of_words p (suc q) r s) (omega arith), is_nonzero_lem (suc q) (omega arith))
from_second p zero (suc r) s small =
    rw (le-leb 65536 (of_words p zero (suc r) s) (omega arith), is_nonzero_lem (suc r) (omega arith))
from_second p zero zero (suc s) small =
    rw (le-leb 65536 (of_words p zero zero (suc s)) (omega arith), is_nonzero_lem (suc s) (omega arith))

-- from the third on;
pub from_third : (p q r s : ℕ) → p < 65536 → q < 65536
    → leb 4294967296 (of_words p q r s) ≡ (is_nonzero r || is_nonzero s)
from_third p q zero zero small smaller = lt-leb 4294967296 (of_words p q zero zero) (omega arith)
from_third p q (suc r) s small smaller =
    rw (le-leb 4294967296 (of_words p q (suc r) s) (omega arith), is_nonzero_lem (suc r) (omega arith))
from_third p q zero (suc s) small smaller =
    rw (le-leb 4294967296 (of_words p q zero (suc s)) (omega arith), is_nonzero_lem (suc s) (omega arith))

-- the fourth
pub from_fourth : (p q r s : ℕ) → p < 65536 → q < 65536 → r < 65536
    → leb 281474976710656 (of_words p q r s) ≡ is_nonzero s
from_fourth p q r zero small smaller smallest = lt-leb 281474976710656 (of_words p q r zero) (omega arith)
from_fourth p q r (suc s) small smaller smallest =
    rw (le-leb 281474976710656 (of_words p q r (suc s)) (omega arith), is_nonzero_lem (suc s) (omega arith))

-- two bytes as a word
pub in_bytes : (low high : ℕ) → is_nonzero (low + 256 * high) ≡ (is_nonzero low || is_nonzero high)
in_bytes zero zero = refl
in_bytes (suc low) high =
    rw (is_nonzero_lem (suc low + 256 * high) (omega arith), is_nonzero_lem (suc low) (omega arith))
in_bytes zero (suc high) =
    rw (is_nonzero_lem (zero + 256 * suc high) (omega arith), is_nonzero_lem (suc high) (omega arith))

pub word_nonzero : (b : List ℕ) (at : ℕ)
    → is_nonzero (word_at b at) ≡ (is_nonzero (byte_at b at) || is_nonzero (byte_at b (at + 1)))
unfolding number_in
word_nonzero b at =
    let plain : word_at b at ≡ byte_at b at + 256 * byte_at b (at + 1) = omega arith in
    rw plain (in_bytes (byte_at b at) (byte_at b (at + 1)))
