-- Numbers of several bytes, the low byte first: the number in some bytes, and the bytes of a number.
use Rattle.std.specs.Prelude.{List, [], ◌∷◌, ℕ, zero, suc, ◌+◌, ◌*◌, ◌/◌, ◌%◌}

-- the number in these bytes
unfoldable pub number_in : List ℕ → ℕ
number_in [] = 0
number_in (byte ∷ bytes) = byte + 256 * number_in bytes

-- a number in this many bytes; what does not fit there is dropped
unfoldable pub bytes_of : ℕ → ℕ → List ℕ
bytes_of zero number = []
bytes_of (suc width) number = number % 256 ∷ bytes_of width (number / 256)
