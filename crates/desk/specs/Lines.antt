-- A line in its 128 bytes.
use Rattle.std.specs.Prelude.{ℕ, ◌+◌, ◌-◌, cond, List, [], ◌∷◌, ◌++◌, leb, length, take, replicate, set}
use Rattle.desk.specs.declared.Line.{Line}

-- the line that holds a text: the text, and zeros after it
abbrev pub line_of : List ℕ → Line
line_of text = record { bytes = text ++ replicate (128 - length text) 0; length = length text }

-- the text that a line holds
abbrev pub text_of : Line → List ℕ
text_of line = take line.length line.bytes

-- one byte more, while there is room
abbrev pub pushed : Line → ℕ → Line
pushed line byte =
    cond (leb 128 line.length)
    line
    (record { bytes = set line.bytes line.length byte; length = line.length + 1 })

-- some bytes more
unfoldable pub pushed_all : Line → List ℕ → Line
pushed_all line [] = line
pushed_all line (byte ∷ bytes) = pushed_all (pushed line byte) bytes
