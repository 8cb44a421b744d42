-- The text of the program's lines, in bytes.
use Rattle.std.specs.Prelude.{ℕ, zero, suc, ◌+◌, ◌/◌, ◌%◌, cond, List, [], ◌∷◌, ◌++◌, ltb}
use Rattle.counters.specs.declared.Outcome.{Outcome}
use Rattle.counters.specs.declared.Outcome.TheVariants.{Committed, Aborted}

-- the last digit of a number
abbrev pub digit : ℕ → ℕ
digit number = 48 + number % 10

-- a number in decimal, of at most so many digits, with no zero before the first
abbrev pub digits : ℕ → ℕ → List ℕ
digits zero number = []
digits (suc most) number =
    cond (ltb number 10) (digit number ∷ []) (digits most (number / 10) ++ (digit number ∷ []))

-- a number of 64 bits has at most 20
unfoldable pub decimal : ℕ → List ℕ
decimal number = digits 20 number

-- each of some numbers after a space
abbrev pub spaced : List ℕ → List ℕ
spaced [] = []
spaced (number ∷ numbers) = 32 ∷ (decimal number ++ spaced numbers)

-- the words of the lines, each with the spaces about it
-- "tx "
abbrev pub tx_word : List ℕ
tx_word = 116 ∷ 120 ∷ 32 ∷ []

-- " committed"
abbrev pub committed_word : List ℕ
committed_word = 32 ∷ 99 ∷ 111 ∷ 109 ∷ 109 ∷ 105 ∷ 116 ∷ 116 ∷ 101 ∷ 100 ∷ []

-- " aborted"
abbrev pub aborted_word : List ℕ
aborted_word = 32 ∷ 97 ∷ 98 ∷ 111 ∷ 114 ∷ 116 ∷ 101 ∷ 100 ∷ []

-- "rec "
abbrev pub rec_word : List ℕ
rec_word = 114 ∷ 101 ∷ 99 ∷ 32 ∷ []

-- " "
abbrev pub space : List ℕ
space = 32 ∷ []

-- "steps "
abbrev pub steps_word : List ℕ
steps_word = 115 ∷ 116 ∷ 101 ∷ 112 ∷ 115 ∷ 32 ∷ []

-- " refused "
abbrev pub refused_word : List ℕ
refused_word = 32 ∷ 114 ∷ 101 ∷ 102 ∷ 117 ∷ 115 ∷ 101 ∷ 100 ∷ 32 ∷ []

-- " waits "
abbrev pub waits_word : List ℕ
waits_word = 32 ∷ 119 ∷ 97 ∷ 105 ∷ 116 ∷ 115 ∷ 32 ∷ []

-- "refused "
abbrev pub refused_first : List ℕ
refused_first = 114 ∷ 101 ∷ 102 ∷ 117 ∷ 115 ∷ 101 ∷ 100 ∷ 32 ∷ []

-- the end of a line
abbrev pub new_line : List ℕ
new_line = 10 ∷ []

abbrev pub outcome_word : Outcome → List ℕ
outcome_word Committed = committed_word
outcome_word Aborted = aborted_word

-- "Each tx line has position, outcome and values read"
unfoldable pub tx_line : ℕ → Outcome → List ℕ → List ℕ
tx_line position outcome values = tx_word ++ decimal position ++ outcome_word outcome ++ spaced values ++ new_line

-- "each rec line number and contents"
unfoldable pub rec_line : ℕ → ℕ → List ℕ
rec_line number contents = rec_word ++ decimal number ++ space ++ decimal contents ++ new_line

-- "the last line three counts"
unfoldable pub counts_line : ℕ → ℕ → ℕ → List ℕ
counts_line steps refused waits =
    steps_word ++ decimal steps ++ refused_word ++ decimal refused ++ waits_word ++ decimal waits ++ new_line

-- ""not sealed" stands in place of the tx and rec lines"
unfoldable pub not_sealed_line : List ℕ
not_sealed_line = 110 ∷ 111 ∷ 116 ∷ 32 ∷ 115 ∷ 101 ∷ 97 ∷ 108 ∷ 101 ∷ 100 ∷ 10 ∷ []

-- "A refused opening prints only "refused" and the number."
unfoldable pub refused_line : ℕ → List ℕ
refused_line number = refused_first ++ decimal number ++ new_line
