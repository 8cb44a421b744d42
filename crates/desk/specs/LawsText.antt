-- Every line fits in its 128 bytes, and its parts, pushed one after the other, are the line.
use Rattle.std.specs.Prelude.{ℕ, zero, suc, ◌+◌, ◌*◌, ◌/◌, ◌≤◌, Bool, true}
use Rattle.std.specs.Prelude.{false, cond, List, [], ◌∷◌, ◌++◌, ◌≡◌, ltb, length}
use Rattle.std.proofs.Common.{ap, sym, ◌∙◌, arith, length-append}
use Rattle.counters.specs.declared.Outcome.{Outcome}
use Rattle.counters.specs.declared.Outcome.TheVariants.{Committed, Aborted}
use Rattle.desk.specs.LawsLines.{pushed_both, held}
use Rattle.desk.specs.Lines.{pushed_all, line_of}
use Rattle.desk.specs.Text.{digit, digits, decimal, spaced}
use Rattle.desk.specs.Text.{tx_word, rec_word, space, steps_word, refused_word, waits_word}
use Rattle.desk.specs.Text.{refused_first, new_line, outcome_word, tx_line, rec_line, counts_line, refused_line}
use Rattle.desk.specs.Text.{not_sealed_line}

few_digits : (most number : ℕ) → length (digits most number) ≤ most
few_digits zero number = omega arith
few_digits (suc most) number = go (ltb number 10) (few_digits most (number / 10))
  where
    go : (test : Bool) → length (digits most (number / 10)) ≤ most
        → length (cond test (digit number ∷ []) (digits most (number / 10) ++ (digit number ∷ []))) ≤ suc most
    go true few = omega arith
    go false few = omega (arith, length-append (digits most (number / 10)) (digit number ∷ []), few)

few_decimal : (number : ℕ) → length (decimal number) ≤ 20
unfolding decimal
few_decimal number = few_digits 20 number

few_spaced : (numbers : List ℕ) → length (spaced numbers) ≤ 21 * length numbers
few_spaced [] = omega arith
few_spaced (number ∷ numbers) =
    omega (arith, length-append (decimal number) (spaced numbers), few_decimal number, few_spaced numbers)

outcome_word_lem : (outcome : Outcome) → length (outcome_word outcome) ≤ 10
outcome_word_lem Committed = omega arith
outcome_word_lem Aborted = omega arith

-- two parts of a line
both : (first second : List ℕ) (a b : ℕ) → length first ≤ a → length second ≤ b → length (first ++ second) ≤ a + b
both first second a b short few = omega (arith, length-append first second, short, few)

-- the longest: 3 + 20 + 10 + 84 + 1
tx_fits : (position : ℕ) (outcome : Outcome) (values : List ℕ) → length values ≤ 4
    → length (tx_line position outcome values) ≤ 128
unfolding tx_line
tx_fits position outcome values four =
    let number = both tx_word (decimal position) 3 20 (omega arith) (few_decimal position) in
    let word = both (tx_word ++ decimal position) (outcome_word outcome) 23 10 number (outcome_word_lem outcome) in
    let few : length (spaced values) ≤ 84 = omega (arith, few_spaced values, four) in
    let read = both (tx_word ++ decimal position ++ outcome_word outcome) (spaced values) 33 84 word few in
    let all = both (tx_word ++ decimal position ++ outcome_word outcome ++ spaced values) new_line 117 1 read
    (omega arith) in
    omega (arith, all)

rec_fits : (number contents : ℕ) → length (rec_line number contents) ≤ 128
unfolding rec_line
rec_fits number contents =
    let one = both rec_word (decimal number) 4 20 (omega arith) (few_decimal number) in
    let gap = both (rec_word ++ decimal number) space 24 1 one (omega arith) in
    let two = both (rec_word ++ decimal number ++ space) (decimal contents) 25 20 gap (few_decimal contents) in
    let all = both (rec_word ++ decimal number ++ space ++ decimal contents) new_line 45 1 two (omega arith) in
    omega (arith, all)

counts_fits : (steps refused waits : ℕ) → length (counts_line steps refused waits) ≤ 128
unfolding counts_line
counts_fits steps refused waits =
    let one = both steps_word (decimal steps) 6 20 (omega arith) (few_decimal steps) in
    let first = both (steps_word ++ decimal steps) refused_word 26 9 one (omega arith) in
    let two = both (steps_word ++ decimal steps ++ refused_word) (decimal refused) 35 20 first (few_decimal refused) in
    let second = both (steps_word ++ decimal steps ++ refused_word
    ++ decimal refused) waits_word 55 7 two (omega arith) in
    let three = both (steps_word ++ decimal steps ++ refused_word ++ decimal refused
    ++ waits_word) (decimal waits) 62 20
    second (few_decimal waits) in
    let all = both (steps_word ++ decimal steps ++ refused_word ++ decimal refused ++ waits_word
    ++ decimal waits) new_line
    82 1 three (omega arith) in
    omega (arith, all)

refused_fits : (number : ℕ) → length (refused_line number) ≤ 128
unfolding refused_line
refused_fits number =
    let one = both refused_first (decimal number) 8 20 (omega arith) (few_decimal number) in
    let all = both (refused_first ++ decimal number) new_line 28 1 one (omega arith) in
    omega (arith, all)

-- the parts
pub tx_made : (position : ℕ) (outcome : Outcome) (values : List ℕ) → length values ≤ 4
    → pushed_all (pushed_all (pushed_all (pushed_all (pushed_all (line_of []) tx_word) (decimal position))
    (outcome_word outcome))
    (spaced values)) new_line
    ≡ line_of (tx_line position outcome values)
unfolding tx_line
tx_made position outcome values four =
    sym
    (pushed_both (line_of []) (tx_word ++ decimal position ++ outcome_word outcome ++ spaced values) new_line
    ∙ ap
    (λ line. pushed_all line new_line)
    (pushed_both (line_of []) (tx_word ++ decimal position ++ outcome_word outcome) (spaced values)
    ∙ ap
    (λ line. pushed_all line (spaced values))
    (pushed_both (line_of []) (tx_word ++ decimal position) (outcome_word outcome)
    ∙ ap (λ line. pushed_all line (outcome_word outcome)) (pushed_both (line_of []) tx_word (decimal position)))))
    ∙ held (tx_line position outcome values) (tx_fits position outcome values four)

pub rec_made : (number contents : ℕ)
    → pushed_all (pushed_all (pushed_all (pushed_all (pushed_all (line_of []) rec_word) (decimal number)) space)
    (decimal contents)) new_line
    ≡ line_of (rec_line number contents)
unfolding rec_line
rec_made number contents =
    sym
    (pushed_both (line_of []) (rec_word ++ decimal number ++ space ++ decimal contents) new_line
    ∙ ap
    (λ line. pushed_all line new_line)
    (pushed_both (line_of []) (rec_word ++ decimal number ++ space) (decimal contents)
    ∙ ap
    (λ line. pushed_all line (decimal contents))
    (pushed_both (line_of []) (rec_word ++ decimal number) space
    ∙ ap (λ line. pushed_all line space) (pushed_both (line_of []) rec_word (decimal number)))))
    ∙ held (rec_line number contents) (rec_fits number contents)

pub counts_made : (steps refused waits : ℕ)
    → pushed_all (pushed_all (pushed_all (pushed_all (pushed_all (pushed_all (pushed_all (line_of []) steps_word)
    (decimal steps))
    refused_word) (decimal refused)) waits_word) (decimal waits)) new_line
    ≡ line_of (counts_line steps refused waits)
unfolding counts_line
counts_made steps refused waits =
    let first = steps_word ++ decimal steps ++ refused_word in
    let second = steps_word ++ decimal steps ++ refused_word ++ decimal refused ++ waits_word in
    sym
    (pushed_both (line_of []) (second ++ decimal waits) new_line
    ∙ ap
    (λ line. pushed_all line new_line)
    (pushed_both (line_of []) second (decimal waits)
    ∙ ap
    (λ line. pushed_all line (decimal waits))
    (pushed_both (line_of []) (first ++ decimal refused) waits_word
    ∙ ap
    (λ line. pushed_all line waits_word)
    (pushed_both (line_of []) first (decimal refused)
    ∙ ap
    (λ line. pushed_all line (decimal refused))
    (pushed_both (line_of []) (steps_word ++ decimal steps) refused_word
    ∙ ap (λ line. pushed_all line refused_word) (pushed_both (line_of []) steps_word (decimal steps)))))))
    ∙ held (counts_line steps refused waits) (counts_fits steps refused waits)

pub refused_made : (number : ℕ)
    → pushed_all (pushed_all (pushed_all (line_of []) refused_first) (decimal number)) new_line
    ≡ line_of (refused_line number)
unfolding refused_line
refused_made number =
    sym
    (pushed_both (line_of []) (refused_first ++ decimal number) new_line
    ∙ ap (λ line. pushed_all line new_line) (pushed_both (line_of []) refused_first (decimal number)))
    ∙ held (refused_line number) (refused_fits number)

pub not_sealed_made : pushed_all (line_of []) not_sealed_line ≡ line_of not_sealed_line
unfolding not_sealed_line
not_sealed_made = held not_sealed_line (omega arith)
