-- Pushing bytes, numbers' digits and numbers, and what a line then holds.
use Rattle.std.specs.Prelude.{ℕ, zero, suc, ◌+◌, ◌-◌, ◌/◌, ◌<◌, ◌≤◌, Bool, true, false, min}
use Rattle.std.specs.Prelude.{List, [], ◌∷◌, ◌++◌, ◌≡◌, refl, ltb, length, take, get_or, replicate, set}
use Rattle.std.proofs.Common.{append-nil, append_assoc, ap, sym, ◌∙◌, add-one, arith, ltb-true}
use Rattle.std.proofs.Common.{ltb-false, lt-ltb, le-ltb, length-append, length-take, take-suc, take_all}
use Rattle.std.proofs.lemmas.Bool.{lt-leb}
use Rattle.std.proofs.Math.Seq.{take-append_seam, set-append_seam, append_snoc}
use Rattle.desk.specs.Text.{digit, digits, decimal, spaced}
use Rattle.desk.specs.Lines.{pushed, pushed_all, line_of, text_of}
use Rattle.desk.specs.declared.Line.{Line}

pub pushed_both : (line : Line) (bytes more : List ℕ)
    → pushed_all line (bytes ++ more) ≡ pushed_all (pushed_all line bytes) more
unfolding pushed_all
pushed_both line [] more = refl
pushed_both line (first ∷ bytes) more = pushed_both (pushed line first) bytes more

pub pushed_room : (line : Line) (byte : ℕ) → line.length < 128
    → record { bytes = set line.bytes line.length byte; length = line.length + 1 } ≡ pushed line byte
pushed_room line byte room = rw (lt-leb 128 line.length room)

-- a number's digits
pub digits_none : (line : Line) (most number : ℕ) → most ≡ 0 → line ≡ pushed_all line (digits most number)
unfolding pushed_all
digits_none line most number none = rw none

pub digits_one : (line : Line) (most number : ℕ) → (most ≡ 0 → ⊥) → number < 10
    → pushed line (digit number) ≡ pushed_all line (digits most number)
unfolding pushed_all
digits_one line zero number some small = absurd (some refl)
digits_one line (suc most) number some small = rw (lt-ltb number 10 small)

pub digits_more : (line : Line) (most number : ℕ) → (most ≡ 0 → ⊥) → 10 ≤ number
    → pushed (pushed_all line (digits (most - 1) (number / 10))) (digit number) ≡ pushed_all line (digits most number)
unfolding pushed_all
digits_more line zero number some large = absurd (some refl)
digits_more line (suc most) number some large =
    let less : suc most - 1 ≡ most = omega arith in
    rw (less, le-ltb number 10 large, pushed_both line (digits most (number / 10)) (digit number ∷ []))

-- a loop that pushes bytes one by one: a turn, and its end
pub pushed_next : (line start : Line) (text : List ℕ) (k byte : ℕ) → k < length text → byte ≡ get_or text k 0
    → line ≡ pushed_all start (take k text) → pushed line byte ≡ pushed_all start (take (k + 1) text)
unfolding pushed_all
pushed_next line start text k byte within read so_far =
    rw (
      add-one k,
      take-suc text k 0 within,
      pushed_both start (take k text) (get_or text k 0 ∷ []),
      so_far,
      read,
    )

-- a loop that pushes numbers, each after a space
spaced_last : (numbers : List ℕ) (number : ℕ) → spaced (numbers ++ (number ∷ [])) ≡ spaced numbers ++
    (32 ∷ decimal number)
spaced_last [] number = ap (λ text. 32 ∷ text) (append-nil (decimal number))
spaced_last (first ∷ numbers) number =
    ap
    (λ text. 32 ∷ text)
    (ap (λ text. decimal first ++ text) (spaced_last numbers number)
    ∙ sym (append_assoc (decimal first) (spaced numbers) (32 ∷ decimal number)))

pub spaced_next : (line after start : Line) (numbers : List ℕ) (k number : ℕ) → k < length numbers
    → number ≡ get_or numbers k 0 → line ≡ pushed_all start (spaced (take k numbers))
    → after ≡ pushed_all line (32 ∷ decimal number) → after ≡ pushed_all start (spaced (take (k + 1) numbers))
spaced_next line after start numbers k number within read so_far turn =
    let last : spaced (take (k + 1) numbers) ≡ spaced (take k numbers) ++ (32 ∷ decimal (get_or numbers k 0)) =
    rw (add-one k, take-suc numbers k 0 within, spaced_last (take k numbers) (get_or numbers k 0)) in
    rw (turn, last, pushed_both start (spaced (take k numbers)) (32 ∷ decimal (get_or numbers k 0)), so_far, read)

pub spaced_end : (line start : Line) (numbers : List ℕ) (k : ℕ) → length numbers ≤ k
    → line ≡ pushed_all start (spaced (take k numbers)) → line ≡ pushed_all start (spaced numbers)
spaced_end line start numbers k over so_far =
    so_far ∙ ap (λ taken. pushed_all start (spaced taken)) (take_all k numbers over)

-- a number after a space
pub spaced_one : (line : Line) (number : ℕ)
    → pushed_all (pushed line 32) (decimal number) ≡ pushed_all line (32 ∷ decimal number)
unfolding pushed_all
spaced_one line number = refl

-- nothing pushed
pub pushed_none : (line : Line) → line ≡ pushed_all line []
unfolding pushed_all
pushed_none line = refl

-- the first `count` of four numbers
pub four_taken : (numbers : List ℕ) (count : ℕ) → length numbers ≡ 4
    → take (min count 4) numbers ≡ take count numbers
four_taken numbers count four = go (ltb count 4) refl
  where
    go : (test : Bool) → ltb count 4 ≡ test → take (min count 4) numbers ≡ take count numbers
    go true less =
        let few : min count 4 ≡ count = omega (arith, ltb-true count 4 less) in
        ap (λ k. take k numbers) few
    go false less =
        let all : min count 4 ≡ 4 = omega (arith, ltb-false count 4 less) in
        ap (λ k. take k numbers) all
        ∙ (take_all 4 numbers (omega (arith, four))
        ∙ sym (take_all count numbers (omega (arith, four, ltb-false count 4 less))))

pub four_few : (numbers : List ℕ) (count : ℕ) → length numbers ≡ 4 → length (take count numbers) ≤ 4
four_few numbers count four = omega (arith, length-take count numbers, four)

-- what a line holds
pub text_held : (text : List ℕ) → text_of (line_of text) ≡ text
text_held text = take-append_seam text (replicate (128 - length text) 0)

one_more : (text : List ℕ) (byte : ℕ) → length text < 128 → pushed (line_of text) byte ≡ line_of (text ++ (byte ∷ []))
one_more text byte room =
    let free : 128 - length text ≡ suc (127 - length text) = omega arith in
    let longer : length (text ++ (byte ∷ [])) ≡ length text + 1 = length-append text (byte ∷ []) in
    let left : 128 - length (text ++ (byte ∷ [])) ≡ 127 - length text = omega (arith, longer) in
    let bytes : set (text ++ replicate (128 - length text) 0) (length text) byte
    ≡ text ++ (byte ∷ []) ++ replicate (128 - length (text ++ (byte ∷ []))) 0 =
    rw (free, left, set-append_seam text 0 (replicate (127 - length text) 0) byte)
    (sym (append_snoc text byte (replicate (127 - length text) 0))) in
    sym (pushed_room (line_of text) byte room) ∙ rw (bytes, longer)

all_held : (before text : List ℕ) → length before + length text ≤ 128
    → pushed_all (line_of before) text ≡ line_of (before ++ text)
unfolding pushed_all
all_held before [] room = ap line_of (sym (append-nil before))
all_held before (byte ∷ text) room =
    let longer : length (before ++ (byte ∷ [])) ≡ length before + 1 = length-append before (byte ∷ []) in
    ap (λ line. pushed_all line text) (one_more before byte (omega (arith, room)))
    ∙ (all_held (before ++ (byte ∷ [])) text (omega (arith, room, longer)) ∙ ap line_of (append_snoc before byte text))

-- a text that fits
pub held : (text : List ℕ) → length text ≤ 128 → pushed_all (line_of []) text ≡ line_of text
held text fits = all_held [] text (omega (arith, fits))
