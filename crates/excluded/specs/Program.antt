-- Wrong answers of what the program prints and of the store that it makes.
use Rattle.std.specs.Prelude.{ℕ, true, List, [], ◌∷◌, ◌++◌, refl, take}
use Rattle.terms.specs.Refusals.{number_of, place_of, verdict_number}
use Rattle.terms.specs.declared.refusal.Refusal.TheVariants.{WrongLength}
use Rattle.counters.specs.declared.Outcome.TheVariants.{Committed, Aborted}
use Rattle.engine.specs.Answers.{answer_number}
use Rattle.engine.specs.Make.{make_of}
use Rattle.engine.specs.Rows.{row as transaction}
use Rattle.engine.specs.States.{with_row}
use Rattle.engine.specs.declared.Answer.{Answer}
use Rattle.engine.specs.declared.Answer.TheVariants.{Refused}
use Rattle.engine.specs.declared.Made.{Made}
use Rattle.engine.specs.declared.Progress.TheVariants.{Complete}
use Rattle.desk.specs.Lines.{line_of}
use Rattle.desk.specs.Program.{records_in, transaction_at, record_at, counts_of}
use Rattle.desk.specs.Text.{decimal, new_line, tx_line, rec_line, counts_line, not_sealed_line, refused_line}
use Rattle.desk.specs.declared.Line.{Line}
use Rattle.desk.specs.declared.Tally.{Tally}
use Rattle.instances.specs.Listing.{log, made as store, after}
use Rattle.excluded.specs.Desk.{tally_of}
use Rattle.excluded.specs.Rows.{Row, row, AllExclude, all_exclude}

abbrev line : Line → List ℕ
line x = x.length ∷ x.bytes

abbrev made : Made → List ℕ
made x = verdict_number x.verdict ∷ x.state.records ∷ []

-- four numbers, of which a transaction reads one; the listing's records and results at the end, and a tally with its
-- counts and its second transaction
abbrev four : List ℕ
four = 10 ∷ 0 ∷ 0 ∷ 0 ∷ []

abbrev records : List ℕ
records = 7 ∷ 15 ∷ 30 ∷ 40 ∷ []

abbrev results : List ℕ
results = 10 ∷ 0 ∷ 0 ∷ 0 ∷ 15 ∷ 0 ∷ 0 ∷ 0 ∷ []

abbrev end : Tally
end = tally_of (with_row store.state 1 (transaction (Complete Committed))) 29 0 1 true

-- "sealed" and "refused", with no space about them
abbrev sealed_word : List ℕ
sealed_word = 115 ∷ 101 ∷ 97 ∷ 108 ∷ 101 ∷ 100 ∷ []

abbrev refused_word : List ℕ
refused_word = 114 ∷ 101 ∷ 102 ∷ 117 ∷ 115 ∷ 101 ∷ 100 ∷ []

-- an opening refused by 2
abbrev refusing : Answer
refusing = Refused WrongLength (place_of WrongLength 0)

-- the text that a function gives, and the one that a wrong program gives
abbrev text : List ℕ → List ℕ → Row
text given wrong = row line (line_of given) (line_of wrong)

abbrev pub lines : List Row
lines =
    -- transaction_line: four values, whatever the count (four_values)
    text (tx_line 1 Committed (take 1 four)) (tx_line 1 Committed four)
    -- committed told as aborted (committed_told_as_aborted)
    ∷ text (tx_line 1 Committed (take 1 four)) (tx_line 1 Aborted (take 1 four))
    -- record_line: the contents in the number's place (contents_for_the_number), and the other way round
    -- (number_for_the_contents)
    ∷ text (rec_line 0 7) (rec_line 7 7)
    ∷ text (rec_line 0 7) (rec_line 0 0)
    -- counts_line: waits told as refused (waits_told_as_refused); refused told as steps (refused_told_as_steps)
    ∷ text (counts_line 29 0 1) (counts_line 29 1 1)
    ∷ text (counts_line 29 0 1) (counts_line 0 0 1)
    -- not_sealed_line: no end of the line (no_end_of_the_line); "sealed" (told_as_sealed)
    ∷ text not_sealed_line (110 ∷ 111 ∷ 116 ∷ 32 ∷ sealed_word)
    ∷ text not_sealed_line (sealed_word ++ new_line)
    -- refused_line: no space before the number (no_space_before_the_number); 0 for 2 (refused_by_zero)
    ∷ text (refused_line 2) (refused_word ++ decimal 2 ++ new_line)
    ∷ text (refused_line 2) (refused_line 0)
    -- refusal_line: 1 for refusal 2; 15 for it (refusal_by_fifteen)
    ∷ text (refused_line (number_of WrongLength)) (refused_line 1)
    ∷ text (refused_line (number_of WrongLength)) (refused_line 15)
    -- opening_line: 1 for refusal 2; 15 for it (opening_by_fifteen)
    ∷ text (refused_line (answer_number refusing)) (refused_line 1)
    ∷ text (refused_line (answer_number refusing)) (refused_line 15)
    ∷ []

abbrev pub rows : List Row
rows =
    -- make_for: first position 0, which no making accepts (made_from_zero)
    row made (make_of (records_in 32) 2 2 1) (make_of 4 2 2 0)
    -- 33 bytes rounded down to 4 records (length_rounded_down)
    ∷ row made (make_of (records_in 33) 2 2 1) (make_of 4 2 2 1)
    -- transaction_at: transaction 1 with position 3 (positions_from_two); its results from 3 on (results_by_three)
    ∷ text (transaction_at end log results 1) (tx_line 3 Committed (15 ∷ []))
    ∷ text (transaction_at end log results 1) (tx_line 2 Committed (0 ∷ []))
    -- record_at: the contents of record 0 for record 1 (contents_of_the_first_record)
    ∷ text (record_at records 1) (rec_line 1 7)
    -- number 0 for record 1 (number_zero_for_every_record)
    ∷ text (record_at records 1) (rec_line 0 15)
    -- 1 past the last record (one_past_the_last_record)
    ∷ text (record_at records 4) (rec_line 4 1)
    -- counts_of: waits and refused exchanged (waits_and_refused_exchanged)
    ∷ text (counts_of end) (counts_line 29 1 0)
    -- offered told as waits (offered_told_as_waits)
    ∷ text (counts_of end) (counts_line 29 0 29)
    ∷ []

pub lines_exclude : AllExclude lines
unfolding tx_line rec_line counts_line not_sealed_line refused_line decimal
lines_exclude = all_exclude lines refl

pub program_exclude : AllExclude rows
unfolding after transaction_at tx_line rec_line counts_line decimal
program_exclude = all_exclude rows refl
