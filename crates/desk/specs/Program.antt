-- What the program prints, from the bytes of records.bin, log.bin and steps.bin. "A missing file counts as empty."
use Rattle.std.specs.Prelude.{ℕ, zero, suc, ◌+◌, ◌*◌, ◌/◌, ◌%◌, cond, List, [], Ok, Err}
use Rattle.std.specs.Prelude.{◌∷◌, ◌++◌, ltb, eqb, length, get_or, take, drop, replicate}
use Rattle.terms.specs.Refusals.{number_of, Verdict}
use Rattle.terms.specs.Reserved.{no_slot}
use Rattle.little.specs.Little.{number_in}
use Rattle.packed.specs.Unpacking.{unpack_at_of}
use Rattle.versions.specs.Entry.{empty_entry}
use Rattle.counters.specs.declared.Outcome.{Outcome}
use Rattle.counters.specs.declared.Outcome.TheVariants.{Aborted}
use Rattle.engine.specs.Make.{make_of}
use Rattle.engine.specs.Open.{open_of, entries_in, Opened}
use Rattle.engine.specs.Rows.{row}
use Rattle.engine.specs.declared.Answer.{Answer}
use Rattle.engine.specs.declared.Answer.TheVariants.{Accepted, Waits, Refused}
use Rattle.engine.specs.declared.Made.{Made}
use Rattle.engine.specs.declared.Progress.{Progress}
use Rattle.engine.specs.declared.Progress.TheVariants.{Unprocessed, Executing, Complete}
use Rattle.engine.specs.declared.State.{State}
use Rattle.desk.specs.Counts.{begun}
use Rattle.desk.specs.Offer.{Session, session_of, run_of}
use Rattle.desk.specs.Text.{tx_line, rec_line, counts_line, not_sealed_line, refused_line}
use Rattle.desk.specs.declared.Tally.{Tally}

-- "N is the length of records.bin over 8; a length that gives no proper N is a refused opening with 1."
abbrev pub records_in : ℕ → ℕ
records_in bytes = cond (eqb (bytes % 8) 0) (bytes / 8) 0

-- "P and W are 2, first position 1."
abbrev pub made_from : ℕ → Made
made_from bytes = make_of (records_in bytes) 2 2 1

-- "records.bin (8-byte numbers)": number k of the file
abbrev pub number_at : List ℕ → ℕ → ℕ
number_at bytes k = number_in (take 8 (drop (8 * k) bytes))

-- the first numbers of the file
abbrev pub numbers_of : List ℕ → ℕ → List ℕ
numbers_of bytes zero = []
numbers_of bytes (suc count) = numbers_of bytes count ++ (number_at bytes count ∷ [])

-- the tables that the program lends: N numbers, 256 versions and 256 numbers
abbrev pub opened_from : State → List ℕ → Opened
opened_from state log =
    open_of state log (replicate state.records no_slot) (replicate 256 empty_entry) (replicate 256 0)

-- the outcome of a transaction; after an accepted seal every one of the batch is Complete
abbrev pub outcome_of : Progress → Outcome
outcome_of Unprocessed = Aborted
outcome_of (Executing worker) = Aborted
outcome_of (Complete outcome) = outcome

-- "four result numbers at 4i are the values read, then zeros": those of the declared reads
abbrev pub four_at : List ℕ → ℕ → List ℕ
four_at results place =
    get_or results place 0
    ∷ get_or results (place + 1) 0 ∷ get_or results (place + 2) 0 ∷ get_or results (place + 3) 0 ∷ []

abbrev pub reads_of : ℕ → List ℕ → ℕ → ℕ
reads_of n log index = (unpack_at_of n log index).meaning.readcount

-- the line of a transaction; "Transaction i of a batch (from 0) has position F + i", and F is 1. A batch has at most
-- 64.
unfoldable pub transaction_at : Tally → List ℕ → List ℕ → ℕ → List ℕ
transaction_at tally log results index =
    cond (ltb index 64)
    (tx_line (index + 1) (outcome_of (get_or tally.state.rows index (row Unprocessed)).progress)
    (take (reads_of tally.state.records log index) (four_at results (4 * index))))
    []

-- the line of a record
abbrev pub record_at : List ℕ → ℕ → List ℕ
record_at records number = rec_line number (get_or records number 0)

-- the line of the counts
abbrev pub counts_of : Tally → List ℕ
counts_of tally = counts_line tally.offered tally.refused tally.waits

-- the lines of all indices below a count, in order
abbrev pub lines_below : ℕ → (ℕ → List ℕ) → List ℕ
lines_below zero line = []
lines_below (suc count) line = lines_below count line ++ line count

-- "With no seal accepted, "not sealed" stands in place of the tx and rec lines."
unfoldable pub printed : List ℕ → Session → List ℕ
printed log s =
    cond s.tally.sealed
    (lines_below (entries_in log) (transaction_at s.tally log s.results)
    ++ lines_below (length s.records) (record_at s.records))
    not_sealed_line
    ++ counts_of s.tally

-- an opening that was answered: "A refused opening prints only "refused" and the number." An opening does not wait.
abbrev pub after_opening : Answer → Opened → List ℕ → List ℕ → List ℕ → List ℕ
after_opening Accepted opened records log steps =
    printed log (run_of steps (length steps) log
    (session_of (begun opened.stepped.state) records opened.newest opened.versions opened.results))
after_opening (Waits position) opened records log steps = []
after_opening (Refused refusal place) opened records log steps = refused_line (number_of refusal)

-- a store that was made, or not
abbrev pub after_making : Verdict → State → List ℕ → List ℕ → List ℕ → List ℕ
after_making (Ok _) state stored log steps =
    let opened = opened_from state log in
    after_opening opened.stepped.answer opened (numbers_of stored state.records) log steps
after_making (Err why) state stored log steps = refused_line (number_of why.refusal)

-- all that the program prints
unfoldable pub output_of : List ℕ → List ℕ → List ℕ → List ℕ
output_of stored log steps =
    let made = made_from (length stored) in
    after_making made.verdict made.state stored log steps
