-- Wrong tellings of what a run from C hands out.
use Rattle.std.specs.Prelude.{ℕ, List, [], ◌∷◌, refl, replicate}
use Rattle.counters.specs.declared.Outcome.TheVariants.{Committed}
use Rattle.desk.specs.Offer.{offer_of}
use Rattle.desk.specs.Program.{transaction_at, printed, output_of}
use Rattle.desk.specs.Text.{decimal, tx_line, rec_line, counts_line, not_sealed_line, refused_line}
use Rattle.capi.specs.Lent.{slots_of}
use Rattle.capi.specs.Report.{outcomes_of}
use Rattle.capi.specs.Running.{Returned, ran_of}
use Rattle.promised.specs.Told.{transaction_told, text_of}
use Rattle.instances.specs.Listing.{log, after}
use Rattle.excluded.specs.Capi.{log as single, results, outcomes}
use Rattle.excluded.specs.Desk.{step}
use Rattle.excluded.specs.Rows.{Row, row, AllExclude, all_exclude, numbers}

-- what the listing's run hands out, with the bytes that say what became of its transactions
abbrev handed : List ℕ → Returned
handed marks =
    record {
      number = 0;
      records = 7 ∷ 15 ∷ 30 ∷ 40 ∷ [];
      results = 10 ∷ 0 ∷ 0 ∷ 0 ∷ 15 ∷ 0 ∷ 0 ∷ 0 ∷ 15 ∷ [];
      outcomes = marks;
      counts = 29 ∷ 0 ∷ 1 ∷ 1 ∷ [];
    }

abbrev right : Returned
right = handed (1 ∷ 1 ∷ 2 ∷ 1 ∷ [])

abbrev exchanged : Returned
exchanged = handed (2 ∷ 2 ∷ 1 ∷ 2 ∷ [])

-- a place of partition 1, offered to a library that makes one partition
abbrev of_one : Returned
of_one = ran_of 1 2 1 single (step 1 1 0) (10 ∷ []) results outcomes (replicate 4 0)

abbrev pub rows : List Row
rows =
    -- committed told as aborted, and aborted as committed (outcomes_exchanged)
    row numbers (text_of 4 log right) (text_of 4 log exchanged)
    -- positions from 2 on: the first transaction's (positions_from_two)
    ∷ row numbers (transaction_told 4 log right 0) (tx_line 2 Committed (10 ∷ []))
    -- the program's output told of a library with one partition (library_of_one_partition)
    ∷ row numbers (output_of (10 ∷ replicate 7 0) single (step 1 1 0)) (text_of 1 single of_one)
    ∷ []

pub promised_exclude : AllExclude rows
unfolding
    after offer_of slots_of outcomes_of output_of printed transaction_at tx_line rec_line counts_line not_sealed_line
    refused_line decimal
promised_exclude = all_exclude rows refl
