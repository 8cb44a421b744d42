-- The library for C does what the program does. In words: on the numbers of records.bin, the log and the steps, with
-- two partitions, two workers and the first position 1, as the program has them, a run from C makes the program's run.
-- The program's whole output (`output_of`, desk/specs/Program.antt) is the text (`Told.antt`) of what that run hands
-- out:
-- "refused" and the number where it refuses the store or its opening; else each transaction's outcome and values read
-- and the records after it, or "not sealed", and the three counts. That the program's code prints `output_of` is
-- compared, not proved.
--
-- The hypotheses are the lengths of the arrays that the caller lends, and what these hold before does not matter.
-- Nothing is asked of the three files: the same bytes, any bytes, are given to both.
--
-- It is not vacuous: there are lists of these lengths, and the listing's batch is opened and sealed
-- (instances/specs/Listing.antt, by computation); three empty files are refused with 1.
use Rattle.std.specs.Prelude.{ℕ, List, ◌≡◌, length}
use Rattle.std.proofs.Common.{sym, ◌∙◌}
use Rattle.terms.specs.Refusals.{number_of}
use Rattle.terms.specs.declared.refusal.Refusal.{Refusal}
use Rattle.desk.specs.Program.{records_in, numbers_of, output_of}
use Rattle.desk.specs.Text.{refused_line}
use Rattle.capi.specs.Running.{Returned, ran_of}
use Rattle.promised.specs.LawsProgram.{run_told}
use Rattle.promised.specs.LawsRefused.{ran_numbered, text_refused, refused_text}
use Rattle.promised.specs.Told.{text_of}

module _ (stored log steps results outcomes counts : List ℕ) (results_lent : length results ≡ 256)
    (outcomes_lent : length outcomes ≡ 64) (counts_lent : length counts ≡ 4) where
  -- the numbers of records.bin, none where its length is no multiple of 8
  abbrev pub records : List ℕ
  records = numbers_of stored (records_in (length stored))

  -- what the library hands out
  abbrev pub handed : Returned
  handed = ran_of 2 2 1 log steps records results outcomes counts

  -- the program's whole output is the text of it
  pub output_as_handed : output_of stored log steps ≡ text_of (records_in (length stored)) log handed
  unfolding output_of
  output_as_handed =
      run_told stored log steps results outcomes counts (records_in (length stored)) results_lent outcomes_lent
      counts_lent

  -- so the program prints "refused" and a number exactly where the library hands out that number
  module _ (refusal : Refusal) where
    pub refused_where_handed : handed.number ≡ number_of refusal
        → output_of stored log steps ≡ refused_line (number_of refusal)
    refused_where_handed is =
        output_as_handed ∙ text_refused (records_in (length stored)) log handed refusal is

    pub handed_where_refused : output_of stored log steps ≡ refused_line (number_of refusal)
        → handed.number ≡ number_of refusal
    handed_where_refused is =
        refused_text (records_in (length stored)) log handed refusal
        (ran_numbered 2 2 1 log steps records results outcomes counts) (sym output_as_handed ∙ is)
