-- Storing what transactions decide: a run that decides each transaction on the values read and then stores the new
-- contents of the writes that are not carried. LawsAgreement proves that it gives what the one-by-one run gives.
use Rattle.std.specs.Prelude.{ℕ, suc, false, cond, List, [], ◌∷◌, take, slice_index, slice_index_or, slice_set}
use Rattle.packed.specs.declared.Transaction.{Transaction}
use Rattle.counters.specs.Deciding.{decide_of}
use Rattle.counters.specs.OneByOne.{values_on, Ran, ended, with_first}
use Rattle.counters.specs.declared.Decision.{Decision}

-- the declared writes: those within the write count
abbrev pub writes_of : Transaction → List ℕ
writes_of t = take t.writecount t.writes

-- the records after the writes from number j on: a carried write leaves its record as it is
abbrev pub store_from : Decision → List ℕ → ℕ → List ℕ → List ℕ
store_from decision [] j records = records
store_from decision (r ∷ writes) j records =
    store_from decision writes (suc j)
    (cond (slice_index_or decision.carried j false) records (slice_set records r (slice_index decision.contents j)))

unfoldable pub stored : Transaction → Decision → List ℕ → List ℕ
stored t decision records = store_from decision (writes_of t) 0 records

-- "the values read, then zeros"
abbrev pub in_four : List ℕ → List ℕ
in_four values = slice_index values 0 ∷ slice_index values 1 ∷ slice_index values 2 ∷ slice_index values 3 ∷ []

-- what a transaction decides on the records as they are
abbrev pub decision_on : Transaction → List ℕ → Decision
decision_on t records = decide_of t (in_four (values_on t records))

unfoldable pub decided_run : List Transaction → List ℕ → Ran
decided_run [] records = ended records
decided_run (t ∷ log) records =
    with_first (decision_on t records).outcome (values_on t records)
    (decided_run log (stored t (decision_on t records) records))
