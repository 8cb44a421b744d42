-- Wrong answers of the calls from C.
use Rattle.std.specs.Prelude.{ℕ, false, List, [], ◌∷◌, ◌++◌, refl, replicate}
use Rattle.terms.specs.Refusals.{verdict_number, verdict_place}
use Rattle.packed.specs.Encode.{encode}
use Rattle.packed.specs.Unpacking.{unpack_of}
use Rattle.packed.specs.declared.Action.TheVariants.{Floor}
use Rattle.counters.specs.Listing.{transaction}
use Rattle.versions.specs.Entry.{empty_entry}
use Rattle.engine.specs.Make.{make_of}
use Rattle.engine.specs.declared.State.{State}
use Rattle.desk.specs.Offer.{offer_of}
use Rattle.desk.specs.declared.Tally.{Tally}
use Rattle.capi.specs.Lent.{slots_of}
use Rattle.capi.specs.Report.{outcomes_of}
use Rattle.capi.specs.Running.{Returned, batch_of, keeps, ran_of}
use Rattle.instances.specs.Listing.{after}
use Rattle.excluded.specs.Desk.{step, tally, tally_of}
use Rattle.excluded.specs.Rows.{Row, row, AllExclude, all_exclude, numbers}

-- what a check tells: the number and the place
abbrev checked : ℕ → List ℕ → List ℕ
checked records bytes =
    verdict_number (unpack_of records bytes).verdict ∷ verdict_place (unpack_of records bytes).verdict ∷ []

-- what a run tells besides records and results
abbrev told : Returned → List ℕ
told x = x.number ∷ x.counts ++ x.outcomes

-- a batch of one transaction, which reads record 0 and aborts, since its contents are not 11 or more; it is placed,
-- claimed and advanced twice, and a step of another kind is refused. Nothing is sealed.
abbrev pub log : List ℕ
log = encode (transaction (0 ∷ []) [] (Floor 0 11 ∷ []))

abbrev steps : List ℕ
steps = step 1 0 0 ++ step 2 0 0 ++ step 3 0 0 ++ step 3 0 0 ++ step 5 0 0

-- the batch run on one record of 10, with 256 results; and what a run hands back that takes them for refused, or tells
-- other outcomes or counts
abbrev pub results : List ℕ
results = replicate 256 0

abbrev pub outcomes : List ℕ
outcomes = replicate 64 0

abbrev ran : Returned
ran = ran_of 1 1 1 log steps (10 ∷ []) results outcomes (replicate 4 0)

abbrev telling : List ℕ → List ℕ → Returned
telling marks counts =
    record {
      number = 0;
      records = 10 ∷ [];
      results = 10 ∷ replicate 255 0;
      outcomes = marks ++ replicate 63 0;
      counts = counts;
    }

-- a store of one record, and a step of another kind after an opening with no log, which is refused by 2
abbrev store : State
store = (make_of 1 1 1 1).state

abbrev refused_batch : Tally
refused_batch =
    (batch_of store [] (step 5 0 0) (10 ∷ []) (slots_of 1) (replicate 256 empty_entry) results).tally

abbrev pub rows : List Row
rows =
    -- uxoladun_check: the number told as the place, of no bytes (place_is_not_told)
    row numbers (checked 1 []) (2 ∷ 2 ∷ [])
    -- record 1 accepted where there is one record (another_number_of_records)
    ∷ row numbers (checked 1 (encode (transaction (1 ∷ []) [] (Floor 1 11 ∷ [])))) (0 ∷ 0 ∷ [])
    -- uxoladun_run: 256 results refused (results_of_another_length)
    ∷ row told ran (keeps 1 (10 ∷ []) results outcomes (replicate 4 0))
    -- an aborted transaction told as committed (aborted_told_as_committed)
    ∷ row told ran (telling (1 ∷ []) (5 ∷ 1 ∷ 0 ∷ 0 ∷ []))
    -- the waits told in the refused steps' place (count_in_another_place)
    ∷ row told ran (telling (2 ∷ []) (5 ∷ 0 ∷ 0 ∷ 0 ∷ []))
    -- inside a run: a step offered after a refused opening (steps_after_a_refused_opening). The caller sees nothing of
    -- it, since counts and outcomes are not told then and the engine refuses every step with no batch open
    ∷ row tally refused_batch (tally_of store 1 1 0 false)
    ∷ []

pub capi_exclude : AllExclude rows
unfolding after unpack_of offer_of slots_of outcomes_of
capi_exclude = all_exclude rows refl
