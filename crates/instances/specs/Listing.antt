-- Document 01's listing, run by the engine's own definitions from making the store to the seal.
use Rattle.std.specs.Prelude.{ℕ, true, List, [], ◌∷◌, ◌++◌, map, ◌≡◌, refl, length, replicate, take}
use Rattle.little.specs.Little.{number_in, bytes_of}
use Rattle.terms.specs.Reserved.{no_slot}
use Rattle.packed.specs.Checks.{entry_verdict, verdict_of}
use Rattle.packed.specs.Decode.{action_of, decode, nothing}
use Rattle.packed.specs.Encode.{action_bytes, set_bytes, encode}
use Rattle.packed.specs.Form.{action_nonzero, nonzero, malformed}
use Rattle.packed.specs.Kinds.{uses_of}
use Rattle.packed.specs.Records.{some_of, no_such_record, not_ascending, undeclared_read, undeclared_write}
use Rattle.packed.specs.Unpacking.{unpack_at_of}
use Rattle.packed.specs.declared.Transaction.{Transaction}
use Rattle.counters.specs.Deciding.{worked_of, decide_of}
use Rattle.counters.specs.Listing.{listing}
use Rattle.counters.specs.OneByOne.{values_on, changed_copy, one_by_one}
use Rattle.counters.specs.Storing.{in_four}
use Rattle.counters.specs.Working.{place_in, contents_in, written}
use Rattle.counters.specs.declared.Outcome.TheVariants.{Committed, Aborted}
use Rattle.versions.specs.Entry.{empty_entry}
use Rattle.versions.specs.declared.Version.{Version}
use Rattle.engine.specs.Acts.{unfit, act_of}
use Rattle.engine.specs.Advance.{advance_verdict, advance_of}
use Rattle.engine.specs.Claim.{claim_of}
use Rattle.engine.specs.Counting.{some_below}
use Rattle.engine.specs.Make.{make_of}
use Rattle.engine.specs.Moment.{not_running, not_planning, not_sealable}
use Rattle.engine.specs.Open.{open_verdict, open_of}
use Rattle.engine.specs.Place.{place_verdict, place_of}
use Rattle.engine.specs.Range.{numbers_wrong, out_of_range}
use Rattle.engine.specs.Rows.{row}
use Rattle.engine.specs.Seal.{seal_verdict, seal_of}
use Rattle.engine.specs.States.{unopened}
use Rattle.engine.specs.Workers.{idle_worker}
use Rattle.engine.specs.declared.Answer.TheVariants.{Accepted, Waits}
use Rattle.engine.specs.declared.Progress.TheVariants.{Unprocessed, Complete}
use Rattle.engine.specs.Running.{Engine, Offer, place, claim, advance, seal, opening, offered}
use Rattle.instances.specs.Steps.{Played, played}
use Rattle.instances.specs.Steps.{refused_in, waits_in}

-- "A log is such entries end to end"
abbrev pub log_of : List Transaction → List ℕ
log_of [] = []
log_of (t ∷ transactions) = encode t ++ log_of transactions

-- four results for each transaction: "the values read, then zeros"
abbrev pub in_fours : List (List ℕ) → List ℕ
in_fours [] = []
in_fours (values ∷ rest) = in_four values ++ in_fours rest

unfoldable pub log : List ℕ
log = log_of listing

-- the tables as a caller lends them: of the right lengths, with anything in them
abbrev pub used : Version
used = record { begin = 1; end = 2; previous = 3; contents = 4; produced = true }

-- "P and W are 2, first position 1. Records 10, 20, 30, 40."
unfoldable pub made : Engine
made =
    record {
      state = (make_of 4 2 2 1).state;
      records = 10 ∷ 20 ∷ 30 ∷ 40 ∷ [];
      newest = replicate 4 0;
      versions = replicate 256 used;
      results = replicate 256 5;
    }

unfoldable pub opened : Engine
opened = (opening log made).engine

-- "Steps: place partition 0 four times, partition 1 four times; claim 0 of 3, advance 0 twice; claim 1 of 1, advance 1
-- (waits for 1); claim 0 of 0, advance 0 three times; claim 1 of 1, advance 1 three times; claim 0 of 2, advance 0 six
-- times; seal."
abbrev pub steps : List Offer
steps =
    place 0 ∷ place 0 ∷ place 0 ∷ place 0
    ∷ place 1 ∷ place 1 ∷ place 1 ∷ place 1
    ∷ claim 0 3 ∷ advance 0 ∷ advance 0
    ∷ claim 1 1 ∷ advance 1
    ∷ claim 0 0 ∷ advance 0 ∷ advance 0 ∷ advance 0
    ∷ claim 1 1 ∷ advance 1 ∷ advance 1 ∷ advance 1
    ∷ claim 0 2 ∷ advance 0 ∷ advance 0 ∷ advance 0 ∷ advance 0 ∷ advance 0 ∷ advance 0
    ∷ seal
    ∷ []

-- the engine after so many of them; whoever unfolds it can compute the engine's definitions
unfoldable pub after : ℕ → Engine
unfolding
    log listing encode set_bytes action_bytes bytes_of number_in entry_verdict malformed nonzero action_nonzero
    no_such_record
    not_ascending undeclared_read undeclared_write some_of uses_of verdict_of unpack_at_of decode action_of nothing
    worked_of
    decide_of place_in contents_in written made opened make_of unopened open_of open_verdict numbers_wrong
    out_of_range some_below
    place_of place_verdict not_planning claim_of not_running advance_of advance_verdict unfit act_of seal_of
    seal_verdict
    not_sealable opening offered played
after count = (played log (take count steps) opened).engine

unfoldable pub run : Played
run = played log steps opened

-- the log's bytes are 352, and the batch opens
pub log_length : length log ≡ 352
unfolding after
log_length = refl

pub log_opens : ((opening log made).answer ≡ Accepted) × (opened.state.size ≡ 4)
unfolding after
log_opens = (refl, refl)

-- every step is accepted, and one waits
pub run_answers : run.answers ≡ replicate 12 Accepted ++ Waits (record { 0 = 1 }) ∷ replicate 16 Accepted
unfolding run after
run_answers = refl

-- "steps 29 refused 0 waits 1", and the wait is for position 1
pub run_counts : (length steps ≡ 29) × (length run.answers ≡ 29) × (refused_in run.answers ≡ 0)
    × (waits_in run.answers ≡ 1 ∷ [])
run_counts = rw run_answers (refl, refl, refl, refl)

-- the state at the end: "the next position rises by n, the batch number by 1, and n and all placed counts become 0";
-- the outcomes stay, and every worker is idle
pub run_state : run.engine.state ≡ record {
  records = 4;
  partitions = 2;
  workers = 2;
  next = record { 0 = 5 };
  size = 0;
  batch = record { 0 = 1 };
  placed = replicate 8 0;
  rows =
      row (Complete Committed)
      ∷ row (Complete Committed)
      ∷ row (Complete Aborted)
      ∷ row (Complete Committed)
      ∷ replicate 60 (row Unprocessed);
  crew = replicate 8 idle_worker;
}
unfolding run after
run_state = refl

-- the tables at the end: "rec 0 7", "rec 1 15", "rec 2 30", "rec 3 40"; "The newest-version and version tables are
-- emptied as at opening"; the values read, then zeros
pub run_tables : (run.engine.records ≡ 7 ∷ 15 ∷ 30 ∷ 40 ∷ []) × (run.engine.newest ≡ replicate 4 no_slot)
    × (run.engine.versions ≡ replicate 256 empty_entry)
    × (run.engine.results
    ≡ 10 ∷ 0 ∷ 0 ∷ 0 ∷ 15 ∷ 0 ∷ 0 ∷ 0 ∷ 15 ∷ 0 ∷ 0 ∷ 0 ∷ 0 ∷ 0 ∷ 0 ∷ 0 ∷ replicate 240 0)
unfolding run after
run_tables = (refl, refl, refl, refl)

-- the listing's outcome is its serial outcome
pub run_is_serial : (run.engine.records ≡ (one_by_one listing made.records).records)
    × (take 4 run.engine.state.rows
    ≡ map (λ outcome. row (Complete outcome)) (one_by_one listing made.records).outcomes)
    × (take 16 run.engine.results ≡ in_fours (one_by_one listing made.records).values_read)
unfolding run after one_by_one values_on changed_copy
run_is_serial = (refl, refl, refl)
