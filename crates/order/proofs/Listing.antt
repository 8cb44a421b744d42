-- A batch of four transactions on records 10, 20, 30, 40. It is proper, so the theorem's hypotheses can be met; and
-- its one-by-one run is computed.
--   0 reads 0, writes 0: adds 5 to record 0
--   1 reads 0, writes 1: copies record 0 to record 1
--   2 reads 1, writes 1 and 2: takes 100 from record 1, which aborts
--   3 writes 0: sets record 0 to 7
use Rattle.std.specs.Prelude.{◌≡◌, refl, true, cond, List, [], ◌∷◌, ◌++◌, ℕ, ◌+◌, ◌-◌, ◌^◌, ◌%◌, ltb, get_or, replicate}
use Rattle.std.proofs.Common.{◌∙◌, arith}
use Rattle.std.proofs.Math.Option.{Option, none, some}
use Rattle.std.proofs.Math.Decide.{ℕ_discrete, dec_lt, dec_le}
use Rattle.order.specs.Tables.{updated, marks_below, updated_entry}
use Rattle.order.specs.Batch.{Batch, Proper}
use Rattle.order.specs.Plan.{unplanned, link_write, link_writes, place_next}
use Rattle.order.specs.Machine.{claim, advance, place, act, Answer, stepped, waits_for, opened, produce, with_work}
use Rattle.order.specs.Machine.{with_both}
use Rattle.order.specs.Store.{Offer, step, seal, Reply, refused, accepted, Store, after, after_all, seal_accepted}
use Rattle.order.specs.TableLaws.{find_mark}
use Rattle.order.specs.LastWrite.{slot_among, last_write}
use Rattle.order.proofs.Safety.{is_complete_lem}
use Rattle.order.proofs.Sums.{first_failing}
use Rattle.order.specs.ListRun.{Verdict, store_from, run_all, Setting, batch_of, ran_of, AsListed, Fitting}
use Rattle.order.proofs.ListLaws.{fitting_proper}
use Rattle.order.proofs.ListTheorem.{safety_listed}
use Rattle.order.proofs.Responses.{planning_over, all_complete, respond}
use Rattle.order.proofs.Instance.{MachineStore, opened_machine, offered, machine, machine_meets, just_opened_lem}

pub data Outcome : Type 0 where
  committed : Outcome
  aborted : Outcome

-- What the rules decide: every write gets the same contents here.
abbrev commits : ℕ → Verdict ℕ Outcome
commits x = record { outcome = committed; contents = x ∷ x ∷ []; carried = [] }

abbrev aborts : Verdict ℕ Outcome
aborts = record { outcome = aborted; contents = []; carried = true ∷ true ∷ [] }

abbrev add_five : List ℕ → Verdict ℕ Outcome
add_five values = commits (get_or values 0 0 + 5)

abbrev copy : List ℕ → Verdict ℕ Outcome
copy values = commits (get_or values 0 0)

abbrev take_hundred : List ℕ → Verdict ℕ Outcome
take_hundred values = cond (ltb (get_or values 0 0) 100) aborts (commits (get_or values 0 0 - 100))

abbrev set_seven : List ℕ → Verdict ℕ Outcome
set_seven values = commits 7

abbrev listing : Setting ℕ Outcome
listing = record {
  transactions =
      record { reads = 0 ∷ []; writes = 0 ∷ []; rule = add_five }
      ∷ record { reads = 0 ∷ []; writes = 1 ∷ []; rule = copy }
      ∷ record { reads = 1 ∷ []; writes = 1 ∷ 2 ∷ []; rule = take_hundred }
      ∷ record { reads = []; writes = 0 ∷ []; rule = set_seven }
      ∷ [];
  records = 10 ∷ 20 ∷ 30 ∷ 40 ∷ [];
  size = 4;
  partitions = 2;
  workers = 2;
  first_position = 1;
  no_end = 2 ^ 64 - 1;
  partition_of = λ r. r % 2;
  nothing = record { reads = []; writes = []; rule = set_seven };
  blank = 0;
}

listing_fits : Fitting listing
listing_fits = record {
  all_fit = omega arith;
  nothing_fits = omega arith;
  in_partition = λ r. omega arith;
  some_worker = omega arith;
  some_transaction = omega arith;
  all_known = omega arith;
  positions_fit = omega arith;
}

abbrev batch : Batch ℕ Outcome
batch = batch_of listing

pub batch_proper : Proper batch
batch_proper = fitting_proper listing listing_fits

-- The one-by-one run, computed.
run_outcomes : (ran_of listing).outcomes ≡ committed ∷ committed ∷ aborted ∷ committed ∷ []
unfolding run_all store_from
run_outcomes = refl

run_values : (ran_of listing).values_read ≡ (10 ∷ []) ∷ (15 ∷ []) ∷ (15 ∷ []) ∷ [] ∷ []
unfolding run_all store_from
run_values = refl

run_records : (ran_of listing).records ≡ 7 ∷ 15 ∷ 30 ∷ 40 ∷ []
unfolding run_all store_from
run_records = refl

-- The machine as a store of four records, just opened, and what it answers to a list of offers: none where it refuses.
abbrev store : Store ℕ Outcome (MachineStore batch)
store = machine batch batch_proper 4

abbrev start : MachineStore batch
start = opened_machine batch

answers : MachineStore batch → List Offer → List (Option Answer)
answers c [] = []
answers c (o ∷ os) = answer (store.offer c o) ∷ answers (after c (store.offer c o)) os
  where
    answer : Reply (MachineStore batch) → Option Answer
    answer refused = none
    answer (accepted a d) = some a

-- An order of work in which transaction 3 is claimed first and transaction 1 has to wait for transaction 0.
abbrev order : List Offer
order =
    step (place 0) ∷ step (place 0) ∷ step (place 0) ∷ step (place 0)
    ∷ step (place 1) ∷ step (place 1) ∷ step (place 1) ∷ step (place 1)
    ∷ step (act (claim 0 3)) ∷ step (act (advance 0)) ∷ step (act (advance 0))
    ∷ step (act (claim 1 1)) ∷ step (act (advance 1))
    ∷ step (act (claim 0 0)) ∷ step (act (advance 0)) ∷ step (act (advance 0)) ∷ step (act (advance 0))
    ∷ step (act (claim 1 1)) ∷ step (act (advance 1)) ∷ step (act (advance 1)) ∷ step (act (advance 1))
    ∷ step (act (claim 0 2)) ∷ step (act (advance 0)) ∷ step (act (advance 0)) ∷ step (act (advance 0))
    ∷ step (act (advance 0)) ∷ step (act (advance 0)) ∷ step (act (advance 0))
    ∷ seal ∷ []

-- All 29 offers are accepted, the last is the seal, and one answer is a wait, for position 1.
order_runs : (answers start order ≡ replicate 12 (some stepped) ++ some (waits_for 1) ∷ replicate 16 (some stepped))
    × (seal_accepted store start order ≡ true)
unfolding answers seal_accepted machine opened_machine offered respond planning_over all_complete is_complete_lem
    first_failing opened unplanned place_next link_writes link_write last_write slot_among updated updated_entry
    with_work
    with_both produce marks_below find_mark ℕ_discrete dec_lt dec_le
order_runs = (refl, refl)

-- So the store holds what the run gives: by the theorem.
order_results : AsListed store listing (after_all store start order)
unfolding machine
order_results =
    safety_listed listing listing_fits store (machine_meets batch batch_proper 4) refl start
    (just_opened_lem batch batch_proper 4) order order_runs.1

order_records : store.records (after_all store start order) ≡ 7 ∷ 15 ∷ 30 ∷ 40 ∷ []
order_records = order_results.records_listed ∙ run_records
