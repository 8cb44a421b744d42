-- Laws of placing: the way that the code goes.
use Rattle.std.specs.Prelude.{ℕ, zero, suc, ◌+◌, Bool, true, false, ◌&&◌, cond, List, [], ◌∷◌, ◌≡◌, refl}
use Rattle.std.specs.Prelude.{length, get_or, set, Option, None, Some, Result, Ok, Err}
use Rattle.std.specs.Bool.{then_some}
use Rattle.std.proofs.Common.{ap, ◌∙◌}
use Rattle.terms.specs.Refusals.{Verdict}
use Rattle.terms.specs.declared.refusal.Refused.{Refused}
use Rattle.packed.specs.declared.Transaction.{Transaction}
use Rattle.versions.specs.declared.Version.{Version}
use Rattle.engine.specs.Counting.{some_below}
use Rattle.engine.specs.Lent.{joined, numbers_of}
use Rattle.engine.specs.LawsPlan.{if_accepted, answered}
use Rattle.engine.specs.Place.{meaning_at, slot_of, position_of, written_in, not_below, meets_wrong, place_verdict}
use Rattle.engine.specs.Place.{Plans, write_of, place_write, place_below, placed_when, place_of}
use Rattle.engine.specs.Range.{placed_by}
use Rattle.engine.specs.Tables.{newest_of}
use Rattle.engine.specs.declared.State.{State}
use Rattle.engine.specs.declared.lent.Numbers.{Numbers}
use Rattle.engine.specs.declared.place.Placing.{Placing}

-- ---- the plan of a place step
-- the record of write j, where it is declared and lies in the partition
abbrev pub written_at : ℕ → ℕ → Transaction → ℕ → Option ℕ
written_at partitions p t j = then_some (written_in partitions p t j) (write_of t j)

abbrev pub writes_of : ℕ → ℕ → Transaction → List (Option ℕ)
writes_of partitions p t =
    written_at partitions p t 0
    ∷ written_at partitions p t 1
    ∷ written_at partitions p t 2
    ∷ written_at partitions p t 3
    ∷ []

abbrev pub placing_with : State → ℕ → ℕ → Transaction → Placing
placing_with s p i t =
    record { transaction = i; position = position_of s i; writes = writes_of s.partitions p t; count = i + 1 }

abbrev pub placing_of : State → ℕ → List ℕ → Placing
placing_of s p log = placing_with s p (placed_by s p) (meaning_at s log (placed_by s p))

abbrev pub place_plan : State → ℕ → List ℕ → List ℕ → ℕ → Result Placing Refused
place_plan s p log newest versions = if_accepted (place_verdict s p log newest versions) (placing_of s p log)

-- a partition has placed so many
abbrev pub placed_numbers : Numbers → ℕ → ℕ → Numbers
placed_numbers numbers p count =
    record {
      records = numbers.records;
      partitions = numbers.partitions;
      workers = numbers.workers;
      next = numbers.next;
      size = numbers.size;
      batch = numbers.batch;
      placed = set numbers.placed p count;
    }

-- the numbers after it
abbrev pub numbers_after : Result Placing Refused → Numbers → ℕ → Numbers
numbers_after (Ok plan) numbers p = placed_numbers numbers p plan.count
numbers_after (Err why) numbers p = numbers

-- ---- 15
abbrev pub meets_at : ℕ → Option ℕ → ℕ → List ℕ → Bool
meets_at i None j newest = false
meets_at i (Some r) j newest = not_below (newest_of newest r) (slot_of i j)

-- what the code tests in the four writes is what the definition does
pub meets_told : (partitions p i : ℕ) (t : Transaction) (newest : List ℕ)
    → some_below 4 (λ j. meets_at i (get_or (writes_of partitions p t) j None) j newest)
    ≡ some_below 4 (meets_wrong partitions p i t newest)
unfolding some_below
meets_told partitions p i t newest = rw (one 0, one 1, one 2, one 3) refl
  where
    one : (j : ℕ) → meets_at i (written_at partitions p t j) j newest ≡ meets_wrong partitions p i t newest j
    one j = go (written_in partitions p t j)
      where
        go : (here : Bool) → meets_at i (then_some here (write_of t j)) j newest
            ≡ (here && not_below (newest_of newest (write_of t j)) (slot_of i j))
        go true = refl
        go false = refl

-- ---- one write after the other
abbrev pub both : List ℕ → List Version → Plans
both newest versions = record { newest = newest; versions = versions }

abbrev pub write_on : ℕ → ℕ → Option ℕ → Plans → Plans
write_on position slot None plans = plans
write_on position slot (Some r) plans = place_write position slot r plans

-- those below a number
abbrev pub writes_below : ℕ → Placing → Plans → Plans
writes_below zero plan plans = plans
writes_below (suc j) plan plans =
    write_on plan.position (slot_of plan.transaction j) (get_or plan.writes j None) (writes_below j plan plans)

-- ---- what the code comes to is the definition
write_told : (here : Bool) (position slot r : ℕ) (plans : Plans)
    → write_on position slot (then_some here r) plans ≡ cond here (place_write position slot r plans) plans
write_told true position slot r plans = refl
write_told false position slot r plans = refl

-- the tables after it
abbrev pub place_tables : Result Placing Refused → Plans → Plans
place_tables (Ok plan) plans = writes_below 4 plan plans
place_tables (Err why) plans = plans

module _ (s : State) (p : ℕ) (log newest : List ℕ) (versions : List Version) where
  -- the plan's answer and numbers, joined with transactions and workers as they were, are the definition's
  pub place_stepped : record {
    answer = answered (place_plan s p log newest (length versions));
    state = joined (numbers_after (place_plan s p log newest (length versions)) (numbers_of s) p) s.rows s.crew;
  }
      ≡ (place_of s p log newest versions).stepped
  unfolding place_of
  place_stepped = go (place_verdict s p log newest (length versions))
    where
      go : (v : Verdict)
          → record {
            answer = answered (if_accepted v (placing_of s p log));
            state = joined (numbers_after (if_accepted v (placing_of s p log)) (numbers_of s) p) s.rows s.crew;
          }
          ≡ (placed_when v s p log (both newest versions)).stepped
      go (Ok tt) = refl
      go (Err why) = refl

  -- only the numbers change: the state by value, put together again, from the definition's own
  pub place_joined : record {
    answer = (place_of s p log newest versions).stepped.answer;
    state = joined (numbers_of (place_of s p log newest versions).stepped.state) s.rows s.crew;
  }
      ≡ (place_of s p log newest versions).stepped
  unfolding place_of
  place_joined = go (place_verdict s p log newest (length versions))
    where
      go : (v : Verdict)
          → record {
            answer = (placed_when v s p log (both newest versions)).stepped.answer;
            state = joined (numbers_of (placed_when v s p log (both newest versions)).stepped.state) s.rows s.crew;
          }
          ≡ (placed_when v s p log (both newest versions)).stepped
      go (Ok tt) = refl
      go (Err why) = refl

  place_plans : place_tables (place_plan s p log newest (length versions)) (both newest versions)
      ≡ (place_of s p log newest versions).plans
  unfolding place_of
  place_plans = go (place_verdict s p log newest (length versions))
    where
      i : ℕ
      i = placed_by s p

      t : Transaction
      t = meaning_at s log (placed_by s p)

      one : (plans : Plans) (j : ℕ)
          → write_on (position_of s i) (slot_of i j) (written_at s.partitions p t j) plans
          ≡ cond (written_in s.partitions p t j) (place_write (position_of s i) (slot_of i j) (write_of t j) plans)
          plans
      one plans j = write_told (written_in s.partitions p t j) (position_of s i) (slot_of i j) (write_of t j) plans

      on : ℕ → Plans → Plans
      on j plans = write_on (position_of s i) (slot_of i j) (written_at s.partitions p t j) plans

      go : (v : Verdict) → place_tables (if_accepted v (placing_of s p log)) (both newest versions)
          ≡ (placed_when v s p log (both newest versions)).plans
      go (Ok tt) =
          ap (λ q. on 3 (on 2 (on 1 q))) (one (both newest versions) 0)
          ∙ ap (λ q. on 3 (on 2 q)) (one (place_below 1 s p i t (both newest versions)) 1)
          ∙ ap (on 3) (one (place_below 2 s p i t (both newest versions)) 2)
          ∙ one (place_below 3 s p i t (both newest versions)) 3
      go (Err why) = refl

  pub place_newest : (place_tables (place_plan s p log newest (length versions)) (both newest versions)).newest
      ≡ (place_of s p log newest versions).plans.newest
  place_newest = ap (λ plans. plans.newest) place_plans

  pub place_versions : (place_tables (place_plan s p log newest (length versions)) (both newest versions)).versions
      ≡ (place_of s p log newest versions).plans.versions
  place_versions = ap (λ plans. plans.versions) place_plans
