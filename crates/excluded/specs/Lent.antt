-- Wrong answers of the steps on lent transactions and workers, at moments of the listing.
use Rattle.std.specs.Prelude.{ℕ, List, [], ◌∷◌, refl, replicate, set}
use Rattle.terms.specs.declared.refusal.Refusal.TheVariants.{NoSuchParty}
use Rattle.counters.specs.declared.Outcome.TheVariants.{Committed}
use Rattle.engine.specs.Advance.{advance_of}
use Rattle.engine.specs.Answers.{accept, refuse}
use Rattle.engine.specs.Claim.{claim_of}
use Rattle.engine.specs.Lent.{joined, numbers_of, counted_of}
use Rattle.engine.specs.Place.{place_of}
use Rattle.engine.specs.Rows.{row as transaction}
use Rattle.engine.specs.Running.{Engine}
use Rattle.engine.specs.Seal.{seal_of, closed}
use Rattle.engine.specs.States.{with_row, with_placed}
use Rattle.engine.specs.Workers.{idle_worker}
use Rattle.engine.specs.declared.Answer.TheVariants.{Accepted}
use Rattle.engine.specs.declared.Progress.{Progress}
use Rattle.engine.specs.declared.Progress.TheVariants.{Unprocessed, Executing, Complete}
use Rattle.engine.specs.declared.State.{State}
use Rattle.engine.specs.declared.lent.Counted.{Counted}
use Rattle.engine.specs.declared.lent.Numbers.{Numbers}
use Rattle.instances.specs.Listing.{log, opened, after}
use Rattle.instances.specs.Moments.{planned, deciding, filling}
use Rattle.excluded.specs.Parts.{answered, transactions, workers, numbers_in, counted, row_at, complete}
use Rattle.excluded.specs.Rows.{Row, AllExclude, all_exclude}

-- ---- the calls at a moment: numbers, transactions and workers are those of its state
abbrev lent : Engine → State
lent c = joined (numbers_of c.state) c.state.rows c.state.crew

abbrev place_at : Engine → ℕ → Counted
place_at c p = counted_of (place_of (lent c) p log c.newest c.versions).stepped

abbrev advance_at : Engine → ℕ → List ℕ → State
advance_at c w bytes =
    (advance_of (lent c) w bytes c.records c.newest c.versions c.results).stepped.state

abbrev seal_at : Engine → Counted
seal_at c = counted_of (seal_of (lent c) c.records c.newest c.versions).stepped

-- the first transaction stands otherwise
abbrev with_first : State → Progress → State
with_first s progress = with_row s 0 (transaction progress)

-- ---- the wrong answers
-- after a seal n is what it was
abbrev closed_with : State → ℕ → Counted
closed_with s n =
    record {
      answer = Accepted;
      numbers =
          record {
            records = s.records;
            partitions = s.partitions;
            workers = s.workers;
            next = (closed s).next;
            size = n;
            batch = (closed s).batch;
            placed = (closed s).placed;
          };
    }

-- other numbers of a state: its placed counts, its batch number
abbrev numbers_with : State → List ℕ → ℕ → Numbers
numbers_with s placed batch =
    record {
      records = s.records;
      partitions = s.partitions;
      workers = s.workers;
      next = s.next;
      size = s.size;
      batch = record { 0 = batch };
      placed = placed;
    }

abbrev pub rows : List Row
rows =
    -- place: partition 0 has placed all four, and is refused by 10 (lent_placed_all_by_ten)
    row_at (after 4) counted (λ c. place_at c 0) (λ c. counted_of (refuse c.state NoSuchParty 0))
    -- the count of partition 0 set to 0 by its second place (lent_count_of_zero)
    ∷ row_at (after 1) counted (λ c. place_at c 0) (λ c. counted_of (accept (with_placed c.state 0 0)))
    -- claim: transaction 3 Executing by a worker of its own number (lent_claim_by_another)
    ∷ row_at planned transactions
    (λ c. (claim_of (lent c) 0 3).state.rows)
    (λ c. set c.state.rows 3 (transaction (Executing 3)))
    -- a claim refused, by 10, that writes the first transaction, which is Complete (lent_refused_claim_writes)
    ∷ row_at planned transactions
    (λ c. (claim_of (with_first (lent c) (Complete Committed)) 2 1).state.rows)
    (λ c. set c.state.rows 0 (transaction Unprocessed))
    -- advance: one refused, by 2, that lets its worker go idle (lent_refused_advance_moves)
    ∷ row_at deciding workers (λ c. (advance_at c 0 []).crew) (λ c. set c.state.crew 0 idle_worker)
    -- a transaction left where the step goes on, and kept where it ends (lent_leaving_exchanged)
    ∷ row_at deciding transactions
    (λ c. (advance_at c 0 log).rows)
    (λ c. set c.state.rows 3 (transaction Unprocessed))
    ∷ row_at filling transactions (λ c. (advance_at c 0 log).rows) (λ c. c.state.rows)
    -- seal: n kept (lent_seal_keeps_n)
    ∷ row_at complete counted seal_at (λ c. closed_with c.state 4)
    -- four transactions that are not Complete overlooked (lent_unfinished_overlooked)
    ∷ row_at opened answered (λ c. (seal_at c).answer) (λ c. Accepted)
    -- numbers_of: no placed counts (lent_numbers_without_counts)
    ∷ row_at (after 1) numbers_in (λ c. numbers_of c.state) (λ c. numbers_with c.state (replicate 8 0) 0)
    -- the next position for the batch number (lent_position_for_the_batch)
    ∷ row_at (after 1) numbers_in (λ c. numbers_of c.state) (λ c. numbers_with c.state c.state.placed 1)
    ∷ []

pub lent_exclude : AllExclude rows
unfolding after
lent_exclude = all_exclude rows refl
