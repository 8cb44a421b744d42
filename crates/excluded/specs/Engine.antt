-- Wrong answers of the engine's calls, beside those that the theorems of `instances` exclude.
use Rattle.std.specs.Prelude.{ℕ, List, [], ◌∷◌, ◌++◌, refl, replicate}
use Rattle.terms.specs.Refusals.{refused_at}
use Rattle.terms.specs.Reserved.{no_slot}
use Rattle.terms.specs.declared.refusal.Refusal.TheVariants.{NoSuchRecord}
use Rattle.terms.specs.declared.refusal.Refused.{Refused}
use Rattle.engine.specs.Answers.{accept}
use Rattle.engine.specs.Claim.{claim_of}
use Rattle.engine.specs.Open.{open_of}
use Rattle.engine.specs.Place.{place_of}
use Rattle.engine.specs.Rows.{row as transaction}
use Rattle.engine.specs.States.{with_row, with_worker}
use Rattle.engine.specs.Workers.{claimed}
use Rattle.engine.specs.declared.Answer.{Answer}
use Rattle.engine.specs.declared.Answer.TheVariants.{Accepted, Refused as RefusedBy}
use Rattle.engine.specs.declared.Progress.TheVariants.{Executing}
use Rattle.engine.specs.declared.State.{State}
use Rattle.engine.specs.declared.Stepped.{Stepped}
use Rattle.instances.specs.Listing.{log, made, opened, after}
use Rattle.instances.specs.Moments.{planned}
use Rattle.excluded.specs.Parts.{answered, transactions, row_at}
use Rattle.excluded.specs.Rows.{Row, row, AllExclude, all_exclude}

-- the state with another batch number
abbrev numbered : State → ℕ → State
numbered s number =
    record {
      records = s.records;
      partitions = s.partitions;
      workers = s.workers;
      next = s.next;
      size = s.size;
      batch = record { 0 = number };
      placed = s.placed;
      rows = s.rows;
      crew = s.crew;
    }

abbrev stepped : Stepped → List ℕ
stepped r = answered r.answer ++ transactions r.state.rows

-- the answer of a refusal that was found, as `Answer::from` gives it
abbrev answer_from : Refused → Answer
answer_from why = RefusedBy why.refusal why.place

abbrev pub rows : List Row
rows =
    -- a batch number of F, which is 1, accepted by an opening (batch_number_of_f)
    row answered
    (open_of (numbered made.state 1) log made.newest made.versions made.results).stepped.answer
    Accepted
    -- a slot met that is its own: slot 0 of write 0 of transaction 0, for record 0 (slot_met_is_its_own)
    ∷ row answered
    (place_of opened.state 0 log (0 ∷ replicate 3 no_slot) opened.versions).stepped.answer
    Accepted
    -- a claim of transaction 3 by worker 0, held by a worker 3 (claim_by_another)
    ∷ row_at planned stepped
    (λ c. claim_of c.state 0 3)
    (λ c. accept (with_worker (with_row c.state 3 (transaction (Executing 3))) 0 (claimed 3)))
    -- a worker of number W, which is 2 (worker_of_number_w)
    ∷ row answered (claim_of planned.state 2 3).answer Accepted
    -- a refusal of transaction 3 told with the place of the first (answer_loses_its_place)
    ∷ row answered
    (answer_from (refused_at NoSuchRecord 3))
    (RefusedBy NoSuchRecord (record { transaction = 0 }))
    ∷ []

pub engine_exclude : AllExclude rows
unfolding after
engine_exclude = all_exclude rows refl
