-- Demand 3, of the engine's own definitions: any order of work gives the one-by-one result, and the work can always
-- be brought to its end.
--
-- The hypotheses: e is any engine, in any state and with any tables, for which the opening of the log's batch is
-- accepted; its state has eight counts of placed transactions, as `held::state_held` proves of every state in code.
-- What follows holds after ANY list of offered steps, refused ones among them, with any numbers in them. Where it is
-- asked that there be N records (`as_many`), that is because the opening is not lent them.
--
-- It is not vacuous: the listing's batch opens and is sealed (instances/specs/Listing.antt, by computation), and
-- `progress` brings every batch that opens to its seal.
use Rattle.std.specs.Prelude.{ℕ, ◌+◌, ◌<◌, true, false, ◌≡◌, List, length}
use Rattle.std.proofs.Common.{ap, ◌∙◌, subst}
use Rattle.terms.specs.declared.position.Position.{Position}
use Rattle.counters.specs.OneByOne.{one_by_one}
use Rattle.engine.specs.Answers.{is_refused, answer_number}
use Rattle.engine.specs.Moment.{not_running}
use Rattle.engine.specs.Open.{entries_in}
use Rattle.engine.specs.declared.Answer.TheVariants.{Waits}
use Rattle.ordered.specs.Promise.{meanings_from, ran_one_by_one, AsOneByOne, step_bound, CanBeSealed}
use Rattle.ordered.specs.Questions.{WaitsForEarlier, walk_for, FindsOnly, OfTheMoment}
use Rattle.ordered.proofs.Reached as reached
use Rattle.engine.specs.Running.{Engine, Offer, advance, is_accepted, opening, offered, after_all, seal_accepted}

module _ (log : List ℕ) (e : Engine) (eight : length e.state.placed ≡ 8)
    (opens : is_accepted (opening log e).answer ≡ true) (offers : List Offer) where
  -- the engine after them
  abbrev pub now : Engine
  now = after_all log (opening log e).engine offers

  -- (a) If a seal was accepted, then the rows' outcomes, the results table, the records, the next position and the
  -- batch number are those of running the log's transactions one by one on the records held at opening: whole lists.
  pub safety : seal_accepted log (opening log e).engine offers ≡ true → AsOneByOne e.state log e.records now
  safety = reached.as_one_by_one log e eight opens offers

  -- (b) While none was, some list of at most nP + 14n + 10 offers is accepted throughout, a wait counting as
  -- accepted, and its last is a seal.
  pub progress : length e.records ≡ e.state.records → seal_accepted log (opening log e).engine offers ≡ false
      → CanBeSealed log (step_bound e.state log) now
  progress = reached.can_be_closed log e eight opens offers

  -- After an accepted seal every further step is refused and changes nothing.
  pub sealed_for_good : seal_accepted log (opening log e).engine offers ≡ true → (offer : Offer)
      → (is_refused (offered log now offer).answer ≡ true) × ((offered log now offer).engine ≡ now)
  sealed_for_good = reached.stays log e eight opens offers

  module _ (as_many : length e.records ≡ e.state.records)
      (unsealed : seal_accepted log (opening log e).engine offers ≡ false) where
    -- Before the seal 1, 2, 4 to 8, 14 and 15 do not arise: a step is accepted, or refused by 9 to 13.
    pub refuses_by_moment : (offer : Offer) → OfTheMoment (answer_number (offered log now offer).answer)
    refuses_by_moment = reached.refuses_by_moment log e eight opens offers as_many unsealed

    -- A wait names the position of an earlier transaction that is not Complete.
    pub waits_for_earlier : (w : ℕ) (position : Position) → (offered log now (advance w)).answer ≡ Waits position
        → WaitsForEarlier now w position.0
    waits_for_earlier = reached.waits_earlier log e eight opens offers as_many unsealed

    -- Once planning is over, the walk of a transaction over a record finds the only version with begin < t ≤ end.
    pub finds_only : not_running now.state ≡ false → (i r : ℕ) → i < now.state.size → r < now.state.records
        → FindsOnly log now i r (walk_for now i r)
    finds_only = reached.finds_one log e eight opens offers as_many unsealed

-- Two batches, one after the other: opened, run and sealed, each in any order, they give what the two one-by-one runs
-- give, the second on the records that the first leaves.
module _ (first : List ℕ) (e : Engine) (eight : length e.state.placed ≡ 8)
    (opens_first : is_accepted (opening first e).answer ≡ true) (offers_first : List Offer)
    (seals_first : seal_accepted first (opening first e).engine offers_first ≡ true) where
  -- the engine between the two
  abbrev pub between : Engine
  between = after_all first (opening first e).engine offers_first

  module _ (second : List ℕ) (opens_second : is_accepted (opening second between).answer ≡ true)
      (offers_second : List Offer)
      (seals_second : seal_accepted second (opening second between).engine offers_second ≡ true) where
    abbrev pub last : Engine
    last = after_all second (opening second between).engine offers_second

    closed : reached.Closed first e eight opens_first offers_first between
    closed = reached.closed first e eight opens_first offers_first seals_first

    run_first : AsOneByOne e.state first e.records between
    run_first = safety first e eight opens_first offers_first seals_first

    run_second : AsOneByOne between.state second between.records last
    run_second = safety second between closed.eight_again opens_second offers_second seals_second

    pub second_as_run : AsOneByOne between.state second (ran_one_by_one e.state first e.records).records last
    second_as_run =
        subst (λ (records : List ℕ). AsOneByOne between.state second records last) run_first.records_held
        run_second

    pub records_as_both : last.records
        ≡ (ran_one_by_one e.state second (ran_one_by_one e.state first e.records).records).records
    records_as_both =
        second_as_run.records_held
        ∙ ap (λ n.
        (one_by_one (meanings_from n second (entries_in second) 0) (ran_one_by_one e.state first e.records).records
        ).records) closed.same_count

    pub next_after_both : last.state.next.0 ≡ e.state.next.0 + entries_in first + entries_in second
    next_after_both = run_second.next_position ∙ ap (λ k. k + entries_in second) run_first.next_position

    pub batch_after_both : last.state.batch.0 ≡ e.state.batch.0 + 1 + 1
    batch_after_both = run_second.batch_number ∙ ap (λ k. k + 1) run_first.batch_number
