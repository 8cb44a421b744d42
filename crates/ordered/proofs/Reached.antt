-- An engine after an accepted opening and any list of offers: what has become of it, by the order theorem.
use Prim.Native.Nat.{ℕ, ◌≤◌, ◌<◌}
use Rattle.std.specs.Prelude.{Bool, ◌≡◌, refl, List, [], ◌∷◌, ◌++◌, map, length, take, Ok}
use Rattle.std.proofs.Math.Bool.{true, false}
use Rattle.std.proofs.Common.{sym, ◌∙◌, subst, arith, take_all, Err}
use Rattle.std.proofs.Math.Path.{ap}
use Rattle.std.proofs.Math.Decide.{ℕ_discrete}
use Rattle.std.proofs.lemmas.List.{length-map}
use Rattle.terms.specs.declared.position.Position.{Position}
use Rattle.packed.specs.LawsRecords.{not_both}
use Rattle.counters.specs.declared.Outcome.{Outcome}
use Rattle.engine.specs.Answers.{is_refused, answer_number}
use Rattle.engine.specs.Moment.{no_batch, not_running}
use Rattle.engine.specs.Open.{entries_in, open_verdict, opened, opened_by, open_of}
use Rattle.engine.specs.declared.Answer.{Answer}
use Rattle.engine.specs.declared.Answer.TheVariants.{Accepted, Waits, Refused}
use Rattle.engine.specs.declared.State.{State}
use Rattle.order.specs.Batch as order
use Rattle.order.specs.Interface as interface
use Rattle.order.specs.Invariant as invariant
use Rattle.order.proofs.ListLaws.{fitting_inside, as_listed}
use Rattle.order.specs.ListRun as listed
use Rattle.order.specs.Machine as machine
use Rattle.order.proofs.Progress.{can_be_sealed}
use Rattle.order.proofs.Reached as order_reached
use Rattle.order.proofs.Safety.{opened_sound}
use Rattle.order.specs.Store as store
use Rattle.order.specs.TableLaws.{clash}
use Rattle.ordered.specs.Answering.{waits_for_earlier, finds_only}
use Rattle.ordered.specs.Claiming.{planning_over}
use Rattle.ordered.specs.Closed.{all_refused}
use Rattle.ordered.specs.Counters.{ruled, joined}
use Rattle.ordered.specs.Counters as counters
use Rattle.ordered.specs.Describing.{Describes}
use Rattle.ordered.proofs.Ending.{outcomes_hold, results_hold, next_holds, batch_holds}
use Rattle.ordered.specs.Keeping.{refused_keeps, to_store, from_store, reply_same, after_same, sealed_same}
use Rattle.ordered.specs.Keeping.{all_same}
use Rattle.ordered.specs.Lending.{no_seal}
use Rattle.ordered.proofs.Meanings.{meanings_length}
use Rattle.ordered.specs.Meeting.{engine_store, WasSealed, engine_meets}
use Rattle.ordered.proofs.Opening.{setting_of, declared_log, fitting, describes, just_opened}
use Rattle.ordered.proofs.Opening.{just_stands}
use Rattle.ordered.specs.Promise.{meanings_from, ran_one_by_one, complete_row, results_for, AsOneByOne, step_bound}
use Rattle.ordered.specs.Promise.{CanBeSealed}
use Rattle.ordered.specs.Questions.{WaitsForEarlier, walk_for, FindsOnly, OfTheMoment}
use Rattle.ordered.specs.Refusing.{of_the_moment}
use Rattle.ordered.specs.Relation.{Stands}
use Rattle.engine.specs.Running.{Engine, Offer, advance, seal, Turn, is_accepted, opening, offered, after_all}
use Rattle.engine.specs.Running.{seal_accepted, all_accepted}
use Rattle.ordered.specs.Stepping.{reply_to}
use Rattle.terms.specs.Refusals.{Verdict}

map_end : {X Y : Type 0} (f : X → Y) (xs : List X) (x : X) → map f (xs ++ (x ∷ [])) ≡ map f xs ++ (f x ∷ [])
map_end f [] x = refl
map_end f (y ∷ xs) x = ap (λ rest. f y ∷ rest) (map_end f xs x)

-- ---- the opening

abbrev pub verdict_of : List ℕ → Engine → Verdict
verdict_of log e = open_verdict e.state log (length e.newest) (length e.versions) (length e.results)

pub opening_verdict : (log : List ℕ) (e : Engine) → is_accepted (opening log e).answer ≡ true
    → verdict_of log e ≡ Ok tt
unfolding opening open_of
opening_verdict log e accepted = go (verdict_of log e) refl accepted
  where
    go : (verdict : Verdict) → verdict_of log e ≡ verdict
        → is_accepted (opened_by verdict e.state log e.newest e.versions e.results).stepped.answer ≡ true
        → verdict_of log e ≡ Ok tt
    go (Ok tt) is passed = is
    go (Err why) is passed = not_both (sym passed)

module _ (log : List ℕ) (e : Engine) (eight : length e.state.placed ≡ 8) (accepts : verdict_of log e ≡ Ok tt) where
  -- the engine just opened
  abbrev pub start : Engine
  start = just_opened e.state log e.records e.newest e.versions e.results accepts eight

  pub opening_engine : (opening log e).engine ≡ start
  unfolding opening open_of
  opening_engine = rw accepts

  -- the state at opening
  abbrev pub origin : State
  origin = opened e.state (entries_in log)

  abbrev pub setting : listed.Setting ℕ Outcome
  setting = setting_of e.state log e.records

  abbrev pub batch : order.Batch ℕ Outcome
  batch = listed.batch_of setting

  module _ (as_many : length e.records ≡ e.state.records) where
    pub described : Describes batch origin log e.records
    described =
        describes e.state log e.records (length e.newest) (length e.versions) (length e.results) accepts
        as_many

    abbrev pub the_store : store.Store ℕ Outcome Engine
    the_store = engine_store batch origin log e.records described

    pub meets : interface.Meets batch the_store
    meets = engine_meets batch origin log e.records described

    pub stands_open : meets.Open start machine.opened
    unfolding meets engine_meets
    stands_open = just_stands e.state log e.records e.newest e.versions e.results accepts eight

    -- what has become of it
    pub fate_after : (offers : List Offer) {sealed : Bool} → seal_accepted log start offers ≡ sealed
        → order_reached.Fate meets sealed (after_all log start offers)
    fate_after offers {sealed} is =
        subst (λ (b : Bool). order_reached.Fate meets b (after_all log start offers))
        (sealed_same batch origin log e.records described start offers ∙ is)
        (subst
        (λ (x : Engine).
        order_reached.Fate meets (store.seal_accepted the_store start (map to_store offers)) x)
        (after_same batch origin log e.records described start offers)
        (order_reached.fate meets described.proper (map to_store offers) start machine.opened stands_open
        (opened_sound batch)))

    -- the run of the order theorem is the one-by-one run
    ran_same : listed.ran_of setting ≡ counters.listed (ran_one_by_one e.state log e.records)
    ran_same =
        let meanings = meanings_from e.state.records log (entries_in log) 0 in
        let long : length (map ruled meanings) ≡ entries_in log =
        length-map meanings ruled ∙ meanings_length e.state.records log (entries_in log) 0 in
        let whole : take (entries_in log) (map ruled meanings) ≡ map ruled meanings =
        take_all (entries_in log) (map ruled meanings) (omega (arith, long)) in
        ap (λ transactions. listed.run_all 0 transactions e.records) whole
        ∙ joined meanings e.records
        (declared_log e.state log e.records (length e.newest) (length e.versions) (length e.results)
        accepts
        as_many)

    -- a sealed engine holds the results of the run
    held : (offers : List Offer) → seal_accepted log start offers ≡ true
        → AsOneByOne e.state log e.records (after_all log start offers)
    unfolding meets engine_meets
    held offers is = go (fate_after offers is)
      where
        go : {z : Engine} → order_reached.Fate meets true z → AsOneByOne e.state log e.records z
        go {z} (order_reached.was_sealed m sealed sound all) =
            let run =
            as_listed setting (fitting_inside setting fits) the_store z fits.all_known (sym as_many)
            (order_reached.sealed_as_run meets described.proper (order_reached.was_sealed m sealed sound all)) in
            record {
              outcomes =
                  outcomes_hold batch origin log e.records described z m sealed
                  ∙ ap (map complete_row) (run.outcomes_listed ∙ ap (λ ran. ran.outcomes) ran_same);
              reads =
                  results_hold batch origin log e.records described z m sealed
                  ∙ ap (results_for 64) (run.values_listed ∙ ap (λ ran. ran.values_read) ran_same);
              records_held = run.records_listed ∙ ap (λ ran. ran.records) ran_same;
              next_position = next_holds batch origin log e.records described z m sealed;
              batch_number = batch_holds batch origin log e.records described z m sealed;
            }
          where
            fits : listed.Fitting setting
            fits =
                fitting e.state log e.records (length e.newest) (length e.versions) (length e.results)
                accepts as_many

    -- and an open one can be sealed
    sealable : (offers : List Offer) → seal_accepted log start offers ≡ false
        → CanBeSealed log (step_bound e.state log) (after_all log start offers)
    sealable offers is = go (fate_after offers is)
      where
        go : {z : Engine} → order_reached.Fate meets false z → CanBeSealed log (step_bound e.state log) z
        go {z} (order_reached.still_open m stands sound) = translated (can_be_sealed meets described.proper
            z m stands sound)
          where
            translated : store.CanBeSealed the_store (store.step_bound batch) z
                → CanBeSealed log (step_bound e.state log) z
            translated way =
                let split : map from_store (way.offers ++ (store.seal ∷ [])) ≡ map from_store way.offers ++
                (seal ∷ []) =
                map_end from_store way.offers store.seal in
                record {
                  offers = map from_store way.offers;
                  all_accepted_lem =
                      ap (all_accepted log z) (sym split)
                      ∙ all_same batch origin log e.records described way.all_accepted_lem;
                  within_bound =
                      subst (λ (k : ℕ). k ≤ step_bound e.state log)
                      (sym (length-map (way.offers ++ (store.seal ∷ [])) from_store) ∙ ap length split)
                      way.within_bound;
                }

    -- before the seal it stands in a sound state of the machine
    stands_after : (offers : List Offer) → seal_accepted log start offers ≡ false
        → (m : machine.State ℕ Outcome) × Stands origin e.records (after_all log start offers)
        m × invariant.Sound batch m
    unfolding meets engine_meets
    stands_after offers is = go (fate_after offers is)
      where
        go : {z : Engine} → order_reached.Fate meets false z
            → (m : machine.State ℕ Outcome) × Stands origin e.records z m × invariant.Sound batch m
        go (order_reached.still_open m stands sound) = (m, stands, sound)

    -- after it, it was sealed in one
    sealed_after : (offers : List Offer) → seal_accepted log start offers ≡ true
        → (m : machine.State ℕ Outcome) × WasSealed batch origin log e.records described
        (after_all log start offers) m
    unfolding meets engine_meets
    sealed_after offers is = go (fate_after offers is)
      where
        go : {z : Engine} → order_reached.Fate meets true z
            → (m : machine.State ℕ Outcome) × WasSealed batch origin log e.records described z m
        go (order_reached.was_sealed m sealed sound all) = (m, sealed)

-- ---- after any list of offers

module _ (log : List ℕ) (e : Engine) (eight : length e.state.placed ≡ 8)
    (opens : is_accepted (opening log e).answer ≡ true) (offers : List Offer) where
  accepts : verdict_of log e ≡ Ok tt
  accepts = opening_verdict log e opens

  now : (opening log e).engine ≡ start log e eight accepts
  now = opening_engine log e eight accepts

  abbrev pub after : Engine
  after = after_all log (opening log e).engine offers

  -- a seal that was accepted was lent N records
  lent : seal_accepted log (opening log e).engine offers ≡ true → length e.records ≡ e.state.records
  lent sealed = go (ℕ_discrete (length e.records) e.state.records) (rw now at sealed)
    where
      go : Dec (length e.records ≡ e.state.records) → seal_accepted log (start log e eight accepts) offers ≡ true
          → length e.records ≡ e.state.records
      go (yes as_many) is = as_many
      go (no other) is = not_both (sym is ∙ no_seal log (start log e eight accepts) other offers)

  pub as_one_by_one : seal_accepted log (opening log e).engine offers ≡ true
      → AsOneByOne e.state log e.records after
  as_one_by_one sealed = rw now (held log e eight accepts (lent sealed) offers (rw now at sealed))

  pub can_be_closed : length e.records ≡ e.state.records → seal_accepted log (opening log e).engine offers ≡ false
      → CanBeSealed log (step_bound e.state log) after
  can_be_closed as_many unsealed = rw now (sealable log e eight accepts as_many offers (rw now at unsealed))

  -- what the seal leaves for the next opening
  pub record Closed (z : Engine) : Type 0 where
    pub none_open : no_batch z.state ≡ true
    pub eight_again : length z.state.placed ≡ 8
    pub same_count : z.state.records ≡ e.state.records

  pub closed : seal_accepted log (opening log e).engine offers ≡ true → Closed after
  closed sealed =
      rw now
      (let was = sealed_after log e eight accepts (lent sealed) offers (rw now at sealed) in
      record {
        none_open = rw was.1.now refl;
        eight_again = rw was.1.now refl;
        same_count = rw was.1.now was.1.stood.fixed.records_fixed;
      })

  -- between the two
  module _ (as_many : length e.records ≡ e.state.records)
      (unsealed : seal_accepted log (opening log e).engine offers ≡ false) where
    standing : (m : machine.State ℕ Outcome) × Stands (origin log e eight accepts) e.records after m
        × invariant.Sound (batch log e eight accepts) m
    standing = rw now (stands_after log e eight accepts as_many offers (rw now at unsealed))

    abbrev is_described : Describes (batch log e eight accepts) (origin log e eight accepts) log e.records
    is_described = described log e eight accepts as_many

    pub waits_earlier : (w : ℕ) (position : Position) → (offered log after (advance w)).answer ≡ Waits position
        → WaitsForEarlier after w position.0
    waits_earlier w position waits =
        waits_for_earlier (batch log e eight accepts) (origin log e eight accepts) log e.records is_described after
        standing.0 standing.1 standing.2 w position waits

    pub finds_one : not_running after.state ≡ false → (i r : ℕ) → i < after.state.size → r < after.state.records
        → FindsOnly log after i r (walk_for after i r)
    finds_one running i r below there =
        finds_only (batch log e eight accepts) (origin log e eight accepts) log e.records is_described after
        standing.0 standing.1 standing.2
        (planning_over (batch log e eight accepts) (origin log e eight accepts) log e.records is_described after
        standing.0 standing.1 standing.2 running)
        i r (omega (arith, below, standing.1.fixed.size_fixed)) (omega
        (arith, there, standing.1.fixed.records_fixed))

    pub refuses_by_moment : (offer : Offer) → OfTheMoment (answer_number (offered log after offer).answer)
    refuses_by_moment offer =
        of_the_moment (batch log e eight accepts) (origin log e eight accepts) log e.records is_described after
        standing.0 standing.1 standing.2 offer

  -- after the seal nothing is accepted, and nothing changes
  pub stays : seal_accepted log (opening log e).engine offers ≡ true → (offer : Offer)
      → (is_refused (offered log after offer).answer ≡ true) × ((offered log after offer).engine ≡ after)
  stays sealed offer =
      let refused =
      refused_turn (offered log after offer)
      (sym (reply_same log after offer) ∙ all_refused log after (closed sealed).none_open (to_store offer)) in
      (refused, refused_keeps log after offer refused)
    where
      refused_turn : (turn : Turn) → reply_to turn ≡ store.refused → is_refused turn.answer ≡ true
      refused_turn turn reply = go turn.answer refl
        where
          go : (x : Answer) → turn.answer ≡ x → is_refused turn.answer ≡ true
          go Accepted is =
              let never : store.accepted machine.stepped turn.engine ≡ store.refused = rw is at reply in
              absurd (clash (cc))
          go (Waits position) is =
              let never : store.accepted (machine.waits_for position.0) turn.engine ≡ store.refused =
              rw is at reply in
              absurd (clash (cc))
          go (Refused refusal at) is = rw is
