-- The engine meets the interface of the order theorem.
use Rattle.std.specs.Prelude.{ℕ, ◌*◌, ◌≤◌, ◌<◌, true, false, ◌≡◌, refl, List, [], eqb, length, get_or, take}
use Rattle.std.proofs.Common.{sym, ap, ◌∙◌, subst, arith, eq-eqb, ne_eqb}
use Rattle.terms.specs.Reserved.{no_slot}
use Rattle.versions.specs.LawsSeal.{collect_length, taken_of, collect_at}
use Rattle.versions.specs.Seal.{collect_of}
use Rattle.versions.specs.Table.{entry_of}
use Rattle.versions.specs.declared.Version.{Version}
use Rattle.counters.specs.declared.Outcome.{Outcome}
use Rattle.counters.specs.declared.Outcome.TheVariants.{Committed}
use Rattle.engine.specs.Place.{slot_of}
use Rattle.engine.specs.Range.{row_at}
use Rattle.engine.specs.Tables.{newest_of}
use Rattle.engine.specs.declared.Progress.{Progress}
use Rattle.engine.specs.declared.Progress.TheVariants.{Unprocessed, Executing, Complete}
use Rattle.engine.specs.declared.State.{State}
use Rattle.order.specs.Batch as order
use Rattle.order.proofs.Found.{walk_to_last}
use Rattle.order.specs.Interface as interface
use Rattle.order.specs.Invariant as invariant
use Rattle.order.specs.LastWrite.{last_write, last_known}
use Rattle.order.specs.Machine as machine
use Rattle.order.specs.Plan as plan
use Rattle.order.proofs.Safety.{complete_planned}
use Rattle.order.specs.Store as store
use Rattle.order.specs.Tables.{first_values}
use Rattle.order.specs.TableLaws.{clash, length_first, get_d_first}
use Rattle.ordered.specs.Acting.{advance_makes, advance_can}
use Rattle.ordered.specs.Claiming.{claim_makes, claim_can}
use Rattle.ordered.specs.Closed.{all_refused}
use Rattle.ordered.specs.Describing.{Describes}
use Rattle.ordered.specs.Looking.{all_placed}
use Rattle.ordered.specs.Placing.{place_makes, place_can}
use Rattle.ordered.specs.Ranging.{values_length}
use Rattle.ordered.specs.Relation.{SlotIs, ContentsIs, four_at, RowIs, Stands}
use Rattle.ordered.specs.Results.{taken_of_four}
use Rattle.engine.specs.Running.{Engine}
use Rattle.ordered.specs.Sealing.{sealed_engine, seal_makes, seal_can}
use Rattle.ordered.specs.Stepping.{offer_to, Makes}

-- the outcome of a transaction that is Complete
abbrev pub outcome_in : Progress → Outcome
outcome_in Unprocessed = Committed
outcome_in (Executing w) = Committed
outcome_in (Complete outcome) = outcome

module _ (B : order.Batch ℕ Outcome) (o : State) (log stored : List ℕ) (d : Describes B o log stored) where
  abbrev pub outcome_at : Engine → ℕ → Outcome
  outcome_at e i = outcome_in (row_at e.state i).progress

  abbrev pub values_at : Engine → ℕ → List ℕ
  values_at e i = take (B.read_count i) (four_at e.results (4 * i))

  -- the engine as a store
  abbrev pub engine_store : store.Store ℕ Outcome Engine
  engine_store =
      record {
        offer = offer_to log;
        record_count = o.records;
        outcomes = λ e. first_values (outcome_at e) o.size;
        values_read = λ e. first_values (values_at e) o.size;
        records = λ e. e.records;
      }

  -- it was sealed in the machine's state m
  pub record WasSealed (e : Engine) (m : machine.State ℕ Outcome) : Type 0 where
    pub before : Engine
    pub stood : Stands o stored before m
    pub sound : invariant.Sound B m
    pub all_complete : machine.AllComplete B m
    pub now : e ≡ sealed_engine before

  -- what the engine accepts is what it makes
  pub followed : (e next : Engine) (m : machine.State ℕ Outcome) (step : machine.Step) (answer : machine.Answer)
      → Makes B o log stored e m step → offer_to log e (store.step step) ≡ store.accepted answer next
      → (t : machine.State ℕ Outcome) × machine.Accepted B m step answer t × Stands o stored next t
  followed e next m step answer makes accepted =
      let same : store.accepted makes.answer makes.next ≡ store.accepted answer next =
      sym makes.replies ∙ accepted in
      let same_answer : makes.answer ≡ answer = cc in
      let same_next : makes.next ≡ next = cc in (
        makes.after,
        subst (λ (x : machine.Answer). machine.Accepted B m step x makes.after) same_answer makes.is_step,
        subst (λ (x : Engine). Stands o stored x makes.after) same_next makes.stands,
      )

  pub follows : (e next : Engine) (m : machine.State ℕ Outcome) (step : machine.Step) (answer : machine.Answer)
      → Stands o stored e m → invariant.Sound B m → offer_to log e (store.step step) ≡ store.accepted answer next
      → (t : machine.State ℕ Outcome) × machine.Accepted B m step answer t × Stands o stored next t
  follows e next m (machine.place p) answer stands sound accepted =
      let can = place_can B o log stored d e m stands sound p answer next accepted in
      followed e next m (machine.place p) answer (place_makes B o log stored d e m stands sound p can.0 can.1)
      accepted
  follows e next m (machine.act (machine.claim w i)) answer stands sound accepted =
      let can = claim_can B o log stored d e m stands sound w i answer next accepted in
      followed e next m (machine.act (machine.claim w i)) answer
      (claim_makes B o log stored d e m stands sound w i can.over can.there can.below can.idle_now
      can.open_now) accepted
  follows e next m (machine.act (machine.advance w)) answer stands sound accepted =
      let can = advance_can B o log stored d e m stands sound w answer next accepted in
      followed e next m (machine.act (machine.advance w)) answer
      (advance_makes B o log stored d e m stands sound w can.transaction can.over can.there can.holds)
      accepted
  follows e next m (machine.act (machine.abandon w)) answer stands sound accepted = absurd (clash (cc))

  pub seals : (e next : Engine) (m : machine.State ℕ Outcome) (answer : machine.Answer) → Stands o stored e m
      → invariant.Sound B m → offer_to log e store.seal ≡ store.accepted answer next
      → machine.AllComplete B m × WasSealed next m
  seals e next m answer stands sound accepted =
      let can = seal_can B o log stored d e m stands sound answer next accepted in
      (can.0, record { before = e; stood = stands; sound = sound; all_complete = can.0; now = can.1 })

  -- a step that it makes is accepted
  pub accepts : {e : Engine} {m : machine.State ℕ Outcome} {step : machine.Step} → Makes B o log stored e m step
      → interface.IsAccepted (offer_to log e (store.step step))
  accepts makes = (makes.answer, makes.next, makes.replies)

  -- what the rows and the results of a sealed engine hold
  pub rows_kept : (e : Engine) (m : machine.State ℕ Outcome) → Stands o stored e m → invariant.Sound B m
      → machine.AllComplete B m → (i : ℕ) → i < B.size
      → m.execution.row i ≡ machine.complete (outcome_at e i) (values_at e i)
  rows_kept e m stands sound all i there =
      go (m.execution.row i) (all i there) (stands.rows_are i (omega (arith, there, d.size_is)))
      (sound.execution_right.rows i)
    where
      go : (x : machine.Row ℕ Outcome) → machine.IsComplete B x → RowIs (row_at e.state i) e.results i x
          → invariant.RowRight B m.execution.contents i x → x ≡ machine.complete (outcome_at e i) (values_at e i)
      go machine.unprocessed is_complete_lem is right = absurd is_complete_lem
      go (machine.executing w) is_complete_lem is right = absurd is_complete_lem
      go (machine.complete outcome values) is_complete_lem is right =
          let long : length values ≡ B.read_count i = ap length right.values_are ∙ values_length B i in
          let few : length values ≤ 4 = omega (arith, long, d.proper.few_reads i) in
          rw (is.0, is.1, ← long, taken_of_four values few)

  -- what the seal takes
  pub records_taken : (e : Engine) (m : machine.State ℕ Outcome) → Stands o stored e m → invariant.Sound B m
      → machine.AllComplete B m → (r : ℕ) → r < o.records
      → machine.AtSeal B m r (last_write B r B.size) (machine.produced (get_or (sealed_engine e).records r 0))
  records_taken e m stands sound all r below =
      record {
        walk = walk_to_last B d.proper m.plan sound.planned over r B.size (omega arith);
        holds = held (last_write B r B.size) refl;
      }
    where
      over : machine.PlanningOver B m.plan
      over = complete_planned B d.proper m sound all

      last_is : m.plan.newest r ≡ last_write B r B.size
      last_is =
          (sound.planned.linked r).newest_is
          ∙ ap (last_write B r) (all_placed B o log stored d e m stands sound over r ∙ sym d.size_is)

      taken : get_or (collect_of e.versions e.newest e.records true) r 0
          ≡ taken_of e.versions e.newest e.records true r
      taken =
          collect_at e.versions e.newest e.records true r
          (omega (arith, below, ap length stands.records_are, d.stored_length))

      number_is : SlotIs o.size (newest_of e.newest r) (last_write B r B.size)
      number_is = subst (SlotIs o.size (newest_of e.newest r)) last_is (stands.plan_is.newest_is r below)

      produced : (a b : ℕ) (x : machine.Row ℕ Outcome) → b < B.write_count a → machine.IsComplete B x
          → invariant.RowRight B m.execution.contents a x → invariant.IsProduced (m.execution.contents a b)
      produced a b machine.unprocessed written is_complete_lem right = absurd is_complete_lem
      produced a b (machine.executing w) written is_complete_lem right = absurd is_complete_lem
      produced a b (machine.complete outcome values) written is_complete_lem right = right.all_produced b written

      holding : (version : Version) (x : machine.Contents ℕ) → invariant.IsProduced x → ContentsIs version x
          → x ≡ machine.produced version.contents
      holding version machine.unproduced is_produced is = absurd is_produced
      holding version (machine.produced y) is_produced is = ap machine.produced (sym is.1)

      held : (x : plan.Slot) → last_write B r B.size ≡ x
          → machine.held_at B m.execution.contents r (last_write B r B.size)
          ≡ machine.produced (get_or (collect_of e.versions e.newest e.records true) r 0)
      held plan.no_slot last =
          let number : newest_of e.newest r ≡ no_slot = subst (SlotIs o.size (newest_of e.newest r))
          last number_is in
          rw (last, taken, eq-eqb (newest_of e.newest r) no_slot number, stands.records_are)
          (ap machine.produced (d.stored_is r))
      held (plan.slot a b) last =
          let number : SlotIs o.size (newest_of e.newest r) (plan.slot a b) =
          subst (SlotIs o.size (newest_of e.newest r)) last number_is in
          let write = (last_known B d.proper r B.size a b last).0 in
          let is_complete_lem = all a (omega (arith, number.1.0, d.size_is)) in
          let is_produced =
          produced a b (m.execution.row a) write.declared is_complete_lem (sound.execution_right.rows a) in
          let is_slot : eqb (newest_of e.newest r) no_slot ≡ false =
          ne_eqb (newest_of e.newest r) no_slot
          (λ none. absurd (omega (
            arith,
            none,
            number.0,
            number.1.0,
            number.1.1,
            d.numbers.few_transactions,
          ))) in
          rw (last, taken, is_slot)
          (holding (entry_of e.versions (slot_of a b)) (m.execution.contents a b) is_produced
          (stands.contents_are a b number.1.0 number.1.1)
          ∙ ap (λ k. machine.produced (entry_of e.versions k).contents) (sym number.0))

  -- the interface
  unfoldable pub engine_meets : interface.Meets B engine_store
  engine_meets =
      record {
        Open = Stands o stored;
        Sealed = WasSealed;
        follows = follows;
        seals = seals;
        stays_sealed = λ e m sealed offer. all_refused log e (rw sealed.now refl) offer;
        can_place = λ e m stands sound p there before.
            accepts (place_makes B o log stored d e m stands sound p (omega (arith, there, d.partitions_is))
            (omega (arith, before, d.size_is)));
        can_claim = λ e m stands sound over w i there below idle_now open_now.
            accepts (claim_makes B o log stored d e m stands sound w i over (omega (arith, there, d.workers_is))
            (omega (arith, below, d.size_is)) idle_now open_now);
        can_advance = λ e m stands sound over w i there held.
            accepts (advance_makes B o log stored d e m stands sound w i over (omega (arith, there, d.workers_is))
            held);
        can_seal = λ e m stands sound all.
            (machine.stepped, sealed_engine e, seal_makes B o log stored d e m stands sound all);
        no_outcome = Committed;
        no_contents = 0;
        outcome_count = λ e m sealed. length_first (outcome_at e) o.size ∙ sym d.size_is;
        values_count = λ e m sealed. length_first (values_at e) o.size ∙ sym d.size_is;
        record_count_lem = λ e m sealed.
            ap (λ x. length x.records) sealed.now
            ∙ collect_length sealed.before.versions sealed.before.newest sealed.before.records true
            ∙ ap length sealed.stood.records_are
            ∙ d.stored_length;
        rows_kept = λ e m sealed i there.
            let inside : i < o.size = omega (arith, there, d.size_is) in
            rw (
              get_d_first (outcome_at e) o.size i Committed inside,
              get_d_first (values_at e) o.size i [] inside,
              sealed.now,
            )
            (rows_kept sealed.before m sealed.stood sealed.sound sealed.all_complete i there);
        records_taken = λ e m sealed r below. (
          last_write B r B.size,
          rw sealed.now
              (records_taken sealed.before m sealed.stood sealed.sound sealed.all_complete r below),
        );
      }
