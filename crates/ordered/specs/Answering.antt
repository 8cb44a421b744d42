-- The answers to what one may ask of an engine that stands in a sound state of the machine.
use Rattle.std.specs.Prelude.{ℕ, ◌+◌, ◌≤◌, ◌<◌, false, ◌≡◌, List}
use Rattle.std.proofs.Common.{sym, ap, ◌∙◌, subst, arith}
use Rattle.versions.specs.Table.{entry_of}
use Rattle.counters.specs.declared.Outcome.{Outcome}
use Rattle.engine.specs.Place.{meaning_at, slot_of, position_of, write_of}
use Rattle.engine.specs.Range.{row_at, worker_at}
use Rattle.engine.specs.Rows.{is_complete}
use Rattle.engine.specs.declared.Answer.TheVariants.{Waits}
use Rattle.engine.specs.declared.State.{State}
use Rattle.terms.specs.declared.position.Position.{Position}
use Rattle.order.specs.Batch as order
use Rattle.order.proofs.Found as found
use Rattle.order.specs.Invariant as invariant
use Rattle.order.specs.LastWrite as last
use Rattle.order.specs.Machine as machine
use Rattle.order.specs.Plan as plan
use Rattle.order.proofs.Safety.{wait_names}
use Rattle.order.specs.Store as store
use Rattle.order.proofs.Walk as walk
use Rattle.ordered.specs.Acting.{advance_makes, advance_can}
use Rattle.ordered.specs.Describing.{Describes}
use Rattle.ordered.specs.Looking.{walked_to, all_placed, walk_ends}
use Rattle.ordered.specs.Meeting.{followed}
use Rattle.ordered.specs.Placing.{meaning_same}
use Rattle.ordered.specs.Questions.{WaitsForEarlier, WriteOf, SeenAt, walk_for, FindsOnly, finds, goes_past}
use Rattle.ordered.specs.Ranging.{busy}
use Rattle.ordered.specs.Relation.{RowIs, Stands}
use Rattle.engine.specs.Running.{Engine, advance, offered}
use Rattle.ordered.specs.Stepping.{offer_to}

module _ (B : order.Batch ℕ Outcome) (o : State) (log stored : List ℕ) (d : Describes B o log stored)
    (e : Engine) (m : machine.State ℕ Outcome) (stands : Stands o stored e m) (sound : invariant.Sound B m) where
  -- positions in both
  position_same : (i : ℕ) → plan.position B i ≡ position_of e.state i
  position_same i = ap (λ k. k + i) d.first_is ∙ ap (λ x. x.0 + i) (sym stands.fixed.next_fixed)

  -- a row that is not Complete
  unfinished : (i : ℕ) → i < o.size → ¬ machine.IsComplete B (m.execution.row i)
      → is_complete (row_at e.state i) ≡ false
  unfinished i below not_complete = go (m.execution.row i) not_complete (stands.rows_are i below)
    where
      go : (x : machine.Row ℕ Outcome) → ¬ machine.IsComplete B x → RowIs (row_at e.state i) e.results i x
          → is_complete (row_at e.state i) ≡ false
      go machine.unprocessed open_still is = rw is
      go (machine.executing w) open_still is = rw is
      go (machine.complete outcome values) open_still is = absurd (open_still tt)

  -- a wait
  pub waits_for_earlier : (w : ℕ) (position : Position) → (offered log e (advance w)).answer ≡ Waits position
      → WaitsForEarlier e w position.0
  waits_for_earlier w position waits =
      let turn = offered log e (advance w) in
      let reply : offer_to log e (store.step (machine.act (machine.advance w)))
      ≡ store.accepted (machine.waits_for position.0) turn.engine = rw waits in
      let can = advance_can B o log stored d e m stands sound w _ _ reply in
      let makes =
      advance_makes B o log stored d e m stands sound w can.transaction can.over can.there can.holds in
      let made =
      followed B o log stored d e turn.engine m (machine.act (machine.advance w)) (machine.waits_for position.0)
      makes
      reply in
      let wait = wait_names B d.proper sound made.1 in
      let holds_it =
      busy B o log stored d e m stands sound (worker_at e.state w) wait.reader (m.execution.work w) wait.held
      (stands.crew_are w can.there) in
      let before : wait.reader < B.size = (sound.execution_right.holder w wait.reader wait.held).0 in
      let earlier : wait.writer < wait.reader = wait.lacks.write.earlier in
      record {
        writer = wait.writer;
        earlier = omega (arith, earlier, holds_it.1);
        names = wait.names ∙ position_same wait.writer;
        unfinished =
            unfinished wait.writer (omega (arith, earlier, before, d.size_is)) wait.lacks.not_complete;
      }

  -- the only version
  module _ (over : machine.PlanningOver B m.plan) (i r : ℕ) (below : i < o.size) (there : r < o.records) where
    abbrev count : ℕ
    count = m.plan.placed (B.partition_of r)

    -- the writes of the record, in both
    to_machine : (b k : ℕ) → WriteOf log e r b k → last.WriteOf B r count b k
    to_machine b k write =
        let within : b < o.size = omega (arith, write.within, stands.fixed.size_fixed) in
        let declared : k < (meaning_at o log b).writecount =
        subst (λ t. k < t.writecount) (meaning_same B o log stored d e m stands sound b) write.declared in
        record {
          earlier = omega (arith, within, all_placed B o log stored d e m stands sound over r);
          declared = omega (arith, declared, d.writes_count b within);
          same_record =
              d.writes_are b k within declared
              ∙ ap (λ t. write_of t k) (sym (meaning_same B o log stored d e m stands sound b))
              ∙ write.same_record;
        }

    from_machine : (a j : ℕ) → last.WriteOf B r count a j → WriteOf log e r a j
    from_machine a j write =
        let within : a < o.size =
        omega (arith, write.earlier, all_placed B o log stored d e m stands sound over r) in
        let declared : j < (meaning_at o log a).writecount =
        omega (arith, write.declared, d.writes_count a within) in
        let same = meaning_same B o log stored d e m stands sound a in
        record {
          within = omega (arith, within, stands.fixed.size_fixed);
          declared = subst (λ t. j < t.writecount) (sym same) declared;
          same_record = ap (λ t. write_of t j) same ∙ sym (d.writes_are a j within declared) ∙ write.same_record;
        }

    four : (b k : ℕ) → last.WriteOf B r count b k → k < 4
    four b k write = omega (arith, write.declared, d.proper.few_writes b)

    inside : (b k : ℕ) → last.WriteOf B r count b k → b < o.size
    inside b k write = omega (arith, write.earlier, all_placed B o log stored d e m stands sound over r)

    -- begin < t ≤ end, in both
    seen_there : (b k : ℕ) → last.WriteOf B r count b k
        → SeenAt (position_of e.state i) (entry_of e.versions (slot_of b k))
        → (m.plan.begin b k < plan.position B i) × (plan.position B i ≤ m.plan.end b k)
    seen_there b k write seen =
        let entry = stands.plan_is.entries b k (inside b k write) (four b k write) in (
          omega (arith, seen.0, entry.begin_is, position_same i),
          omega (arith, seen.1, entry.end_is, position_same i),
        )

    most : i ≤ B.size
    most = omega (arith, below, d.size_is)

    pub finds_only : FindsOnly log e i r (walk_for e i r)
    finds_only =
        rw (walk_ends B o log stored d e m stands sound over r i there (omega (arith, below)))
        (go (last.last_write B r i) (found.walk_to_last B d.proper m.plan sound.planned over r i most))
      where
        far : i ≤ m.plan.placed (B.partition_of r)
        far = omega (arith, below, all_placed B o log stored d e m stands sound over r)

        go : (x : plan.Slot) → plan.Walk m.plan (plan.position B i) (m.plan.newest r) x
            → FindsOnly log e i r (walked_to B o log stored d e m stands sound over x)
        go plan.no_slot walked =
            goes_past (λ b k write seen.
            let there_too = to_machine b k write in
            let seen_too = seen_there b k there_too seen in
            walk.walk_past_none B d.proper m.plan r count (sound.planned.linked r) i far walked b k there_too
            seen_too.0 seen_too.1)
        go (plan.slot a j) walked =
            let only =
            walk.walk_finds_only B d.proper m.plan r count (sound.planned.linked r) i a j far
            (sound.planned.counts (B.partition_of r)) walked in
            let entry =
            stands.plan_is.entries a j (inside a j only.placed) (four a j only.placed) in
            finds a j (from_machine a j only.placed) (
              omega (arith, only.begins, entry.begin_is, position_same i),
              omega (arith, only.ends, entry.end_is, position_same i),
            )
            (λ b k write seen.
            let there_too = to_machine b k write in
            let seen_too = seen_there b k there_too seen in
            let same : plan.slot b k ≡ plan.slot a j = only.only b k there_too seen_too.0 seen_too.1 in
            (cc, cc))
