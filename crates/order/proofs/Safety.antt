-- Safety: in every state reached both invariants hold; a produced version holds what the one-by-one run leaves after
-- its transaction; a wait names the position of an earlier transaction; and when all transactions are Complete,
-- outcomes, values read and records are those of the run.
use Rattle.std.specs.Prelude.{◌≡◌, ℕ, suc, ◌≤◌, ◌<◌}
use Rattle.std.proofs.Math.Path.{refl}
use Rattle.std.proofs.Common.{sym, ◌∙◌, ap, subst, arith}
use Rattle.std.proofs.Math.Option.{some}
use Rattle.std.proofs.Math.Decide.{dec_lt}
use Rattle.order.specs.Batch.{Batch, Proper}
use Rattle.order.specs.OneByOne.{records_before, values_read, decision_of, leaves}
use Rattle.order.specs.Plan.{Slot, no_slot, slot, position, place_next, Walk}
use Rattle.order.specs.Machine.{Contents, unproduced, produced, Row, unprocessed, executing, complete, Execution}
use Rattle.order.specs.Machine.{advance, Step, act, Answer, waits_for, opened, held_by, held_at, Finds, PlanningOver}
use Rattle.order.specs.Machine.{read_waits, carry_waits, Accepted, places, executes, IsComplete, AllComplete}
use Rattle.order.specs.Machine.{AtSeal, State, Executes}
use Rattle.order.specs.TableLaws.{clash, updated_all}
use Rattle.order.specs.LastWrite.{last_write, IsLast, last_write_lem, SerialAt, serial}
use Rattle.order.specs.Invariant.{IsProduced, VersionRight, RowRight, ExecutionRight, Sound}
use Rattle.order.proofs.Linking.{unplanned_planned}
use Rattle.order.proofs.Placing.{place_planned}
use Rattle.order.proofs.Found.{Lacks, walk_to_last, found_right, missing}
use Rattle.order.proofs.Steps.{executes_keeps}

module _ {X O : Type 0} (B : Batch X O) where
  -- Nothing is wrong at opening.
  pub opened_sound : Sound B opened
  unfolding opened
  opened_sound = record {
    planned = unplanned_planned B;
    execution_right = record {
      versions = λ i j. tt;
      beyond = λ i j h. refl;
      rows = λ i. tt;
      works = λ w. tt;
      held = λ i w h. absurd (clash (cc));
      holder = λ w i h. absurd (clash (cc));
    };
    early = λ q _ _. record { no_version = λ i j. refl; no_row = λ i. refl; no_work = λ w. refl };
  }

  -- Whether a transaction is Complete.
  unfoldable pub is_complete_lem : (row : Row X O) → Dec (IsComplete B row)
  is_complete_lem unprocessed = no (λ x. x)
  is_complete_lem (executing w) = no (λ x. x)
  is_complete_lem (complete outcome values) = yes tt

  -- The results of the one-by-one run, in a state of the machine.
  pub record AsRun (s : State X O) : Type 0 where
    pub rows : (i : ℕ) → i < B.size → s.execution.row i ≡ complete (decision_of B i).outcome (values_read B i)
    pub records : (r : ℕ) → AtSeal B s r (last_write B r B.size) (produced (records_before B B.size r))

  -- Worker w waits: the transaction that it holds lacks a record, and the wait names the position of the transaction
  -- that is to produce it.
  pub record WaitFor (s : State X O) (w t : ℕ) : Type 0 where
    pub reader : ℕ
    pub held : held_by (s.execution.work w) ≡ some reader
    pub wanted : ℕ
    pub writer : ℕ
    pub write : ℕ
    pub lacks : Lacks B s.plan s.execution reader wanted writer write
    pub names : t ≡ position B writer

  module _ (ok : Proper B) where
    -- Every accepted step keeps both invariants.
    pub step_keeps : {s t : State X O} {l : Step} {answer : Answer} → Accepted B s l answer t → Sound B s → Sound B t
    unfolding place_next
    step_keeps {s} (places {q} hq h) sound = record {
      planned = place_planned B ok s.plan q sound.planned h;
      execution_right = sound.execution_right;
      early = λ v hv k. sound.early v hv (less v k);
    }
      where
        less : (v : ℕ) → (place_next B s.plan q).placed v < B.size → s.plan.placed v < B.size
        less =
            updated_all (λ v c. c < B.size → s.plan.placed v < B.size) s.plan.placed q (suc (s.plan.placed q))
            (λ k. omega arith) (λ v _ k. k)
    step_keeps {s} (executes over x) sound = record {
      planned = sound.planned;
      execution_right = executes_keeps B ok s.plan sound.planned over x sound.execution_right;
      early = λ q hq h. absurd (omega (arith, over q hq));
    }

    -- A produced version holds what the run leaves after its transaction: in every sound state, also in mid-batch.
    pub produced_version : (s : State X O) → Sound B s → (i j : ℕ) (x : X) → s.execution.contents i j ≡ produced x
        → x ≡ leaves B i j
    produced_version s sound i j x e = go (s.execution.contents i j) e (sound.execution_right.versions i j)
      where
        go : (y : Contents X) → y ≡ produced x → VersionRight B i j y → x ≡ leaves B i j
        go unproduced e g = cc
        go (produced z) e g = cc

    -- And what a walk finds produced, at a position up to the end of the batch, is the record just before that
    -- position.
    pub produced_found : (s : State X O) → Sound B s → PlanningOver B s.plan → (i r : ℕ) → i ≤ B.size
        → (found : Slot) (x : X)
        → Finds B s.plan s.execution.contents i r found (produced x) → x ≡ records_before B i r
    produced_found s sound over i r h found x f =
        found_right B ok s.plan sound.planned over sound.execution_right.versions h f

    -- A version is not produced before it is placed: placing need not touch its contents.
    pub unplaced_unproduced : (s : State X O) → Sound B s → (q j : ℕ) → q < B.partitions
        → s.execution.contents (s.plan.placed q) j ≡ unproduced
    unplaced_unproduced s sound q j hq = go (dec_lt (s.plan.placed q) B.size)
      where
        go : Dec (s.plan.placed q < B.size) → s.execution.contents (s.plan.placed q) j ≡ unproduced
        go (yes h) = (sound.early q hq h).no_version (s.plan.placed q) j
        go (no h) = sound.execution_right.beyond (s.plan.placed q) j (omega arith)

    -- What a wait names.
    waiting : (s : State X O) → Sound B s → PlanningOver B s.plan → (w i r a j : ℕ)
        → held_by (s.execution.work w) ≡ some i
        → Finds B s.plan s.execution.contents i r (slot a j) unproduced → WaitFor s w (s.plan.begin a j)
    waiting s sound over w i r a j held f =
        let inv : ExecutionRight B s.execution = sound.execution_right in
        let lacks : Lacks B s.plan s.execution i r a j =
        missing B ok s.plan sound.planned over inv (omega (arith, (inv.holder w i held).0)) f in
        record { reader = i; held = held; wanted = r; writer = a; write = j; lacks = lacks; names = lacks.begin_is }

    pub wait_names : {s u : State X O} {w t : ℕ} → Sound B s → Accepted B s (act (advance w)) (waits_for t) u
        → WaitFor s w t
    wait_names {s} {w = w} {t = t} sound (executes {e = e} over x) = named w t e x
      where
        named : (w t : ℕ) (e : Execution X O) → Executes B s.plan s.execution (advance w) (waits_for t) e
            → WaitFor s w t
        named w t e (read_waits {i = i} {k = k} {a = a} {j = j} hw busy left f) =
            waiting s sound over w i (B.read_record i k) a j (ap held_by busy) f
        named w t e (carry_waits {i = i} {j = k} {a = a} {b = b} hw busy next f) =
            waiting s sound over w i (B.write_record i k) a b (ap held_by busy) f

    -- Nothing is Complete before planning is over.
    pub complete_planned : (s : State X O) → Sound B s → AllComplete B s → PlanningOver B s.plan
    complete_planned s sound all q hq = go (dec_lt (s.plan.placed q) B.size)
      where
        not_yet : (row : Row X O) → IsComplete B row → row ≡ unprocessed → ⊥
        not_yet unprocessed h e = h
        not_yet (executing w) h e = h
        not_yet (complete outcome values) h e = clash (cc)

        go : Dec (s.plan.placed q < B.size) → B.size ≤ s.plan.placed q
        go (yes h) =
            absurd (not_yet (s.execution.row 0) (all 0 ok.some_transaction) ((sound.early q hq h).no_row 0))
        go (no h) = omega arith

    -- When all are Complete, everything is as in the run.
    pub complete_as_run : (s : State X O) → Sound B s → AllComplete B s → AsRun s
    unfolding leaves
    complete_as_run s sound all = record {
      rows = λ i h. row_is i (s.execution.row i) (all i h) (inv.rows i);
      records = λ r. record {
        walk = walk_to_last B ok s.plan sound.planned (complete_planned s sound all) r B.size (omega arith);
        holds = record_is r (last_write B r B.size) (last_write_lem B r B.size) (serial B r B.size);
      };
    }
      where
        inv : ExecutionRight B s.execution
        inv = sound.execution_right

        row_is : (i : ℕ) (row : Row X O) → IsComplete B row → RowRight B s.execution.contents i row
            → row ≡ complete (decision_of B i).outcome (values_read B i)
        row_is i unprocessed h g = absurd h
        row_is i (executing w) h g = absurd h
        row_is i (complete outcome values) h g = cc

        all_produced : (i : ℕ) (row : Row X O) → IsComplete B row → RowRight B s.execution.contents i row
            → (j : ℕ) → j < B.write_count i → IsProduced (s.execution.contents i j)
        all_produced i unprocessed h g = absurd h
        all_produced i (executing w) h g = absurd h
        all_produced i (complete outcome values) h g = g.all_produced

        version_is : (i j : ℕ) (c : Contents X) → IsProduced c → VersionRight B i j c
            → c ≡ produced (records_before B (suc i) (B.write_record i j))
        version_is i j unproduced h g = absurd h
        version_is i j (produced x) h g = cc

        record_is : (r : ℕ) (found : Slot) → IsLast B r B.size found → SerialAt B r B.size found
            → held_at B s.execution.contents r found ≡ produced (records_before B B.size r)
        record_is r no_slot last g = cc
        record_is r (slot i j) last g =
            let done : IsProduced (s.execution.contents i j) =
            all_produced i (s.execution.row i) (all i last.0.earlier) (inv.rows i) j last.0.declared in
            rw (version_is i j (s.execution.contents i j) done (inv.versions i j), last.0.same_record, g)

    -- If all known transactions are executed, then once planning is over the newest version is the last write before
    -- the end of the batch: the seal may take it without a walk.
    pub newest_at_seal : (s : State X O) → Sound B s → PlanningOver B s.plan → B.size ≡ B.known → (r : ℕ)
        → (x : Contents X) → held_at B s.execution.contents r (s.plan.newest r) ≡ x
        → AtSeal B s r (s.plan.newest r) x
    newest_at_seal s sound over all r x holds =
        let far : s.plan.placed (B.partition_of r) ≡ B.size =
        omega (arith, over (B.partition_of r) (ok.in_partition r), sound.planned.counts (B.partition_of r)) in
        let newest : s.plan.newest r ≡ last_write B r B.size =
        (sound.planned.linked r).newest_is ∙ ap (last_write B r) far in
        let walk : Walk s.plan (position B B.size) (s.plan.newest r) (last_write B r B.size) =
        walk_to_last B ok s.plan sound.planned over r B.size (omega arith) in
        record {
          walk = subst (Walk s.plan (position B B.size) (s.plan.newest r)) (sym newest) walk;
          holds = holds;
        }
