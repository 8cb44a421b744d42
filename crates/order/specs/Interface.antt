-- The interface between the machine and a store: what a store's own functions must meet for the order theorem to hold
-- of it. Definitions only.
use Rattle.std.specs.Prelude.{◌≡◌, [], ℕ, ◌<◌, length, get_or}
use Rattle.std.proofs.Math.Option.{some}
use Rattle.order.specs.Batch.{Batch}
use Rattle.order.specs.Plan.{Slot}
use Rattle.order.specs.Machine.{produced, unprocessed, complete, idle, State, claim, advance, Step, place, act}
use Rattle.order.specs.Machine.{Answer, held_by, PlanningOver, Accepted, AllComplete, AtSeal}
use Rattle.order.specs.Store.{Offer, step, seal, Reply, refused, accepted, Store}
use Rattle.order.specs.Invariant.{Sound}

-- An offer is accepted, with some answer and some next store.
abbrev pub IsAccepted : {C : Type 0} → Reply C → Type 0
IsAccepted {C} reply = (answer : Answer) × (next : C) × (reply ≡ accepted answer next)

module _ {X O : Type 0} (B : Batch X O) {C : Type 0} (S : Store X O C) where
  pub record Meets : Type 1 where
    -- the store has the batch open, in the machine's state given; or was sealed in that state
    pub Open : C → State X O → Type 0
    pub Sealed : C → State X O → Type 0
    -- what it accepts are steps of the machine, with the machine's answer
    pub follows : (c d : C) (s : State X O) (l : Step) (answer : Answer) → Open c s → Sound B s
        → S.offer c (step l) ≡ accepted answer d → (t : State X O) × Accepted B s l answer t × Open d t
    -- it seals only where every transaction is Complete, and accepts nothing afterwards
    pub seals : (c d : C) (s : State X O) (answer : Answer) → Open c s → Sound B s
        → S.offer c seal ≡ accepted answer d → AllComplete B s × Sealed d s
    pub stays_sealed : (c : C) (s : State X O) → Sealed c s → (o : Offer) → S.offer c o ≡ refused
    -- what the machine can do it does not refuse; an abandon it may refuse
    pub can_place : (c : C) (s : State X O) → Open c s → Sound B s
        → (q : ℕ) → q < B.partitions → s.plan.placed q < B.size → IsAccepted (S.offer c (step (place q)))
    pub can_claim : (c : C) (s : State X O) → Open c s → Sound B s → PlanningOver B s.plan
        → (w i : ℕ) → w < B.workers → i < B.size → s.execution.work w ≡ idle → s.execution.row i ≡ unprocessed
        → IsAccepted (S.offer c (step (act (claim w i))))
    pub can_advance : (c : C) (s : State X O) → Open c s → Sound B s → PlanningOver B s.plan
        → (w i : ℕ) → w < B.workers → held_by (s.execution.work w) ≡ some i
        → IsAccepted (S.offer c (step (act (advance w))))
    pub can_seal : (c : C) (s : State X O) → Open c s → Sound B s → AllComplete B s → IsAccepted (S.offer c seal)
    -- what its lists hold once it is sealed: outcomes and values read as in the rows, and in each record what the
    -- walk at the end of the batch finds (a list is read with a default for what lies past its end; any will do)
    pub no_outcome : O
    pub no_contents : X
    pub outcome_count : (c : C) (s : State X O) → Sealed c s → length (S.outcomes c) ≡ B.size
    pub values_count : (c : C) (s : State X O) → Sealed c s → length (S.values_read c) ≡ B.size
    pub record_count_lem : (c : C) (s : State X O) → Sealed c s → length (S.records c) ≡ S.record_count
    pub rows_kept : (c : C) (s : State X O) → Sealed c s → (i : ℕ) → i < B.size
        → s.execution.row i ≡ complete (get_or (S.outcomes c) i no_outcome) (get_or (S.values_read c) i [])
    pub records_taken : (c : C) (s : State X O) → Sealed c s → (r : ℕ) → r < S.record_count
        → (found : Slot) × AtSeal B s r found (produced (get_or (S.records c) r no_contents))
