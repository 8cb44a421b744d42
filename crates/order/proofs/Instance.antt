-- A first store: the machine itself, for every proper batch. So the interface can be met.
use Rattle.std.specs.Prelude.{◌≡◌, ℕ, ◌<◌}
use Rattle.std.proofs.Math.Path.{refl, subst}
use Rattle.std.proofs.Common.{sym, arith}
use mathlib.Core.List.{List, []}
use Rattle.order.specs.Tables.{first_values}
use Rattle.order.specs.Batch.{Batch, Proper}
use Rattle.order.specs.OneByOne.{records_before}
use Rattle.order.specs.Machine.{Contents, unproduced, produced, Row, unprocessed, executing, complete, State}
use Rattle.order.specs.Machine.{claim, advance, Step, place, act, Answer, stepped, opened, held_at, Accepted}
use Rattle.order.specs.Machine.{IsComplete, AllComplete, AtSeal}
use Rattle.order.specs.Store.{Offer, step, seal, Reply, refused, accepted, Store}
use Rattle.order.specs.TableLaws.{clash, length_first, get_d_first}
use Rattle.order.specs.LastWrite.{last_write}
use Rattle.order.specs.Invariant.{Sound}
use Rattle.order.specs.Interface.{IsAccepted, Meets}
use Rattle.order.proofs.Safety.{opened_sound, step_keeps, complete_as_run}
use Rattle.order.proofs.Responses.{Allowed, Response, makes, cannot, all_complete, respond}

module _ {X O : Type 0} (B : Batch X O) where
  -- The machine in a sound state, open or sealed.
  pub data MachineStore : Type 0 where
    open_machine : (s : State X O) → Sound B s → MachineStore
    sealed_machine : (s : State X O) → Sound B s → AllComplete B s → MachineStore

  -- The state that it is in, and in which way.
  abbrev pub state_of : MachineStore → State X O
  state_of (open_machine s sound) = s
  state_of (sealed_machine s sound all) = s

  abbrev pub OpenIn : MachineStore → State X O → Type 0
  OpenIn (open_machine s sound) t = s ≡ t
  OpenIn (sealed_machine s sound all) t = ⊥

  abbrev pub SealedIn : MachineStore → State X O → Type 0
  SealedIn (open_machine s sound) t = ⊥
  SealedIn (sealed_machine s sound all) t = s ≡ t

  -- What a row tells, and what a version holds; where there is nothing yet, anything.
  abbrev pub outcome_of : ℕ → Row X O → O
  outcome_of i unprocessed = (B.decide i []).outcome
  outcome_of i (executing w) = (B.decide i []).outcome
  outcome_of i (complete outcome values) = outcome

  abbrev pub values_of : Row X O → List X
  values_of unprocessed = []
  values_of (executing w) = []
  values_of (complete outcome values) = values

  abbrev pub contents_of : X → Contents X → X
  contents_of x unproduced = x
  contents_of x (produced y) = y

  -- What is read off the machine for a transaction, and for a record.
  abbrev pub outcome_at : MachineStore → ℕ → O
  outcome_at c i = outcome_of i ((state_of c).execution.row i)

  abbrev pub values_read_at : MachineStore → ℕ → List X
  values_read_at c i = values_of ((state_of c).execution.row i)

  abbrev pub record_at : MachineStore → ℕ → X
  record_at c r = contents_of (B.stored r) (held_at B (state_of c).execution.contents r (last_write B r B.size))

  -- Just opened.
  unfoldable pub opened_machine : MachineStore
  opened_machine = open_machine opened (opened_sound B)

  module _ (ok : Proper B) where
    -- What the machine answers to a step, to a seal, and to any offer.
    abbrev pub answer_to : {s : State X O} {l : Step} → Sound B s → Response B s l → Reply MachineStore
    answer_to sound (makes m) = accepted m.answer (open_machine m.next (step_keeps B ok m.is_step sound))
    answer_to sound (cannot n) = refused

    abbrev pub sealing : {s : State X O} → Sound B s → Dec (AllComplete B s) → Reply MachineStore
    sealing {s} sound (yes all) = accepted stepped (sealed_machine s sound all)
    sealing sound (no n) = refused

    unfoldable pub offered : MachineStore → Offer → Reply MachineStore
    offered (open_machine s sound) (step l) = answer_to sound (respond B ok s sound l)
    offered (open_machine s sound) seal = sealing sound (all_complete B s)
    offered (sealed_machine s sound all) o = refused

    follow : (s : State X O) (sound : Sound B s) (l : Step) (response : Response B s l) (d : MachineStore)
        (answer : Answer) → answer_to sound response ≡ accepted answer d
        → (t : State X O) × Accepted B s l answer t × OpenIn d t
    follow s sound l (cannot n) d answer h = absurd (clash (cc))
    follow s sound l (makes m) d answer h =
        let same : m.answer ≡ answer = cc in
        let now : open_machine m.next (step_keeps B ok m.is_step sound) ≡ d = cc in
        (m.next, rw same at m.is_step, subst (λ (x : MachineStore). OpenIn x m.next) now refl)

    follows : (c d : MachineStore) (s : State X O) (l : Step) (answer : Answer) → OpenIn c s
        → offered c (step l) ≡ accepted answer d → (t : State X O) × Accepted B s l answer t × OpenIn d t
    unfolding offered
    follows (sealed_machine s sound all) d t l answer is_open h = absurd is_open
    follows (open_machine s sound) d t l answer is_open h =
        let made = follow s sound l (respond B ok s sound l) d answer h in
        (made.0, subst (λ (u : State X O). Accepted B u l answer made.0) is_open made.1, made.2)

    seals : (c d : MachineStore) (s : State X O) (answer : Answer) → OpenIn c s → offered c seal ≡ accepted answer d
        → AllComplete B s × SealedIn d s
    unfolding offered
    seals (sealed_machine s sound all) d t answer is_open h = absurd is_open
    seals (open_machine s sound) d t answer is_open h = go (all_complete B s) h
      where
        go : (all : Dec (AllComplete B s)) → sealing sound all ≡ accepted answer d → AllComplete B t × SealedIn d t
        go (no n) h = absurd (clash (cc))
        go (yes all) h =
            let now : sealed_machine s sound all ≡ d = cc in
            (subst (AllComplete B) is_open all, subst (λ (x : MachineStore). SealedIn x t) now is_open)

    stays_sealed : (c : MachineStore) (s : State X O) → SealedIn c s → (o : Offer) → offered c o ≡ refused
    unfolding offered
    stays_sealed (open_machine s sound) t h o = absurd h
    stays_sealed (sealed_machine s sound all) t h o = refl

    -- Whatever the state allows is accepted.
    take : (s : State X O) (sound : Sound B s) (l : Step) → Allowed B s l → (response : Response B s l)
        → IsAccepted (answer_to sound response)
    take s sound l a (makes m) = (m.answer, open_machine m.next (step_keeps B ok m.is_step sound), refl)
    take s sound l a (cannot n) = absurd (n a)

    accepts : (c : MachineStore) (s : State X O) (l : Step) → OpenIn c s → Allowed B s l
        → IsAccepted (offered c (step l))
    unfolding offered
    accepts (sealed_machine s sound all) t l is_open a = absurd is_open
    accepts (open_machine s sound) t l is_open a =
        take s sound l (subst (λ (u : State X O). Allowed B u l) (sym is_open) a) (respond B ok s sound l)

    can_seal : (c : MachineStore) (s : State X O) → OpenIn c s → AllComplete B s → IsAccepted (offered c seal)
    unfolding offered
    can_seal (sealed_machine s sound all) t is_open h = absurd is_open
    can_seal (open_machine s sound) t is_open h = go (all_complete B s)
      where
        go : (all : Dec (AllComplete B s)) → IsAccepted (sealing sound all)
        go (yes all) = (stepped, sealed_machine s sound all, refl)
        go (no n) = absurd (n (subst (AllComplete B) (sym is_open) h))

    -- What is read off a sealed machine.
    rows_kept : (c : MachineStore) (s : State X O) → SealedIn c s → (i : ℕ) → i < B.size
        → s.execution.row i ≡ complete (outcome_at c i) (values_read_at c i)
    rows_kept (open_machine s sound) t h i l = absurd h
    rows_kept (sealed_machine s sound all) t h i l = rw (← h) (go (s.execution.row i) (all i l))
      where
        go : (row : Row X O) → IsComplete B row → row ≡ complete (outcome_of i row) (values_of row)
        go unprocessed c = absurd c
        go (executing w) c = absurd c
        go (complete outcome values) c = refl

    records_taken : (c : MachineStore) (s : State X O) → SealedIn c s → (r : ℕ)
        → AtSeal B s r (last_write B r B.size) (produced (record_at c r))
    records_taken (open_machine s sound) t h r = absurd h
    records_taken (sealed_machine s sound all) t h r =
        let run : AtSeal B s r (last_write B r B.size) (produced (records_before B B.size r)) =
        (complete_as_run B ok s sound all).records r in
        rw (← h) (record { walk = run.walk; holds = rw run.holds })

    -- The machine as a store, over any number of records, meets the interface.
    unfoldable pub machine : ℕ → Store X O MachineStore
    machine record_count = record {
      offer = offered;
      record_count = record_count;
      outcomes = λ c. first_values (outcome_at c) B.size;
      values_read = λ c. first_values (values_read_at c) B.size;
      records = λ c. first_values (record_at c) record_count;
    }

    pub machine_meets : (record_count : ℕ) → Meets B (machine record_count)
    unfolding machine
    machine_meets record_count = record {
      Open = OpenIn;
      Sealed = SealedIn;
      follows = λ c d s l answer is_open sound. follows c d s l answer is_open;
      seals = λ c d s answer is_open sound. seals c d s answer is_open;
      stays_sealed = stays_sealed;
      can_place = λ c s is_open sound q hq h. accepts c s (place q) is_open (hq, omega (arith, ok.all_known));
      can_claim = λ c s is_open sound over w i hw hi idle_now open_now.
          accepts c s (act (claim w i)) is_open (over, hw, hi, idle_now, open_now);
      can_advance = λ c s is_open sound over w i hw held. accepts c s (act (advance w)) is_open (over, hw, i, held);
      can_seal = λ c s is_open sound all. can_seal c s is_open all;
      no_outcome = (B.decide 0 []).outcome;
      no_contents = B.stored 0;
      outcome_count = λ c s h. length_first (outcome_at c) B.size;
      values_count = λ c s h. length_first (values_read_at c) B.size;
      record_count_lem = λ c s h. length_first (record_at c) record_count;
      rows_kept = λ c s h i l.
          rw (
            get_d_first (outcome_at c) B.size i (B.decide 0 []).outcome l,
            get_d_first (values_read_at c) B.size i [] l,
          ) (rows_kept c s h i l);
      records_taken = λ c s h r l.
          (last_write B r B.size, rw (get_d_first (record_at c) record_count r (B.stored 0) l) (records_taken c s h r));
    }

    pub just_opened_lem : (record_count : ℕ) → (machine_meets record_count).Open opened_machine opened
    unfolding machine_meets opened_machine
    just_opened_lem record_count = refl
