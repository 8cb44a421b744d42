-- A store, as its user sees it: offers, replies, and the lists that can be read off it. What the theorem says of it.
-- Definitions only.
use Rattle.std.specs.Prelude.{◌≡◌, Bool, true, false, ◌||◌, List, [], ◌∷◌, ◌++◌, ℕ, ◌+◌, ◌*◌, ◌≤◌, length}
use Rattle.order.specs.Tables.{first_values}
use Rattle.order.specs.Batch.{Batch}
use Rattle.order.specs.OneByOne.{records_before, values_read, decision_of}
use Rattle.order.specs.Machine.{claim, advance, abandon, Step, place, act, Answer}

-- What is offered to a store: a step, or the seal.
pub data Offer : Type 0 where
  step : Step → Offer
  seal : Offer

-- A store refuses, or accepts with an answer and goes over to the next store. A wait is an accepted step.
pub data Reply (C : Type 0) : Type 0 where
  refused : Reply C
  accepted : Answer → C → Reply C

-- A store's own functions: what it does with an offer; how many records it has; and, as lists, the outcomes and the
-- values read of the transactions executed, and the records.
pub record Store (X O C : Type 0) : Type 0 where
  pub offer : C → Offer → Reply C
  pub record_count : ℕ
  pub outcomes : C → List O
  pub values_read : C → List (List X)
  pub records : C → List X

-- The store after a reply: a refused offer leaves it as it was.
abbrev pub after : {C : Type 0} → C → Reply C → C
after c refused = c
after c (accepted answer d) = d

-- Whether an offer was a seal and accepted.
abbrev pub is_sealing : {C : Type 0} → Offer → Reply C → Bool
is_sealing (step l) reply = false
is_sealing seal refused = false
is_sealing seal (accepted answer d) = true

abbrev pub NotAbandon : Offer → Type 0
NotAbandon seal = Unit {0}
NotAbandon (step (place q)) = Unit {0}
NotAbandon (step (act (claim w i))) = Unit {0}
NotAbandon (step (act (advance w))) = Unit {0}
NotAbandon (step (act (abandon w))) = ⊥

module _ {X O C : Type 0} (S : Store X O C) where
  -- The store after any list of offers, refused ones among them.
  unfoldable pub after_all : C → List Offer → C
  after_all c [] = c
  after_all c (o ∷ os) = after_all (after c (S.offer c o)) os

  -- Whether a seal was accepted among the offers.
  unfoldable pub seal_accepted : C → List Offer → Bool
  seal_accepted c [] = false
  seal_accepted c (o ∷ os) = is_sealing o (S.offer c o) || seal_accepted (after c (S.offer c o)) os

  -- Every offer of a list is accepted, and none is an abandon.
  pub data AllAccepted : C → List Offer → C → Type 0 where
    no_offer : {c : C} → AllAccepted c [] c
    then_offer : {c d z : C} {o : Offer} {os : List Offer} {answer : Answer}
        → NotAbandon o → S.offer c o ≡ accepted answer d → AllAccepted d os z → AllAccepted c (o ∷ os) z

  -- What the store holds is what the one-by-one run of the batch gives: whole lists.
  pub record AsOneByOne (B : Batch X O) (c : C) : Type 0 where
    pub outcomes_same : S.outcomes c ≡ first_values (λ i. (decision_of B i).outcome) B.size
    pub values_same : S.values_read c ≡ first_values (values_read B) B.size
    pub records_same : S.records c ≡ first_values (records_before B B.size) S.record_count

  -- From the store as it is, at most so many offers, all accepted and no abandon among them, end in a seal.
  pub record CanBeSealed (bound : ℕ) (c : C) : Type 0 where
    pub offers : List Offer
    pub sealed : C
    pub all_accepted_lem : AllAccepted c (offers ++ (seal ∷ [])) sealed
    pub within_bound : length (offers ++ (seal ∷ [])) ≤ bound

-- How many offers suffice for a seal: n·P + 14·n + 10.
abbrev pub step_bound : {X O : Type 0} → Batch X O → ℕ
step_bound B = B.size * B.partitions + 14 * B.size + 10
