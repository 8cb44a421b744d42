-- The engine as a store of the order theorem: its replies to offers, and what it is for it to make a step of the
-- machine. Definitions only.
use Rattle.std.specs.Prelude.{ℕ, ◌≡◌, List}
use Rattle.counters.specs.declared.Outcome.{Outcome}
use Rattle.engine.specs.declared.Answer.{Answer}
use Rattle.engine.specs.declared.Answer.TheVariants.{Accepted, Waits, Refused}
use Rattle.engine.specs.declared.State.{State}
use Rattle.order.specs.Batch as order
use Rattle.order.specs.Machine as machine
use Rattle.order.specs.Store as store
use Rattle.ordered.specs.Relation.{Stands}
use Rattle.engine.specs.Running.{Engine, place, claim, advance, seal, Turn, offered}

abbrev pub reply_of : Answer → Engine → store.Reply Engine
reply_of Accepted e = store.accepted machine.stepped e
reply_of (Waits position) e = store.accepted (machine.waits_for position.0) e
reply_of (Refused refusal at) e = store.refused

abbrev pub reply_to : Turn → store.Reply Engine
reply_to turn = reply_of turn.answer turn.engine

-- the engine has no abandon
abbrev pub offer_to : List ℕ → Engine → store.Offer → store.Reply Engine
offer_to log e (store.step (machine.place p)) = reply_to (offered log e (place p))
offer_to log e (store.step (machine.act (machine.claim w i))) = reply_to (offered log e (claim w i))
offer_to log e (store.step (machine.act (machine.advance w))) = reply_to (offered log e (advance w))
offer_to log e (store.step (machine.act (machine.abandon w))) = store.refused
offer_to log e store.seal = reply_to (offered log e seal)

-- offered a step, the engine makes it as the machine does
pub record Makes (B : order.Batch ℕ Outcome) (o : State) (log stored : List ℕ) (e : Engine)
    (m : machine.State ℕ Outcome) (step : machine.Step) : Type 0 where
  pub answer : machine.Answer
  pub next : Engine
  pub after : machine.State ℕ Outcome
  pub replies : offer_to log e (store.step step) ≡ store.accepted answer next
  pub is_step : machine.Accepted B m step answer after
  pub stands : Stands o stored next after
