-- A refused offer leaves the engine as it was; so a list of offers is the same list to the engine and to the store
-- that the order theorem speaks of.
use Rattle.std.specs.Prelude.{ℕ, true, ◌||◌, ◌≡◌}
use Rattle.std.proofs.Math.Path.{refl, ap}
use Rattle.std.proofs.Common.{sym, ◌∙◌}
use mathlib.Core.List.{List, [], ◌∷◌, map}
use Rattle.counters.specs.declared.Outcome.{Outcome}
use Rattle.engine.specs.Answers.{is_refused}
use Rattle.engine.specs.Theorems.{refused_place, refused_claim, refused_advance, refused_seal}
use Rattle.engine.specs.declared.Answer.{Answer}
use Rattle.engine.specs.declared.Answer.TheVariants.{Accepted, Waits, Refused}
use Rattle.engine.specs.declared.State.{State}
use Rattle.order.specs.Batch as order
use Rattle.order.specs.Machine as machine
use Rattle.order.specs.Store as store
use Rattle.order.specs.TableLaws.{clash}
use Rattle.ordered.specs.Describing.{Describes}
use Rattle.ordered.specs.Meeting.{engine_store}
use Rattle.engine.specs.Running.{Engine, Offer, place, claim, advance, seal, Turn, is_accepted, offered}
use Rattle.engine.specs.Running.{is_sealing, after_all, seal_accepted, all_accepted}
use Rattle.ordered.specs.Stepping.{reply_to, offer_to}

-- "State and all tables keep their contents."
pub refused_keeps : (log : List ℕ) (e : Engine) (offer : Offer) → is_refused (offered log e offer).answer ≡ true
    → (offered log e offer).engine ≡ e
unfolding offered
refused_keeps log e (place p) refused =
    let kept = refused_place e.state p log e.newest e.versions refused in
    rw (kept.0, kept.1, kept.2)
refused_keeps log e (claim w i) refused = rw (refused_claim e.state w i refused)
refused_keeps log e (advance w) refused =
    let kept = refused_advance e.state w log e.records e.newest e.versions e.results refused in
    rw (kept.0, kept.1, kept.2)
refused_keeps log e seal refused =
    let kept = refused_seal e.state e.records e.newest e.versions refused in
    rw (kept.0, kept.1, kept.2, kept.3)

-- an offer, as the order theorem has it; and back, where an abandon stands for none of the engine's
abbrev pub to_store : Offer → store.Offer
to_store (place p) = store.step (machine.place p)
to_store (claim w i) = store.step (machine.act (machine.claim w i))
to_store (advance w) = store.step (machine.act (machine.advance w))
to_store seal = store.seal

abbrev pub from_store : store.Offer → Offer
from_store (store.step (machine.place p)) = place p
from_store (store.step (machine.act (machine.claim w i))) = claim w i
from_store (store.step (machine.act (machine.advance w))) = advance w
from_store (store.step (machine.act (machine.abandon w))) = seal
from_store store.seal = seal

pub reply_same : (log : List ℕ) (e : Engine) (offer : Offer)
    → offer_to log e (to_store offer) ≡ reply_to (offered log e offer)
reply_same log e (place p) = refl
reply_same log e (claim w i) = refl
reply_same log e (advance w) = refl
reply_same log e seal = refl

reply_back : (log : List ℕ) (e : Engine) (offer : store.Offer) → store.NotAbandon offer
    → offer_to log e offer ≡ reply_to (offered log e (from_store offer))
reply_back log e (store.step (machine.place p)) plain = refl
reply_back log e (store.step (machine.act (machine.claim w i))) plain = refl
reply_back log e (store.step (machine.act (machine.advance w))) plain = refl
reply_back log e (store.step (machine.act (machine.abandon w))) plain = absurd plain
reply_back log e store.seal plain = refl

-- the engine after a turn
after_turn : (e : Engine) (turn : Turn) → (is_refused turn.answer ≡ true → turn.engine ≡ e)
    → store.after e (reply_to turn) ≡ turn.engine
after_turn e turn keeps = go turn.answer refl
  where
    go : (answer : Answer) → turn.answer ≡ answer → store.after e (reply_to turn) ≡ turn.engine
    go Accepted is = rw is
    go (Waits position) is = rw is
    go (Refused refusal at) is = rw is (sym (keeps (rw is)))

sealing_turn : (offer : Offer) (turn : Turn) (log : List ℕ)
    → store.is_sealing (to_store offer) (reply_to turn) ≡ is_sealing log offer turn.answer
sealing_turn (place p) turn log = refl
sealing_turn (claim w i) turn log = refl
sealing_turn (advance w) turn log = refl
sealing_turn seal turn log = go turn.answer refl
  where
    go : (answer : Answer) → turn.answer ≡ answer
        → store.is_sealing store.seal (reply_to turn) ≡ is_accepted turn.answer
    go Accepted is = rw is
    go (Waits position) is = rw is
    go (Refused refusal at) is = rw is

module _ (B : order.Batch ℕ Outcome) (o : State) (log stored : List ℕ) (d : Describes B o log stored) where
  abbrev S : store.Store ℕ Outcome Engine
  S = engine_store B o log stored d

  after_one : (e : Engine) (offer : Offer)
      → store.after e (offer_to log e (to_store offer)) ≡ (offered log e offer).engine
  after_one e offer = rw (reply_same log e offer) (after_turn e (offered log e offer) (refused_keeps log e offer))

  pub after_same : (e : Engine) (offers : List Offer)
      → store.after_all S e (map to_store offers) ≡ after_all log e offers
  unfolding store.after_all after_all
  after_same e [] = refl
  after_same e (offer ∷ offers) =
      ap (λ x. store.after_all S x (map to_store offers)) (after_one e offer)
      ∙ after_same (offered log e offer).engine offers

  pub sealed_same : (e : Engine) (offers : List Offer)
      → store.seal_accepted S e (map to_store offers) ≡ seal_accepted log e offers
  unfolding store.seal_accepted seal_accepted
  sealed_same e [] = refl
  sealed_same e (offer ∷ offers) =
      ap (λ x. store.is_sealing (to_store offer) x || store.seal_accepted S
      (store.after e (offer_to log e (to_store offer)))
      (map to_store offers)) (reply_same log e offer)
      ∙ ap (λ x. x || store.seal_accepted S (store.after e (offer_to log e (to_store offer))) (map to_store offers))
      (sealing_turn offer (offered log e offer) log)
      ∙ ap (λ x. is_sealing log offer (offered log e offer).answer || store.seal_accepted S x (map to_store offers))
      (after_one e offer)
      ∙ ap (λ x. is_sealing log offer (offered log e offer).answer || x)
      (sealed_same (offered log e offer).engine offers)

  -- what the store accepts throughout, the engine does
  accepted_turn : (turn : Turn) (answer : machine.Answer) (next : Engine)
      → reply_to turn ≡ store.accepted answer next → (is_accepted turn.answer ≡ true) × (turn.engine ≡ next)
  accepted_turn turn answer next reply = go turn.answer refl
    where
      go : (x : Answer) → turn.answer ≡ x → (is_accepted turn.answer ≡ true) × (turn.engine ≡ next)
      go Accepted is =
          let same : store.accepted machine.stepped turn.engine ≡ store.accepted answer next = rw is at reply in
          (rw is, (cc))
      go (Waits position) is =
          let same : store.accepted (machine.waits_for position.0) turn.engine ≡ store.accepted answer next =
          rw is at reply in
          (rw is, (cc))
      go (Refused refusal at) is =
          let same : store.refused ≡ store.accepted answer next = rw is at reply in
          absurd (clash (cc))

  pub all_same : {e z : Engine} {offers : List store.Offer} → store.AllAccepted S e offers z
      → all_accepted log e (map from_store offers) ≡ true
  unfolding all_accepted
  all_same store.no_offer = refl
  all_same {e} (store.then_offer {d = next} {o = offer} {os = offers} {answer = answer} plain reply rest) =
      let turn =
      accepted_turn (offered log e (from_store offer)) answer next (sym (reply_back log e offer plain) ∙ reply) in
      rw (turn.0, turn.1) (all_same rest)
