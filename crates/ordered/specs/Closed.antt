-- After an accepted seal no batch is open, and every step is refused, by 9 or by an earlier check.
use Rattle.std.specs.Prelude.{ℕ, ◌*◌, Bool, ◌≡◌, List, length, Ok, Err}
use Rattle.std.proofs.Math.Bool.{true, false}
use Rattle.std.proofs.Math.Path.{refl}
use Rattle.terms.specs.declared.refusal.Refusal.TheVariants.{WrongParameter, StateOutOfRange, WrongMoment}
use Rattle.versions.specs.Seal.{newest_sound_of}
use Rattle.engine.specs.Advance.{wrong_for_advance, advance_verdict, advanced_when, advance_of}
use Rattle.engine.specs.Answers.{refuse, refuse_if}
use Rattle.engine.specs.Claim.{claim_of}
use Rattle.engine.specs.Moment.{no_batch, not_running, not_planning, not_sealable}
use Rattle.engine.specs.Place.{wrong_for_place, place_verdict, placed_when, place_of}
use Rattle.engine.specs.Range.{out_of_range}
use Rattle.engine.specs.Seal.{wrong_for_seal, seal_verdict, sealed_by, seal_of}
use Rattle.order.specs.Machine as machine
use Rattle.order.specs.Store as store
use Rattle.ordered.specs.Chains.{IsRefused, refused_later}
use Rattle.engine.specs.Running.{Engine, place, claim, advance, seal, offered}
use Rattle.engine.specs.Running as running
use Rattle.ordered.specs.Stepping.{reply_to, offer_to}
use Rattle.terms.specs.Refusals.{Verdict}

module _ (log : List ℕ) (e : Engine) (none_open : no_batch e.state ≡ true) where
  place_refused : (p : ℕ) → reply_to (offered log e (place p)) ≡ store.refused
  unfolding offered place_of place_verdict not_planning
  place_refused p =
      go (place_verdict e.state p log e.newest (length e.versions))
      (refused_later (wrong_for_place e.state (length e.newest) (length e.versions)) WrongParameter 0 _
      (refused_later (out_of_range e.state) StateOutOfRange 0 _ (rw none_open tt)))
    where
      go : (verdict : Verdict) → IsRefused verdict
          → reply_to
          (running.after_place e
          (placed_when verdict e.state p log (record { newest = e.newest; versions = e.versions })))
          ≡ store.refused
      go (Ok tt) refused = absurd refused
      go (Err why) refused = refl

  claim_refused : (w i : ℕ) → reply_to (offered log e (claim w i)) ≡ store.refused
  unfolding offered claim_of not_running
  claim_refused w i = rw none_open (go (out_of_range e.state))
    where
      go : (far : Bool)
          → reply_to (running.after_claim e
          (refuse_if e.state far StateOutOfRange (refuse e.state WrongMoment 0))) ≡ store.refused
      go true = refl
      go false = refl

  advance_refused : (w : ℕ) → reply_to (offered log e (advance w)) ≡ store.refused
  unfolding offered advance_of advance_verdict not_running
  advance_refused w =
      go
      (advance_verdict e.state w log (length e.records) (length e.newest) (length e.versions)
      (length e.results))
      (refused_later
      (wrong_for_advance e.state (length e.records) (length e.newest) (length e.versions) (length
      e.results))
      WrongParameter 0 _ (refused_later (out_of_range e.state) StateOutOfRange 0 _ (rw none_open tt)))
    where
      go : (verdict : Verdict) → IsRefused verdict
          → reply_to
          (running.after_advance e
          (advanced_when verdict e.state w log e.records e.newest e.versions e.results))
          ≡ store.refused
      go (Ok tt) refused = absurd refused
      go (Err why) refused = refl

  seal_refused : reply_to (offered log e seal) ≡ store.refused
  unfolding offered seal_of seal_verdict not_sealable
  seal_refused =
      go
      (seal_verdict e.state (length e.records) (length e.newest) (length e.versions)
      (newest_sound_of e.versions e.newest (4 * e.state.size)))
      (refused_later (wrong_for_seal e.state (length e.records) (length e.newest) (length e.versions))
      WrongParameter 0 _ (refused_later (out_of_range e.state) StateOutOfRange 0 _ (rw none_open tt)))
    where
      go : (verdict : Verdict) → IsRefused verdict
          → reply_to (running.after_seal e (sealed_by verdict e.state e.records e.newest e.versions))
          ≡ store.refused
      go (Ok tt) refused = absurd refused
      go (Err why) refused = refl

  pub all_refused : (offer : store.Offer) → offer_to log e offer ≡ store.refused
  all_refused (store.step (machine.place p)) = place_refused p
  all_refused (store.step (machine.act (machine.claim w i))) = claim_refused w i
  all_refused (store.step (machine.act (machine.advance w))) = advance_refused w
  all_refused (store.step (machine.act (machine.abandon w))) = refl
  all_refused store.seal = seal_refused
