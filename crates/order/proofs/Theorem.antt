-- The order theorem: any order of work gives the result of the one-by-one run, and the work can always be brought to
-- its end.
--
-- The hypotheses: B is any proper batch (any contents, outcomes, deciding rule and partition function; n transactions
-- executed of those known); S is any store that meets the interface; c is that store with the batch just opened. What
-- follows holds after any list of offers, accepted or refused, abandons among them.
--
-- It is not vacuous: Instance.antt has, for every proper batch, a store that meets the interface, just opened; and
-- Listing.antt has a proper batch, with a list of offers that seals it.
use Rattle.std.specs.Prelude.{◌≡◌, Bool, true, false, List, ℕ}
use Rattle.std.proofs.Common.{subst}
use Rattle.order.specs.Batch.{Batch, Proper}
use Rattle.order.specs.Machine.{State, advance, act, waits_for, opened}
use Rattle.order.specs.Store.{Offer, step, refused, accepted, Store, after_all, seal_accepted, AsOneByOne}
use Rattle.order.specs.Store.{CanBeSealed, step_bound}
use Rattle.order.specs.Invariant.{Sound}
use Rattle.order.specs.Interface.{Meets}
use Rattle.order.proofs.Safety.{opened_sound, WaitFor, wait_names}
use Rattle.order.proofs.Progress.{can_be_sealed}
use Rattle.order.proofs.Reached.{Fate, still_open, was_sealed, fate, sealed_as_run, sealing_as_run}

module _ {X O C : Type 0} (B : Batch X O) (proper : Proper B) (S : Store X O C) (meets : Meets B S)
    (c : C) (just_opened_lem : meets.Open c opened) (offers : List Offer) where
  fate_after : {sealed : Bool} → seal_accepted S c offers ≡ sealed → Fate meets sealed (after_all S c offers)
  fate_after h =
      subst (λ (sealed : Bool). Fate meets sealed (after_all S c offers)) h
      (fate meets proper offers c opened just_opened_lem (opened_sound B))

  -- Safety: if a seal was accepted, then outcomes, values read and records are those of the one-by-one run.
  pub safety : seal_accepted S c offers ≡ true → AsOneByOne S B (after_all S c offers)
  safety h = sealed_as_run meets proper (fate_after h)

  -- And nothing is accepted after it.
  pub sealed_for_good : seal_accepted S c offers ≡ true → (o : Offer) → S.offer (after_all S c offers) o ≡ refused
  sealed_for_good h = go (fate_after h)
    where
      go : {d : C} → Fate meets true d → (o : Offer) → S.offer d o ≡ refused
      go {d} (was_sealed s is_sealed sound all) o = meets.stays_sealed d s is_sealed o

  -- Progress: while no seal was accepted, some list of at most n·P + 14·n + 10 offers is accepted throughout, a wait
  -- counting as accepted; none of them is an abandon, and the last is the seal.
  pub progress : seal_accepted S c offers ≡ false → CanBeSealed S (step_bound B) (after_all S c offers)
  progress h = go (fate_after h)
    where
      go : {d : C} → Fate meets false d → CanBeSealed S (step_bound B) d
      go {d} (still_open s is_open sound) = can_be_sealed meets proper d s is_open sound

  -- While no seal was accepted the store stands in a sound state of the machine, so that what Safety.antt says of such
  -- states holds of it: each produced version is that of the run.
  pub stands : seal_accepted S c offers ≡ false → (s : State X O) × meets.Open (after_all S c offers) s × Sound B s
  stands h = go (fate_after h)
    where
      go : {d : C} → Fate meets false d → (s : State X O) × meets.Open d s × Sound B s
      go (still_open s is_open sound) = (s, is_open, sound)

  -- Sealed by such a list, it holds the results of the run.
  pub ends_as_run : (bound : ℕ) → seal_accepted S c offers ≡ false → (way : CanBeSealed S bound (after_all S c offers))
      → AsOneByOne S B way.sealed
  ends_as_run bound h way = let now = stands h in sealing_as_run meets proper bound now.0 now.1 now.2 way

  -- A wait names the position of an earlier transaction, one that is not Complete and whose version is not produced.
  pub wait_is_for : (w t : ℕ) (d : C) → seal_accepted S c offers ≡ false
      → S.offer (after_all S c offers) (step (act (advance w))) ≡ accepted (waits_for t) d
      → (s : State X O) × meets.Open (after_all S c offers) s × WaitFor B s w t
  wait_is_for w t d h waits =
      let now = stands h in
      let made =
      meets.follows (after_all S c offers) d now.0 (act (advance w)) (waits_for t) now.1 now.2 waits in
      (now.0, now.1, wait_names B proper now.2 made.1)
