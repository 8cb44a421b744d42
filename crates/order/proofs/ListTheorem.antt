-- The order theorem, said over the run of lists.
--
-- The hypotheses: s is any fitting batch of listed transactions; S is any store of as many records that meets the
-- interface for that batch; c is that store with the batch just opened.
use Rattle.std.specs.Prelude.{◌≡◌, true, false, List, length}
use Rattle.order.specs.Machine.{opened}
use Rattle.order.specs.Store.{Offer, Store, after_all, seal_accepted, CanBeSealed, step_bound}
use Rattle.order.specs.Interface.{Meets}
use Rattle.order.proofs.Theorem.{safety, progress}
use Rattle.order.specs.ListRun.{Setting, batch_of, AsListed, Fitting}
use Rattle.order.proofs.ListLaws.{fitting_proper, fitting_inside, as_listed}

module _ {X O C : Type 0} (s : Setting X O) (fitting : Fitting s) (S : Store X O C) (meets : Meets (batch_of s) S)
    (same_count : S.record_count ≡ length s.records) (c : C) (just_opened_lem : meets.Open c opened)
    (offers : List Offer) where
  -- If a seal was accepted, then outcomes, values read and records are those of the run.
  pub safety_listed : seal_accepted S c offers ≡ true → AsListed S s (after_all S c offers)
  safety_listed h =
      as_listed s (fitting_inside s fitting) S (after_all S c offers) fitting.all_known same_count
      (safety (batch_of s) (fitting_proper s fitting) S meets c just_opened_lem offers h)

  -- While none was, n·P + 14·n + 10 offers suffice.
  pub progress_listed : seal_accepted S c offers ≡ false
      → CanBeSealed S (step_bound (batch_of s)) (after_all S c offers)
  progress_listed h = progress (batch_of s) (fitting_proper s fitting) S meets c just_opened_lem offers h
