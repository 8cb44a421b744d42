-- Laws of placing with lent transactions and workers: the way that the code goes.
use Rattle.std.specs.Prelude.{ℕ, List, ◌≡◌, refl, length, Result, Ok, Err}
use Rattle.terms.specs.Refusals.{Verdict}
use Rattle.terms.specs.declared.refusal.Refused.{Refused}
use Rattle.versions.specs.declared.Version.{Version}
use Rattle.engine.specs.LawsPlace.{placing_of, place_plan, numbers_after, both, place_tables}
use Rattle.engine.specs.LawsPlace.{place_newest, place_versions}
use Rattle.engine.specs.LawsPlan.{if_accepted, answered}
use Rattle.engine.specs.Lent.{joined, counted_of}
use Rattle.engine.specs.Place.{place_verdict, placed_when, place_of}
use Rattle.engine.specs.declared.Row.{Row}
use Rattle.engine.specs.declared.State.{State}
use Rattle.engine.specs.declared.Worker.{Worker}
use Rattle.engine.specs.declared.lent.Counted.{Counted}
use Rattle.engine.specs.declared.lent.Numbers.{Numbers}
use Rattle.engine.specs.declared.place.Placing.{Placing}

-- the answer and the numbers after it
abbrev pub counted_as : Numbers → ℕ → Result Placing Refused → Counted
counted_as numbers p plan = record { answer = answered plan; numbers = numbers_after plan numbers p }

-- ---- that is the definition
module _ (numbers : Numbers) (rows : List Row) (crew : List Worker) (p : ℕ) (log newest : List ℕ)
    (versions : List Version) where
  abbrev whole : State
  whole = joined numbers rows crew

  abbrev plan : Result Placing Refused
  plan = place_plan whole p log newest (length versions)

  pub lent_counted : counted_as numbers p plan ≡ counted_of (place_of whole p log newest versions).stepped
  unfolding place_of
  lent_counted = go (place_verdict whole p log newest (length versions))
    where
      go : (v : Verdict) → counted_as numbers p (if_accepted v (placing_of whole p log))
          ≡ counted_of (placed_when v whole p log (both newest versions)).stepped
      go (Ok tt) = refl
      go (Err why) = refl

  pub lent_newest : (place_tables plan (both newest versions)).newest
      ≡ (place_of whole p log newest versions).plans.newest
  lent_newest = place_newest whole p log newest versions

  pub lent_versions : (place_tables plan (both newest versions)).versions
      ≡ (place_of whole p log newest versions).plans.versions
  lent_versions = place_versions whole p log newest versions
