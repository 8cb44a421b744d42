-- Laws of the seal with lent transactions and workers: the way that the code goes.
use Rattle.std.specs.Prelude.{ℕ, ◌*◌, not, List, ◌≡◌, refl, length, Result, Ok, Err}
use Rattle.std.proofs.Common.{◌∙◌, arith, lt-ltb, le-ltb}
use Rattle.terms.specs.Refusals.{Verdict}
use Rattle.terms.specs.declared.refusal.Refused.{Refused}
use Rattle.versions.specs.Seal.{newest_sound_of}
use Rattle.versions.specs.declared.Version.{Version}
use Rattle.engine.specs.Counting.{some_below}
use Rattle.engine.specs.LawsCounting.{same_below, none_past}
use Rattle.engine.specs.LawsHeld.{few_of, few_most, few_all}
use Rattle.engine.specs.LawsPlan.{if_accepted, answered}
use Rattle.engine.specs.LawsSeal.{seal_plan, numbers_after, records_after, newest_after, versions_after}
use Rattle.engine.specs.LawsSeal.{seal_records, seal_newest, seal_versions}
use Rattle.engine.specs.Lent.{row_of, joined, numbers_of, counted_of}
use Rattle.engine.specs.Moment.{row_unfinished}
use Rattle.engine.specs.Rows.{is_complete}
use Rattle.engine.specs.Seal.{seal_verdict, closed, sealed_by, seal_of}
use Rattle.engine.specs.declared.Row.{Row}
use Rattle.engine.specs.declared.State.{State}
use Rattle.engine.specs.declared.Worker.{Worker}
use Rattle.engine.specs.declared.lent.Counted.{Counted}
use Rattle.engine.specs.declared.lent.Numbers.{Numbers}

-- the transactions of the batch alone are looked at
pub unfinished_told : (numbers : Numbers) (rows : List Row) (crew : List Worker)
    → some_below (few_of numbers.size) (λ i. not (is_complete (row_of rows i)))
    ≡ some_below 64 (row_unfinished (joined numbers rows crew))
unfinished_told numbers rows crew =
    let most = few_most numbers.size in
    same_below (few_of numbers.size) (λ i. not (is_complete (row_of rows i)))
    (row_unfinished (joined numbers rows crew)) (λ k below.
    rw (lt-ltb k numbers.size (omega (arith, below, most.1))) refl)
    ∙ none_past (few_of numbers.size) 64 (row_unfinished (joined numbers rows crew)) most.0 (λ k past below.
    rw (le-ltb k numbers.size (few_all numbers.size k past below)) refl)

-- the answer and the numbers after it
abbrev pub closed_numbers : Numbers → Result Numbers Refused → Counted
closed_numbers numbers plan = record { answer = answered plan; numbers = numbers_after plan numbers }

-- ---- that is the definition
module _ (numbers : Numbers) (rows : List Row) (crew : List Worker) (records newest : List ℕ)
    (versions : List Version) where
  abbrev whole : State
  whole = joined numbers rows crew

  abbrev plan : Result Numbers Refused
  plan = seal_plan whole records newest versions

  pub lent_counted : closed_numbers numbers plan ≡ counted_of (seal_of whole records newest versions).stepped
  unfolding seal_of
  lent_counted =
      go
      (seal_verdict whole (length records) (length newest) (length versions)
      (newest_sound_of versions newest (4 * numbers.size)))
    where
      go : (v : Verdict) → closed_numbers numbers (if_accepted v (numbers_of (closed whole)))
          ≡ counted_of (sealed_by v whole records newest versions).stepped
      go (Ok tt) = refl
      go (Err why) = refl

  pub lent_records : records_after plan records newest versions ≡ (seal_of whole records newest versions).records
  lent_records = seal_records whole records newest versions

  pub lent_newest : newest_after plan newest ≡ (seal_of whole records newest versions).newest
  lent_newest = seal_newest whole records newest versions

  pub lent_versions : versions_after plan versions ≡ (seal_of whole records newest versions).versions
  lent_versions = seal_versions whole records newest versions
