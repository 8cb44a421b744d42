-- Laws of the seal: the way that the code goes.
use Rattle.std.specs.Prelude.{ℕ, ◌*◌, true, List, ◌≡◌, refl, length, Result, Ok, Err}
use Rattle.terms.specs.Refusals.{Verdict}
use Rattle.terms.specs.declared.refusal.Refused.{Refused}
use Rattle.versions.specs.Seal.{newest_sound_of, collect_of}
use Rattle.versions.specs.Table.{clear_of}
use Rattle.versions.specs.declared.Version.{Version}
use Rattle.engine.specs.LawsPlan.{if_accepted, answered}
use Rattle.engine.specs.LawsTables.{cleared_all}
use Rattle.engine.specs.Lent.{joined, numbers_of}
use Rattle.engine.specs.Seal.{seal_verdict, closed, sealed_by, seal_of}
use Rattle.engine.specs.Tables.{none_newest}
use Rattle.engine.specs.declared.State.{State}
use Rattle.engine.specs.declared.lent.Numbers.{Numbers}

-- the numbers that it leaves, or the refusal
abbrev pub seal_plan : State → List ℕ → List ℕ → List Version → Result Numbers Refused
seal_plan s records newest versions =
    if_accepted
    (seal_verdict s (length records) (length newest) (length versions) (newest_sound_of versions newest (4 * s.size)))
    (numbers_of (closed s))

-- the numbers after it
abbrev pub numbers_after : Result Numbers Refused → Numbers → Numbers
numbers_after (Ok after) numbers = after
numbers_after (Err why) numbers = numbers

-- the tables after it
abbrev pub records_after : Result Numbers Refused → List ℕ → List ℕ → List Version → List ℕ
records_after (Ok after) records newest versions = collect_of versions newest records true
records_after (Err why) records newest versions = records

abbrev pub newest_after : Result Numbers Refused → List ℕ → List ℕ
newest_after (Ok after) newest = none_newest newest
newest_after (Err why) newest = newest

abbrev pub versions_after : Result Numbers Refused → List Version → List Version
versions_after (Ok after) versions = clear_of versions (length versions)
versions_after (Err why) versions = versions

-- ---- what the code comes to is the definition
module _ (s : State) (records newest : List ℕ) (versions : List Version) where
  abbrev said : Verdict
  said =
      seal_verdict s (length records) (length newest) (length versions) (newest_sound_of versions newest (4 * s.size))

  -- the plan's answer and numbers, joined with transactions and workers as they were, are the definition's
  pub seal_stepped : record {
    answer = answered (seal_plan s records newest versions);
    state = joined (numbers_after (seal_plan s records newest versions) (numbers_of s)) s.rows s.crew;
  }
      ≡ (seal_of s records newest versions).stepped
  unfolding seal_of
  seal_stepped = go said
    where
      go : (v : Verdict)
          → record {
            answer = answered (if_accepted v (numbers_of (closed s)));
            state = joined (numbers_after (if_accepted v (numbers_of (closed s))) (numbers_of s)) s.rows s.crew;
          }
          ≡ (sealed_by v s records newest versions).stepped
      go (Ok tt) = refl
      go (Err why) = refl

  -- only the numbers change: the state by value, put together again, from the definition's own
  pub seal_joined : record {
    answer = (seal_of s records newest versions).stepped.answer;
    state = joined (numbers_of (seal_of s records newest versions).stepped.state) s.rows s.crew;
  }
      ≡ (seal_of s records newest versions).stepped
  unfolding seal_of
  seal_joined = go said
    where
      go : (v : Verdict)
          → record {
            answer = (sealed_by v s records newest versions).stepped.answer;
            state = joined (numbers_of (sealed_by v s records newest versions).stepped.state) s.rows s.crew;
          }
          ≡ (sealed_by v s records newest versions).stepped
      go (Ok tt) = refl
      go (Err why) = refl

  pub seal_records : records_after (seal_plan s records newest versions) records newest versions
      ≡ (seal_of s records newest versions).records
  unfolding seal_of
  seal_records = go said
    where
      go : (v : Verdict) → records_after (if_accepted v (numbers_of (closed s))) records newest versions
          ≡ (sealed_by v s records newest versions).records
      go (Ok tt) = refl
      go (Err why) = refl

  pub seal_newest : newest_after (seal_plan s records newest versions) newest
      ≡ (seal_of s records newest versions).newest
  unfolding seal_of
  seal_newest = go said
    where
      go : (v : Verdict) → newest_after (if_accepted v (numbers_of (closed s))) newest
          ≡ (sealed_by v s records newest versions).newest
      go (Ok tt) = refl
      go (Err why) = refl

  pub seal_versions : versions_after (seal_plan s records newest versions) versions
      ≡ (seal_of s records newest versions).versions
  unfolding seal_of
  seal_versions = go said
    where
      go : (v : Verdict) → versions_after (if_accepted v (numbers_of (closed s))) versions
          ≡ (sealed_by v s records newest versions).versions
      go (Ok tt) = cleared_all versions
      go (Err why) = refl
