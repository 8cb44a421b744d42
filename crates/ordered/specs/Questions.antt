-- What one may ask of an engine between its opening and its seal. Definitions only.
use Rattle.std.specs.Prelude.{ℕ, ◌*◌, ◌≤◌, ◌<◌, false, ◌≡◌, List}
use Rattle.versions.specs.Chain.{walk_of}
use Rattle.versions.specs.Table.{entry_of}
use Rattle.versions.specs.declared.Version.{Version}
use Rattle.versions.specs.declared.chain.Walked.{Walked}
use Rattle.versions.specs.declared.chain.Walked.TheVariants.{Stored, Found}
use Rattle.engine.specs.Place.{meaning_at, slot_of, position_of, write_of}
use Rattle.engine.specs.Range.{row_at, worker_at}
use Rattle.engine.specs.Rows.{is_complete}
use Rattle.engine.specs.Tables.{newest_of}
use Rattle.engine.specs.Running.{Engine}

-- "the answer is 'waits for' its begin": the position of an earlier transaction than the worker's own, which is not
-- Complete
pub record WaitsForEarlier (e : Engine) (w position : ℕ) : Type 0 where
  pub writer : ℕ
  pub earlier : writer < (worker_at e.state w).transaction
  pub names : position ≡ position_of e.state writer
  pub unfinished : is_complete (row_at e.state writer) ≡ false

-- write j of transaction a is a write of record r, in the batch
pub record WriteOf (log : List ℕ) (e : Engine) (r a j : ℕ) : Type 0 where
  pub within : a < e.state.size
  pub declared : j < (meaning_at e.state log a).writecount
  pub same_record : write_of (meaning_at e.state log a) j ≡ r

-- "begin < t ≤ end"
abbrev pub SeenAt : ℕ → Version → Type 0
SeenAt t version = (version.begin < t) × (t ≤ version.end)

-- the walk of transaction i over record r
abbrev pub walk_for : Engine → ℕ → ℕ → Walked
walk_for e i r = walk_of e.versions (newest_of e.newest r) (4 * e.state.size) (position_of e.state i)

-- "Along a proper chain this is also the only version with begin < t ≤ end": where the walk finds a version, and
-- where it goes past the last one
pub data FindsOnly (log : List ℕ) (e : Engine) (i r : ℕ) : Walked → Type 0 where
  finds : (a j : ℕ) → WriteOf log e r a j → SeenAt (position_of e.state i) (entry_of e.versions (slot_of a j))
      → ((b k : ℕ) → WriteOf log e r b k → SeenAt (position_of e.state i) (entry_of e.versions (slot_of b k))
      → (b ≡ a) × (k ≡ j))
      → FindsOnly log e i r (Found (entry_of e.versions (slot_of a j)))
  goes_past : ((b k : ℕ) → WriteOf log e r b k → SeenAt (position_of e.state i) (entry_of e.versions
      (slot_of b k)) → ⊥)
      → FindsOnly log e i r Stored

-- a refusal number that concerns the moment and the parties alone: 9 to 13; or none
pub data OfTheMoment : ℕ → Type 0 where
  accepted : OfTheMoment 0
  from_nine : (number : ℕ) → 9 ≤ number → number ≤ 13 → OfTheMoment number
