-- The contracts of the steps on lent transactions and workers, and that each determines its step's whole result: two
-- results, with what each lent run and table holds at exit, that satisfy it are equal, each to each. s is the state
-- that numbers, transactions and workers make together.
use Rattle.std.specs.Prelude.{ℕ, List, ◌≡◌}
use Rattle.terms.specs.Unique.{same}
use Rattle.versions.specs.declared.Version.{Version}
use Rattle.engine.specs.Advance.{Advanced}
use Rattle.engine.specs.Lent.{counted_of, numbers_of}
use Rattle.engine.specs.Place.{Placed}
use Rattle.engine.specs.Seal.{Sealed}
use Rattle.engine.specs.declared.Answer.{Answer}
use Rattle.engine.specs.declared.Row.{Row}
use Rattle.engine.specs.declared.State.{State}
use Rattle.engine.specs.declared.Stepped.{Stepped}
use Rattle.engine.specs.declared.Worker.{Worker}
use Rattle.engine.specs.declared.lent.Counted.{Counted}
use Rattle.engine.specs.declared.lent.Numbers.{Numbers}

-- `lent::place`, at what `place_of` says
abbrev pub LentPlaceMet : Placed → Counted → List ℕ → List Version → Type 0
LentPlaceMet placed r newest versions =
    (r ≡ counted_of placed.stepped) × ((newest ≡ placed.plans.newest) × (versions ≡ placed.plans.versions))

pub lent_place_unique : (placed : Placed) (a b : Counted) (a_newest b_newest : List ℕ)
    (a_versions b_versions : List Version)
    → LentPlaceMet placed a a_newest a_versions → LentPlaceMet placed b b_newest b_versions
    → (a ≡ b) × ((a_newest ≡ b_newest) × (a_versions ≡ b_versions))
lent_place_unique placed a b a_newest b_newest a_versions b_versions one two = (
  same one.0 two.0,
  (same one.1.0 two.1.0, same one.1.1 two.1.1),
)

-- `lent::claim`, at what `claim_of` says
abbrev pub LentClaimMet : Stepped → Answer → List Row → List Worker → Type 0
LentClaimMet stepped r rows crew =
    (r ≡ stepped.answer) × ((rows ≡ stepped.state.rows) × (crew ≡ stepped.state.crew))

pub lent_claim_unique : (stepped : Stepped) (a b : Answer) (a_rows b_rows : List Row) (a_crew b_crew : List Worker)
    → LentClaimMet stepped a a_rows a_crew → LentClaimMet stepped b b_rows b_crew
    → (a ≡ b) × ((a_rows ≡ b_rows) × (a_crew ≡ b_crew))
lent_claim_unique stepped a b a_rows b_rows a_crew b_crew one two = (
  same one.0 two.0,
  (same one.1.0 two.1.0, same one.1.1 two.1.1),
)

-- `lent::advance`, at what `advance_of` says
abbrev pub LentAdvanceMet : Advanced → Answer → List Row → List Worker → List Version → List ℕ → Type 0
LentAdvanceMet advanced r rows crew versions results =
    LentClaimMet advanced.stepped r rows crew × ((versions ≡ advanced.versions) × (results ≡ advanced.results))

pub lent_advance_unique : (advanced : Advanced) (a b : Answer) (a_rows b_rows : List Row) (a_crew b_crew : List Worker)
    (a_versions b_versions : List Version) (a_results b_results : List ℕ)
    → LentAdvanceMet advanced a a_rows a_crew a_versions a_results
    → LentAdvanceMet advanced b b_rows b_crew b_versions b_results
    → ((a ≡ b) × ((a_rows ≡ b_rows) × (a_crew ≡ b_crew))) × ((a_versions ≡ b_versions) × (a_results ≡ b_results))
lent_advance_unique advanced a b a_rows b_rows a_crew b_crew a_versions b_versions a_results b_results one two = (
  lent_claim_unique advanced.stepped a b a_rows b_rows a_crew b_crew one.0 two.0,
  (same one.1.0 two.1.0, same one.1.1 two.1.1),
)

-- `lent::seal`, at what `seal_of` says
abbrev pub LentSealMet : Sealed → Counted → List ℕ → List ℕ → List Version → Type 0
LentSealMet sealed r records newest versions =
    (r ≡ counted_of sealed.stepped)
    × ((records ≡ sealed.records) × ((newest ≡ sealed.newest) × (versions ≡ sealed.versions)))

pub lent_seal_unique : (sealed : Sealed) (a b : Counted) (a_records b_records a_newest b_newest : List ℕ)
    (a_versions b_versions : List Version) → LentSealMet sealed a a_records a_newest a_versions
    → LentSealMet sealed b b_records b_newest b_versions
    → (a ≡ b) × ((a_records ≡ b_records) × ((a_newest ≡ b_newest) × (a_versions ≡ b_versions)))
lent_seal_unique sealed a b a_records b_records a_newest b_newest a_versions b_versions one two = (
  same one.0 two.0,
  (
    same one.1.0 two.1.0,
    (same one.1.1.0 two.1.1.0, same one.1.1.1 two.1.1.1),
  ),
)

-- `lent::numbers_of`
pub lent_numbers_unique : (s : State) (a b : Numbers) → a ≡ numbers_of s → b ≡ numbers_of s → a ≡ b
lent_numbers_unique s a b = same
