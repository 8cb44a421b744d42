-- Moments of the listing, and the contracts of the calls there: what any result of a call has to satisfy.
use Rattle.std.specs.Prelude.{ℕ, List, ◌≡◌}
use Rattle.versions.specs.declared.Version.{Version}
use Rattle.engine.specs.Claim.{claim_of}
use Rattle.engine.specs.Met.{OpenMet, PlaceMet, AdvanceMet, SealMet}
use Rattle.engine.specs.declared.Stepped.{Stepped}
use Rattle.instances.specs.Listing.{log, after}
use Rattle.engine.specs.Running.{Engine}

-- every transaction is placed in both partitions
abbrev pub planned : Engine
planned = after 8

-- worker 0 has claimed transaction 3, which reads nothing, and decides next
abbrev pub deciding : Engine
deciding = after 9

-- and then fills its one write, which completes it
abbrev pub filling : Engine
filling = after 10

-- worker 1 has claimed transaction 1; what it reads next is not produced
abbrev pub waiting : Engine
waiting = after 12

-- worker 0 has claimed transaction 0 and reads next the record that the transaction writes
abbrev pub reading_own : Engine
reading_own = after 14

-- and two advances later it fills its one write, which completes it
abbrev pub completing : Engine
completing = after 16

-- worker 0 has claimed transaction 2, which aborts, and fills next its last write
abbrev pub filling_last : Engine
filling_last = after 27

-- every transaction is Complete
abbrev pub finished : Engine
finished = after 28

-- ---- the contracts there

abbrev pub OpenAt : Engine → Stepped → List ℕ → List Version → List ℕ → Type 0
OpenAt c = OpenMet c.state log c.newest c.versions c.results

abbrev pub PlaceAt : Engine → ℕ → Stepped → List ℕ → List Version → Type 0
PlaceAt c p = PlaceMet c.state p log c.newest c.versions

abbrev pub ClaimAt : Engine → ℕ → ℕ → Stepped → Type 0
ClaimAt c w i r = r ≡ claim_of c.state w i

abbrev pub AdvanceAt : Engine → ℕ → Stepped → List Version → List ℕ → Type 0
AdvanceAt c w = AdvanceMet c.state w log c.records c.newest c.versions c.results

abbrev pub SealAt : Engine → Stepped → List ℕ → List ℕ → List Version → Type 0
SealAt c = SealMet c.state c.records c.newest c.versions
