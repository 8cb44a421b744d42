-- What the contracts of the calls that are lent tables say of a result and of each lent table at exit: as the code
-- states them.
use Rattle.std.specs.Prelude.{ℕ, List, ◌≡◌}
use Rattle.versions.specs.declared.Version.{Version}
use Rattle.engine.specs.Advance.{advance_of}
use Rattle.engine.specs.Open.{open_of}
use Rattle.engine.specs.Place.{place_of}
use Rattle.engine.specs.Seal.{seal_of}
use Rattle.engine.specs.declared.State.{State}
use Rattle.engine.specs.declared.Stepped.{Stepped}

abbrev pub OpenMet : State → List ℕ → List ℕ → List Version → List ℕ → Stepped → List ℕ → List Version → List ℕ → Type 0
OpenMet s log newest versions results r newest_exit versions_exit results_exit =
    (r ≡ (open_of s log newest versions results).stepped)
    × ((newest_exit ≡ (open_of s log newest versions results).newest)
    × ((versions_exit ≡ (open_of s log newest versions results).versions)
    × (results_exit ≡ (open_of s log newest versions results).results)))

abbrev pub PlaceMet : State → ℕ → List ℕ → List ℕ → List Version → Stepped → List ℕ → List Version → Type 0
PlaceMet s p log newest versions r newest_exit versions_exit =
    (r ≡ (place_of s p log newest versions).stepped)
    × ((newest_exit ≡ (place_of s p log newest versions).plans.newest)
    × (versions_exit ≡ (place_of s p log newest versions).plans.versions))

abbrev pub AdvanceMet : State → ℕ → List ℕ → List ℕ → List ℕ → List Version → List ℕ → Stepped → List Version → List ℕ
    → Type 0
AdvanceMet s w log records newest versions results r versions_exit results_exit =
    (r ≡ (advance_of s w log records newest versions results).stepped)
    × ((versions_exit ≡ (advance_of s w log records newest versions results).versions)
    × (results_exit ≡ (advance_of s w log records newest versions results).results))

abbrev pub SealMet : State → List ℕ → List ℕ → List Version → Stepped → List ℕ → List ℕ → List Version → Type 0
SealMet s records newest versions r records_exit newest_exit versions_exit =
    (r ≡ (seal_of s records newest versions).stepped)
    × ((records_exit ≡ (seal_of s records newest versions).records)
    × ((newest_exit ≡ (seal_of s records newest versions).newest)
    × (versions_exit ≡ (seal_of s records newest versions).versions)))
