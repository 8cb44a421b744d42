-- Offering steps: what a session is after a step, and after all steps of a run of bytes.
use Rattle.std.specs.Prelude.{ℕ, zero, suc, cond, List, length}
use Rattle.versions.specs.declared.Version.{Version}
use Rattle.engine.specs.Advance.{advance_of, Advanced}
use Rattle.engine.specs.Claim.{claim_of}
use Rattle.engine.specs.Place.{place_of, Placed}
use Rattle.engine.specs.Seal.{seal_of, Sealed}
use Rattle.engine.specs.declared.Stepped.{Stepped}
use Rattle.desk.specs.Counts.{counted, counted_seal, refused_at_once}
use Rattle.desk.specs.Steps.{step_at, whole_steps, is_place, is_claim, is_advance, is_seal}
use Rattle.desk.specs.declared.Step.{Step}
use Rattle.desk.specs.declared.Tally.{Tally}

-- the counts with the engine's state, and the lent tables
pub record Session : Type 0 where
  pub tally : Tally
  pub records : List ℕ
  pub newest : List ℕ
  pub versions : List Version
  pub results : List ℕ

-- a session from its parts
abbrev pub session_of : Tally → List ℕ → List ℕ → List Version → List ℕ → Session
session_of tally records newest versions results =
    record { tally = tally; records = records; newest = newest; versions = versions; results = results }

-- what the engine answers to a step; "a seal's party is not read"
abbrev pub place_for : Tally → ℕ → List ℕ → List ℕ → List Version → Placed
place_for tally party log newest versions = place_of tally.state party log newest versions

abbrev pub claim_for : Tally → Step → Stepped
claim_for tally step = claim_of tally.state step.party step.transaction

abbrev pub advance_for : Tally → ℕ → List ℕ → List ℕ → List ℕ → List Version → List ℕ → Advanced
advance_for tally party log records newest versions results =
    advance_of tally.state party log records newest versions results

abbrev pub seal_for : Tally → List ℕ → List ℕ → List Version → Sealed
seal_for tally records newest versions = seal_of tally.state records newest versions

-- the session after each
abbrev pub counted_by : Tally → Stepped → Tally
counted_by tally stepped = counted tally stepped.answer stepped.state

abbrev pub counted_seal_by : Tally → Stepped → Tally
counted_seal_by tally stepped = counted_seal tally stepped.answer stepped.state

abbrev pub after_place : Placed → Session → Session
after_place placed s =
    record {
      tally = counted_by s.tally placed.stepped;
      records = s.records;
      newest = placed.plans.newest;
      versions = placed.plans.versions;
      results = s.results;
    }

abbrev pub after_claim : Stepped → Session → Session
after_claim stepped s =
    record {
      tally = counted_by s.tally stepped;
      records = s.records;
      newest = s.newest;
      versions = s.versions;
      results = s.results;
    }

abbrev pub after_advance : Advanced → Session → Session
after_advance advanced s =
    record {
      tally = counted_by s.tally advanced.stepped;
      records = s.records;
      newest = s.newest;
      versions = advanced.versions;
      results = advanced.results;
    }

abbrev pub after_seal : Sealed → Session → Session
after_seal sealed s =
    record {
      tally = counted_seal_by s.tally sealed.stepped;
      records = sealed.records;
      newest = sealed.newest;
      versions = sealed.versions;
      results = s.results;
    }

abbrev pub after_none : Session → Session
after_none s =
    record {
      tally = refused_at_once s.tally;
      records = s.records;
      newest = s.newest;
      versions = s.versions;
      results = s.results;
    }

-- "A step of another kind, or with a nonzero transaction where none belongs, counts as offered and refused"
unfoldable pub offer_of : Step → List ℕ → Session → Session
offer_of step log s =
    cond (is_place step)
    (after_place (place_for s.tally step.party log s.newest s.versions) s)
    (cond (is_claim step)
    (after_claim (claim_for s.tally step) s)
    (cond (is_advance step)
    (after_advance (advance_for s.tally step.party log s.records s.newest s.versions s.results) s)
    (cond (is_seal step)
    (after_seal (seal_for s.tally s.records s.newest s.versions) s)
    (after_none s))))

-- the first steps of a run of bytes, in order; "Steps after an accepted seal are still offered."
abbrev pub offers_of : List ℕ → List ℕ → Session → ℕ → Session
offers_of steps log s zero = s
offers_of steps log s (suc count) = offer_of (step_at steps count) log (offers_of steps log s count)

-- all steps of the first `bytes` bytes
abbrev pub run_of : List ℕ → ℕ → List ℕ → Session → Session
run_of steps bytes log s = offers_of steps log s (whole_steps (length steps) bytes)
