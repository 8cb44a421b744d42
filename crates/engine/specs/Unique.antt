-- Each contract determines its call's whole result: two results that satisfy it are equal.
use Rattle.std.specs.Prelude.{ℕ, List, ◌≡◌}
use Rattle.terms.specs.Unique.{same}
use Rattle.terms.specs.declared.refusal.Refused.{Refused}
use Rattle.versions.specs.declared.Version.{Version}
use Rattle.engine.specs.Answers.{answer_number, answer_place, answer_position}
use Rattle.engine.specs.Claim.{claim_of}
use Rattle.engine.specs.Met.{OpenMet, PlaceMet, AdvanceMet, SealMet}
use Rattle.engine.specs.Make.{make_of}
use Rattle.engine.specs.declared.Answer.{Answer}
use Rattle.engine.specs.declared.Answer.TheVariants.{Refused as RefusedBy}
use Rattle.engine.specs.declared.Made.{Made}
use Rattle.engine.specs.declared.State.{State}
use Rattle.engine.specs.declared.Stepped.{Stepped}

pub make_unique : (n p w start : ℕ) (a b : Made) → a ≡ make_of n p w start → b ≡ make_of n p w start → a ≡ b
make_unique n p w start a b = same

pub claim_unique : (s : State) (w i : ℕ) (a b : Stepped) → a ≡ claim_of s w i → b ≡ claim_of s w i → a ≡ b
claim_unique s w i a b = same

pub answer_number_unique : (answer : Answer) (a b : ℕ) → a ≡ answer_number answer → b ≡ answer_number answer → a ≡ b
answer_number_unique answer a b = same

pub answer_place_unique : (answer : Answer) (a b : ℕ) → a ≡ answer_place answer → b ≡ answer_place answer → a ≡ b
answer_place_unique answer a b = same

pub answer_position_unique : (answer : Answer) (a b : ℕ) → a ≡ answer_position answer → b ≡ answer_position answer
    → a ≡ b
answer_position_unique answer a b = same

-- `Answer::from`
pub answer_unique : (why : Refused) (a b : Answer) → a ≡ RefusedBy why.refusal why.place
    → b ≡ RefusedBy why.refusal why.place
    → a ≡ b
answer_unique why a b = same

-- The calls that are lent tables: two results, with what each lent table holds at exit, that satisfy the contract are
-- equal, each to each.
pub open_unique : (s : State) (log newest : List ℕ) (versions : List Version) (results : List ℕ)
    (a b : Stepped) (a_newest b_newest : List ℕ) (a_versions b_versions : List Version) (a_results b_results : List ℕ)
    → OpenMet s log newest versions results a a_newest a_versions a_results
    → OpenMet s log newest versions results b b_newest b_versions b_results
    → (a ≡ b) × ((a_newest ≡ b_newest) × ((a_versions ≡ b_versions) × (a_results ≡ b_results)))
open_unique s log newest versions results a b a_newest b_newest a_versions b_versions a_results b_results one two = (
  same one.0 two.0,
  (same one.1.0 two.1.0, (same one.1.1.0 two.1.1.0, same one.1.1.1 two.1.1.1)),
)

pub place_unique : (s : State) (p : ℕ) (log newest : List ℕ) (versions : List Version) (a b : Stepped)
    (a_newest b_newest : List ℕ) (a_versions b_versions : List Version)
    → PlaceMet s p log newest versions a a_newest a_versions → PlaceMet s p log newest versions b b_newest b_versions
    → (a ≡ b) × ((a_newest ≡ b_newest) × (a_versions ≡ b_versions))
place_unique s p log newest versions a b a_newest b_newest a_versions b_versions one two =
    (same one.0 two.0, (same one.1.0 two.1.0, same one.1.1 two.1.1))

pub advance_unique : (s : State) (w : ℕ) (log records newest : List ℕ) (versions : List Version) (results : List ℕ)
    (a b : Stepped) (a_versions b_versions : List Version) (a_results b_results : List ℕ)
    → AdvanceMet s w log records newest versions results a a_versions a_results
    → AdvanceMet s w log records newest versions results b b_versions b_results
    → (a ≡ b) × ((a_versions ≡ b_versions) × (a_results ≡ b_results))
advance_unique s w log records newest versions results a b a_versions b_versions a_results b_results one two =
    (same one.0 two.0, (same one.1.0 two.1.0, same one.1.1 two.1.1))

pub seal_unique : (s : State) (records newest : List ℕ) (versions : List Version) (a b : Stepped)
    (a_records b_records a_newest b_newest : List ℕ) (a_versions b_versions : List Version)
    → SealMet s records newest versions a a_records a_newest a_versions
    → SealMet s records newest versions b b_records b_newest b_versions
    → (a ≡ b) × ((a_records ≡ b_records) × ((a_newest ≡ b_newest) × (a_versions ≡ b_versions)))
seal_unique s records newest versions a b a_records b_records a_newest b_newest a_versions b_versions one two = (
  same one.0 two.0,
  (same one.1.0 two.1.0, (same one.1.1.0 two.1.1.0, same one.1.1.1 two.1.1.1)),
)
