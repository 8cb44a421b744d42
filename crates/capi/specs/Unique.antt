-- Each contract determines its call's whole result: two results, with what each lent array holds at exit, that satisfy
-- it are equal, each to each.
use Rattle.std.specs.Prelude.{ℕ, List, ◌≡◌}
use Rattle.terms.specs.Refusals.{verdict_number, verdict_place}
use Rattle.terms.specs.Unique.{same}
use Rattle.packed.specs.Unpacking.{unpack_of}
use Rattle.capi.specs.LawsRunning.{ReturnedMet}
use Rattle.capi.specs.Running.{ran_of}

-- what the contract of `uxoladun_check` says
abbrev pub CheckMet : ℕ → List ℕ → ℕ → ℕ → Type 0
CheckMet records bytes r place =
    (r ≡ verdict_number (unpack_of records bytes).verdict) × (place ≡ verdict_place (unpack_of records bytes).verdict)

pub check_unique : (records : ℕ) (bytes : List ℕ) (a b a_place b_place : ℕ) → CheckMet records bytes a a_place
    → CheckMet records bytes b b_place → (a ≡ b) × (a_place ≡ b_place)
check_unique records bytes a b a_place b_place one two = (same one.0 two.0, same one.1 two.1)

pub run_unique : (p w first : ℕ) (log steps records results outcomes counts : List ℕ) (a b : ℕ)
    (a_records b_records a_results b_results a_outcomes b_outcomes a_counts b_counts : List ℕ)
    → ReturnedMet (ran_of p w first log steps records results outcomes counts) a a_records a_results a_outcomes a_counts
    → ReturnedMet (ran_of p w first log steps records results outcomes counts) b b_records b_results b_outcomes b_counts
    → (a ≡ b)
    × ((a_records ≡ b_records)
    × ((a_results ≡ b_results) × ((a_outcomes ≡ b_outcomes) × (a_counts ≡ b_counts))))
run_unique p w first log steps records results outcomes counts a b a_records b_records a_results b_results a_outcomes
    b_outcomes a_counts b_counts one two = (
      same one.0 two.0,
      (
        same one.1.0 two.1.0,
        (
          same one.1.1.0 two.1.1.0,
          (same one.1.1.1.0 two.1.1.1.0, same one.1.1.1.1 two.1.1.1.1),
        ),
      ),
    )
