-- Each contract determines its call's whole result: two results, with what each lent table holds at exit, that satisfy
-- it are equal, each to each.
use Rattle.std.specs.Prelude.{ℕ, List, ◌≡◌}
use Rattle.terms.specs.Unique.{same}
use Rattle.versions.specs.declared.Version.{Version}
use Rattle.engine.specs.declared.State.{State}
use Rattle.desk.specs.Counts.{begun}
use Rattle.desk.specs.Offer.{Session, session_of, run_of}
use Rattle.desk.specs.Lines.{line_of}
use Rattle.desk.specs.declared.Line.{Line}
use Rattle.desk.specs.declared.Tally.{Tally}

-- what the contract of `offer_all` says: result and tables at exit are the parts of a session
abbrev pub SessionMet : Session → Tally → List ℕ → List ℕ → List Version → List ℕ → Type 0
SessionMet s r records newest versions results =
    (r ≡ s.tally)
    × ((records ≡ s.records) × ((newest ≡ s.newest) × ((versions ≡ s.versions) × (results ≡ s.results))))

pub begin_unique : (state : State) (a b : Tally) → a ≡ begun state → b ≡ begun state → a ≡ b
begin_unique state a b = same

met_unique : (s : Session) (a b : Tally) (a_records b_records a_newest b_newest : List ℕ)
    (a_versions b_versions : List Version) (a_results b_results : List ℕ)
    → SessionMet s a a_records a_newest a_versions a_results → SessionMet s b b_records b_newest b_versions b_results
    → (a ≡ b)
    × ((a_records ≡ b_records)
    × ((a_newest ≡ b_newest) × ((a_versions ≡ b_versions) × (a_results ≡ b_results))))
met_unique s a b a_records b_records a_newest b_newest a_versions b_versions a_results b_results one two = (
  same one.0 two.0,
  (
    same one.1.0 two.1.0,
    (
      same one.1.1.0 two.1.1.0,
      (same one.1.1.1.0 two.1.1.1.0, same one.1.1.1.1 two.1.1.1.1),
    ),
  ),
)

pub offer_all_unique : (piece : List ℕ) (bytes : ℕ) (log : List ℕ) (tally : Tally) (records newest : List ℕ)
    (versions : List Version) (results : List ℕ) (a b : Tally) (a_records b_records a_newest b_newest : List ℕ)
    (a_versions b_versions : List Version) (a_results b_results : List ℕ)
    → SessionMet (run_of piece bytes log (session_of tally records newest versions results)) a a_records a_newest
    a_versions a_results
    → SessionMet (run_of piece bytes log (session_of tally records newest versions results)) b b_records b_newest
    b_versions b_results
    → (a ≡ b)
    × ((a_records ≡ b_records)
    × ((a_newest ≡ b_newest) × ((a_versions ≡ b_versions) × (a_results ≡ b_results))))
offer_all_unique piece bytes log tally records newest versions results =
    met_unique (run_of piece bytes log (session_of tally records newest versions results))

-- the functions that make a line
pub line_unique : (text : List ℕ) (a b : Line) → a ≡ line_of text → b ≡ line_of text → a ≡ b
line_unique text a b = same
