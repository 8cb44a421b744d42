-- The impostors that document 01 names. Each is a result of a shape, and the theorem says that no result of that shape
-- satisfies the contract of the call at a named moment of the listing.
use Rattle.std.specs.Prelude.{ℕ, Bool, true, false, List, ◌≡◌, Err}
use Rattle.std.proofs.Math.Path.{refl}
use Rattle.std.proofs.Common.{sym, ap, ◌∙◌, arith}
use Rattle.std.proofs.Math.ListN.{get_or}
use Rattle.terms.specs.declared.refusal.Place.{Place}
use Rattle.terms.specs.declared.refusal.Refusal.{Refusal}
use Rattle.versions.specs.Table.{entry_of}
use Rattle.versions.specs.declared.Version.{Version}
use Rattle.engine.specs.Make.{make_of}
use Rattle.engine.specs.Range.{placed_by, row_at, worker_at}
use Rattle.engine.specs.Rows.{is_unprocessed}
use Rattle.engine.specs.States.{unopened}
use Rattle.engine.specs.declared.Answer.TheVariants.{Accepted, Refused}
use Rattle.engine.specs.declared.Made.{Made}
use Rattle.engine.specs.declared.Phase.{Phase}
use Rattle.engine.specs.declared.Phase.TheVariants.{Idle, Reading, Decided}
use Rattle.engine.specs.declared.State.{State}
use Rattle.engine.specs.declared.Stepped.{Stepped}
use Rattle.instances.specs.Listing.{made, opened, after}
use Rattle.instances.specs.Differences.{true_false, false_true, accepted_refused, accepted_waits, passed_fails}
use Rattle.instances.specs.Differences.{unlike}
use Rattle.instances.specs.Moments.{planned, deciding, filling, waiting, completing, finished}
use Rattle.instances.specs.Moments.{OpenAt, PlaceAt, ClaimAt, AdvanceAt, SealAt}

-- ---- one that refuses always: whatever the refusal, the place and the state and tables that it hands back
module _ (refusal : Refusal) (at : Place) (s : State) where
  abbrev refuses : Stepped
  refuses = record { answer = Refused refusal at; state = s }

  -- the answer of the definition there is Accepted
  not_refused : {x : Stepped} → x.answer ≡ Accepted → refuses ≡ x → ⊥
  not_refused accepted same = accepted_refused (sym (ap (λ r. r.answer) same ∙ accepted))

  pub make_refusing : record { verdict = Err (record { refusal = refusal; place = at }); state = s } ≡ make_of 4 2 2 1
      → ⊥
  unfolding after
  make_refusing same = passed_fails (sym (ap (λ r. r.verdict) same))

  pub open_refusing : (newest : List ℕ) (versions : List Version) (results : List ℕ)
      → OpenAt made refuses newest versions results → ⊥
  unfolding after
  open_refusing newest versions results met = not_refused refl met.0

  pub place_refusing : (newest : List ℕ) (versions : List Version) → PlaceAt opened 0 refuses newest versions → ⊥
  unfolding after
  place_refusing newest versions met = not_refused refl met.0

  pub claim_refusing : ClaimAt planned 0 3 refuses → ⊥
  unfolding after
  claim_refusing met = not_refused refl met

  pub advance_refusing : (versions : List Version) (results : List ℕ)
      → AdvanceAt deciding 0 refuses versions results → ⊥
  unfolding after
  advance_refusing versions results met = not_refused refl met.0

  pub seal_refusing : (records newest : List ℕ) (versions : List Version)
      → SealAt finished refuses records newest versions → ⊥
  unfolding after
  seal_refusing records newest versions met = not_refused refl met.0

-- ---- one that answers the same always: two results with one answer, whatever else they hand back, at two moments of
-- which the definitions accept one and refuse the other, or let it wait
module _ (r q : Stepped) (alike : r.answer ≡ q.answer) where
  -- the answers of the definitions differ
  apart : {x y : Stepped} → (x.answer ≡ y.answer → ⊥) → r ≡ x → q ≡ y → ⊥
  apart differ first second =
      differ (sym (ap (λ z. z.answer) first) ∙ alike ∙ ap (λ z. z.answer) second)

  -- the second opening is refused: a batch is open
  pub open_same : (newest other_newest : List ℕ) (versions other_versions : List Version)
      (results other_results : List ℕ)
      → OpenAt made r newest versions results → OpenAt opened q other_newest other_versions other_results → ⊥
  unfolding after
  open_same newest other_newest versions other_versions results other_results first second =
      apart accepted_refused first.0 second.0

  -- the second place is refused: planning is over
  pub place_same : (newest other_newest : List ℕ) (versions other_versions : List Version)
      → PlaceAt opened 0 r newest versions → PlaceAt planned 0 q other_newest other_versions → ⊥
  unfolding after
  place_same newest other_newest versions other_versions first second =
      apart accepted_refused first.0 second.0

  -- the second claim is refused: planning is not over
  pub claim_same : ClaimAt planned 0 3 r → ClaimAt opened 0 3 q → ⊥
  unfolding after
  claim_same first second = apart accepted_refused first second

  -- the second advance waits
  pub advance_same : (versions other_versions : List Version) (results other_results : List ℕ)
      → AdvanceAt deciding 0 r versions results → AdvanceAt waiting 1 q other_versions other_results → ⊥
  unfolding after
  advance_same versions other_versions results other_results first second =
      apart accepted_waits first.0 second.0

  -- the second seal is refused: nothing is Complete
  pub seal_same : (records other_records newest other_newest : List ℕ) (versions other_versions : List Version)
      → SealAt finished r records newest versions → SealAt opened q other_records other_newest other_versions → ⊥
  unfolding after
  seal_same records other_records newest other_newest versions other_versions first second =
      apart accepted_refused first.0 second.0

-- the second making is refused: a store has at least one record
pub make_same : (r q : Made) → r.verdict ≡ q.verdict → r ≡ make_of 4 2 2 1 → q ≡ make_of 0 2 2 1 → ⊥
unfolding after
make_same r q alike first second =
    passed_fails (sym (ap (λ z. z.verdict) first) ∙ alike ∙ ap (λ z. z.verdict) second)

-- a worker has decided
abbrev decided : Phase → Bool
decided Idle = false
decided (Reading values) = false
decided (Decided outcome values carries fills) = true

-- ---- one that does nothing: whatever it answers, the state that it hands back, or a table at exit, is as it was
module _ (r : Stepped) where
  -- what can be seen of the state differs
  moved : {s : State} {x : Stepped} {B : Type 0} (see : State → B) → r.state ≡ s → (see s ≡ see x.state → ⊥)
      → r ≡ x → ⊥
  moved see stays differ same = differ (sym (ap see stays) ∙ ap (λ z. see z.state) same)

  -- a batch of four is open after it
  pub open_idle : (newest : List ℕ) (versions : List Version) (results : List ℕ) → r.state ≡ made.state
      → OpenAt made r newest versions results → ⊥
  unfolding after
  open_idle newest versions results stays met = moved (λ s. s.size) stays (λ same. omega arith) met.0

  -- the partition has placed one more: at the first step, and at the second
  pub place_idle : (newest : List ℕ) (versions : List Version) → r.state ≡ opened.state
      → PlaceAt opened 0 r newest versions → ⊥
  unfolding after
  place_idle newest versions stays met = moved (λ s. placed_by s 0) stays (λ same. omega arith) met.0

  pub place_idle_later : (newest : List ℕ) (versions : List Version) → r.state ≡ (after 1).state
      → PlaceAt (after 1) 0 r newest versions → ⊥
  unfolding after
  place_idle_later newest versions stays met = moved (λ s. placed_by s 0) stays (λ same. omega arith) met.0

  -- the transaction is Executing
  pub claim_idle : r.state ≡ planned.state → ClaimAt planned 0 3 r → ⊥
  unfolding after
  claim_idle stays met = moved (λ s. is_unprocessed (row_at s 3)) stays true_false met

  -- the worker has decided
  pub advance_idle : (versions : List Version) (results : List ℕ) → r.state ≡ deciding.state
      → AdvanceAt deciding 0 r versions results → ⊥
  unfolding after
  advance_idle versions results stays met =
      moved (λ s. decided (worker_at s 0).phase) stays false_true met.0

  -- no batch is open after it
  pub seal_idle : (records newest : List ℕ) (versions : List Version) → r.state ≡ finished.state
      → SealAt finished r records newest versions → ⊥
  unfolding after
  seal_idle records newest versions stays met = moved (λ s. s.size) stays (λ same. omega arith) met.0

  -- the tables: an opening empties all three,
  pub open_leaves_newest : (versions : List Version) (results : List ℕ)
      → OpenAt made r made.newest versions results → ⊥
  unfolding after
  open_leaves_newest versions results met = unlike (λ t. get_or t 0 0) (λ same. omega arith) met.1.0

  pub open_leaves_versions : (newest results : List ℕ) → OpenAt made r newest made.versions results → ⊥
  unfolding after
  open_leaves_versions newest results met = unlike (λ t. (entry_of t 0).produced) true_false met.1.1.0

  pub open_leaves_results : (newest : List ℕ) (versions : List Version)
      → OpenAt made r newest versions made.results → ⊥
  unfolding after
  open_leaves_results newest versions met = unlike (λ t. get_or t 0 0) (λ same. omega arith) met.1.1.1

  -- a place with a write in its partition changes both of its tables,
  pub place_leaves_newest : (versions : List Version) → PlaceAt opened 0 r opened.newest versions → ⊥
  unfolding after
  place_leaves_newest versions met = unlike (λ t. get_or t 0 0) (λ same. omega arith) met.1.0

  pub place_leaves_versions : (newest : List ℕ) → PlaceAt opened 0 r newest opened.versions → ⊥
  unfolding after
  place_leaves_versions newest met = unlike (λ t. (entry_of t 0).begin) (λ same. omega arith) met.1.1

  -- a fill marks its entry, and the last one writes the results,
  pub advance_leaves_versions : (results : List ℕ) → AdvanceAt filling 0 r filling.versions results → ⊥
  unfolding after
  advance_leaves_versions results met = unlike (λ t. (entry_of t 12).produced) false_true met.1.0

  pub advance_leaves_results : (versions : List Version) → AdvanceAt completing 0 r versions completing.results → ⊥
  unfolding after
  advance_leaves_results versions met = unlike (λ t. get_or t 0 0) (λ same. omega arith) met.1.1

  -- and a seal changes the records and empties the newest-version and the version table
  pub seal_leaves_records : (newest : List ℕ) (versions : List Version)
      → SealAt finished r finished.records newest versions → ⊥
  unfolding after
  seal_leaves_records newest versions met = unlike (λ t. get_or t 0 0) (λ same. omega arith) met.1.0

  pub seal_leaves_newest : (records : List ℕ) (versions : List Version)
      → SealAt finished r records finished.newest versions → ⊥
  unfolding after
  seal_leaves_newest records versions met = unlike (λ t. get_or t 0 0) (λ same. omega arith) met.1.1.0

  pub seal_leaves_versions : (records newest : List ℕ) → SealAt finished r records newest finished.versions → ⊥
  unfolding after
  seal_leaves_versions records newest met = unlike (λ t. (entry_of t 0).produced) true_false met.1.1.1

-- a making that hands back the all-zero store
pub make_idle : (r : Made) → r.state ≡ unopened 0 0 0 0 → r ≡ make_of 4 2 2 1 → ⊥
unfolding after
make_idle r stays met =
    unlike (λ s. s.records) (λ same. omega arith) (sym stays ∙ ap (λ z. z.state) met)
