-- Wrong answers of counting and offering steps, at moments of the listing.
use Rattle.std.specs.Prelude.{ℕ, Bool, true, false, List, [], ◌∷◌, ◌++◌, refl}
use Rattle.engine.specs.Running.{Engine}
use Rattle.engine.specs.declared.State.{State}
use Rattle.desk.specs.Counts.{begun}
use Rattle.desk.specs.Offer.{Session, session_of, offer_of, run_of}
use Rattle.desk.specs.declared.Tally.{Tally}
use Rattle.instances.specs.Listing.{log, made, opened, after}
use Rattle.instances.specs.Moments.{waiting}
use Rattle.excluded.specs.Parts.{row_at, complete}
use Rattle.excluded.specs.Rows.{Row, row, AllExclude, all_exclude, mark}

-- what a tally tells: the counts, whether a seal was accepted, and what each partition has placed
abbrev pub tally : Tally → List ℕ
tally x = x.offered ∷ x.refused ∷ x.waits ∷ mark x.sealed ++ x.state.placed

abbrev session : Session → List ℕ
session s = tally s.tally

-- a session begun at a moment, and after the steps of a run of bytes
abbrev begun_at : Engine → Session
begun_at c = session_of (begun c.state) c.records c.newest c.versions c.results

abbrev ran_at : Engine → List ℕ → ℕ → Session
ran_at c bytes count = run_of bytes count log (begun_at c)

-- a tally from its parts
abbrev pub tally_of : State → ℕ → ℕ → ℕ → Bool → Tally
tally_of s offered refused waits sealed =
    record { state = s; offered = offered; refused = refused; waits = waits; sealed = sealed }

-- the same session with another tally
abbrev with : Session → Tally → Session
with s tally = session_of tally s.records s.newest s.versions s.results

-- a step: "kind 1 place, 2 claim, 3 advance, 4 seal; party; 16-bit transaction"
abbrev pub step : ℕ → ℕ → ℕ → List ℕ
step kind party transaction = kind ∷ party ∷ transaction ∷ 0 ∷ []

-- rows of a session in which a step was refused and the next one waited
abbrev waited : Session → List Row
waited s =
    -- the wait counted as refused
    row session s (with s (tally_of s.tally.state 2 2 0 false))
    -- as the second wait (waits_counted_from_refused)
    ∷ row session s (with s (tally_of s.tally.state 2 1 2 false))
    ∷ []

abbrev pub rows : List Row
rows =
    -- begin: sealed from the first (begins_sealed); a step offered already (begins_with_a_step)
    row tally (begun made.state) (tally_of made.state 0 0 0 true)
    ∷ row tally (begun made.state) (tally_of made.state 1 0 0 false)
    -- offer_all: the seal of the whole piece, where none of its bytes is given (steps_of_the_whole_piece)
    ∷ row_at complete session (λ c. ran_at c (step 4 0 0) 0) (λ c. ran_at c (step 4 0 0) 4)
    -- a party read from the transaction's byte: partition 0 for 1 (party_from_the_transaction)
    ∷ row_at opened session (λ c. ran_at c (step 1 1 0) 4) (λ c. ran_at c (step 1 0 0) 4)
    -- a seal with a nonzero transaction accepted (seal_with_a_transaction)
    ∷ row_at complete session (λ c. ran_at c (step 4 0 1) 4) (λ c. ran_at c (step 4 0 0) 4)
    -- a step of another kind counted as a wait
    ∷ row_at opened session (λ c. ran_at c (step 5 0 0) 4) (λ c. with (begun_at c) (tally_of c.state 1 0 1 false))
    -- the second of two such steps not counted as refused (other_kind_counted_from_waits)
    ∷ row_at opened session
    (λ c. ran_at c (step 5 0 0 ++ step 5 0 0) 8)
    (λ c. with (begun_at c) (tally_of c.state 2 1 0 false))
    ∷ waited (ran_at waiting (step 5 0 0 ++ step 3 1 0) 8)

pub desk_exclude : AllExclude rows
unfolding after offer_of
desk_exclude = all_exclude rows refl
