-- Wrong answers of `decide`, at small transactions. Beside each stands the edit that gives it; tools/try-edits tries
-- them again.
use Rattle.std.specs.Prelude.{ℕ, Bool, true, false, cond, List, [], ◌∷◌, ◌++◌, map, refl}
use Rattle.packed.specs.declared.Action.TheVariants.{Set, Add, Take, Copy, Move, Floor}
use Rattle.packed.specs.declared.Transaction.{Transaction}
use Rattle.counters.specs.Deciding.{decide_of, worked_of}
use Rattle.counters.specs.Listing.{transaction}
use Rattle.counters.specs.Working.{place_in, contents_in, written}
use Rattle.counters.specs.declared.Decision.{Decision}
use Rattle.counters.specs.declared.Outcome.{Outcome}
use Rattle.counters.specs.declared.Outcome.TheVariants.{Committed, Aborted}
use Rattle.excluded.specs.Packed.{counting}
use Rattle.excluded.specs.Rows.{Row, row, AllExclude, all_exclude}

-- ---- the parts of a decision
abbrev outcome_number : Outcome → ℕ
outcome_number Committed = 1
outcome_number Aborted = 2

abbrev pub decision_parts : Decision → List ℕ
decision_parts d = outcome_number d.outcome ∷ d.contents ++ map (λ b. cond b 1 0) d.carried

-- ---- what the rows speak of
abbrev decision : Outcome → List ℕ → List Bool → Decision
decision outcome contents carried = record { outcome = outcome; contents = contents; carried = carried }

abbrev four : {A : Type 0} → A → A → A → A → List A
four a b c d = a ∷ b ∷ c ∷ d ∷ []

abbrev none : List Bool
none = four false false false false

abbrev first_carried : List Bool
first_carried = four true false false false

-- reads and writes record 0, and takes so much of it
abbrev taking : ℕ → Transaction
taking c = transaction (0 ∷ []) (0 ∷ []) (Take 0 c ∷ [])

-- ---- the rows
abbrev pub rows : List Row
rows =
    -- a take of all that a record holds aborts (take_by_at_most)
    row decision_parts (decide_of (taking 5) (four 5 0 0 0)) (decision Aborted (four 0 0 0 0) first_carried)
    -- an aborted transaction keeps a write (abort_keeps_writes)
    ∷ row decision_parts (decide_of (taking 6) (four 5 0 0 0)) (decision Aborted (four 0 0 0 0) none)
    -- a take of too much goes on (abort_goes_on, in one_action)
    ∷ row decision_parts (decide_of (taking 6) (four 5 0 0 0)) (decision Committed (four 0 0 0 0) first_carried)
    -- a floor that a record just holds aborts (floor_by_at_most, in one_action)
    ∷ row decision_parts
    (decide_of (transaction (0 ∷ []) [] (Floor 0 5 ∷ [])) (four 5 0 0 0))
    (decision Aborted (four 0 0 0 0) none)
    -- a copy of the target (copy_of_the_wrong_field, in one_action)
    ∷ row decision_parts
    (decide_of (transaction (0 ∷ 1 ∷ []) (0 ∷ []) (Copy 0 1 ∷ [])) (four 10 20 0 0))
    (decision Committed (four 10 0 0 0) none)
    -- a move that leaves its source (move_forgets_its_source, in one_action)
    ∷ row decision_parts
    (decide_of (transaction (0 ∷ 1 ∷ []) (0 ∷ 1 ∷ []) (Move 0 1 ∷ [])) (four 10 20 0 0))
    (decision Committed (four 30 20 0 0) none)
    -- an action past the count (action_past_the_count, in all_actions)
    ∷ row decision_parts
    (decide_of (counting 1 (transaction [] (0 ∷ []) (Set 0 7 ∷ Set 0 8 ∷ []))) (four 0 0 0 0))
    (decision Committed (four 8 0 0 0) none)
    -- a write that a later action does not see (write_is_not_seen, in write)
    ∷ row decision_parts
    (decide_of (transaction (0 ∷ 1 ∷ []) (1 ∷ []) (Set 1 7 ∷ Add 1 5 ∷ [])) (four 10 20 0 0))
    (decision Committed (four 25 0 0 0) none)
    ∷ []

pub counters_exclude : AllExclude rows
unfolding decide_of worked_of place_in contents_in written
counters_exclude = all_exclude rows refl
