-- What a transaction decides: "Deciding runs the actions on the values read, choosing outcome, new contents (0 for a
-- carried write until its carry) and carries." It is defined for every meaning, proper or not, and for all values.
use Rattle.std.specs.Prelude.{ℕ, Bool, false, not, ◌&&◌, List, [], ◌∷◌, nat_lt, slice_index_or}
use Rattle.packed.specs.declared.Transaction.{Transaction}
use Rattle.counters.specs.Actions.{After, goes_on, aborts, act_all, actions_of}
use Rattle.counters.specs.Working.{memory_of, start_of}
use Rattle.counters.specs.declared.Decision.{Decision}
use Rattle.counters.specs.declared.Outcome.TheVariants.{Committed, Aborted}
use Rattle.counters.specs.declared.working.WorkingCopy.{WorkingCopy}

-- the actions on the values read
unfoldable pub worked_of : Transaction → List ℕ → After WorkingCopy
worked_of t values = act_all (memory_of t) (actions_of t) (goes_on (start_of values))

-- "A declared write that no action reached"
abbrev pub unreached : ℕ → List Bool → List Bool
unreached writecount reached =
    (nat_lt 0 writecount && not (slice_index_or reached 0 false))
    ∷ (nat_lt 1 writecount && not (slice_index_or reached 1 false))
    ∷ (nat_lt 2 writecount && not (slice_index_or reached 2 false))
    ∷ (nat_lt 3 writecount && not (slice_index_or reached 3 false))
    ∷ []

-- ".. and every declared write of an aborted transaction, is carried"
abbrev pub decision_of : ℕ → After WorkingCopy → Decision
decision_of writecount (goes_on copy) =
    record { outcome = Committed; contents = copy.contents; carried = unreached writecount copy.reached }
decision_of writecount aborts =
    record {
      outcome = Aborted;
      contents = 0 ∷ 0 ∷ 0 ∷ 0 ∷ [];
      carried = unreached writecount (false ∷ false ∷ false ∷ false ∷ []);
    }

unfoldable pub decide_of : Transaction → List ℕ → Decision
decide_of t values = decision_of t.writecount (worked_of t values)
