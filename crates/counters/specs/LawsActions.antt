-- Laws of actions: that an abort is the end over any memory, and the code's loop over a transaction's rows, which goes
-- over its working copy.
use Rattle.std.specs.Prelude.{◌≡◌, ℕ, zero, suc, ◌+◌, ◌<◌, Result, Ok, Err, IsErr, min}
use Rattle.std.specs.Prelude.{List, [], ◌∷◌, length, map, take, drop, get_or, slice_index_or}
use Rattle.std.proofs.Math.Path.{refl, ap}
use Rattle.std.proofs.Common.{sym, ◌∙◌}
use native.Mathlib.Numerals.{unary_clauses}
use Rattle.std.proofs.lemmas.List.{drop_more}
use Rattle.packed.specs.Decode.{row}
use Rattle.packed.specs.declared.Action.{Action}
use Rattle.packed.specs.declared.Action.TheVariants.{Nothing}
use Rattle.packed.specs.declared.ActionRow.{ActionRow}
use Rattle.packed.specs.declared.Transaction.{Transaction}
use Rattle.counters.specs.Actions.{Memory, After, goes_on, aborts, act, then_act, act_all, actions_of}
use Rattle.counters.specs.Working.{memory_of}
use Rattle.counters.specs.declared.deciding.Aborted.{Aborted}
use Rattle.counters.specs.declared.working.WorkingCopy.{WorkingCopy}

-- the action in one of the places
abbrev action_at : List ActionRow → ℕ → Action
action_at actions k = (slice_index_or actions k (row Nothing)).action

take_none : {A : Type 0} (count : ℕ) → take {A = A} count [] ≡ []
take_none zero = refl
take_none (suc count) = refl

-- what code answers after some actions, with the copy that it has then, and what it means
abbrev pub attempted : Result (Unit {0}) Aborted → WorkingCopy → After WorkingCopy
attempted (Ok done) copy = goes_on copy
attempted (Err aborted) copy = aborts

pub err_aborts : (answer : Result (Unit {0}) Aborted) (copy : WorkingCopy) → IsErr answer
    → attempted answer copy ≡ aborts
err_aborts (Ok done) copy err = cc
err_aborts (Err aborted) copy err = refl

module _ {M : Type 0} (memory : Memory M) where
  -- nothing is done after an abort
  pub all_aborted : (actions : List Action) → act_all memory actions aborts ≡ aborts
  all_aborted [] = refl
  all_aborted (action ∷ actions) = all_aborted actions

-- the actions of rows
abbrev pub actions_in : List ActionRow → List Action
actions_in rows = map (λ (x : ActionRow). x.action) rows

-- the actions of so many places: where there is no row, nothing is done
abbrev padded : ℕ → List ActionRow → List Action
padded zero rows = []
padded (suc places) [] = Nothing ∷ padded places []
padded (suc places) (x ∷ rows) = x.action ∷ padded places rows

four_padded : (rows : List ActionRow)
    → padded 4 rows ≡ action_at rows 0 ∷ action_at rows 1 ∷ action_at rows 2 ∷ action_at rows 3 ∷ []
four_padded [] = refl
four_padded (a ∷ []) = refl
four_padded (a ∷ b ∷ []) = refl
four_padded (a ∷ b ∷ c ∷ []) = refl
four_padded (a ∷ b ∷ c ∷ d ∷ rows) = refl

module _ (t : Transaction) where
  nothing_done : (after : After WorkingCopy) → then_act (memory_of t) Nothing after ≡ after
  nothing_done (goes_on copy) = refl
  nothing_done aborts = refl

  padded_same : (places count : ℕ) (rows : List ActionRow) (after : After WorkingCopy)
      → act_all (memory_of t) (actions_in (take (min count places) rows)) after
      ≡ act_all (memory_of t) (take count (padded places rows)) after
  padded_same zero count rows after = simp (unary_clauses, take_none {A = Action} count)
  padded_same (suc places) zero rows after = simp unary_clauses
  padded_same (suc places) (suc count) [] after =
      rw (take_none {A = ActionRow} (min (suc count) (suc places)), nothing_done after)
      (rw (take_none {A = ActionRow} (min count places)) at (padded_same places count [] after))
  padded_same (suc places) (suc count) (x ∷ rows) after =
      simp unary_clauses (padded_same places count rows (then_act (memory_of t) x.action after))

  -- a transaction's actions do what those of its rows within the count do
  pub within_same : (copy : WorkingCopy)
      → act_all (memory_of t) (actions_in (take (min t.actioncount 4) t.actions)) (goes_on copy)
      ≡ act_all (memory_of t) (actions_of t) (goes_on copy)
  within_same copy =
      padded_same 4 t.actioncount t.actions (goes_on copy)
      ∙ ap
      (λ (all : List Action). act_all (memory_of t) (take t.actioncount all) (goes_on copy))
      (four_padded t.actions)

-- the code's loop over the rows: what is left of them comes to what all come to
next_row : (t : Transaction) (rows : List ActionRow) (i : ℕ) (none : ActionRow) (copy : WorkingCopy) → i < length rows
    → act_all (memory_of t) (actions_in (drop (i + 1) rows)) (act (memory_of t) (get_or rows i none).action copy)
    ≡ act_all (memory_of t) (actions_in (drop i rows)) (goes_on copy)
next_row t rows i none copy within =
    ap
    (λ (left : List ActionRow). act_all (memory_of t) (actions_in left) (goes_on copy))
    (sym (drop_more rows i none within))

-- after one that aborts all abort
pub stops : (t : Transaction) (rows : List ActionRow) (i : ℕ) (none : ActionRow) (copy : WorkingCopy)
    → i < length rows → act (memory_of t) (get_or rows i none).action copy ≡ aborts
    → aborts ≡ act_all (memory_of t) (actions_in (drop i rows)) (goes_on copy)
stops t rows i none copy within does =
    sym (all_aborted (memory_of t) (actions_in (drop (i + 1) rows)))
    ∙ ap (act_all (memory_of t) (actions_in (drop (i + 1) rows))) (sym does)
    ∙ next_row t rows i none copy within
