-- The verdict of an entry in the code's order: 4, then 5 and 6 in the sets, then what is undeclared, and 5 in the
-- actions only where something is.
use Rattle.std.specs.Prelude.{ℕ, Bool, true, ◌≡◌, refl, List, Ok, Some, None}
use Rattle.std.proofs.Math.Bool.{false}
use Rattle.std.proofs.Common.{◌∙◌}
use Rattle.terms.specs.Refusals.{refused}
use Rattle.terms.specs.declared.refusal.Refusal.{Refusal}
use Rattle.terms.specs.declared.refusal.Refusal.TheVariants.{
  Malformed,
  NoSuchRecord,
  NotAscending,
  UndeclaredRead,
  UndeclaredWrite,
}
use Rattle.packed.specs.Checks.{entry_verdict}
use Rattle.packed.specs.Form.{malformed}
use Rattle.packed.specs.LawsMeaning.{first_undeclared}
use Rattle.packed.specs.LawsListed.{declared_below}
use Rattle.packed.specs.LawsSets.{sets_proper, in_sets, descends_somewhere, by_actions}
use Rattle.packed.specs.Records.{some_action, uses_too_large, no_such_record, undeclared_read, undeclared_write}

pub none_undeclared : (read written : Bool) → None ≡ first_undeclared read written
    → (read ≡ false) × (written ≡ false)
none_undeclared true written none = cc
none_undeclared false true none = cc
none_undeclared false false none = (refl, refl)

pub malformed_lem : (n transaction : ℕ) (b : List ℕ) → malformed b ≡ true
    → refused Malformed transaction ≡ entry_verdict n transaction b
unfolding entry_verdict
malformed_lem n transaction b told = rw told

module _ (n transaction : ℕ) (b : List ℕ) (formed : malformed b ≡ false) where
  pub no_such_record_lem : no_such_record n b ≡ true → refused NoSuchRecord transaction ≡ entry_verdict n transaction b
  unfolding entry_verdict
  no_such_record_lem large = rw (formed, large)

  pub not_ascending_lem : sets_proper n b ≡ false → no_such_record n b ≡ false
      → refused NotAscending transaction ≡ entry_verdict n transaction b
  unfolding entry_verdict
  not_ascending_lem improper exist = rw (formed, exist, descends_somewhere n b improper exist)

  module _ (proper : sets_proper n b ≡ true) where
    pub accepted : undeclared_read b ≡ false → undeclared_write b ≡ false → Ok tt ≡ entry_verdict n transaction b
    unfolding entry_verdict
    accepted read written =
        let sets = in_sets n b proper in
        let exist : no_such_record n b ≡ false = by_actions n b sets ∙ declared_below n b sets read written in
        rw (formed, exist, sets.ascend, read, written)

    pub too_large : some_action (uses_too_large n) b ≡ true
        → refused NoSuchRecord transaction ≡ entry_verdict n transaction b
    too_large large = no_such_record_lem (by_actions n b (in_sets n b proper) ∙ large)

    pub undeclared_read_lem : some_action (uses_too_large n) b ≡ false → undeclared_read b ≡ true
        → refused UndeclaredRead transaction ≡ entry_verdict n transaction b
    unfolding entry_verdict
    undeclared_read_lem small read =
        let sets = in_sets n b proper in
        let exist : no_such_record n b ≡ false = by_actions n b sets ∙ small in
        rw (formed, exist, sets.ascend, read)

    pub undeclared_write_lem : some_action (uses_too_large n) b ≡ false → undeclared_read b ≡ false
        → undeclared_write b ≡ true → refused UndeclaredWrite transaction ≡ entry_verdict n transaction b
    unfolding entry_verdict
    undeclared_write_lem small read written =
        let sets = in_sets n b proper in
        let exist : no_such_record n b ≡ false = by_actions n b sets ∙ small in
        rw (formed, exist, sets.ascend, read, written)

    pub undeclared_lem : (refusal : Refusal) → some_action (uses_too_large n) b ≡ false
        → Some refusal ≡ first_undeclared (undeclared_read b) (undeclared_write b)
        → refused refusal transaction ≡ entry_verdict n transaction b
    undeclared_lem refusal small told = go (undeclared_read b) (undeclared_write b) refl refl told
      where
        go : (read written : Bool) → undeclared_read b ≡ read → undeclared_write b ≡ written
            → Some refusal ≡ first_undeclared read written
            → refused refusal transaction ≡ entry_verdict n transaction b
        go true written reads writes told =
            let same : refusal ≡ UndeclaredRead = cc in
            rw same (undeclared_read_lem small reads)
        go false true reads writes told =
            let same : refusal ≡ UndeclaredWrite = cc in
            rw same (undeclared_write_lem small reads writes)
        go false false reads writes told = cc
