-- The transactions of a log whose entries the opening accepts, each in turn.
use Rattle.std.specs.Prelude.{ℕ, zero, suc, ◌+◌, ◌/◌, ◌<◌, ◌≡◌, refl, List, map, leb, length, get_or, Ok, Err}
use Rattle.std.proofs.Common.{sym, ap, ◌∙◌, arith}
use Rattle.packed.specs.Checks.{verdict_of}
use Rattle.packed.specs.Decode.{decode}
use Rattle.packed.specs.LawsVerdict.{sound, unpacked_verdict}
use Rattle.packed.specs.Unpacking.{entry_of, unpack_at_of}
use Rattle.counters.specs.Declarations.{Declared, AllDeclared}
use Rattle.counters.specs.LawsDeclarations.{proper_declared}
use Rattle.counters.specs.declared.Outcome.{Outcome}
use Rattle.engine.specs.Answers.{and_then}
use Rattle.engine.specs.Open.{each_in_turn}
use Rattle.order.specs.ListRun as listed
use Rattle.order.specs.TableLaws.{clash}
use Rattle.ordered.specs.Counters.{ruled}
use Rattle.ordered.specs.Promise.{meanings_from}
use Rattle.terms.specs.Refusals.{Verdict}

pub meanings_length : (n : ℕ) (log : List ℕ) (count index : ℕ) → length (meanings_from n log count index) ≡ count
meanings_length n log zero index = refl
meanings_length n log (suc count) index = ap suc (meanings_length n log count (suc index))

-- each in turn was accepted
pub both_passed : (first later : Verdict) → and_then first later ≡ Ok tt → (first ≡ Ok tt) × (later ≡ Ok tt)
both_passed (Ok _) later passed = (refl, passed)
both_passed (Err why) later passed = absurd (clash (cc))

pub turn_accepted : (n : ℕ) (log : List ℕ) (count index k : ℕ) → each_in_turn n log count index ≡ Ok tt → k < count
    → (unpack_at_of n log (index + k)).verdict ≡ Ok tt
turn_accepted n log zero index k passed below = absurd (omega (arith, below))
turn_accepted n log (suc count) index zero passed below =
    let same : index + 0 ≡ index = omega arith in
    rw same (both_passed (unpack_at_of n log index).verdict (each_in_turn n log count (suc index)) passed).0
turn_accepted n log (suc count) index (suc k) passed below =
    let same : index + suc k ≡ suc index + k = omega arith in
    rw same
    (turn_accepted n log count (suc index) k
    (both_passed (unpack_at_of n log index).verdict (each_in_turn n log count (suc index)) passed).1 (omega
    (arith, below)))

-- so its meaning declares what it uses
pub accepted_declared : (n : ℕ) (log : List ℕ) (index : ℕ) → (unpack_at_of n log index).verdict ≡ Ok tt
    → Declared n (unpack_at_of n log index).meaning
unfolding unpack_at_of
accepted_declared n log index accepted =
    let verdict = verdict_of n index (leb (length log / 88) index) (entry_of log index) in
    let is : verdict ≡ Ok tt = sym (unpacked_verdict verdict (decode (entry_of log index))) ∙ accepted in
    rw is
    (proper_declared n (entry_of log index)
    (sound n index (leb (length log / 88) index) (entry_of log index) is).entry_proper)

pub all_declared : (n : ℕ) (log : List ℕ) (count index : ℕ) → each_in_turn n log count index ≡ Ok tt
    → AllDeclared n (meanings_from n log count index)
all_declared n log zero index passed = tt
all_declared n log (suc count) index passed =
    let both = both_passed (unpack_at_of n log index).verdict (each_in_turn n log count (suc index)) passed in
    (accepted_declared n log index both.0, all_declared n log count (suc index) both.1)

-- the transaction of an index
pub meaning_at_lem : (n : ℕ) (log : List ℕ) (count index k : ℕ) (none : listed.Transaction ℕ Outcome) → k < count
    → get_or (map ruled (meanings_from n log count index)) k none ≡ ruled (unpack_at_of n log (index + k)).meaning
meaning_at_lem n log zero index k none below = absurd (omega (arith, below))
meaning_at_lem n log (suc count) index zero none below =
    let same : index + 0 ≡ index = omega arith in
    rw same
meaning_at_lem n log (suc count) index (suc k) none below =
    let same : index + suc k ≡ suc index + k = omega arith in
    rw same (meaning_at_lem n log count (suc index) k none (omega (arith, below)))
