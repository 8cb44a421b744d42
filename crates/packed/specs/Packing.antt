-- What packing answers, for every input: "packing checks the same, in the same order, on the meaning and the lent
-- buffer's length, and writes only if all pass". A meaning is judged by the bytes that it would write.
use Rattle.std.specs.Prelude.{ℕ, not, List, length, eqb, Ok, Err}
use Rattle.packed.specs.Checks.{verdict_of}
use Rattle.packed.specs.Encode.{encode}
use Rattle.packed.specs.declared.Transaction.{Transaction}
use Rattle.terms.specs.Refusals.{Verdict}

-- an answer, and what the lent buffer holds at exit
pub record Packed : Type 0 where
  pub verdict : Verdict
  pub buffer : List ℕ

abbrev pub packed : Verdict → List ℕ → Packed
packed verdict buffer = record { verdict = verdict; buffer = buffer }

-- accepted, the buffer holds the bytes; refused, it keeps what it held
abbrev pub written : Verdict → List ℕ → List ℕ → Packed
written (Ok _) bytes buffer = packed (Ok tt) bytes
written (Err why) bytes buffer = packed (Err why) buffer

unfoldable pub pack_of : ℕ → Transaction → List ℕ → Packed
pack_of n t buffer = written (verdict_of n 0 (not (eqb (length buffer) 88)) (encode t)) (encode t) buffer
