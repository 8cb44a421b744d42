-- What unpacking answers, for every input: "Unpacking one entry is given N and checks 1, 2 (length not 88), 4 to 8".
use Rattle.std.specs.Prelude.{ℕ, ◌*◌, ◌/◌, not, List, length, take, drop, leb, eqb, Result, Ok, Err}
use Rattle.packed.specs.Checks.{verdict_of}
use Rattle.packed.specs.Decode.{decode, nothing}
use Rattle.packed.specs.declared.Transaction.{Transaction}
use Rattle.packed.specs.declared.Unpacked.{Unpacked}
use Rattle.terms.specs.Refusals.{Verdict}
use Rattle.terms.specs.declared.refusal.Refused.{Refused}

-- "A refused .. unpacking hands back the all-zero .. meaning"
abbrev pub unpacked : Verdict → Transaction → Unpacked
unpacked (Ok _) meaning = record { verdict = Ok tt; meaning = meaning }
unpacked (Err why) meaning = record { verdict = Err why; meaning = nothing }

-- the answer to what was read: a meaning is accepted, and "A refused .. unpacking hands back the all-zero .. meaning"
abbrev pub answered : Result Transaction Refused → Unpacked
answered (Ok meaning) = record { verdict = Ok tt; meaning = meaning }
answered (Err why) = record { verdict = Err why; meaning = nothing }

unfoldable pub unpack_of : ℕ → List ℕ → Unpacked
unpack_of n b = unpacked (verdict_of n 0 (not (eqb (length b) 88)) b) (decode b)

-- "A log is such entries end to end"
abbrev pub entry_of : List ℕ → ℕ → List ℕ
entry_of log index = take 88 (drop (88 * index) log)

-- one transaction of a log: 2 where the log has no whole entry there
unfoldable pub unpack_at_of : ℕ → List ℕ → ℕ → Unpacked
unpack_at_of n log index =
    unpacked (verdict_of n index (leb (length log / 88) index) (entry_of log index)) (decode (entry_of log index))
