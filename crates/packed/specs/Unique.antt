-- Each contract determines its function's result and what a lent buffer holds at exit: two that satisfy it are equal.
use Rattle.std.specs.Prelude.{ℕ, List, Result, ◌≡◌}
use Rattle.std.proofs.Common.{ap}
use Rattle.terms.specs.Unique.{same}
use Rattle.packed.specs.Decode.{action_of, nothing}
use Rattle.packed.specs.Encode.{fields_of}
use Rattle.packed.specs.Packing.{packed, pack_of}
use Rattle.packed.specs.Unpacking.{answered, unpack_of, unpack_at_of}
use Rattle.packed.specs.declared.Action.{Action}
use Rattle.packed.specs.declared.Transaction.{Transaction}
use Rattle.packed.specs.declared.Unpacked.{Unpacked}
use Rattle.packed.specs.declared.fields.Fields.{Fields}
use Rattle.terms.specs.Refusals.{Verdict}
use Rattle.terms.specs.declared.refusal.Refused.{Refused}

pub unpack_unique : (n : ℕ) (bytes : List ℕ) (a b : Unpacked) → a ≡ unpack_of n bytes → b ≡ unpack_of n bytes → a ≡ b
unpack_unique n bytes a b = same

pub unpack_at_unique : (n : ℕ) (log : List ℕ) (index : ℕ) (a b : Unpacked)
    → a ≡ unpack_at_of n log index → b ≡ unpack_at_of n log index → a ≡ b
unpack_at_unique n log index a b = same

pub pack_unique : (n : ℕ) (meaning : Transaction) (buffer : List ℕ) (a b : Verdict) (a_exit b_exit : List ℕ)
    → packed a a_exit ≡ pack_of n meaning buffer → packed b b_exit ≡ pack_of n meaning buffer
    → (a ≡ b) × (a_exit ≡ b_exit)
pack_unique n meaning buffer a b a_exit b_exit first second =
    (ap (λ x. x.verdict) (same first second), ap (λ x. x.buffer) (same first second))

pub no_meaning_unique : (a b : Transaction) → a ≡ nothing → b ≡ nothing → a ≡ b
no_meaning_unique a b = same

pub action_unique : (x : Fields) (a b : Action) → a ≡ action_of x → b ≡ action_of x → a ≡ b
action_unique x a b = same

pub fields_unique : (action : Action) (a b : Fields) → a ≡ fields_of action → b ≡ fields_of action → a ≡ b
fields_unique action a b = same

pub unpacked_unique : (read : Result Transaction Refused) (a b : Unpacked)
    → a ≡ answered read → b ≡ answered read → a ≡ b
unpacked_unique read a b = same
