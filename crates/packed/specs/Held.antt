-- The meanings that code can hold: what their types say of their numbers. The crate `held` proves it of every one.
use Rattle.std.specs.Prelude.{ℕ, ◌^◌, ◌<◌, ◌≡◌, List, length, get_or}
use Rattle.packed.specs.Encode.{fields_of, action_in}
use Rattle.packed.specs.declared.Transaction.{Transaction}
use Rattle.packed.specs.declared.fields.Fields.{Fields}

-- four record numbers of 16 bits
pub record HeldSet (set : List ℕ) : Type 0 where
  pub four : length set ≡ 4
  pub fit : (i : ℕ) → get_or set i 0 < 2 ^ 16

-- records of 16 bits and a constant of 64
pub record HeldFields (x : Fields) : Type 0 where
  pub r_fits : x.r < 2 ^ 16
  pub s_fits : x.s < 2 ^ 16
  pub c_fits : x.c < 2 ^ 64

pub record Held (t : Transaction) : Type 0 where
  pub reads_held : HeldSet t.reads
  pub writes_held : HeldSet t.writes
  pub four : length t.actions ≡ 4
  pub actions_held : (k : ℕ) → HeldFields (fields_of (action_in t k))
