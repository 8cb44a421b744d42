-- Numbers, booleans and the unit in a walk: what a call has returned has its type, as a store into a local asks.
use mathlib.Core.Path.{◌≡◌, sym, subst}
use Prim.Native.Nat.{ℕ, ◌<◌, ◌^◌}
use native.Mathlib.Omega.{arith}
use mathlib.Core.Bool.{Bool}
use lib.Dec.{T as Holds}
use mir.Syntax.{Width, w8, w16, w32, w64, w128, ty_unit, ty_bool, ty_int}
use mir.Val.{bits, Val, vunit, vint, vbool, has_ty, WT}

-- a number of a width has the type of that width
same : (w : Width) (x : ℕ) → Holds (has_ty (ty_int w) (vint w x))
same w8 x = tt
same w16 x = tt
same w32 x = tt
same w64 x = tt
same w128 x = tt

-- a number
pub num_typed : (w : Width) (u : Val) (x : ℕ) → (u ≡ vint w x) × (x < 2 ^ bits w) → Holds (has_ty (ty_int w) u) × WT u
num_typed w u x s = subst (λ (z : Val). Holds (has_ty (ty_int w) z) × WT z) (sym s.0)
    (same w x, record { fits = s.1 })

-- a boolean
pub bool_typed : (u : Val) (t : Bool) → u ≡ vbool t → Holds (has_ty ty_bool u) × WT u
bool_typed u t s = subst (λ (z : Val). Holds (has_ty ty_bool z) × WT z) (sym s) (tt, tt)

-- the unit
pub unit_typed : (u : Val) → u ≡ vunit → Holds (has_ty ty_unit u) × WT u
unit_typed u s = subst (λ (z : Val). Holds (has_ty ty_unit z) × WT z) (sym s) (tt, tt)

-- a number of a lesser width fits into a usize
pub wider_w8 : {n : ℕ} → n < 2 ^ 8 → n < 2 ^ 64
wider_w8 h = omega arith

pub wider_w16 : {n : ℕ} → n < 2 ^ 16 → n < 2 ^ 64
wider_w16 h = omega arith

pub wider_w32 : {n : ℕ} → n < 2 ^ 32 → n < 2 ^ 64
wider_w32 h = omega arith
