-- A declared struct by value in a walk: its machine value, and what is known where a call has returned one. D and L are
-- the type's `the_type` and `the_laws`.
use mathlib.Core.Path.{◌≡◌, sym, ap, subst}
use mathlib.Core.List.{[], ◌∷◌}
use seplogic.Ra.Ura.{Ura}
use lib.Dec.{T as Holds}
use mir.Val.{Val, has_ty, WT}
use types.Logic.{Logic}
use denote.Laws.{Is}
use denote.Memory.{lone}
use denote.Steps.{only}
use denote.Struct.Declared.{Declared, row}
use denote.Struct.Laws as LL

module _ (D : Declared) (L : LL.Laws D) where
  -- the machine value of h
  abbrev pub mach : D.D → Val
  mach h = LL.tuple_val D L (D.to h)

  -- h is a value of the type: its numbers fit
  abbrev pub Good : D.D → Type 0
  Good h = Is (row D) h (mach h ∷ [])

  -- a call has returned u for h
  abbrev pub IsValue : D.D → Val → Type 0
  IsValue h u = (u ≡ mach h) × Good h

  -- what a callee's `post` says of a result, as IsValue
  pub is_value : (r h : D.D) (u : Val) → r ≡ h → Is (row D) r (u ∷ []) → IsValue h u
  is_value r h u e is =
      let at : Is (row D) h (u ∷ []) = subst (λ (z : D.D). Is (row D) z (u ∷ [])) e is in
      (ap only (LL.tells D L h (u ∷ []) at), subst (Is (row D) h) (LL.tells D L h (u ∷ []) at) at)

  -- such a u has the type, as a store into a local asks
  pub typed : {M : Type 1} {𝓤 : Ura M} (𝓛 : Logic 𝓤) (h : D.D) (u : Val)
      → IsValue h u → Holds (has_ty (lone (row D).mir) u) × WT u
  typed 𝓛 h u s = ((LL.lawful D L 𝓛).typed h (u ∷ []) (subst (λ (z : Val). Is (row D) h (z ∷ []))
      (sym s.0) s.1)).0
