-- The end of a walk: a function's locals are freed in one step, whatever they hold. Assumes `Logic`.
use mathlib.Core.Path.{refl}
use Prim.Native.Nat.{ℕ, zero}
use mathlib.Core.List.{List, [], ◌∷◌}
use seplogic.Ra.Ura.{Ura}
use base.Fraction.{full_share}
use mir.Syntax.{Ty}
use mir.Val.{Val}
use base.Fml.{fat, froom, fdies}
use types.Logic.{Logic}
use types.Kit.{Item, Goal, Step, frees, ‵, ◌$◌, step}
use types.Run.{forget, free1, free0}

-- a local: full, of a type, at a block, with a value; or only room
pub data Cell : Type 0 where
  full : Ty → ℕ → Val → Cell
  room : Ty → ℕ → Cell

-- the entries of a context that are these locals, and then the rest
abbrev pub lying : {M : Type 1} {𝓤 : Ura M} → List Cell → List (Item 𝓤) → List (Item 𝓤)
lying [] Γ = Γ
lying (full τ b v ∷ cells) Γ = ‵ (fat full_share τ b zero v) ∷ ‵ (fdies τ b) ∷ lying cells Γ
lying (room τ b ∷ cells) Γ = ‵ (froom τ b zero) ∷ ‵ (fdies τ b) ∷ lying cells Γ

abbrev pub placed : List Cell → List (Ty × ℕ)
placed [] = []
placed (full τ b v ∷ cells) = (τ, b) ∷ placed cells
placed (room τ b ∷ cells) = (τ, b) ∷ placed cells

pub leaves : {M : Type 1} {𝓤 : Ura M} {𝓛 : Logic 𝓤} {K : Type 0} {Γ : List (Item 𝓤)}
    {G : Goal 𝓤 𝓛.H} → K → (cells : List Cell) → Step K 𝓛 Γ G (lying cells Γ) (frees (placed cells) G)
leaves t [] = free0 t
leaves t (full τ b v ∷ cells) = step (λ s. forget t 0 refl $ free1 t $ leaves t cells $ s)
leaves t (room τ b ∷ cells) = step (λ s. free1 t $ leaves t cells $ s)
