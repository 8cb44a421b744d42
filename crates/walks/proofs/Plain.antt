-- Plain steps of a walk: the exit of a function without an `ensures`, which has nothing to show, a large literal, and a
-- part of what an entry of the context holds.
use Prim.Native.Nat.{ℕ, ◌<◌, ◌^◌}
use mathlib.Core.List.{List}
use mathlib.Core.Path.{◌≡◌, sym, subst}
use seplogic.Ra.Ura.{Ura}
use mir.Syntax.{Ty, Width, int_big}
use mir.Val.{Val, bits, vint, Fits}
use base.Logic.{SProp, guard_i, sep, emp, via, emp∗, comm∗}
use base.Fml.{Share}
use prog.Wp.{Env}
use types.Logic.{Logic}
use types.Kit.{Item, Step, nth, prop, step}
use types.Part.{Part, look_in}
use types.Run.{Opd, Reads}

-- the exit of a function without an `ensures`
pub silent : {M : Type 1} {𝓤 : Ura M} {𝓛 : Logic 𝓤} {K : Type 0} {Γ : List (Item 𝓤)} → K
    → {P : SProp 𝓤} → Step K 𝓛 Γ (prop P) Γ (prop (sep 𝓤 P (emp 𝓤)))
silent {𝓤 = 𝓤} t {P} =
    step (λ s. record { prf = via 𝓤 P s.prf (via 𝓤 (sep 𝓤 (emp 𝓤) P) (emp∗ 𝓤 P) (comm∗ 𝓤 (emp 𝓤) P)) })

-- a number that is written out and not small, as an operand
pub big_lit : {M : Type 1} {𝓤 : Ura M} {𝓛 : Logic 𝓤} {K : Type 0} {Γ : List (Item 𝓤)}
    {E : Env 𝓤 𝓛.H} → K → {w : Width} {n : ℕ} → n < 2 ^ bits w → Opd K 𝓛 Γ E (int_big w n) (vint w n)
big_lit {𝓤 = 𝓤} t {w} {n} z =
    record { go = λ Kt h. via 𝓤 (Kt (vint w n)) h (guard_i 𝓤 (Fits w n) (Kt (vint w n)) (record { fits = z })) }

-- a part of entry n of the context, where that entry is i
pub look_at : {M : Type 1} {𝓤 : Ura M} {𝓛 : Logic 𝓤} {K : Type 0} {Γ : List (Item 𝓤)}
    → K → (n : ℕ) {i : Item 𝓤} {q : Share} {τ : Ty} {b o : ℕ} {v : Val} {back : Val → Item 𝓤} → nth 𝓛 n Γ ≡ i
    → Part K 𝓛 i q τ b o v back → Reads K 𝓛 Γ τ b o v
look_at {𝓤 = 𝓤} {𝓛 = 𝓛} {K = K} t n {i} {q} {τ} {b} {o} {v} {back} e p =
    look_in t n (subst (λ (j : Item 𝓤). Part K 𝓛 j q τ b o v back) (sym e) p)
