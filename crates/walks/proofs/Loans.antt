-- A lend and its return as steps of a walk. A call that takes several references is a lend for each, the call, and a
-- return for each. A lend takes, at the head of the context, the slice and its token, and leaves the token of the lent
-- lifetime, what the callee gets, and what is kept. A return takes the token, what the callee gave back and what was
-- kept, and leaves the slice and its token.
-- The slice's machine value has the count m, and the list that it owns is as long: so the local that holds the slice is
-- never rewritten. To lend it as `&[T]` takes T's law of sharing (`Shares`) at the new lifetime, which a type has that
-- can be copied (`denote.Copied`'s `shares`). Assumes `Logic`.
use mathlib.Core.Path.{◌≡◌, refl, sym, subst}
use Prim.Native.Nat.{ℕ}
use mathlib.Core.List.{List, [], ◌∷◌}
use lib.ListN.{length}
use seplogic.Ra.Ura.{Ura}
use base.Fraction.{full_share}
use mir.Syntax.{named}
use base.Logic.{ent}
use base.Fml.{Lft, GName, Share, Fml, flft, flent}
use types.Logic.{Logic}
use types.Kit.{
  Item,
  Goal,
  Soaks,
  Seq,
  Step,
  mean,
  ⋆,
  cut,
  ‵,
  some,
  later,
  ◌⊛◌,
  ◌$◌,
  move,
  drop,
  use1,
  use2,
  use3,
  split,
  split3,
  pick,
  rewrite,
  fsplit,
  await,
}
use types.SemTy.{cells, Arr}
use types.Tokens.{lft_new, lft_end}
use denote.RattleType.{RattleType}
use denote.Memory.{mem}
use denote.Shares.{Shares}
use denote.Slice.{slice_val, MutSlice, ShrSlice, Room, finally}
use denote.Lend.{Held, lends_slice, slice_back}
use denote.Index.{row, whole_out, whole_in}
use Rattle.walks.proofs.Lent.{LentMut, lends_mut, mut_back, LentShr, lends_shr, shr_back}

-- a `&mut [T]` at (b, o) with the count m, at the lifetime κ, under the name δ, with the elements l
abbrev pub holds : (R : RattleType) → ℕ → ℕ → ℕ → Lft → GName → List R.Denot → Fml
holds R b o m κ δ l =
    (MutSlice (named 0) κ R).own_val (record { ref_ptr = (b, o); ghost_name = δ; now = l }) (slice_val (b, o) m ∷ [])

-- a `&[T]`, the same, which has no name
abbrev pub sees : (R : RattleType) → ℕ → ℕ → ℕ → Lft → List R.Denot → Fml
sees R b o m κ l = (ShrSlice (named 0) κ R).own_val (record { ref_ptr = (b, o); now = l }) (slice_val (b, o) m ∷ [])

module _ {M : Type 1} {𝓤 : Ura M} (𝓛 : Logic 𝓤) (R : RattleType) (b o m : ℕ)
    (ys : List R.Denot) (e : length ys ≡ m) (room : Room R m) {K : Type 0} {Γ : List (Item 𝓤)} (t : K)
    {G : Goal 𝓤 𝓛.H} (s : Soaks G) where
  module _ (κ : Lft) (q : Share) (γ : GName) where
    -- a `&mut [T]` that the walk holds, lent as `&mut [T]`
    pub lend_mut : ((ν : ℕ) (δ : GName) → Seq K 𝓛 (‵ (flft (ν ∷ []) full_share) ∷ ‵ (holds R b o m (ν ∷ []) δ ys) ∷ ‵
        (LentMut R κ q γ b o ys (ν ∷ []) δ) ∷ Γ) G) → Seq K 𝓛 (‵ (holds R b o m κ γ ys) ∷ ‵ (flft κ q) ∷ Γ) G
    lend_mut k =
        rewrite t 0 (λ (n : ℕ). ‵ (holds R b o n κ γ ys)) (sym e) refl $ lft_new t s (λ ν. move t (1 ∷ 2 ∷ []) $
        use2 𝓛 (later (some (λ (δ : GName). ‵ (holds R b o (length ys) (ν ∷ []) δ ys) ⊛ ‵ (LentMut R κ q γ b o ys
        (ν ∷ []) δ)))) (lends_mut R κ q γ b o ys 𝓛 (named 0) (ν ∷ []) (named 0) (subst (Room R) (sym e)
        room)) $ await t s $ pick t (λ δ. split t $
        rewrite t 0 (λ (n : ℕ). ‵ (holds R b o n (ν ∷ []) δ ys)) e refl $ move t (2 ∷ 0 ∷ []) $ k ν δ))

    -- it comes back, with the elements zs
    pub back_mut : (ν : ℕ) (δ : GName) (zs : List R.Denot) → length zs ≡ length ys
        → Seq K 𝓛 (‵ (holds R b o m κ γ zs) ∷ ‵ (flft κ q) ∷ Γ) G
        → Seq K 𝓛 (‵ (flft (ν ∷ []) full_share) ∷ ‵ (finally R δ zs) ∷ ‵ (LentMut R κ q γ b o ys (ν ∷ []) δ) ∷ Γ) G
    back_mut ν δ zs l k =
        lft_end t s $ move t (0 ∷ 2 ∷ 1 ∷ []) $
        use3 𝓛 (later (‵ (holds R b o (length ys) κ γ zs) ⊛ ‵ (flft κ q))) (mut_back R κ q γ b o ys 𝓛 (named 0)
        (ν ∷ []) (named 0) (subst (Room R) (sym e) room) δ zs l) $ await t s $ split t $
        rewrite t 0 (λ (n : ℕ). ‵ (holds R b o n κ γ zs)) e refl $ k

    -- a `&mut [T]` that the walk holds, lent as `&[T]`. The new lifetime's own token shares it out
    pub lend_shr : ((ν : ℕ) → Shares 𝓛 R (ν ∷ [])) → ((ν : ℕ) → Seq K 𝓛 (‵ (flft (ν ∷ []) full_share) ∷ ‵ (sees R b o
        m (ν ∷ []) ys) ∷ ‵ (LentShr R κ q γ b o ys (ν ∷ [])) ∷ Γ) G)
        → Seq K 𝓛 (‵ (holds R b o m κ γ ys) ∷ ‵ (flft κ q) ∷ Γ) G
    lend_shr shares k =
        rewrite t 0 (λ (n : ℕ). ‵ (holds R b o n κ γ ys)) (sym e) refl $ lft_new t s (λ ν. move t (1 ∷ 2 ∷ 0 ∷ []) $
        use3 𝓛 (later (‵ (sees R b o (length ys) (ν ∷ []) ys) ⊛ ‵ (LentShr R κ q γ b o ys (ν ∷ [])) ⊛ ‵
        (flft (ν ∷ []) full_share))) (lends_shr R κ q γ b o ys 𝓛 (named 0) (ν ∷ []) (named 0) (subst (Room R) (sym e)
        room) (ν ∷ []) (shares ν) ((ν ∷ [], full_share) ∷ []) (λ x i. i) (λ x i. i)) $ await t s $ split3 t $
        rewrite t 0 (λ (n : ℕ). ‵ (sees R b o n (ν ∷ []) ys)) e refl $ move t (2 ∷ 0 ∷ []) $ k ν)

    -- it comes back, as it was
    pub back_shr : (ν : ℕ) → Seq K 𝓛 (‵ (holds R b o m κ γ ys) ∷ ‵ (flft κ q) ∷ Γ) G
        → Seq K 𝓛 (‵ (flft (ν ∷ []) full_share) ∷ ‵ (LentShr R κ q γ b o ys (ν ∷ [])) ∷ Γ) G
    back_shr ν k =
        lft_end t s $ use2 𝓛 (later (‵ (holds R b o (length ys) κ γ ys) ⊛ ‵ (flft κ q)))
        (shr_back R κ q γ b o ys 𝓛 (named 0) (ν ∷ []) (named 0) (subst (Room R) (sym e) room)) $
        await t s $ split t $
        rewrite t 0 (λ (n : ℕ). ‵ (holds R b o n κ γ ys)) e refl $ k

  -- a local array, taken apart into a row (`Own.antt`), lent as `&mut [T]`
  pub lend_own : ((ν : ℕ) (δ : GName) → Seq K 𝓛 (‵ (flft (ν ∷ []) full_share) ∷ ‵ (holds R b o m (ν ∷ []) δ ys) ∷ ‵
      (flent (ν ∷ []) (Held R (length ys) b o δ)) ∷ Γ) G) → Seq K 𝓛 (‵ (row R full_share ys b o) ∷ Γ) G
  lend_own k =
      lft_new t s (λ ν. move t (1 ∷ []) $ use1 𝓛 (‵ (cells (mem R) ys b o)) (whole_in 𝓛 R ys b o) $
      use1 𝓛 (later (some (λ (δ : GName). ‵ (holds R b o (length ys) (ν ∷ []) δ ys) ⊛ ‵ (flent (ν ∷ []) (Held R
      (length ys) b o δ))))) (lends_slice 𝓛 R (named 0) (ν ∷ []) ys b o (subst (Room R) (sym e) room)) $
      await t s $ pick t (λ δ. split t $
      rewrite t 0 (λ (k : ℕ). ‵ (holds R b o k (ν ∷ []) δ ys)) e refl $ move t (2 ∷ 0 ∷ []) $ k ν δ))

  -- it comes back, a row of the elements zs
  pub back_own : (ν : ℕ) (δ : GName) (zs : List R.Denot) → Seq K 𝓛 (‵ (row R full_share zs b o) ∷ Γ) G
      → Seq K 𝓛 (‵ (flft (ν ∷ []) full_share) ∷ ‵ (finally R δ zs) ∷ ‵ (flent (ν ∷ []) (Held R (length ys) b o δ)) ∷ Γ)
      G
  back_own ν δ zs k =
      lft_end t s $ move t (0 ∷ 2 ∷ 1 ∷ []) $
      use3 𝓛 (later (‵ ((Arr (mem R) (length ys)).own_at zs b o))) (slice_back 𝓛 R (ν ∷ []) δ zs (length ys)
      b o) $ await t s $ fsplit t $ drop t $
      use1 𝓛 (‵ (row R full_share zs b o)) (whole_out 𝓛 R zs b o) $ k

module _ {M : Type 1} {𝓤 : Ura M} {K : Type 0} (𝓛 : Logic 𝓤) {Γ : List
    (Item 𝓤)} {G : Goal 𝓤 𝓛.H} where
  -- the first four entries of the context, replaced by an item that they entail
  abbrev pub use4 : {i₁ i₂ i₃ i₄ : Item 𝓤} (k : Item 𝓤) → ent 𝓤 (⋆ 𝓛 (i₁ ∷ i₂ ∷ i₃ ∷ i₄ ∷ [])) (mean 𝓛 k)
      → Step K 𝓛 (k ∷ Γ) G (i₁ ∷ i₂ ∷ i₃ ∷ i₄ ∷ Γ) G
  use4 {i₁} {i₂} {i₃} {i₄} k h = cut (i₁ ∷ i₂ ∷ i₃ ∷ i₄ ∷ []) (k ∷ []) Γ h

  -- the first six
  abbrev pub use6 : {i₁ i₂ i₃ i₄ i₅ i₆ : Item 𝓤} (k : Item 𝓤) → ent 𝓤 (⋆ 𝓛 (i₁ ∷ i₂ ∷ i₃ ∷ i₄ ∷ i₅ ∷ i₆ ∷ []))
      (mean 𝓛 k) → Step K 𝓛 (k ∷ Γ) G (i₁ ∷ i₂ ∷ i₃ ∷ i₄ ∷ i₅ ∷ i₆ ∷ Γ) G
  use6 {i₁} {i₂} {i₃} {i₄} {i₅} {i₆} k h = cut (i₁ ∷ i₂ ∷ i₃ ∷ i₄ ∷ i₅ ∷ i₆ ∷ []) (k ∷ []) Γ h

  -- the first eight
  abbrev pub use8 : {i₁ i₂ i₃ i₄ i₅ i₆ i₇ i₈ : Item 𝓤} (k : Item 𝓤)
      → ent 𝓤 (⋆ 𝓛 (i₁ ∷ i₂ ∷ i₃ ∷ i₄ ∷ i₅ ∷ i₆ ∷ i₇ ∷ i₈ ∷ [])) (mean 𝓛 k)
      → Step K 𝓛 (k ∷ Γ) G (i₁ ∷ i₂ ∷ i₃ ∷ i₄ ∷ i₅ ∷ i₆ ∷ i₇ ∷ i₈ ∷ Γ) G
  use8 {i₁} {i₂} {i₃} {i₄} {i₅} {i₆} {i₇} {i₈} k h =
      cut (i₁ ∷ i₂ ∷ i₃ ∷ i₄ ∷ i₅ ∷ i₆ ∷ i₇ ∷ i₈ ∷ []) (k ∷ []) Γ h

  -- the first ten
  abbrev pub use10 : {i₁ i₂ i₃ i₄ i₅ i₆ i₇ i₈ i₉ i₁₀ : Item 𝓤} (k : Item 𝓤)
      → ent 𝓤 (⋆ 𝓛 (i₁ ∷ i₂ ∷ i₃ ∷ i₄ ∷ i₅ ∷ i₆ ∷ i₇ ∷ i₈ ∷ i₉ ∷ i₁₀ ∷ [])) (mean 𝓛 k)
      → Step K 𝓛 (k ∷ Γ) G (i₁ ∷ i₂ ∷ i₃ ∷ i₄ ∷ i₅ ∷ i₆ ∷ i₇ ∷ i₈ ∷ i₉ ∷ i₁₀ ∷ Γ) G
  use10 {i₁} {i₂} {i₃} {i₄} {i₅} {i₆} {i₇} {i₈} {i₉} {i₁₀} k h =
      cut (i₁ ∷ i₂ ∷ i₃ ∷ i₄ ∷ i₅ ∷ i₆ ∷ i₇ ∷ i₈ ∷ i₉ ∷ i₁₀ ∷ []) (k ∷ []) Γ h

  -- the first twelve
  abbrev pub use12 : {i₁ i₂ i₃ i₄ i₅ i₆ i₇ i₈ i₉ i₁₀ i₁₁ i₁₂ : Item 𝓤} (k : Item 𝓤)
      → ent 𝓤 (⋆ 𝓛 (i₁ ∷ i₂ ∷ i₃ ∷ i₄ ∷ i₅ ∷ i₆ ∷ i₇ ∷ i₈ ∷ i₉ ∷ i₁₀ ∷ i₁₁ ∷ i₁₂ ∷ [])) (mean 𝓛 k)
      → Step K 𝓛 (k ∷ Γ) G (i₁ ∷ i₂ ∷ i₃ ∷ i₄ ∷ i₅ ∷ i₆ ∷ i₇ ∷ i₈ ∷ i₉ ∷ i₁₀ ∷ i₁₁ ∷ i₁₂ ∷ Γ) G
  use12 {i₁} {i₂} {i₃} {i₄} {i₅} {i₆} {i₇} {i₈} {i₉} {i₁₀} {i₁₁} {i₁₂} k h =
      cut (i₁ ∷ i₂ ∷ i₃ ∷ i₄ ∷ i₅ ∷ i₆ ∷ i₇ ∷ i₈ ∷ i₉ ∷ i₁₀ ∷ i₁₁ ∷ i₁₂ ∷ []) (k ∷ []) Γ h
