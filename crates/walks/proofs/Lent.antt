-- A function that holds a `&κ mut [T]` lends it on for the lifetime κ' of a call, as `&mut [T]` or as `&[T]`, and has
-- it again when κ' is over. The slice lies at (b, o); the holder knows it by the ghost name γ, with the elements ys,
-- and has the share q of κ's token. `Room` says that so many elements fit into memory. What is lent as `&[T]` is shared
-- out element by element, by T's law (`Shares`), with tokens whose lifetimes' meet is within κ', and they come back.
-- Assumes `Logic`.
use mathlib.Core.Path.{◌≡◌, refl, sym, ap, subst}
use Prim.Native.Nat.{ℕ}
use mathlib.Core.List.{List, [], ◌∷◌}
use lib.ListN.{length}
use seplogic.Ra.Ura.{Ura}
use base.Fraction.{full_share}
use mir.Syntax.{Lifetime}
use mir.Val.{Val}
use base.Logic.{ent, sep, ex}
use base.Fml.{Lft, GName, Share, Fml, Incl, fsep, flft, fdead, fobs, fauth, flent, fobor}
use ghost.Rules.{Toks, span}
use types.Logic.{Logic, sem, lfts}
use types.Kit.{‵, raw, ◌⊛◌, some, later, ◌$◌, ◌∵◌, !, qed, move, use1, use2, use3}
use types.Kit.{drop, split, pick, fsplit, fjoin, feq_i, frame, await, updating, now as at_once, show, done}
use types.SemTy.{cells, Arr}
use types.Share.{arr_parts}
use types.Tokens.{lent_back}
use denote.RattleType.{RattleType}
use denote.Shadow.{pure_i}
use denote.Memory.{mem, shares}
use denote.Ref.{Bor, MutBor}
use denote.Shares.{Shares}
use denote.Slice.{slice_val, MutSlice, ShrSlice, heres, Room, finally, mut_slice_at, coded_holeys}
use denote.Lend.{Held, lends_slice, slice_back, lends_shr_slice}
use denote.Index.{row, whole_out, whole_in, opens_slice, closes_slice}

module _ (R : RattleType) (κ : Lft) (q : Share) (γ : GName) (b o : ℕ) (ys : List R.Denot) where
  abbrev at_list : GName → List R.Denot → MutBor (List R.Denot)
  at_list δ l = record { ref_ptr = (b, o); ghost_name = δ; now = l }

  -- as a `&[T]`, which has no name
  abbrev shr_list : List R.Denot → Bor (List R.Denot)
  shr_list l = record { ref_ptr = (b, o); now = l }

  -- the machine value of the slice: a pointer and a count
  abbrev vals : List Val
  vals = slice_val (b, o) (length ys) ∷ []

  -- what the holder keeps of its own borrow while the elements are out: the open borrow at κ, and both halves of
  -- the ghost variable γ
  abbrev Open : Fml
  Open = fsep (fobor κ q (Held R (length ys) b o γ)) (fsep (fobs γ ((coded_holeys R).code (heres R ys))) (fauth γ
      ((coded_holeys R).code (heres R ys))))

  -- the elements, as a `&[T]` shares them
  abbrev elements : Fml
  elements = (arr_parts (shares R) (length ys)).part full_share ys b o

  -- what the holder keeps while the slice is lent as `&mut`, under the new name δ: the lender's part at κ', and Open
  abbrev pub LentMut : Lft → GName → Fml
  LentMut κ' δ = fsep (flent κ' (Held R (length ys) b o δ)) Open

  -- what the holder keeps while the slice is lent as `&`
  abbrev pub LentShr : Lft → Fml
  LentShr κ' = fsep (flent κ' elements) Open

  module _ {M : Type 1} {𝓤 : Ura M} (𝓛 : Logic 𝓤) (ℓ : Lifetime) where
    -- the slice, at the elements l
    open 𝓛 use {H, A}

    abbrev slice : List R.Denot → Fml
    slice l = (MutSlice ℓ κ R).own_val (at_list γ l) vals

    -- the slice with its token gives its elements and Open
    opens : ent 𝓤 (sep 𝓤 (sem 𝓛 (slice ys)) (A.lft κ q)) (H.⇛ (sep 𝓤 (sem 𝓛 (row R full_share ys b o))
        (sem 𝓛 Open)))
    opens =
        qed 𝓛 (‵ (slice ys) ∷ ‵ (flft κ q) ∷ []) ∵ updating ! $ fsplit ! $ drop ! $ fsplit ! $
        opens_slice ! tt R ys b o $ at_once ! $ frame ! $
        -- [the open borrow; the two halves of the ghost variable]
        move ! (1 ∷ 2 ∷ []) $ fjoin ! $ move ! (1 ∷ 0 ∷ []) $ fjoin ! $ done !

    -- elements, as many as there were, give with Open the slice with its token
    shuts : (zs : List R.Denot) → Room R (length ys) → length zs ≡ length ys
        → ent 𝓤 (sep 𝓤 (sem 𝓛 (row R full_share zs b o)) (sem 𝓛 Open)) (H.⇛ (sep 𝓤 (sem 𝓛 (slice zs))
        (A.lft κ q)))
    shuts zs room e =
        qed 𝓛 (‵ (row R full_share zs b o) ∷ ‵ Open ∷ []) ∵ updating ! $ move ! (1 ∷ []) $ fsplit ! $
        move ! (1 ∷ []) $ fsplit ! $ move ! (3 ∷ 2 ∷ 0 ∷ 1 ∷ []) $ closes_slice ! tt R ys zs e b o $ at_once ! $
        fjoin ! $ pure_i ! (mut_slice_at R (at_list γ zs) vals) (tt, (tt, tt)) (
          ap (λ (m : ℕ). slice_val (b, o) m ∷ [])
              (sym e),
          subst (Room R) (sym e) room,
        ) $ fjoin ! $ done !

    module _ (κ' : Lft) (ℓ' : Lifetime) (room : Room R (length ys)) where
      -- the slice with its token gives a `&κ' mut [T]` of the same elements, and LentMut
      pub lends_mut : ent 𝓤 (sep 𝓤 (sem 𝓛 (slice ys)) (A.lft κ q)) (H.⇛ (ex 𝓤 (λ (δ : GName). sep 𝓤 (sem 𝓛
          ((MutSlice ℓ' κ' R).own_val (at_list δ ys) vals)) (sem 𝓛 (LentMut κ' δ)))))
      lends_mut =
          qed 𝓛 (‵ (slice ys) ∷ ‵ (flft κ q) ∷ []) ∵ updating ! $
          use2 𝓛 (later (‵ (row R full_share ys b o) ⊛ ‵ Open)) opens $ await ! tt $ split ! $
          use1 𝓛 (‵ (cells (mem R) ys b o)) (whole_in 𝓛 R ys b o) $
          use1 𝓛 (later (some (λ (δ : GName). ‵ ((MutSlice ℓ' κ' R).own_val (at_list δ ys) vals) ⊛ ‵ (flent κ' (Held R
          (length ys) b o δ))))) (lends_slice 𝓛 R ℓ' κ' ys b o room) $ await ! tt $ pick ! (λ δ. split ! $
          at_once ! $ show ! (λ (δ' : GName). sep 𝓤 (sem 𝓛 ((MutSlice ℓ' κ' R).own_val (at_list δ' ys) vals))
          (sem 𝓛 (LentMut κ' δ'))) δ $ frame ! $ fjoin ! $ done !)

      -- when κ' is over, LentMut and the callee's last elements zs give the slice with its token, at zs
      pub mut_back : (δ : GName) (zs : List R.Denot) → length zs ≡ length ys
          → ent 𝓤 (sep 𝓤 (A.dead κ') (sep 𝓤 (sem 𝓛 (LentMut κ' δ)) (sem 𝓛 (finally R δ zs)))) (H.⇛ (sep 𝓤
          (sem 𝓛 (slice zs)) (A.lft κ q)))
      mut_back δ zs e =
          qed 𝓛 (‵ (fdead κ') ∷ ‵ (LentMut κ' δ) ∷ ‵ (finally R δ zs) ∷ []) ∵ updating ! $ move ! (1 ∷ []) $
          fsplit ! $ move ! (2 ∷ 0 ∷ 3 ∷ []) $
          use3 𝓛 (later (‵ ((Arr (mem R) (length ys)).own_at zs b o))) (slice_back 𝓛 R κ' δ zs (length ys) b o) $
          await ! tt $ fsplit ! $ drop ! $ use1 𝓛 (‵ (row R full_share zs b o)) (whole_out 𝓛 R zs b o) $
          use2 𝓛 (later (‵ (slice zs) ⊛ ‵ (flft κ q))) (shuts zs room e) $ await ! tt $ at_once ! $ split ! $
          frame ! $ done !

      -- the slice with its token gives a `&κ' [T]` of the same elements, and LentShr
      pub lends_shr : (l : Lft) → Shares 𝓛 R l → (ts : Toks) → Incl (span ts) l → Incl (span ts) κ'
          → ent 𝓤 (sep 𝓤 (sem 𝓛 (slice ys)) (sep 𝓤 (A.lft κ q) (lfts 𝓛 ts))) (H.⇛ (sep 𝓤 (sem 𝓛
          ((ShrSlice ℓ' κ' R).own_val (shr_list ys) vals)) (sep 𝓤 (sem 𝓛 (LentShr κ')) (lfts 𝓛 ts))))
      lends_shr l shares ts inc sp =
          qed 𝓛 (‵ (slice ys) ∷ ‵ (flft κ q) ∷ raw (lfts 𝓛 ts) ∷ []) ∵ updating ! $
          use2 𝓛 (later (‵ (row R full_share ys b o) ⊛ ‵ Open)) opens $ await ! tt $ split ! $
          feq_i ! ℕ (length ys) (length ys) refl $ fjoin ! $ move ! (0 ∷ 2 ∷ []) $
          use2 𝓛 (later ((‵ ((ShrSlice ℓ' κ' R).own_val (shr_list ys) vals) ⊛ ‵ (flent κ' elements)) ⊛ raw
          (lfts 𝓛 ts))) (lends_shr_slice 𝓛 R ℓ' κ' full_share ys b o room l shares ts inc sp) $ await ! tt $
          -- [the `&[T]`; the lender's part; the tokens; Open]
          split ! $ split ! $ move ! (1 ∷ 3 ∷ []) $ fjoin ! $ at_once ! $ move ! (1 ∷ []) $ frame ! $ done !

      -- when κ' is over, LentShr gives the slice with its token, as it was
      pub shr_back : ent 𝓤 (sep 𝓤 (A.dead κ') (sem 𝓛 (LentShr κ'))) (H.⇛ (sep 𝓤 (sem 𝓛 (slice ys))
          (A.lft κ q)))
      shr_back =
          qed 𝓛 (‵ (fdead κ') ∷ ‵ (LentShr κ') ∷ []) ∵ updating ! $ move ! (1 ∷ []) $ fsplit ! $
          move ! (2 ∷ 0 ∷ []) $ lent_back ! tt $ fsplit ! $ drop ! $
          use2 𝓛 (later (‵ (slice ys) ⊛ ‵ (flft κ q))) (shuts ys room refl) $ await ! tt $ at_once ! $ split ! $
          frame ! $ done !
