-- A local array `[T; n]` that a walk owns, taken apart into its elements in memory, a row, and put together: between
-- the two it can be lent as a slice (`Loans.antt`'s `lend_own` and `back_own`). Assumes `Logic`.
use mathlib.Core.Path.{◌≡◌, refl}
use Prim.Native.Nat.{ℕ}
use mathlib.Core.List.{List, [], ◌∷◌}
use lib.ListN.{length}
use seplogic.Ra.Ura.{Ura}
use base.Fraction.{full_share}
use mir.Syntax.{ty_array}
use mir.Val.{Val}
use base.Logic.{ent, sep}
use base.Fml.{fsep, fat}
use types.Logic.{Logic, sem}
use types.Kit.{‵, ◌$◌, ◌∵◌, !, qed, by, move, drop, use1, rewrite, fsplit, fjoin, fpick, fpack, feq_l, feq_i, done}
use types.Share.{arr_parts}
use denote.RattleType.{RattleType}
use denote.Memory.{cell_at, lone, part_at, part_of, shares}
use denote.Array.{array_val, Array}
use denote.ArrayMemory.{Single, Array-apart, Array-whole}
use denote.Index.{row}

module _ {M : Type 1} {𝓤 : Ura M} (𝓛 : Logic 𝓤) (R : RattleType) (n b o : ℕ) where
  -- the array's cell, with what the array owns, gives the row of its elements
  open 𝓛 use {H}

  pub array_in : Single R.mir → (xs : List R.Denot) (v : Val)
      → ent 𝓤 (sep 𝓤 (H.at full_share (ty_array (lone R.mir) n) b o v) (sem 𝓛 ((Array R n).own_val xs (v ∷ []))))
      (sem 𝓛 (row R full_share xs b o))
  unfolding part_of
  array_in s xs v =
      qed 𝓛 (‵ (fat full_share (ty_array (lone R.mir) n) b o v) ∷ ‵ ((Array R n).own_val xs (v ∷ [])) ∷ []) ∵
      use1 𝓛 (‵ (cell_at full_share (Array R n).mir (v ∷ []) b o)) (𝓛.laws.at_raw full_share (ty_array (lone R.mir)
      n) b o v) $ fjoin ! $
      fpack ! (List Val) (λ vs. fsep (cell_at full_share (Array R n).mir vs b o) ((Array R n).own_val xs vs)) (v ∷ []) $
      use1 𝓛 (‵ ((arr_parts (shares R) n).part full_share xs b o)) (Array-apart 𝓛 R full_share s n xs b o) $
      fsplit ! $ drop ! $ done !

  -- a row of n elements gives the local's room back
  pub array_out : (xs : List R.Denot) → length xs ≡ n → ent 𝓤 (sem 𝓛 (row R full_share xs b o)) (H.room
      (ty_array (lone R.mir) n) b o)
  unfolding part_of
  array_out xs l =
      qed 𝓛 (‵ (row R full_share xs b o) ∷ []) ∵ feq_i ! ℕ (length xs) n l $ fjoin ! $
      use1 𝓛 (‵ (part_at (Array R n) full_share xs b o)) (Array-whole 𝓛 R full_share n xs b o) $
      fpick ! (λ vs. fsplit ! $ move ! (1 ∷ []) $ fpick ! (λ us. fsplit ! $ fsplit ! $ feq_l ! (λ e. drop ! $
      drop ! $
      rewrite ! 0 (λ (ws : List Val). ‵ (cell_at full_share (Array R n).mir ws b o)) e refl $
      use1 𝓛 (‵ (fat full_share (ty_array (lone R.mir) n) b o (array_val us))) (𝓛.laws.raw_at full_share (ty_array
      (lone R.mir) n) b o (array_val us)) $
      by ! (𝓛.laws.at_room (ty_array (lone R.mir) n) b o (array_val us)))))
