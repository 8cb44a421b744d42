-- Facts about the version table that the proofs of its callers cite: lengths are kept, other entries are as they were,
-- and a slot past the end changes nothing.
use Rattle.std.specs.Prelude.{Bool, false, cond, ◌&&◌, not, List, [], ◌∷◌, ◌≡◌, refl}
use Rattle.std.specs.Prelude.{Option, None, Some}
use Rattle.std.specs.Prelude.{ℕ, zero, suc, ◌<◌, ◌≤◌, ltb, eqb, length, get_or, set}
use Rattle.std.proofs.Common.{sym, ap, ◌∙◌, subst, not-suc-le-zero, le_of_suc-le-suc}
use Rattle.std.proofs.Common.{le_refl, length-set, le-ltb, get_or-set_same, get_or-set_other}
use Rattle.std.proofs.lemmas.List.{set_past as list_set_past}
use Rattle.terms.specs.Reserved.{no_slot}
use Rattle.versions.specs.Entry.{empty_entry, linked_of, ended_of, filled_of}
use Rattle.versions.specs.Step.{preceding_of, end_at, link_of, fill_of}
use Rattle.versions.specs.Table.{entry_of, put_of, clear_of}
use Rattle.versions.specs.declared.Version.{Version}
use Rattle.versions.specs.declared.plan.Fill.{Fill}
use Rattle.versions.specs.declared.plan.Link.{Link}

-- the slot that a number of the lent tables names: "a slot or 65,535 for none"
abbrev pub slot_named : ℕ → Option ℕ
slot_named number = cond (eqb number no_slot) None (Some number)

-- ---- lists, at an index that may lie past the end: three laws of std, in the form in which callers cite them
pub set_past : {A : Type 0} (xs : List A) (i : ℕ) (y : A) → length xs ≤ i → set xs i y ≡ xs
set_past = list_set_past

pub set_here : {A : Type 0} (d : A) (xs : List A) (i : ℕ) (y : A) → i < length xs → get_or (set xs i y) i d ≡ y
set_here d xs i y l = get_or-set_same xs i y d l

pub set_other : {A : Type 0} (d : A) (xs : List A) (i j : ℕ) (y : A) → (j ≡ i → ⊥)
    → get_or (set xs i y) j d ≡ get_or xs j d
set_other d xs i j y f = get_or-set_other xs i j y d f

-- ---- one entry stored
pub put_length : (versions : List Version) (slot : ℕ) (version : Version)
    → length (put_of versions slot version) ≡ length versions
put_length = length-set

pub put_past : (versions : List Version) (slot : ℕ) (version : Version) → length versions ≤ slot
    → put_of versions slot version ≡ versions
put_past = set_past

pub put_here : (versions : List Version) (slot : ℕ) (version : Version) → slot < length versions
    → entry_of (put_of versions slot version) slot ≡ version
put_here = set_here empty_entry

pub put_other : (versions : List Version) (slot other : ℕ) (version : Version) → (other ≡ slot → ⊥)
    → entry_of (put_of versions slot version) other ≡ entry_of versions other
put_other = set_other empty_entry

-- ---- an entry filled
pub fill_length : (versions : List Version) (plan : Fill) → length (fill_of versions plan) ≡ length versions
fill_length versions plan = put_length versions plan.slot _

pub fill_past : (versions : List Version) (plan : Fill) → length versions ≤ plan.slot → fill_of versions plan ≡ versions
fill_past versions plan = put_past versions plan.slot _

pub fill_here : (versions : List Version) (plan : Fill) → plan.slot < length versions
    → entry_of (fill_of versions plan) plan.slot ≡ filled_of (entry_of versions plan.slot) plan.contents
fill_here versions plan = put_here versions plan.slot _

pub fill_other : (versions : List Version) (plan : Fill) (other : ℕ) → (other ≡ plan.slot → ⊥)
    → entry_of (fill_of versions plan) other ≡ entry_of versions other
fill_other versions plan other = put_other versions plan.slot other _

-- ---- an entry linked
pub link_length : (versions : List Version) (plan : Link) → length (link_of versions plan) ≡ length versions
link_length versions plan =
    put_length (end_at versions (preceding_of plan (length versions)) plan.position) plan.slot _
    ∙ put_length versions (preceding_of plan (length versions)) _

-- a comparison that fails
not_below_lem : (m n : ℕ) → n ≤ m → ltb m n ≡ false
not_below_lem = le-ltb

-- "a refused step": a link for no slot of the table changes neither entry
pub link_past : (versions : List Version) (plan : Link) → length versions ≤ plan.slot → link_of versions plan ≡ versions
link_past versions plan l =
    put_past (end_at versions before plan.position) plan.slot _ (subst (λ (k : ℕ). k ≤ plan.slot) (sym long) l)
    ∙ put_past versions before _ (subst (λ (k : ℕ). length versions ≤ k) (sym none) (le_refl (length versions)))
  where
    before : ℕ
    before = preceding_of plan (length versions)

    long : length (end_at versions (preceding_of plan (length versions)) plan.position) ≡ length versions
    long = put_length versions (preceding_of plan (length versions)) _

    none : preceding_of plan (length versions) ≡ length versions
    none =
        ap
        (λ (t : Bool). cond (t && not (eqb plan.previous no_slot)) plan.previous (length versions))
        (not_below_lem plan.slot (length versions) l)

pub link_here : (versions : List Version) (plan : Link) → plan.slot < length versions
    → entry_of (link_of versions plan) plan.slot
    ≡ linked_of
    (entry_of (end_at versions (preceding_of plan (length versions)) plan.position) plan.slot)
    plan.position
    plan.previous
link_here versions plan l =
    put_here (end_at versions (preceding_of plan (length versions)) plan.position) plan.slot _
    (subst (λ (k : ℕ). plan.slot < k) (sym (put_length versions (preceding_of plan (length versions)) _)) l)

-- the preceding entry, where it is not the linked one, has its end changed and nothing else
pub link_preceding : (versions : List Version) (plan : Link)
    → preceding_of plan (length versions) < length versions
    → (preceding_of plan (length versions) ≡ plan.slot → ⊥)
    → entry_of (link_of versions plan) (preceding_of plan (length versions))
    ≡ ended_of (entry_of versions (preceding_of plan (length versions))) plan.position
link_preceding versions plan l f =
    put_other
    (end_at versions (preceding_of plan (length versions)) plan.position)
    plan.slot
    (preceding_of plan (length versions))
    _
    f
    ∙ put_here versions (preceding_of plan (length versions)) _ l

pub link_other : (versions : List Version) (plan : Link) (other : ℕ) → (other ≡ plan.slot → ⊥)
    → (other ≡ preceding_of plan (length versions) → ⊥)
    → entry_of (link_of versions plan) other ≡ entry_of versions other
link_other versions plan other f g =
    put_other (end_at versions (preceding_of plan (length versions)) plan.position) plan.slot other _ f
    ∙ put_other versions (preceding_of plan (length versions)) other _ g

-- ---- the table emptied
pub clear_length : (versions : List Version) (count : ℕ) → length (clear_of versions count) ≡ length versions
clear_length versions zero = refl
clear_length [] (suc count) = refl
clear_length (version ∷ versions) (suc count) = ap suc (clear_length versions count)

pub clear_below : (versions : List Version) (count slot : ℕ) → slot < count
    → entry_of (clear_of versions count) slot ≡ empty_entry
clear_below versions zero slot l = absurd (not-suc-le-zero l)
clear_below [] (suc count) slot l = refl
clear_below (version ∷ versions) (suc count) zero l = refl
clear_below (version ∷ versions) (suc count) (suc slot) l = clear_below versions count slot (le_of_suc-le-suc l)

pub clear_above : (versions : List Version) (count slot : ℕ) → count ≤ slot
    → entry_of (clear_of versions count) slot ≡ entry_of versions slot
clear_above versions zero slot l = refl
clear_above [] (suc count) slot l = refl
clear_above (version ∷ versions) (suc count) zero l = absurd (not-suc-le-zero l)
clear_above (version ∷ versions) (suc count) (suc slot) l = clear_above versions count slot (le_of_suc-le-suc l)
