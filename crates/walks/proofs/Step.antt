-- A call as one step of a walk, at any callee: from the slice and its token at the head of the context to the same
-- after the call. c is the callee's contract; `to`, or x, is what its triple binds outside: where the slice is lent for
-- the lifetime ν under the name δ, or where there is one instance only. Said is what is known once the callee has
-- returned u, with zs for the slice's last elements. A step with `_last` is for a call that is the last statement of
-- its part, as of an arm or a turn. Assumes `Logic`.
use mathlib.Core.Path.{◌≡◌, ◌∙◌}
use Prim.Native.Nat.{ℕ}
use mathlib.Core.List.{List, [], ◌∷◌}
use lib.ListN.{length}
use seplogic.Ra.Ura.{Ura}
use base.Fraction.{full_share}
use mir.Syntax.{Callee, Opd as Operand, Place, Body, seq, call, named}
use mir.Val.{Val}
use base.Logic.{SProp, ent, sep, ex, guard, emp}
use base.Fml.{Lft, GName, Share, flft}
use prog.Wp.{Env, Calls, Loops}
use types.Logic.{Logic, sem}
use types.Kit.{
  Item,
  Post,
  Goal,
  Soaks,
  Seq,
  lands,
  runs,
  settles,
  ‵,
  raw,
  given,
  some,
  later,
  ◌⊛◌,
  ◌$◌,
  move,
  drop,
  use0,
  use1,
  use2,
  split,
  pick,
  learn,
  await,
}
use types.Run.{Opds}
use sound.WpLaws.{FmC}
use denote.RattleType.{RattleType, RowLaws}
use denote.Slice.{slice_val, Room, finally, shr_slice_copy}
use denote.Triple.Statement.{Contract, Triple}
use denote.Triple.Call.{calls_from, calls_from_last, calls_at, calls_at_last}
use Rattle.walks.proofs.Lent.{LentMut}
use Rattle.walks.proofs.Loans.{holds, sees, lend_mut, back_mut}

-- ---- as `&mut`
module _ {M : Type 1} {𝓤 : Ura M} (𝓛 : Logic 𝓤) (R : RattleType) (b o m : ℕ) (ys : List R.Denot)
    (c : Contract 𝓤) (to : ℕ → GName → c.Ghost) (Said : Val → List R.Denot → Type 0) where
  -- what the walk hands over meets the callee's `pre`
  open 𝓛 use {H, A}

  abbrev pub Goes : Type 1
  Goes = (ν : ℕ) (δ : GName) → ent 𝓤 (sep 𝓤 (A.lft (ν ∷ []) full_share) (sem 𝓛 (holds R b o m (ν ∷ []) δ ys)))
      (c.pre (to ν δ))

  -- what the walk has after the call
  abbrev pub After : ℕ → GName → Val → List R.Denot → SProp 𝓤
  After ν δ u zs = guard 𝓤 (Said u zs × (length zs ≡ length ys)) (sep 𝓤 (A.lft (ν ∷ []) full_share) (sem 𝓛
      (finally R δ zs)))

  -- the callee's `post` gives that
  abbrev pub Gives : Type 1
  Gives = (ν : ℕ) (δ : GName) (u : Val) → ent 𝓤 (c.post (to ν δ) u) (H.⇛ (ex 𝓤 (After ν δ u)))

  module _ {K : Type 0} {Γ : List (Item 𝓤)} (t : K) (κ : Lft) (q : Share) (γ : GName)
      (e : length ys ≡ m) (room : Room R m) where
    -- before the call
    lend : {G : Goal 𝓤 H} → Soaks G → Goes → ((ν : ℕ) (δ : GName)
        → Seq K 𝓛 (raw (c.pre (to ν δ)) ∷ ‵ (LentMut R κ q γ b o ys (ν ∷ []) δ) ∷ Γ) G)
        → Seq K 𝓛 (‵ (holds R b o m κ γ ys) ∷ ‵ (flft κ q) ∷ Γ) G
    lend s goes k = lend_mut 𝓛 R b o m ys e room t s κ q γ (λ ν δ. use2 𝓛 (raw (c.pre (to ν δ))) (goes ν δ) $
        k ν δ)

    -- after it
    back : {G : Goal 𝓤 H} → Soaks G → Gives → (ν : ℕ) (δ : GName) (u : Val) → ((zs : List R.Denot) → Said u zs
        → length zs ≡ m → Seq K 𝓛 (‵ (holds R b o m κ γ zs) ∷ ‵ (flft κ q) ∷ Γ) G)
        → Seq K 𝓛 (raw (c.post (to ν δ) u) ∷ ‵ (LentMut R κ q γ b o ys (ν ∷ []) δ) ∷ Γ) G
    back s gives ν δ u k =
        use1 𝓛 (later (some (λ (zs : List R.Denot). given (Said u zs × (length zs ≡ length ys)) (‵ (flft (ν ∷ [])
        full_share) ⊛ ‵ (finally R δ zs))))) (gives ν δ u) $ await t s $ pick t (λ zs. learn t (λ f. split t $
        back_mut 𝓛 R b o m ys e room t s κ q γ ν δ zs f.1 (k zs f.0 (f.1 ∙ e))))

    module _ {E : Env 𝓤 H} {C : Calls 𝓤 H} {Λ : Loops 𝓤 H} {Q : Post 𝓤 H} {f : Callee} {xs : List Operand} {d : Place}
        (fm : FmC 𝓤 H 𝓛.laws C) (known : Triple 𝓤 (C f) c) (goes : Goes) (gives : Gives)
        (os : (ν : ℕ) (δ : GName) → Opds K 𝓛 (raw (c.pre (to ν δ)) ∷ ‵ (LentMut R κ q γ b o ys (ν ∷ []) δ) ∷ Γ) E xs
        (c.args (to ν δ))) where
      -- the walk holds a `&mut [T]`, and the callee takes it as `&mut [T]`
      pub calls_mut : {rest : Body} → ((u : Val) (zs : List R.Denot) → Said u zs → length zs ≡ m
          → Seq K 𝓛 (‵ (holds R b o m κ γ zs) ∷ ‵ (flft κ q) ∷ Γ) (lands C Λ E d u rest Q))
          → Seq K 𝓛 (‵ (holds R b o m κ γ ys) ∷ ‵ (flft κ q) ∷ Γ) (runs C Λ E (seq (call f xs d) rest) Q)
      calls_mut k = lend tt goes (λ ν δ. calls_at t fm c known (to ν δ) (os ν δ) (λ u. back tt gives ν δ u (k u)))

      pub calls_mut_last : ((u : Val) (zs : List R.Denot) → Said u zs → length zs ≡ m
          → Seq K 𝓛 (‵ (holds R b o m κ γ zs) ∷ ‵ (flft κ q) ∷ Γ) (settles E d u Q))
          → Seq K 𝓛 (‵ (holds R b o m κ γ ys) ∷ ‵ (flft κ q) ∷ Γ) (runs C Λ E (call f xs d) Q)
      calls_mut_last k = lend tt goes (λ ν δ. calls_at_last t fm c known (to ν δ) (os ν δ) (λ u.
          back tt gives ν δ u (k u)))

-- ---- a copy of a `&[T]`, at the walk's own lifetime and share. By `RowLaws`, what a `&` to a T holds can be had twice
module _ {M : Type 1} {𝓤 : Ura M} (𝓛 : Logic 𝓤) (R : RattleType) (b o m : ℕ) (ys : List R.Denot)
    (κ : Lft) (q : Share) (c : Contract 𝓤) (x : c.Ghost) (Said : Val → Type 0) where
  -- what the walk hands over, its token and a copy, meets the callee's `pre`
  open 𝓛 use {H, A}

  abbrev pub CGoes : Type 1
  CGoes = ent 𝓤 (sep 𝓤 (A.lft κ q) (sem 𝓛 (sees R b o m κ ys))) (c.pre x)

  -- the callee's `post` gives the token back
  abbrev pub CGives : Type 1
  CGives = (u : Val) → ent 𝓤 (c.post x u) (H.⇛ (guard 𝓤 (Said u) (A.lft κ q)))

  module _ (L : RowLaws R) {K : Type 0} {Γ : List (Item 𝓤)} (t : K) {E : Env 𝓤 H} {C : Calls 𝓤 H} {Λ : Loops 𝓤 H}
      {Q : Post 𝓤 H} {f : Callee} {xs : List Operand} {d : Place} (fm : FmC 𝓤 H 𝓛.laws C) (known : ent 𝓤 (c.pre x)
      (C f (c.args x) (c.post x))) (goes : CGoes) (gives : CGives)
      (os : Opds K 𝓛 (raw (c.pre x) ∷ ‵ (sees R b o m κ ys) ∷ Γ) E xs (c.args x)) where
    -- the walk has a `&[T]`, and the callee takes a copy. The callee's triple is wanted at this one instance, so
    -- that the step serves a call within a recursion
    pub calls_copy : {rest : Body} → ((u : Val) → Said u → Seq K 𝓛 (‵ (sees R b o m κ ys) ∷ ‵ (flft κ q) ∷ Γ)
        (lands C Λ E d u rest Q))
        → Seq K 𝓛 (‵ (sees R b o m κ ys) ∷ ‵ (flft κ q) ∷ Γ) (runs C Λ E (seq (call f xs d) rest) Q)
    calls_copy k =
        use1 𝓛 (‵ (sees R b o m κ ys) ⊛ ‵ (sees R b o m κ ys)) ((shr_slice_copy 𝓛 (named 0) κ R L).twice
        (record { ref_ptr = (b, o); now = ys }) (slice_val (b, o) m ∷ [])) $ split t $
        move t (2 ∷ 0 ∷ []) $ use2 𝓛 (raw (c.pre x)) goes $
        calls_from t fm (raw (c.pre x)) (c.args x) (c.post x) known os (λ u.
        use1 𝓛 (later (given (Said u) (‵ (flft κ q)))) (gives u) $ await t tt $ learn t (λ s. move t (1 ∷ 0 ∷ []) $
        k u s))

    pub calls_copy_last : ((u : Val) → Said u → Seq K 𝓛 (‵ (sees R b o m κ ys) ∷ ‵ (flft κ q) ∷ Γ) (settles E d u Q))
        → Seq K 𝓛 (‵ (sees R b o m κ ys) ∷ ‵ (flft κ q) ∷ Γ) (runs C Λ E (call f xs d) Q)
    calls_copy_last k =
        use1 𝓛 (‵ (sees R b o m κ ys) ⊛ ‵ (sees R b o m κ ys)) ((shr_slice_copy 𝓛 (named 0) κ R L).twice
        (record { ref_ptr = (b, o); now = ys }) (slice_val (b, o) m ∷ [])) $ split t $
        move t (2 ∷ 0 ∷ []) $ use2 𝓛 (raw (c.pre x)) goes $
        calls_from_last t fm (raw (c.pre x)) (c.args x) (c.post x) known os (λ u.
        use1 𝓛 (later (given (Said u) (‵ (flft κ q)))) (gives u) $ await t tt $ learn t (λ s. move t (1 ∷ 0 ∷ []) $
        k u s))

-- ---- no reference
module _ {M : Type 1} {𝓤 : Ura M} (𝓛 : Logic 𝓤) (c : Contract 𝓤) (x : c.Ghost) (Said : Val → Type 0) where
  -- the callee's `pre` asks for nothing that the walk owns
  open 𝓛 use {H}

  abbrev pub PGoes : Type 1
  PGoes = ent 𝓤 (emp 𝓤) (c.pre x)

  -- and its `post` gives nothing but what is known
  abbrev pub PGives : Type 1
  PGives = (u : Val) → ent 𝓤 (c.post x u) (H.⇛ (guard 𝓤 (Said u) (emp 𝓤)))

  module _ {K : Type 0} {Γ : List (Item 𝓤)} (t : K) {E : Env 𝓤 H} {C : Calls 𝓤 H} {Λ : Loops 𝓤 H}
      {Q : Post 𝓤 H} {f : Callee} {xs : List Operand} {d : Place} (fm : FmC 𝓤 H 𝓛.laws C) (known : Triple 𝓤 (C f) c)
      (goes : PGoes) (gives : PGives)
      (os : Opds K 𝓛 (raw (c.pre x) ∷ Γ) E xs (c.args x)) where
    -- the callee takes no reference
    pub calls_plain : {rest : Body} → ((u : Val) → Said u → Seq K 𝓛 Γ (lands C Λ E d u rest Q))
        → Seq K 𝓛 Γ (runs C Λ E (seq (call f xs d) rest) Q)
    calls_plain k =
        use0 𝓛 (raw (c.pre x)) goes $ calls_at t fm c known x os (λ u.
        use1 𝓛 (later (given (Said u) (raw (emp 𝓤)))) (gives u) $ await t tt $ learn t (λ s. drop t $ k u s))

    pub calls_plain_last : ((u : Val) → Said u → Seq K 𝓛 Γ (settles E d u Q)) → Seq K 𝓛 Γ (runs C Λ E (call f xs d) Q)
    calls_plain_last k =
        use0 𝓛 (raw (c.pre x)) goes $ calls_at_last t fm c known x os (λ u.
        use1 𝓛 (later (given (Said u) (raw (emp 𝓤)))) (gives u) $ await t tt $ learn t (λ s. drop t $ k u s))
