-- A function's locals and body, so that the walk of one writes out no type and no rest of the body.
use Prim.Native.Nat.{ℕ, zero, suc}
use mathlib.Core.List.{List, [], ◌∷◌}
use mir.Syntax.{
  Ty,
  ty_unit,
  Local,
  local,
  Body,
  skip,
  seq,
  assign,
  block,
  loop,
  cond,
  switch,
  exit,
  return,
  call,
  unreachable,
  call_v,
  lend_static,
}

-- the type of local k
abbrev pub ty_at : List Local → ℕ → Ty
ty_at [] k = ty_unit
ty_at (local τ h ∷ ls) zero = τ
ty_at (local τ h ∷ ls) (suc k) = ty_at ls k

-- the environment with the locals at the blocks bs
abbrev pub env_of : List Local → List ℕ → List (Ty × ℕ)
env_of [] bs = []
env_of (l ∷ ls) [] = []
env_of (local τ h ∷ ls) (b ∷ bs) = (τ, b) ∷ env_of ls bs

-- what is left of a body after its first n statements
abbrev pub after : ℕ → Body → Body
after zero b = b
after (suc n) skip = skip
after (suc n) (seq a b) = after n b
after (suc n) (assign p r) = skip
after (suc n) (block b) = skip
after (suc n) (loop b) = skip
after (suc n) (cond c a b) = skip
after (suc n) (switch c arms) = skip
after (suc n) (exit k) = skip
after (suc n) return = skip
after (suc n) (call f xs d) = skip
after (suc n) unreachable = skip
after (suc n) (call_v f σ xs d) = skip
after (suc n) (lend_static p τ c) = skip
