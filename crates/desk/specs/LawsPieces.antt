-- Steps that are offered piece by piece: a piece of whole steps, and then the rest, are all of them.
use Rattle.std.specs.Prelude.{ℕ, zero, suc, ◌+◌, ◌*◌, ◌/◌, ◌<◌, ◌≤◌, Bool, true, false}
use Rattle.std.specs.Prelude.{cond, List, [], ◌∷◌, ◌++◌, ◌≡◌, refl, ltb, length, get_or}
use Rattle.std.proofs.Common.{ap, sym, ◌∙◌, add-zero, add-suc, arith, length-append, get_or-append-add}
use Rattle.std.proofs.Math.ListN.{get_or-append}
use Rattle.little.specs.Little.{number_in}
use Rattle.desk.specs.Offer.{Session, offer_of, offers_of, run_of}
use Rattle.desk.specs.Steps.{step_at, whole_steps}
use Rattle.desk.specs.declared.Step.{Step}

-- a step from its four bytes
abbrev step_of : ℕ → ℕ → ℕ → ℕ → Step
step_of kind party low high = record { kind = kind; party = party; transaction = number_in (low ∷ high ∷ []) }

four : (k l m n o p q r : ℕ) → k ≡ l → m ≡ n → o ≡ p → q ≡ r → step_of k m o q ≡ step_of l n p r
four k l m n o p q r one two three last = rw (one, two, three, last)

all_steps : (size : ℕ) → whole_steps size size ≡ size / 4
all_steps size = go (ltb size size)
  where
    go : (test : Bool) → cond test (size / 4) (size / 4) ≡ size / 4
    go true = refl
    go false = refl

module _ (piece rest : List ℕ) (count : ℕ) (whole : length piece ≡ 4 * count) where
  -- a byte of the piece, and one of the rest
  early : (i : ℕ) → i < length piece → get_or (piece ++ rest) i 0 ≡ get_or piece i 0
  early i within = get_or-append piece rest 0 i within

  late : (i j : ℕ) → i ≡ length piece + j → get_or (piece ++ rest) i 0 ≡ get_or rest j 0
  late i j place = ap (λ k. get_or (piece ++ rest) k 0) place ∙ get_or-append-add piece rest j 0

  early_step : (k : ℕ) → k < count → step_at (piece ++ rest) k ≡ step_at piece k
  early_step k within =
      four _ _ _ _ _ _ _ _
      (early (4 * k) (omega (arith, whole, within)))
      (early (4 * k + 1) (omega (arith, whole, within)))
      (early (4 * k + 2) (omega (arith, whole, within)))
      (early (4 * k + 3) (omega (arith, whole, within)))

  late_step : (k : ℕ) → step_at (piece ++ rest) (count + k) ≡ step_at rest k
  late_step k =
      four _ _ _ _ _ _ _ _
      (late (4 * (count + k)) (4 * k) (omega (arith, whole)))
      (late (4 * (count + k) + 1) (4 * k + 1) (omega (arith, whole)))
      (late (4 * (count + k) + 2) (4 * k + 2) (omega (arith, whole)))
      (late (4 * (count + k) + 3) (4 * k + 3) (omega (arith, whole)))

  module _ (log : List ℕ) (s : Session) where
    early_offers : (k : ℕ) → k ≤ count → offers_of (piece ++ rest) log s k ≡ offers_of piece log s k
    early_offers zero within = refl
    early_offers (suc k) within =
        ap (λ step. offer_of step log (offers_of (piece ++ rest) log s k)) (early_step k (omega (arith, within)))
        ∙ ap (offer_of (step_at piece k) log) (early_offers k (omega (arith, within)))

    late_offers : (k : ℕ)
        → offers_of (piece ++ rest) log s (count + k) ≡ offers_of rest log (offers_of piece log s count) k
    late_offers zero =
        ap (offers_of (piece ++ rest) log s) (add-zero count) ∙ early_offers count (omega arith)
    late_offers (suc k) =
        ap (offers_of (piece ++ rest) log s) (add-suc count k)
        ∙ (ap (λ step. offer_of step log (offers_of (piece ++ rest) log s (count + k))) (late_step k)
        ∙ ap (offer_of (step_at rest k) log) (late_offers k))

    -- "steps.bin" in two parts, the first of whole steps
    pub piece_and_rest : run_of (piece ++ rest) (length (piece ++ rest)) log s
        ≡ run_of rest (length rest) log (run_of piece (length piece) log s)
    piece_and_rest =
        let all : whole_steps (length (piece ++ rest)) (length (piece ++ rest)) ≡ count + length rest / 4 =
        all_steps (length (piece ++ rest)) ∙ omega (arith, whole, length-append piece rest) in
        let first : whole_steps (length piece) (length piece) ≡ count =
        all_steps (length piece) ∙ omega (arith, whole) in
        ap (offers_of (piece ++ rest) log s) all
        ∙ (late_offers (length rest / 4)
        ∙ (ap (λ k. offers_of rest log (offers_of piece log s k) (length rest / 4)) (sym first)
        ∙ ap (offers_of rest log (run_of piece (length piece) log s)) (sym (all_steps (length rest)))))
