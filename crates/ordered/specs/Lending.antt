-- The records are lent for advances and for the seal, not for the opening. Where there are not N of them, no seal is
-- accepted.
use Rattle.std.specs.Prelude.{ℕ, Bool, true, false, not, ◌≡◌, refl, List, [], ◌∷◌, length}
use Rattle.std.specs.Prelude.{Option, Some, None, Result, Ok, Err}
use Rattle.std.proofs.Common.{◌∙◌, ne_eqb}
use Rattle.terms.specs.declared.refusal.Refusal.TheVariants.{WrongMoment, NoSuchParty, WorkerBusyOrIdle}
use Rattle.terms.specs.declared.refusal.Refusal.TheVariants.{NotUnprocessed, StateOutOfRange}
use Rattle.versions.specs.declared.Version.{Version}
use Rattle.engine.specs.Advance.{advance_verdict, move_of, with_left, carried_out, advanced_when, advance_of}
use Rattle.engine.specs.Answers.{accept, is_refused, refuse_if}
use Rattle.engine.specs.Claim.{no_such_claim, after_claim, claim_of}
use Rattle.engine.specs.Moment.{not_running}
use Rattle.engine.specs.Place.{place_verdict, placed_when, place_of}
use Rattle.engine.specs.Range.{row_at, worker_at, out_of_range}
use Rattle.engine.specs.Rows.{is_unprocessed}
use Rattle.engine.specs.Seal.{seal_verdict, seal_of}
use Rattle.engine.specs.Workers.{is_idle}
use Rattle.engine.specs.declared.Row.{Row}
use Rattle.engine.specs.declared.State.{State}
use Rattle.engine.specs.declared.Stepped.{Stepped}
use Rattle.engine.specs.declared.moves.Move.{Move}
use Rattle.terms.specs.declared.refusal.Refused.{Refused}
use Rattle.ordered.specs.Keeping.{refused_keeps}
use Rattle.engine.specs.Running.{Engine, Offer, place, claim, advance, seal, offered, seal_accepted}
use Rattle.terms.specs.Refusals.{Verdict}

-- no call changes N
place_count : (s : State) (p : ℕ) (log : List ℕ) (newest : List ℕ) (versions : List Version)
    → (place_of s p log newest versions).stepped.state.records ≡ s.records
unfolding place_of
place_count s p log newest versions = go (place_verdict s p log newest (length versions))
  where
    go : (verdict : Verdict)
        → (placed_when verdict s p log (record { newest = newest; versions = versions })).stepped.state.records
        ≡ s.records
    go (Ok tt) = refl
    go (Err why) = refl

claim_count : (s : State) (w i : ℕ) → (claim_of s w i).state.records ≡ s.records
unfolding claim_of
claim_count s w i =
    go (out_of_range s) (not_running s) (no_such_claim s w i) (not (is_idle (worker_at s w)))
    (not (is_unprocessed (row_at s i)))
  where
    chain : Bool → Bool → Bool → Bool → Bool → Stepped
    chain far moment party busy taken =
        refuse_if s far StateOutOfRange
        (refuse_if s moment WrongMoment
        (refuse_if s party NoSuchParty
        (refuse_if s busy WorkerBusyOrIdle (refuse_if s taken NotUnprocessed (accept (after_claim s w i))))))

    go : (far moment party busy taken : Bool) → (chain far moment party busy taken).state.records ≡ s.records
    go true moment party busy taken = refl
    go false true party busy taken = refl
    go false false true busy taken = refl
    go false false false true taken = refl
    go false false false false true = refl
    go false false false false false = refl

advance_count : (s : State) (w : ℕ) (log records newest : List ℕ) (versions : List Version) (results : List ℕ)
    → (advance_of s w log records newest versions results).stepped.state.records ≡ s.records
unfolding advance_of
advance_count s w log records newest versions results =
    go (advance_verdict s w log (length records) (length newest) (length versions) (length results))
  where
    left : (row : Option Row) (i : ℕ) → (with_left s i row).records ≡ s.records
    left None i = refl
    left (Some row) i = refl

    carried : (move : Result Move Refused) (i : ℕ)
        → (carried_out move s w i versions results).stepped.state.records ≡ s.records
    carried (Ok move) i = left move.left i
    carried (Err why) i = refl

    go : (verdict : Verdict)
        → (advanced_when verdict s w log records newest versions results).stepped.state.records ≡ s.records
    go (Err why) = refl
    go (Ok tt) = carried (move_of s (worker_at s w) log records newest versions) (worker_at s w).transaction

-- a seal that is lent another number of records is refused, by 1
seal_wrong : (s : State) (records newest : List ℕ) (versions : List Version) → (length records ≡ s.records → ⊥)
    → is_refused (seal_of s records newest versions).stepped.answer ≡ true
unfolding seal_of seal_verdict
seal_wrong s records newest versions other = rw (ne_eqb (length records) s.records other)

-- so none is accepted, whatever is offered
pub no_seal : (log : List ℕ) (e : Engine) → (length e.records ≡ e.state.records → ⊥) → (offers : List Offer)
    → seal_accepted log e offers ≡ false
unfolding seal_accepted offered
no_seal log e other [] = refl
no_seal log e other (place p ∷ offers) =
    no_seal log (offered log e (place p)).engine
    (λ same. other (same ∙ place_count e.state p log e.newest e.versions)) offers
no_seal log e other (claim w i ∷ offers) =
    no_seal log (offered log e (claim w i)).engine (λ same. other (same ∙ claim_count e.state w i)) offers
no_seal log e other (advance w ∷ offers) =
    no_seal log (offered log e (advance w)).engine
    (λ same.
    other (same ∙ advance_count e.state w log e.records e.newest e.versions e.results)) offers
no_seal log e other (seal ∷ offers) =
    let refused = seal_wrong e.state e.records e.newest e.versions other in
    rw (refused, refused_keeps log e seal refused) (no_seal log e other offers)
