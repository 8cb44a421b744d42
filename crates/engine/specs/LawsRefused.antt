-- Laws of refusing.
use Rattle.std.specs.Prelude.{ℕ, true, false, List, Option, Some, None, Result, Ok, Err, ◌≡◌, refl}
use Rattle.std.proofs.Common.{arith}
use Rattle.terms.specs.declared.position.Position.{Position}
use Rattle.terms.specs.declared.refusal.Refused.{Refused}
use Rattle.versions.specs.declared.Version.{Version}
use Rattle.engine.specs.Advance.{answer_of, carried_out}
use Rattle.engine.specs.Answers.{is_refused}
use Rattle.engine.specs.declared.State.{State}
use Rattle.engine.specs.declared.moves.Move.{Move}

-- what is not so
pub never : {A : Type 0} → false ≡ true → A
never h =
    let clash : ◌≡◌ {A = ℕ} 0 1 = cc in
    absurd (omega arith)

-- "A wait is an accepted step."
none_refused : {A : Type 0} (waits : Option Position) → is_refused (answer_of waits) ≡ true → A
none_refused None refused = never refused
none_refused (Some position) refused = never refused

-- a move that is refused changes nothing
pub refused_keeps : (move : Result Move Refused) (s : State) (w i : ℕ) (versions : List Version) (results : List ℕ)
    → is_refused (carried_out move s w i versions results).stepped.answer ≡ true
    → ((carried_out move s w i versions results).stepped.state ≡ s)
    × ((carried_out move s w i versions results).versions ≡ versions)
    × ((carried_out move s w i versions results).results ≡ results)
refused_keeps (Ok move) s w i versions results = none_refused move.waits
refused_keeps (Err why) s w i versions results = λ refused. (refl, refl, refl)
