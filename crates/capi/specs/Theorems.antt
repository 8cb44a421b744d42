-- "State and all tables keep their contents": a run that answers with a refusal number changes none of the caller's
-- arrays.
use Rattle.std.specs.Prelude.{ℕ, Bool, true, false, cond, List, ◌≡◌, refl, eqb, length, replicate, Ok, Err}
use Rattle.std.proofs.Common.{ap, sym, ne_eqb}
use Rattle.terms.specs.Refusals.{verdict_number, number_of, Verdict}
use Rattle.versions.specs.Entry.{empty_entry}
use Rattle.versions.specs.declared.Version.{Version}
use Rattle.engine.specs.Answers.{answer_number}
use Rattle.engine.specs.Make.{make_of}
use Rattle.engine.specs.Open.{open_verdict, opened_by, open_of}
use Rattle.engine.specs.declared.Made.{Made}
use Rattle.engine.specs.declared.State.{State}
use Rattle.desk.specs.Counts.{begun}
use Rattle.desk.specs.Offer.{Session, session_of}
use Rattle.capi.specs.LawsRunning.{other, none_offered}
use Rattle.capi.specs.Lent.{wrong_lent, slots_of}
use Rattle.capi.specs.Running.{Returned, returned_by, after_opened, made_ran, keeps, after_making, ran_of}

abbrev pub Kept : Returned → List ℕ → List ℕ → List ℕ → List ℕ → Type 0
Kept x records results outcomes counts =
    (x.records ≡ records) × ((x.results ≡ results) × ((x.outcomes ≡ outcomes) × (x.counts ≡ counts)))

module _ (log steps records results outcomes counts : List ℕ) where
  after_opening_lem : (v : Verdict) (s : State) (newest : List ℕ) (versions : List Version)
      → (answer_number (opened_by v s log newest versions results).stepped.answer ≡ 0 → ⊥)
      → Kept (returned_by (answer_number (opened_by v s log newest versions results).stepped.answer)
      (after_opened (opened_by v s log newest versions results) log steps records) outcomes counts) records results
      outcomes counts
  after_opening_lem (Ok _) s newest versions some = absurd (some refl)
  after_opening_lem (Err why) s newest versions some =
      let same = none_offered steps log (session_of (begun s) records newest versions results) in (
        ap (λ (z : Session). z.records) same,
        (
          ap (λ (z : Session). z.results) same,
          (
            sym (other (List ℕ) _ _ outcomes (ne_eqb (number_of why.refusal) 0 some)),
            sym (other (List ℕ) _ _ counts (ne_eqb (number_of why.refusal) 0 some)),
          ),
        ),
      )

  after_making_lem : (s : State) → ((made_ran s log steps records results outcomes counts).number ≡ 0 → ⊥)
      → Kept (made_ran s log steps records results outcomes counts) records results outcomes counts
  unfolding open_of
  after_making_lem s =
      after_opening_lem
      (open_verdict s log (length (slots_of (length records))) (length (replicate 256 empty_entry)) (length results)) s
      (slots_of (length records)) (replicate 256 empty_entry)

  made_or_not : (made : Made) → ((after_making made log steps records results outcomes counts).number ≡ 0 → ⊥)
      → Kept (after_making made log steps records results outcomes counts) records results outcomes counts
  made_or_not made = go (eqb (verdict_number made.verdict) 0)
    where
      go : (test : Bool)
          → ((cond test (made_ran made.state log steps records results outcomes counts)
          (keeps (verdict_number made.verdict) records results outcomes counts)).number ≡ 0 → ⊥)
          → Kept (cond test (made_ran made.state log steps records results outcomes counts)
          (keeps (verdict_number made.verdict) records results outcomes counts)) records results outcomes counts
      go true some = after_making_lem made.state some
      go false some = (refl, (refl, (refl, refl)))

  pub refused_keeps : (p w first : ℕ) → ((ran_of p w first log steps records results outcomes counts).number ≡ 0 → ⊥)
      → Kept (ran_of p w first log steps records results outcomes counts) records results outcomes counts
  refused_keeps p w first = go (wrong_lent (length results) (length outcomes) (length counts))
    where
      made : Made
      made = make_of (length records) p w first

      go : (test : Bool)
          → ((cond test (keeps 1 records results outcomes counts)
          (after_making made log steps records results outcomes counts)).number ≡ 0 → ⊥)
          → Kept (cond test (keeps 1 records results outcomes counts)
          (after_making made log steps records results outcomes counts)) records results outcomes counts
      go true some = (refl, (refl, (refl, refl)))
      go false some = made_or_not made some
