-- The engine with the tables that its caller lends, the steps that can be offered to it, and what becomes of it: all by
-- the engine's own definitions. Definitions only.
use Rattle.std.specs.Prelude.{ℕ, Bool, true, false, ◌&&◌, ◌||◌, not, List, [], ◌∷◌}
use Rattle.versions.specs.declared.Version.{Version}
use Rattle.engine.specs.Advance.{Advanced, advance_of}
use Rattle.engine.specs.Answers.{is_refused}
use Rattle.engine.specs.Claim.{claim_of}
use Rattle.engine.specs.Open.{Opened, open_of}
use Rattle.engine.specs.Place.{Placed, place_of}
use Rattle.engine.specs.Seal.{Sealed, seal_of}
use Rattle.engine.specs.declared.Answer.{Answer}
use Rattle.engine.specs.declared.State.{State}
use Rattle.engine.specs.declared.Stepped.{Stepped}

-- the state, which each call hands back, and "the records .., the newest-version table .., the version table .. and the
-- results table"
pub record Engine : Type 0 where
  pub state : State
  pub records : List ℕ
  pub newest : List ℕ
  pub versions : List Version
  pub results : List ℕ

-- what can be offered: a step, with any numbers
pub data Offer : Type 0 where
  place : ℕ → Offer
  claim : ℕ → ℕ → Offer
  advance : ℕ → Offer
  seal : Offer

-- an answer, and the engine after it
pub record Turn : Type 0 where
  pub answer : Answer
  pub engine : Engine

-- what each call hands back, in the tables' places; those that it is not lent stay
abbrev pub after_open : Engine → Opened → Turn
after_open e opened =
    record {
      answer = opened.stepped.answer;
      engine =
          record {
            state = opened.stepped.state;
            records = e.records;
            newest = opened.newest;
            versions = opened.versions;
            results = opened.results;
          };
    }

abbrev pub after_place : Engine → Placed → Turn
after_place e placed =
    record {
      answer = placed.stepped.answer;
      engine =
          record {
            state = placed.stepped.state;
            records = e.records;
            newest = placed.plans.newest;
            versions = placed.plans.versions;
            results = e.results;
          };
    }

abbrev pub after_claim : Engine → Stepped → Turn
after_claim e stepped =
    record {
      answer = stepped.answer;
      engine =
          record {
            state = stepped.state;
            records = e.records;
            newest = e.newest;
            versions = e.versions;
            results = e.results;
          };
    }

abbrev pub after_advance : Engine → Advanced → Turn
after_advance e advanced =
    record {
      answer = advanced.stepped.answer;
      engine =
          record {
            state = advanced.stepped.state;
            records = e.records;
            newest = e.newest;
            versions = advanced.versions;
            results = advanced.results;
          };
    }

abbrev pub after_seal : Engine → Sealed → Turn
after_seal e sealed =
    record {
      answer = sealed.stepped.answer;
      engine =
          record {
            state = sealed.stepped.state;
            records = sealed.records;
            newest = sealed.newest;
            versions = sealed.versions;
            results = e.results;
          };
    }

-- an answer that is not a refusal; "A wait is an accepted step."
abbrev pub is_accepted : Answer → Bool
is_accepted answer = not (is_refused answer)

module _ (log : List ℕ) where
  -- opening the log's batch
  unfoldable pub opening : Engine → Turn
  opening e = after_open e (open_of e.state log e.newest e.versions e.results)

  -- one offered step
  unfoldable pub offered : Engine → Offer → Turn
  offered e (place p) = after_place e (place_of e.state p log e.newest e.versions)
  offered e (claim w i) = after_claim e (claim_of e.state w i)
  offered e (advance w) =
      after_advance e (advance_of e.state w log e.records e.newest e.versions e.results)
  offered e seal = after_seal e (seal_of e.state e.records e.newest e.versions)

  -- any list of offered steps, refused ones among them
  unfoldable pub after_all : Engine → List Offer → Engine
  after_all e [] = e
  after_all e (offer ∷ offers) = after_all (offered e offer).engine offers

  -- whether a seal was accepted among them
  abbrev pub is_sealing : Offer → Answer → Bool
  is_sealing (place p) answer = false
  is_sealing (claim w i) answer = false
  is_sealing (advance w) answer = false
  is_sealing seal answer = is_accepted answer

  unfoldable pub seal_accepted : Engine → List Offer → Bool
  seal_accepted e [] = false
  seal_accepted e (offer ∷ offers) =
      is_sealing offer (offered e offer).answer || seal_accepted (offered e offer).engine offers

  -- whether every one of them is accepted
  unfoldable pub all_accepted : Engine → List Offer → Bool
  all_accepted e [] = true
  all_accepted e (offer ∷ offers) = is_accepted (offered e offer).answer && all_accepted (offered e offer).engine offers
