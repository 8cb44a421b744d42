-- Two more of document 01's impostors: one that runs the whole batch at its first step and then pretends, and one whose
-- step or wait numbers are invented. That a later step which changes nothing is no answer is said in `Impostors`
-- (`place_idle_later`, `claim_idle`, `advance_idle`, `seal_idle`).
use Rattle.std.specs.Prelude.{ℕ, zero, suc, Bool, true, false, cond, List, [], Ok, Err}
use Rattle.std.specs.Prelude.{◌∷◌, map, ◌≢◌, ◌≡◌, refl, length, get_or, replicate}
use Rattle.std.proofs.Common.{sym, ap, ◌∙◌}
use Rattle.terms.specs.declared.refusal.Place.{Place}
use Rattle.terms.specs.declared.refusal.Refusal.{Refusal}
use Rattle.packed.specs.declared.Transaction.{Transaction}
use Rattle.versions.specs.Entry.{empty_entry, linked_of, ended_of}
use Rattle.versions.specs.Step.{preceding_of, end_at, link_of}
use Rattle.versions.specs.Table.{entry_of, put_of}
use Rattle.versions.specs.declared.Version.{Version}
use Rattle.versions.specs.declared.plan.Link.{Link}
use Rattle.engine.specs.Met.{PlaceMet, AdvanceMet, SealMet}
use Rattle.engine.specs.Claim.{claim_of}
use Rattle.engine.specs.Place.{Plans, place_verdict, placed_when, place_below}
use Rattle.engine.specs.Place.{place_write, place_of, written_in, slot_of}
use Rattle.engine.specs.Place.{position_of, write_of, meaning_at}
use Rattle.engine.specs.Range.{placed_by, row_at}
use Rattle.engine.specs.Rows.{row, is_complete}
use Rattle.engine.specs.Tables.{newest_of}
use Rattle.engine.specs.declared.Answer.TheVariants.{Accepted, Waits, Refused}
use Rattle.engine.specs.declared.Progress.TheVariants.{Unprocessed}
use Rattle.engine.specs.declared.State.{State}
use Rattle.engine.specs.declared.Stepped.{Stepped}
use Rattle.instances.specs.Differences.{false_true, accepted_waits, waits_refused, waits_same}
use Rattle.instances.specs.Listing.{log, opened, steps, after, run, run_counts}
use Rattle.instances.specs.Moments.{waiting, PlaceAt, AdvanceAt}
use Rattle.engine.specs.Running.{Offer, place, claim, advance, seal, Engine, Turn, offered}
use Rattle.instances.specs.Steps.{played}
use Rattle.instances.specs.Steps.{refused_in, waits_in}
use Rattle.terms.specs.Refusals.{Verdict}

-- ---- one that runs the whole batch at its first step

-- a place, at any input, leaves every transaction and every worker as it was
pub place_keeps_rows : (s : State) (p : ℕ) (bytes newest : List ℕ) (versions : List Version)
    (r : Stepped) (newest_exit : List ℕ) (versions_exit : List Version)
    → PlaceMet s p bytes newest versions r newest_exit versions_exit
    → (r.state.rows ≡ s.rows) × (r.state.crew ≡ s.crew)
unfolding place_of
place_keeps_rows s p bytes newest versions r newest_exit versions_exit met =
    rw met.0 (go (place_verdict s p bytes newest (length versions)))
  where
    go : (v : Verdict)
        → ((placed_when v s p bytes (record { newest = newest; versions = versions })).stepped.state.rows ≡ s.rows)
        × ((placed_when v s p bytes (record { newest = newest; versions = versions })).stepped.state.crew ≡ s.crew)
    go (Ok tt) = (refl, refl)
    go (Err why) = (refl, refl)

-- an entry put in a table is marked only if the entry that it takes the place of was: then nothing more is marked
put_marks : (versions : List Version) (slot : ℕ) (version : Version) (other : ℕ)
    → (version.produced ≡ true → (entry_of versions slot).produced ≡ true)
    → (entry_of (put_of versions slot version) other).produced ≡ true → (entry_of versions other).produced ≡ true
put_marks [] slot version other no_more marked = marked
put_marks (first ∷ versions) zero version zero no_more marked = no_more marked
put_marks (first ∷ versions) zero version (suc other) no_more marked = marked
put_marks (first ∷ versions) (suc slot) version zero no_more marked = marked
put_marks (first ∷ versions) (suc slot) version (suc other) no_more marked =
    put_marks versions slot version other no_more marked

link_marks : (versions : List Version) (link : Link) (other : ℕ)
    → (entry_of (link_of versions link) other).produced ≡ true → (entry_of versions other).produced ≡ true
link_marks versions link other marked =
    let preceding = preceding_of link (length versions) in
    let ended = end_at versions preceding link.position in
    put_marks versions preceding (ended_of (entry_of versions preceding) link.position) other (λ was. was)
    (put_marks ended link.slot (linked_of (entry_of ended link.slot) link.position link.previous) other
    (λ never. absurd (false_true never)) marked)

below_marks : (j : ℕ) (s : State) (p i : ℕ) (t : Transaction) (plans : Plans) (other : ℕ)
    → (entry_of (place_below j s p i t plans).versions other).produced ≡ true
    → (entry_of plans.versions other).produced ≡ true
below_marks zero s p i t plans other marked = marked
below_marks (suc j) s p i t plans other marked =
    below_marks j s p i t plans other (go (written_in s.partitions p t j) (place_below j s p i t plans) marked)
  where
    go : (written : Bool) (so_far : Plans)
        → (entry_of (cond written (place_write (position_of s i) (slot_of i j) (write_of t j) so_far) so_far).versions
        other
        ).produced ≡ true
        → (entry_of so_far.versions other).produced ≡ true
    go true so_far then =
        link_marks so_far.versions
        (record { slot = slot_of i j; position = position_of s i; previous = newest_of so_far.newest (write_of t j) })
        other
        then
    go false so_far then = then

-- a place, at any input, leaves no entry produced that was not
pub place_produces_nothing : (s : State) (p : ℕ) (bytes newest : List ℕ) (versions : List Version)
    (r : Stepped) (newest_exit : List ℕ) (versions_exit : List Version)
    → PlaceMet s p bytes newest versions r newest_exit versions_exit → (slot : ℕ)
    → (entry_of versions_exit slot).produced ≡ true → (entry_of versions slot).produced ≡ true
unfolding place_of
place_produces_nothing s p bytes newest versions r newest_exit versions_exit met slot marked =
    go (place_verdict s p bytes newest (length versions)) (rw met.1.1 at marked)
  where
    go : (v : Verdict)
        → (entry_of (placed_when v s p bytes (record { newest = newest; versions = versions })).plans.versions slot
        ).produced ≡ true
        → (entry_of versions slot).produced ≡ true
    go (Ok tt) then =
        below_marks 4 s p (placed_by s p) (meaning_at s bytes (placed_by s p))
        (record { newest = newest; versions = versions }) slot then
    go (Err why) then = then

-- every entry of a list of the same is that
same_everywhere : {A : Type 0} (count i : ℕ) (x : A) → get_or (replicate count x) i x ≡ x
same_everywhere zero i x = refl
same_everywhere (suc count) zero x = refl
same_everywhere (suc count) (suc i) x = same_everywhere count i x

-- so at the listing's first step no result with a transaction Complete, or with an entry produced, is an answer
pub first_completes_nothing : (r : Stepped) (newest : List ℕ) (versions : List Version) (i : ℕ)
    → is_complete (row_at r.state i) ≡ true → PlaceAt opened 0 r newest versions → ⊥
unfolding after
first_completes_nothing r newest versions i complete met =
    let as_opened : r.state.rows ≡ replicate 64 (row Unprocessed) =
    (place_keeps_rows opened.state 0 log opened.newest opened.versions r newest versions met).0 in
    let unprocessed : row_at r.state i ≡ row Unprocessed =
    ap (λ rows. get_or rows i (row Unprocessed)) as_opened ∙ same_everywhere 64 i (row Unprocessed) in
    false_true (sym (ap is_complete unprocessed) ∙ complete)

pub first_produces_nothing : (r : Stepped) (newest : List ℕ) (versions : List Version) (slot : ℕ)
    → (entry_of versions slot).produced ≡ true → PlaceAt opened 0 r newest versions → ⊥
unfolding after
first_produces_nothing r newest versions slot marked met =
    let was : (entry_of (replicate 256 empty_entry) slot).produced ≡ true =
    place_produces_nothing opened.state 0 log opened.newest opened.versions r newest versions met slot
    marked in
    false_true (sym (ap (λ entry. entry.produced) (same_everywhere 256 slot empty_entry)) ∙ was)

-- ---- one whose step or wait numbers are invented

-- at the listing's wait the answer is that it waits for 1
pub waits_for_one : (r : Stepped) (versions : List Version) (results : List ℕ) → AdvanceAt waiting 1 r versions results
    → r.answer ≡ Waits (record { 0 = 1 })
unfolding after
waits_for_one r versions results met = ap (λ x. x.answer) met.0

-- so it is no other wait, no step done and no refusal
pub wait_invented : (r : Stepped) (versions : List Version) (results : List ℕ) (t : ℕ) → t ≢ 1
    → r.answer ≡ Waits (record { 0 = t }) → AdvanceAt waiting 1 r versions results → ⊥
wait_invented r versions results t other says met =
    other (waits_same (sym says ∙ waits_for_one r versions results met))

pub wait_hidden : (r : Stepped) (versions : List Version) (results : List ℕ) → r.answer ≡ Accepted
    → AdvanceAt waiting 1 r versions results → ⊥
wait_hidden r versions results says met = accepted_waits (sym says ∙ waits_for_one r versions results met)

pub wait_refused : (r : Stepped) (versions : List Version) (results : List ℕ) (refusal : Refusal) (at : Place)
    → r.answer ≡ Refused refusal at → AdvanceAt waiting 1 r versions results → ⊥
wait_refused r versions results refusal at says met =
    waits_refused (sym (waits_for_one r versions results met) ∙ says)

-- a reply that meets the contract of the call; a table that the call is not lent to write stays
abbrev pub stepped_in : Turn → Stepped
stepped_in reply = record { answer = reply.answer; state = reply.engine.state }

abbrev pub Meets : List ℕ → Offer → Engine → Turn → Type 0
Meets bytes (place p) c reply =
    PlaceMet c.state p bytes c.newest c.versions
    (stepped_in reply) reply.engine.newest reply.engine.versions
    × ((reply.engine.records ≡ c.records) × (reply.engine.results ≡ c.results))
Meets bytes (claim w i) c reply =
    (stepped_in reply ≡ claim_of c.state w i)
    × ((reply.engine.records ≡ c.records)
    × ((reply.engine.newest ≡ c.newest)
    × ((reply.engine.versions ≡ c.versions) × (reply.engine.results ≡ c.results))))
Meets bytes (advance w) c reply =
    AdvanceMet c.state w bytes c.records c.newest c.versions c.results
    (stepped_in reply) reply.engine.versions reply.engine.results
    × ((reply.engine.records ≡ c.records) × (reply.engine.newest ≡ c.newest))
Meets bytes seal c reply =
    SealMet c.state c.records c.newest c.versions
    (stepped_in reply) reply.engine.records reply.engine.newest reply.engine.versions
    × (reply.engine.results ≡ c.results)

-- the definitions' own replies do
pub offered_meets : (bytes : List ℕ) (step : Offer) (c : Engine) → Meets bytes step c (offered bytes c step)
unfolding offered
offered_meets bytes (place p) c = ((refl, (refl, refl)), (refl, refl))
offered_meets bytes (claim w i) c = (refl, (refl, (refl, (refl, refl))))
offered_meets bytes (advance w) c = ((refl, (refl, refl)), (refl, refl))
offered_meets bytes seal c = ((refl, (refl, (refl, refl))), refl)

-- replies to a list of steps, each in the engine that the reply before it left
abbrev pub AllMeet : List ℕ → List Offer → Engine → List Turn → Type 0
AllMeet bytes [] c [] = Unit {0}
AllMeet bytes [] c (reply ∷ replies) = ⊥
AllMeet bytes (step ∷ offers) c [] = ⊥
AllMeet bytes (step ∷ offers) c (reply ∷ replies) = Meets bytes step c reply × AllMeet bytes offers reply.engine
    replies

abbrev built : Stepped → List ℕ → List ℕ → List Version → List ℕ → Turn
built stepped records newest versions results =
    record {
      answer = stepped.answer;
      engine =
          record {
            state = stepped.state;
            records = records;
            newest = newest;
            versions = versions;
            results = results;
          };
    }

built_same : {a b : Stepped} {records other_records newest other_newest : List ℕ}
    {versions other_versions : List Version} {results other_results : List ℕ} → a ≡ b → records ≡ other_records
    → newest ≡ other_newest
    → versions ≡ other_versions → results ≡ other_results
    → built a records newest versions results ≡ built b other_records other_newest other_versions other_results
built_same stepped records newest versions results = cc

-- such a reply is the one that the definitions give
pub reply_determined : (bytes : List ℕ) (step : Offer) (c : Engine) (reply : Turn) → Meets bytes step c reply
    → reply ≡ offered bytes c step
unfolding offered
reply_determined bytes (place p) c reply met =
    built_same met.0.0 met.1.0 met.0.1.0 met.0.1.1 met.1.1
reply_determined bytes (claim w i) c reply met =
    built_same met.0 met.1.0 met.1.1.0 met.1.1.1.0 met.1.1.1.1
reply_determined bytes (advance w) c reply met =
    built_same met.0.0 met.1.0 met.1.1 met.0.1.0 met.0.1.1
reply_determined bytes seal c reply met =
    built_same met.0.0 met.0.1.0 met.0.1.1.0 met.0.1.1.1 met.1

pub answers_determined : (bytes : List ℕ) (steps : List Offer) (c : Engine) (replies : List Turn)
    → AllMeet bytes steps c replies → map (λ reply. reply.answer) replies ≡ (played bytes steps c).answers
unfolding played
answers_determined bytes [] c [] met = refl
answers_determined bytes (step ∷ offers) c (reply ∷ replies) met =
    let first = reply_determined bytes step c reply met.0 in
    let rest = answers_determined bytes offers reply.engine replies met.1 in
    ap (λ answers. reply.answer ∷ answers) rest
    ∙ ap (λ r. r.answer ∷ (played bytes offers r.engine).answers) first
answers_determined bytes [] c (reply ∷ replies) met = elim met [ ]
answers_determined bytes (step ∷ offers) c [] met = elim met [ ]

-- "the listing's counts are those of answers demand 2 determines": whoever meets the contracts at each of the 29 steps
-- gives these answers
pub listing_determined : (replies : List Turn) → AllMeet log steps opened replies
    → (map (λ reply. reply.answer) replies ≡ run.answers)
    × (refused_in (map (λ reply. reply.answer) replies) ≡ 0)
    × (waits_in (map (λ reply. reply.answer) replies) ≡ 1 ∷ [])
unfolding run
listing_determined replies met =
    let same : map (λ reply. reply.answer) replies ≡ run.answers = answers_determined log steps opened replies met in
    (same, ap refused_in same ∙ run_counts.2, ap waits_in same ∙ run_counts.3)
