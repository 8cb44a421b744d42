-- "Plausible designs that lose hours", each as a result that the contract of an advance rules out at a named moment of
-- the listing.
use Rattle.std.specs.Prelude.{ℕ, zero, suc, ◌+◌, ◌<◌, true, false, ◌&&◌, List, ◌≢◌, ◌≡◌, refl, get_or}
use Rattle.std.proofs.Common.{sym, ap, ◌∙◌, arith}
use Rattle.std.proofs.Math.Decide.{dec_lt}
use Rattle.terms.specs.Reserved.{no_slot, no_end}
use Rattle.counters.specs.declared.Outcome.TheVariants.{Aborted}
use Rattle.versions.specs.Chain.{walk_of}
use Rattle.versions.specs.Table.{entry_of}
use Rattle.versions.specs.declared.Version.{Version}
use Rattle.versions.specs.declared.chain.Walked.TheVariants.{Stored, Found}
use Rattle.engine.specs.Place.{position_of}
use Rattle.engine.specs.Range.{row_at, worker_at}
use Rattle.engine.specs.Rows.{row, is_complete}
use Rattle.engine.specs.Tables.{newest_of}
use Rattle.engine.specs.Workers.{is_idle}
use Rattle.engine.specs.declared.Answer.TheVariants.{Waits}
use Rattle.engine.specs.declared.Progress.TheVariants.{Unprocessed, Complete}
use Rattle.engine.specs.declared.Stepped.{Stepped}
use Rattle.instances.specs.Differences.{true_false, false_true, accepted_waits}
use Rattle.instances.specs.Listing.{log, after}
use Rattle.instances.specs.Moments.{waiting, reading_own, filling_last, AdvanceAt}
use Rattle.engine.specs.Running.{Engine, advance, offered}

-- ---- "The source's visibility test, begin ≤ t and end ≥ t: a reader of its own write finds its own placeholder and
-- waits for itself." Transaction 0 has position 1, reads record 0 and writes it.

-- its read does not wait, for any position
pub own_write_waits : (r : Stepped) (versions : List Version) (results : List ℕ) (t : ℕ)
    → r.answer ≡ Waits (record { 0 = t }) → AdvanceAt reading_own 0 r versions results → ⊥
unfolding after
own_write_waits r versions results t says met = accepted_waits (sym (ap (λ x. x.answer) met.0) ∙ says)

-- and its first value is that of the stored record
pub own_write_reads : (r : Stepped) (versions : List Version) (results : List ℕ)
    → AdvanceAt reading_own 0 r versions results → get_or (worker_at r.state 0).values 0 0 ≡ 10
unfolding after
own_write_reads r versions results met = ap (λ x. get_or (worker_at x.state 0).values 0 0) met.0

-- with begin < t the walk passes the transaction's own placeholder; with begin ≤ t, which is begin < t + 1, it finds
-- it, and it is not produced
pub own_write_seen :
    (walk_of reading_own.versions (newest_of reading_own.newest 0) 16 (position_of reading_own.state 0) ≡ Stored)
    × (walk_of reading_own.versions (newest_of reading_own.newest 0) 16 (position_of reading_own.state 0 + 1)
    ≡ Found (entry_of reading_own.versions 0))
    × ((entry_of reading_own.versions 0).begin ≡ position_of reading_own.state 0)
    × ((entry_of reading_own.versions 0).produced ≡ false)
unfolding after
own_write_seen = (refl, refl, refl, refl)

-- ---- "Keeping the transaction while it waits: all workers can wait for one that nobody may claim."

pub wait_keeps_worker : (r : Stepped) (versions : List Version) (results : List ℕ)
    → is_idle (worker_at r.state 1) ≡ false → AdvanceAt waiting 1 r versions results → ⊥
unfolding after
wait_keeps_worker r versions results keeps met =
    true_false (sym (ap (λ x. is_idle (worker_at x.state 1)) met.0) ∙ keeps)

pub wait_keeps_transaction : (r : Stepped) (versions : List Version) (results : List ℕ)
    → (row_at r.state 1).progress ≢ Unprocessed → AdvanceAt waiting 1 r versions results → ⊥
unfolding after
wait_keeps_transaction r versions results keeps met = keeps (ap (λ x. (row_at x.state 1).progress) met.0)

-- ---- "An aborted transaction leaving its placeholder unproduced, or removing it." Transaction 2, at position 3,
-- aborts; its two writes have the slots 8 and 9.

-- the engine after an advance of worker 0
abbrev advanced : Engine → Engine
advanced c = (offered log c (advance 0)).engine

-- the first five of its six advances do not complete it,
unfinished : (k : ℕ) → k < 5 → is_complete (row_at (advanced (after (22 + k))).state 2) ≡ false
unfolding after
unfinished zero within = refl
unfinished (suc zero) within = refl
unfinished (suc (suc zero)) within = refl
unfinished (suc (suc (suc zero))) within = refl
unfinished (suc (suc (suc (suc zero)))) within = refl
unfinished (suc (suc (suc (suc (suc k))))) within = absurd (omega arith)

-- and the last one fills the second entry
both_produced : ((entry_of (advanced filling_last).versions 8).produced
    && (entry_of (advanced filling_last).versions 9).produced) ≡ true
unfolding after
both_produced = refl

-- so none of the six leaves it Complete with one of the two unproduced
pub abort_leaves_unproduced : (k : ℕ) → k < 6 → (r : Stepped) (versions : List Version) (results : List ℕ)
    → is_complete (row_at r.state 2) ≡ true
    → ((entry_of versions 8).produced && (entry_of versions 9).produced) ≡ false
    → AdvanceAt (after (22 + k)) 0 r versions results → ⊥
unfolding offered
abort_leaves_unproduced k within r versions results complete unproduced met = go (dec_lt k 5)
  where
    last : k ≡ 5 → ⊥
    last is =
        let there : AdvanceAt filling_last 0 r versions results = rw is at met in
        true_false (sym both_produced
        ∙ sym (ap (λ t. (entry_of t 8).produced && (entry_of t 9).produced) there.1.0) ∙ unproduced)

    go : Dec (k < 5) → ⊥
    go (yes early) =
        false_true (sym (unfinished k early)
        ∙ sym (ap (λ z. is_complete (row_at z.state 2)) met.0) ∙ complete)
    go (no late) = last (omega arith)

-- after the last one it is Complete and aborted, and both entries stand in their chains, with what the preceding
-- versions hold: 15 of transaction 1's version of record 1, in slot 4, and 30 of the stored record 2
pub abort_removes_nothing : (r : Stepped) (versions : List Version) (results : List ℕ)
    → AdvanceAt filling_last 0 r versions results
    → (row_at r.state 2 ≡ row (Complete Aborted))
    × (entry_of versions 8 ≡ record { begin = 3; end = no_end; previous = 4; contents = 15; produced = true })
    × (entry_of versions 9 ≡ record { begin = 3; end = no_end; previous = no_slot; contents = 30; produced = true })
unfolding after
abort_removes_nothing r versions results met = (
  ap (λ x. row_at x.state 2) met.0,
  ap (λ t. entry_of t 8) met.1.0,
  ap (λ t. entry_of t 9) met.1.0,
)
