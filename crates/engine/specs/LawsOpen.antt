-- Laws of opening: the way that the code goes.
use Rattle.std.specs.Prelude.{ℕ, suc, ◌+◌, ◌-◌, ◌%◌, ◌/◌, ◌≤◌, ◌<◌, false}
use Rattle.std.specs.Prelude.{◌||◌, not, List, ◌≡◌, ltb, eqb, length, Result, Ok, Err}
use Rattle.std.proofs.Math.Path.{refl}
use Rattle.std.proofs.Common.{sym, ap, ◌∙◌, add-one, arith, ltb-false}
use Rattle.terms.specs.Refusals.{Verdict}
use Rattle.terms.specs.declared.refusal.Refused.{Refused}
use Rattle.packed.specs.LawsForm.{not_left, not_right}
use Rattle.packed.specs.Unpacking.{unpack_at_of}
use Rattle.versions.specs.Table.{clear_of}
use Rattle.versions.specs.declared.Version.{Version}
use Rattle.engine.specs.Answers.{accept, refuse_by, and_then}
use Rattle.engine.specs.LawsPlan.{if_accepted}
use Rattle.engine.specs.LawsTables.{cleared_all}
use Rattle.engine.specs.Open.{wrong_batch_length, open_verdict, entries_in, each_in_turn, opened, opened_by, open_of}
use Rattle.engine.specs.Tables.{none_newest, all_zero}
use Rattle.engine.specs.declared.State.{State}
use Rattle.engine.specs.declared.Stepped.{Stepped}

-- the number of transactions
abbrev pub open_plan : State → List ℕ → ℕ → ℕ → ℕ → Result ℕ Refused
open_plan s log newest versions results = if_accepted (open_verdict s log newest versions results) (entries_in log)

-- the answer with the state after it, and the tables
abbrev pub stepped_after : Result ℕ Refused → State → Stepped
stepped_after (Ok size) s = accept (opened s size)
stepped_after (Err why) s = refuse_by s why.refusal why.place

abbrev pub newest_after : Result ℕ Refused → List ℕ → List ℕ
newest_after (Ok size) newest = none_newest newest
newest_after (Err why) newest = newest

abbrev pub versions_after : Result ℕ Refused → List Version → List Version
versions_after (Ok size) versions = clear_of versions (length versions)
versions_after (Err why) versions = versions

abbrev pub results_after : Result ℕ Refused → List ℕ → List ℕ
results_after (Ok size) results = all_zero results
results_after (Err why) results = results

-- ---- each transaction in turn, as a loop
-- one entry of those that are left
turn : (n : ℕ) (log : List ℕ) (count index : ℕ) → index < count
    → each_in_turn n log (count - index) index
    ≡ and_then (unpack_at_of n log index).verdict (each_in_turn n log (count - (index + 1)) (index + 1))
turn n log count index below =
    let one_less : count - index ≡ suc (count - (index + 1)) = omega arith in
    ap (λ k. each_in_turn n log k index) one_less
    ∙ ap (λ k. and_then (unpack_at_of n log index).verdict (each_in_turn n log (count - (index + 1)) k))
    (sym (add-one index))

-- its verdict lets it pass: the rest decides;
pub turn_passed : (n : ℕ) (log : List ℕ) (count index : ℕ) (all : Verdict) → index < count
    → each_in_turn n log (count - index) index ≡ all → (unpack_at_of n log index).verdict ≡ Ok tt
    → each_in_turn n log (count - (index + 1)) (index + 1) ≡ all
turn_passed n log count index all below so_far passed =
    sym (ap (λ v. and_then v (each_in_turn n log (count - (index + 1)) (index + 1))) passed)
    ∙ sym (turn n log count index below)
    ∙ so_far

-- a batch has at most 64 transactions
pub batch_most : (bytes : ℕ) → wrong_batch_length bytes ≡ false → bytes / 88 ≤ 64
batch_most bytes right =
    let small =
    not_right (eqb bytes 0) (ltb 5632 bytes)
    (not_left (eqb bytes 0 || ltb 5632 bytes) (not (eqb (bytes % 88) 0)) right) in
    let most : bytes ≤ 5632 = ltb-false 5632 bytes small in
    omega (arith, most)

-- ---- what the code comes to is the definition
module _ (s : State) (log newest : List ℕ) (versions : List Version) (results : List ℕ) where
  abbrev said : Verdict
  said = open_verdict s log (length newest) (length versions) (length results)

  abbrev plan : Result ℕ Refused
  plan = open_plan s log (length newest) (length versions) (length results)

  pub open_stepped : stepped_after plan s ≡ (open_of s log newest versions results).stepped
  unfolding open_of
  open_stepped = go said
    where
      go : (v : Verdict) → stepped_after (if_accepted v (entries_in log)) s
          ≡ (opened_by v s log newest versions results).stepped
      go (Ok tt) = refl
      go (Err why) = refl

  pub open_newest : newest_after plan newest ≡ (open_of s log newest versions results).newest
  unfolding open_of
  open_newest = go said
    where
      go : (v : Verdict) → newest_after (if_accepted v (entries_in log)) newest
          ≡ (opened_by v s log newest versions results).newest
      go (Ok tt) = refl
      go (Err why) = refl

  pub open_versions : versions_after plan versions ≡ (open_of s log newest versions results).versions
  unfolding open_of
  open_versions = go said
    where
      go : (v : Verdict) → versions_after (if_accepted v (entries_in log)) versions
          ≡ (opened_by v s log newest versions results).versions
      go (Ok tt) = cleared_all versions
      go (Err why) = refl

  pub open_results : results_after plan results ≡ (open_of s log newest versions results).results
  unfolding open_of
  open_results = go said
    where
      go : (v : Verdict) → results_after (if_accepted v (entries_in log)) results
          ≡ (opened_by v s log newest versions results).results
      go (Ok tt) = refl
      go (Err why) = refl
