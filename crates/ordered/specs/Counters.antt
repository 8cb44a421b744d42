-- The counters' deciding rule as a rule of the order theorem: the run over it is the one-by-one run of the counters.
use Rattle.std.specs.Prelude.{ℕ, zero, suc, ◌<◌, ◌≤◌, ◌≡◌, refl, List, [], ◌∷◌, map, length, get_or, take}
use Rattle.std.proofs.Common.{ap, ◌∙◌, arith, length-take-le}
use Rattle.packed.specs.declared.Transaction.{Transaction}
use Rattle.counters.specs.Deciding.{decide_of}
use Rattle.counters.specs.Declarations.{Declared, AllDeclared}
use Rattle.counters.specs.LawsAgreement.{log_agrees}
use Rattle.counters.specs.OneByOne.{reads_of, values_on, Ran, one_by_one}
use Rattle.counters.specs.Storing.{writes_of, store_from, stored, in_four, decision_on, decided_run}
use Rattle.counters.specs.declared.Decision.{Decision}
use Rattle.counters.specs.declared.Outcome.{Outcome}
use Rattle.order.specs.ListRun as order

-- a decision as the rule gives it
abbrev pub verdict_from : Decision → order.Verdict ℕ Outcome
verdict_from decision =
    record { outcome = decision.outcome; contents = decision.contents; carried = decision.carried }

-- a transaction with the counters' rule
abbrev pub ruled : Transaction → order.Transaction ℕ Outcome
ruled t =
    record {
      reads = reads_of t;
      writes = writes_of t;
      rule = λ values. verdict_from (decide_of t (in_four values));
    }

-- what a run gives, as the order theorem has it
abbrev pub listed : Ran → order.Ran ℕ Outcome
listed ran = record { outcomes = ran.outcomes; values_read = ran.values_read; records = ran.records }

store_same : (decision : Decision) (writes : List ℕ) (j : ℕ) (records : List ℕ)
    → order.store_from 0 (verdict_from decision) writes j records ≡ store_from decision writes j records
unfolding order.store_from
store_same decision [] j records = refl
store_same decision (r ∷ writes) j records = store_same decision writes (suc j) _

run_same : (log : List Transaction) (records : List ℕ)
    → order.run_all 0 (map ruled log) records ≡ listed (decided_run log records)
unfolding order.run_all decided_run values_on stored
run_same [] records = refl
run_same (t ∷ log) records =
    let stored_same = store_same (decision_on t records) (writes_of t) 0 records in
    ap (λ after.
    let rest : order.Ran ℕ Outcome = order.run_all 0 (map ruled log) after in
    record {
      outcomes = (decision_on t records).outcome ∷ rest.outcomes;
      values_read = values_on t records ∷ rest.values_read;
      records = rest.records;
    }) stored_same
    ∙ ap (λ rest.
    record {
      outcomes = (decision_on t records).outcome ∷ rest.outcomes;
      values_read = values_on t records ∷ rest.values_read;
      records = rest.records;
    }) (run_same log (stored t (decision_on t records) records))

-- the run over the rule is the one-by-one run
pub joined : (log : List Transaction) (records : List ℕ) → AllDeclared (length records) log
    → order.run_all 0 (map ruled log) records ≡ listed (one_by_one log records)
joined log records declared = run_same log records ∙ ap listed (log_agrees log records declared)

-- a declared transaction is one that the order theorem takes
ascends : (numbers : List ℕ) (count : ℕ) → count ≤ length numbers
    → ((j : ℕ) → suc j < count → get_or numbers j 0 < get_or numbers (suc j) 0) → order.Ascends (take count numbers)
ascends numbers zero few next = tt
ascends [] (suc count) few next = tt
ascends (x ∷ numbers) (suc zero) few next = tt
ascends (x ∷ []) (suc (suc count)) few next = tt
ascends (x ∷ y ∷ numbers) (suc (suc count)) few next =
    (next 0 (omega arith), ascends (y ∷ numbers) (suc count) (omega arith) (λ j below. next (suc j) (omega arith)))

all_below : (n : ℕ) (numbers : List ℕ) (count : ℕ) → count ≤ length numbers
    → ((i : ℕ) → i < count → get_or numbers i 0 < n) → order.AllBelow n (take count numbers)
all_below n numbers zero few below = tt
all_below n [] (suc count) few below = tt
all_below n (x ∷ numbers) (suc count) few below =
    (below 0 (omega arith), all_below n numbers count (omega arith) (λ i small. below (suc i) (omega arith)))

pub fits : (n : ℕ) (t : Transaction) → Declared n t → order.Fits n (ruled t)
fits n t declared =
    let reads_few : t.readcount ≤ length t.reads = omega (arith, declared.few_reads, declared.four_reads) in
    let writes_few : t.writecount ≤ length t.writes = omega (arith, declared.few_writes, declared.four_writes) in
    let reads_long = length-take-le t.readcount t.reads reads_few in
    let writes_long = length-take-le t.writecount t.writes writes_few in
    record {
      writes_ascend = ascends t.writes t.writecount writes_few declared.writes_ascend;
      few_reads = omega (arith, reads_long, declared.few_reads);
      few_writes = omega (arith, writes_long, declared.few_writes);
      reads_inside = all_below n t.reads t.readcount reads_few declared.reads_exist;
    }

pub all_fit : (n : ℕ) (log : List Transaction) → AllDeclared n log → order.AllFit n (map ruled log)
all_fit n [] declared = tt
all_fit n (t ∷ log) declared = (fits n t declared.0, all_fit n log declared.1)
