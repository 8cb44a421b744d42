-- The one-by-one run over lists: a list of transactions, with lists of reads and writes, on a list of records.
-- Definitions only.
use Rattle.std.specs.Prelude.{◌≡◌, Bool, false, cond, ℕ, suc, ◌+◌, ◌≤◌, ◌<◌}
use Rattle.std.specs.Prelude.{List, [], ◌∷◌, map, length, get_or, take, set}
use Rattle.order.specs.Batch.{Decision, Batch}
use Rattle.order.specs.Store.{Store}

-- What a rule decides: the outcome and, for each write, its new contents and whether it is carried.
pub record Verdict (X O : Type 0) : Type 0 where
  pub outcome : O
  pub contents : List X
  pub carried : List Bool

pub record Transaction (X O : Type 0) : Type 0 where
  pub reads : List ℕ
  pub writes : List ℕ
  pub rule : List X → Verdict X O

-- What a run gives.
pub record Ran (X O : Type 0) : Type 0 where
  pub outcomes : List O
  pub values_read : List (List X)
  pub records : List X

-- The values of the reads given, in the records given. A list is read with a default for what lies past its end: blank
-- for contents and records, not carried for marks.
abbrev pub values_in : {X : Type 0} → X → List X → List ℕ → List X
values_in blank records reads = map (λ r. get_or records r blank) reads

module _ {X O : Type 0} (blank : X) where
  -- The records after the writes from number j on, decided as v: a carried write leaves its record as it is.
  unfoldable pub store_from : Verdict X O → List ℕ → ℕ → List X → List X
  store_from v [] j records = records
  store_from v (w ∷ ws) j records =
      store_from v ws (suc j) (cond (get_or v.carried j false) records (set records w (get_or v.contents j blank)))

  -- What a transaction decides on the records, and the records after it.
  abbrev pub verdict_on : Transaction X O → List X → Verdict X O
  verdict_on t records = t.rule (values_in blank records t.reads)

  abbrev pub run_one : Transaction X O → List X → List X
  run_one t records = store_from (verdict_on t records) t.writes 0 records

  -- The transactions singly, in order.
  unfoldable pub run_all : List (Transaction X O) → List X → Ran X O
  run_all [] records = record { outcomes = []; values_read = []; records = records }
  run_all (t ∷ ts) records =
      let rest : Ran X O = run_all ts (run_one t records) in
      record {
        outcomes = (verdict_on t records).outcome ∷ rest.outcomes;
        values_read = values_in blank records t.reads ∷ rest.values_read;
        records = rest.records;
      }

  -- A verdict as a decision, by the number of the write.
  abbrev pub decision_from : Verdict X O → Decision X O
  decision_from v = record {
    outcome = v.outcome;
    contents = λ j. get_or v.contents j blank;
    carried = λ j. get_or v.carried j false;
  }

-- A batch of listed transactions: those known, how many of them are executed, the records, and the rest of a batch.
pub record Setting (X O : Type 0) : Type 0 where
  pub transactions : List (Transaction X O)
  pub records : List X
  pub size : ℕ
  pub partitions : ℕ
  pub workers : ℕ
  pub first_position : ℕ
  pub no_end : ℕ
  pub partition_of : ℕ → ℕ
  -- what stands past the last transaction and past the last record
  pub nothing : Transaction X O
  pub blank : X

module _ {X O : Type 0} (s : Setting X O) where
  abbrev pub transaction_at : ℕ → Transaction X O
  transaction_at i = get_or s.transactions i s.nothing

  abbrev pub batch_of : Batch X O
  batch_of = record {
    size = s.size;
    known = length s.transactions;
    partitions = s.partitions;
    workers = s.workers;
    first_position = s.first_position;
    no_end = s.no_end;
    partition_of = s.partition_of;
    stored = λ r. get_or s.records r s.blank;
    read_count = λ i. length (transaction_at i).reads;
    read_record = λ i k. get_or (transaction_at i).reads k 0;
    write_count = λ i. length (transaction_at i).writes;
    write_record = λ i j. get_or (transaction_at i).writes j 0;
    decide = λ i values. decision_from s.blank ((transaction_at i).rule values);
  }

  -- The run of the transactions executed.
  abbrev pub ran_of : Ran X O
  ran_of = run_all s.blank (take s.size s.transactions) s.records

-- What a store holds is what the run over lists gives.
pub record AsListed {X O C : Type 0} (S : Store X O C) (s : Setting X O) (c : C) : Type 0 where
  pub outcomes_listed : S.outcomes c ≡ (ran_of s).outcomes
  pub values_listed : S.values_read c ≡ (ran_of s).values_read
  pub records_listed : S.records c ≡ (ran_of s).records

-- A list ascends strictly.
abbrev pub Ascends : List ℕ → Type 0
Ascends [] = Unit {0}
Ascends (x ∷ []) = Unit {0}
Ascends (x ∷ y ∷ ys) = (x < y) × Ascends (y ∷ ys)

-- Every number of a list is below a bound.
abbrev pub AllBelow : ℕ → List ℕ → Type 0
AllBelow n [] = Unit {0}
AllBelow n (x ∷ xs) = (x < n) × AllBelow n xs

-- What is asked of a transaction, in a store of n records.
pub record Fits {X O : Type 0} (n : ℕ) (t : Transaction X O) : Type 0 where
  pub writes_ascend : Ascends t.writes
  pub few_reads : length t.reads ≤ 4
  pub few_writes : length t.writes ≤ 4
  pub reads_inside : AllBelow n t.reads

abbrev pub AllFit : {X O : Type 0} → ℕ → List (Transaction X O) → Type 0
AllFit n [] = Unit {0}
AllFit n (t ∷ ts) = Fits n t × AllFit n ts

-- What is asked of a batch of listed transactions.
pub record Fitting {X O : Type 0} (s : Setting X O) : Type 0 where
  pub all_fit : AllFit (length s.records) s.transactions
  pub nothing_fits : Fits (length s.records) s.nothing
  pub in_partition : (r : ℕ) → s.partition_of r < s.partitions
  pub some_worker : 0 < s.workers
  pub some_transaction : 0 < s.size
  pub all_known : s.size ≤ length s.transactions
  pub positions_fit : s.first_position + length s.transactions ≤ s.no_end
