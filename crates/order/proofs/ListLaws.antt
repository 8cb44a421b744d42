-- The two ways of writing the one-by-one run agree: over lists, and over tables as the theorem has it.
use Rattle.std.specs.Prelude.{◌≡◌, refl, Bool, true, false, cond, length, get_or, set}
use Rattle.std.proofs.Common.{sym, ◌∙◌, length-set, get_or-set_same, get_or-set_other, get_or-take, length-take-le}
use Rattle.std.proofs.Math.Path.{ap, subst}
use mathlib.Core.List.{List, [], ◌∷◌, map}
use Prim.Native.Nat.{ℕ, zero, suc, ◌+◌, ◌≤◌, ◌<◌}
use native.Mathlib.Omega.{arith}
use Rattle.std.proofs.Math.Decide.{ℕ_discrete, dec_lt}
use Rattle.std.proofs.Math.ListN.{take, get_or-map}
use Rattle.std.proofs.lemmas.List.{length-map}
use Rattle.order.specs.Tables.{updated, first_values}
use Rattle.order.specs.Batch.{Batch, Proper}
use Rattle.order.specs.OneByOne.{values_at, decision_on, store_writes, records_before, values_read_to, values_read}
use Rattle.order.specs.OneByOne.{decision_of}
use Rattle.order.specs.Store.{Store, AsOneByOne}
use Rattle.order.specs.TableLaws.{updated_here, updated_elsewhere, first_is}
use Rattle.order.specs.ListRun.{Verdict, Transaction, values_in, store_from, verdict_on, run_one, run_all}
use Rattle.order.specs.ListRun.{decision_from, Setting, transaction_at, batch_of, ran_of, AsListed, Ascends, AllBelow}
use Rattle.order.specs.ListRun.{Fits, AllFit, Fitting}

-- A list that ascends strictly holds no number twice.
next_above : (l : List ℕ) → Ascends l → (k : ℕ) → suc k < length l → get_or l k 0 < get_or l (suc k) 0
next_above [] h k l = absurd (omega arith)
next_above (x ∷ []) h k l = absurd (omega arith)
next_above (x ∷ y ∷ ys) h zero l = h.0
next_above (x ∷ y ∷ ys) h (suc k) l = next_above (y ∷ ys) h.1 k (omega arith)

later_above : (l : List ℕ) → Ascends l → (j k : ℕ) → j < k → k < length l → get_or l j 0 < get_or l k 0
later_above l h j zero u v = absurd (omega arith)
later_above l h j (suc k) u v = go (ℕ_discrete j k) (later_above l h j k)
  where
    go : Dec (j ≡ k) → (j < k → k < length l → get_or l j 0 < get_or l k 0) → get_or l j 0 < get_or l (suc k) 0
    go (yes e) before = rw e (next_above l h k v)
    go (no n) before = omega (arith, before (omega arith) (omega arith), next_above l h k v)

pub ascending_apart : (l : List ℕ) → Ascends l → (j k : ℕ) → j < length l → k < length l → get_or l j 0 ≡ get_or l k 0
    → j ≡ k
ascending_apart l h j k u v e = go (dec_lt j k) (dec_lt k j)
  where
    go : Dec (j < k) → Dec (k < j) → j ≡ k
    go (yes a) b = absurd (omega (arith, later_above l h j k a v))
    go (no a) (yes b) = absurd (omega (arith, later_above l h k j b u))
    go (no a) (no b) = omega arith

below_at : (n : ℕ) (l : List ℕ) → AllBelow n l → (k : ℕ) → k < length l → get_or l k 0 < n
below_at n [] h k l = absurd (omega arith)
below_at n (x ∷ xs) h zero l = h.0
below_at n (x ∷ xs) h (suc k) l = below_at n xs h.1 k (omega arith)

fit_at : {X O : Type 0} (n : ℕ) (ts : List (Transaction X O)) (t : Transaction X O) → AllFit n ts → Fits n t
    → (i : ℕ) → Fits n (get_or ts i t)
fit_at n [] t all h i = h
fit_at n (u ∷ us) t all h zero = all.0
fit_at n (u ∷ us) t all h (suc i) = fit_at n us t all.1 h i

module _ {X O : Type 0} (s : Setting X O) where
  abbrev B : Batch X O
  B = batch_of s

  -- A list of records has the contents of a table.
  record Same (l : List X) (f : ℕ → X) : Type 0 where
    long : length l ≡ length s.records
    each : (r : ℕ) → r < length s.records → get_or l r s.blank ≡ f r

  -- One write, carried or not.
  store_one : (l : List X) (f : ℕ → X) → Same l f → (carried : Bool) (w : ℕ) (x : X)
      → Same (cond carried l (set l w x)) (cond carried f (updated f w x))
  store_one l f same true w x = same
  store_one l f same false w x = record { long = length-set l w x ∙ same.long; each = λ r h. at r h (ℕ_discrete r w) }
    where
      at : (r : ℕ) → r < length s.records → Dec (r ≡ w) → get_or (set l w x) r s.blank ≡ updated f w x r
      at r h (yes e) = rw (← e) (get_or-set_same l r x s.blank (omega (arith, same.long)) ∙ sym (updated_here f r x))
      at r h (no n) = get_or-set_other l w r x s.blank n ∙ same.each r h ∙ sym (updated_elsewhere f w x r n)

  -- The writes of transaction i from number j on.
  store_all : (i : ℕ) (v : Verdict X O) (f : ℕ → X) (ws : List ℕ) (j : ℕ) (l : List X)
      → j + length ws ≡ B.write_count i → ((k : ℕ) → k < length ws → get_or ws k 0 ≡ B.write_record i (j + k))
      → Same l (store_writes B (decision_from s.blank v) i j f)
      → Same (store_from s.blank v ws j l) (store_writes B (decision_from s.blank v) i (B.write_count i) f)
  unfolding store_from store_writes
  store_all i v f [] j l e at same =
      let end : j ≡ B.write_count i = omega arith in
      subst (λ (k : ℕ). Same l (store_writes B (decision_from s.blank v) i k f)) end same
  store_all i v f (w ∷ ws) j l e at same =
      store_all i v f ws (suc j) (cond (get_or v.carried j false) l (set l w (get_or v.contents j s.blank)))
      (omega arith) later (rw here (store_one l earlier same (get_or v.carried j false) (B.write_record i j) x))
    where
      earlier : ℕ → X
      earlier = store_writes B (decision_from s.blank v) i j f

      x : X
      x = get_or v.contents j s.blank

      here : w ≡ B.write_record i j
      here = let z : j + 0 ≡ j = omega arith in rw z at (at 0 (omega arith))

      later : (k : ℕ) → k < length ws → get_or ws k 0 ≡ B.write_record i (suc j + k)
      later k h = let z : suc j + k ≡ j + suc k = omega arith in rw z (at (suc k) (omega arith))

  -- Every declared read is of a record that there is.
  pub ReadsInside : Type 0
  ReadsInside = (i k : ℕ) → k < B.read_count i → B.read_record i k < length s.records

  -- A fitting batch of listed transactions is proper, and its reads are inside.
  fits : Fitting s → (i : ℕ) → Fits (length s.records) (transaction_at s i)
  fits h = fit_at (length s.records) s.transactions s.nothing h.all_fit h.nothing_fits

  pub fitting_proper : Fitting s → Proper B
  fitting_proper h = record {
    apart = λ i j k. ascending_apart (transaction_at s i).writes (fits h i).writes_ascend j k;
    few_reads = λ i. (fits h i).few_reads;
    few_writes = λ i. (fits h i).few_writes;
    in_partition = h.in_partition;
    some_worker = h.some_worker;
    some_transaction = h.some_transaction;
    all_known = h.all_known;
    positions_fit = h.positions_fit;
  }

  pub fitting_inside : Fitting s → ReadsInside
  unfolding ReadsInside
  fitting_inside h i k = below_at (length s.records) (transaction_at s i).reads (fits h i).reads_inside k

  -- The run over lists gives what the run over tables gives.
  pub record Agrees : Type 0 where
    pub outcomes_agree : (ran_of s).outcomes ≡ first_values (λ i. (decision_of B i).outcome) s.size
    pub values_agree : (ran_of s).values_read ≡ first_values (values_read B) s.size
    pub records_agree : (ran_of s).records ≡ first_values (records_before B s.size) (length s.records)

  module _ (inside : ReadsInside) where
    values_same : (i : ℕ) (l : List X) (f : ℕ → X) → Same l f
        → values_in s.blank l (transaction_at s i).reads ≡ values_at B f i (B.read_count i)
    unfolding values_at ReadsInside
    values_same i l f same =
        first_is (λ k. f (B.read_record i k)) (B.read_count i) (map g reads) (g 0) (length-map reads g)
        (λ k h. get_or-map g reads k 0 ∙ same.each (B.read_record i k) (inside i k h))
      where
        reads : List ℕ
        reads = (transaction_at s i).reads

        g : ℕ → X
        g r = get_or l r s.blank

    one_same : (i : ℕ) (l : List X) → Same l (records_before B i)
        → Same (run_one s.blank (transaction_at s i) l) (records_before B (suc i))
    unfolding records_before decision_on store_writes
    one_same i l same =
        subst
        (λ (values : List X). Same (store_from s.blank (t.rule values) t.writes 0 l) (records_before B (suc i)))
        (sym (values_same i l (records_before B i) same))
        (store_all i (t.rule (values_at B (records_before B i) i (B.read_count i))) (records_before B i) t.writes 0 l
        (omega arith) (λ k h. let z : 0 + k ≡ k = omega arith in rw z) same)
      where
        t : Transaction X O
        t = transaction_at s i

    read_same : (i : ℕ) (l : List X) → Same l (records_before B i)
        → values_in s.blank l (transaction_at s i).reads ≡ values_read B i
    unfolding values_read values_read_to
    read_same i l same = values_same i l (records_before B i) same

    outcome_same : (i : ℕ) (l : List X) → Same l (records_before B i)
        → (verdict_on s.blank (transaction_at s i) l).outcome ≡ (decision_of B i).outcome
    unfolding decision_of decision_on
    outcome_same i l same =
        ap (λ (values : List X). ((transaction_at s i).rule values).outcome) (values_same i l (records_before B i) same)

    -- The run of the transactions from number i on, as far as they are executed.
    record RanFrom (i : ℕ) (ts : List (Transaction X O)) (l : List X) : Type 0 where
      records_are : Same (run_all s.blank ts l).records (records_before B s.size)
      outcome_count : length (run_all s.blank ts l).outcomes ≡ length ts
      outcomes_are : (k : ℕ) (o : O) → k < length ts
          → get_or (run_all s.blank ts l).outcomes k o ≡ (decision_of B (i + k)).outcome
      values_count : length (run_all s.blank ts l).values_read ≡ length ts
      values_are : (k : ℕ) → k < length ts → get_or (run_all s.blank ts l).values_read k [] ≡ values_read B (i + k)

    ran_from : (ts : List (Transaction X O)) (i : ℕ) (l : List X) → i + length ts ≡ s.size
        → ((k : ℕ) → k < length ts → get_or ts k s.nothing ≡ transaction_at s (i + k)) → Same l (records_before B i)
        → RanFrom i ts l
    unfolding run_all
    ran_from [] i l e at same =
        let end : i ≡ s.size = omega arith in
        record {
          records_are = subst (λ (k : ℕ). Same l (records_before B k)) end same;
          outcome_count = refl;
          outcomes_are = λ k o h. absurd (omega arith);
          values_count = refl;
          values_are = λ k h. absurd (omega arith);
        }
    ran_from (t ∷ ts) i l e at same =
        more (ran_from ts (suc i) (run_one s.blank t l) (omega arith)
        (λ k h. let z : suc i + k ≡ i + suc k = omega arith in rw z (at (suc k) (omega arith)))
        (rw here (one_same i l same)))
      where
        here : t ≡ transaction_at s i
        here = let z : i + 0 ≡ i = omega arith in rw z at (at 0 (omega arith))

        outcome_at_lem : RanFrom (suc i) ts (run_one s.blank t l) → (k : ℕ) (o : O) → k < length (t ∷ ts)
            → get_or (run_all s.blank (t ∷ ts) l).outcomes k o ≡ (decision_of B (i + k)).outcome
        outcome_at_lem rest zero o h = let z : i + 0 ≡ i = omega arith in rw (z, here) (outcome_same i l same)
        outcome_at_lem rest (suc k) o h =
            let z : i + suc k ≡ suc i + k = omega arith in
            rw z (rest.outcomes_are k o (omega arith))

        values_at_lem : RanFrom (suc i) ts (run_one s.blank t l) → (k : ℕ) → k < length (t ∷ ts)
            → get_or (run_all s.blank (t ∷ ts) l).values_read k [] ≡ values_read B (i + k)
        values_at_lem rest zero h = let z : i + 0 ≡ i = omega arith in rw (z, here) (read_same i l same)
        values_at_lem rest (suc k) h =
            let z : i + suc k ≡ suc i + k = omega arith in
            rw z (rest.values_are k (omega arith))

        more : RanFrom (suc i) ts (run_one s.blank t l) → RanFrom i (t ∷ ts) l
        more rest = record {
          records_are = rest.records_are;
          outcome_count = ap suc rest.outcome_count;
          outcomes_are = outcome_at_lem rest;
          values_count = ap suc rest.values_count;
          values_are = values_at_lem rest;
        }

    pub agrees : s.size ≤ length s.transactions → Agrees
    unfolding records_before
    agrees known = record {
      outcomes_agree =
          first_is (λ i. (decision_of B i).outcome) s.size (ran_of s).outcomes (decision_of B 0).outcome
          (ran.outcome_count ∙ count)
          (λ i h. ran.outcomes_are i (decision_of B 0).outcome (omega (arith, count)) ∙ at_zero i);
      values_agree =
          first_is (values_read B) s.size (ran_of s).values_read [] (ran.values_count ∙ count)
          (λ i h. let z : 0 + i ≡ i = omega arith in rw z at (ran.values_are i (omega (arith, count))));
      records_agree =
          first_is (records_before B s.size) (length s.records) (ran_of s).records s.blank
          ran.records_are.long ran.records_are.each;
    }
      where
        executed : List (Transaction X O)
        executed = take s.size s.transactions

        count : length executed ≡ s.size
        count = length-take-le s.size s.transactions known

        ran : RanFrom 0 executed s.records
        ran =
            ran_from executed 0 s.records (omega (arith, count))
            (λ k h.
            let z : 0 + k ≡ k = omega arith in
            rw z (get_or-take s.size s.transactions k s.nothing (omega (arith, count))))
            (record { long = refl; each = λ r h. refl })

        at_zero : (i : ℕ) → (decision_of B (0 + i)).outcome ≡ (decision_of B i).outcome
        at_zero i = let z : 0 + i ≡ i = omega arith in rw z

    -- So a store of as many records that holds the results of the run holds those of the run over lists.
    pub as_listed : {C : Type 0} (S : Store X O C) (c : C) → s.size ≤ length s.transactions
        → S.record_count ≡ length s.records → AsOneByOne S B c → AsListed S s c
    as_listed S c known count same =
        let a : Agrees = agrees known in
        record {
          outcomes_listed = same.outcomes_same ∙ sym a.outcomes_agree;
          values_listed = same.values_same ∙ sym a.values_agree;
          records_listed =
              same.records_same ∙ ap (first_values (records_before B s.size)) count ∙ sym a.records_agree;
        }
