-- An accepted opening: the batch that it opens, and that the engine stands in the machine's opened state.
use Rattle.std.specs.Prelude.{ℕ, ◌+◌, ◌*◌, ◌%◌, ◌/◌, ◌≤◌, ◌<◌, false}
use Rattle.std.specs.Prelude.{◌||◌, not, ◌≡◌, List, map, get_or, replicate, Ok}
use Rattle.std.proofs.Math.Path.{refl, ap}
use Rattle.std.proofs.Common.{sym, ◌∙◌, arith, get_or-take, length-take-le}
use Rattle.std.proofs.Math.Nat.{mod-lt}
use Rattle.std.proofs.Math.Decide.{dec_lt}
use Rattle.std.proofs.Math.Dec.{ltb, eqb}
use Rattle.std.proofs.Math.ListN.{length, length-replicate, get_or-eq_default}
use Rattle.std.proofs.lemmas.List.{length-map, get_or-replicate}
use borrow.Author.Tests.{eqb-true, eqb-false, ltb-false, not-false}
use Rattle.terms.specs.Reserved.{no_slot, no_end}
use Rattle.packed.specs.Decode.{nothing}
use Rattle.packed.specs.LawsForm.{not_left, not_right}
use Rattle.packed.specs.Unpacking.{unpack_at_of}
use Rattle.versions.specs.Entry.{empty_entry}
use Rattle.versions.specs.Table as versions
use Rattle.versions.specs.declared.Version.{Version}
use Rattle.counters.specs.Declarations.{Declared, AllDeclared}
use Rattle.counters.specs.declared.Outcome.{Outcome}
use Rattle.engine.specs.LawsRange.{InRange, in_range, placed_most}
use Rattle.engine.specs.Moment.{no_batch}
use Rattle.engine.specs.Open.{wrong_for_opening, wrong_batch_length, entries_in, each_in_turn, open_verdict, opened}
use Rattle.engine.specs.Place.{meaning_at, slot_of}
use Rattle.engine.specs.Range.{no_worker, placed_by, out_of_range}
use Rattle.engine.specs.Rows.{row}
use Rattle.engine.specs.Tables.{not_of, none_newest, all_empty, all_zero}
use Rattle.engine.specs.Workers.{idle_worker}
use Rattle.engine.specs.declared.Phase.TheVariants.{Idle}
use Rattle.engine.specs.declared.Progress.TheVariants.{Unprocessed}
use Rattle.engine.specs.declared.State.{State}
use Rattle.order.proofs.ListLaws.{fitting_proper}
use Rattle.order.specs.ListRun as listed
use Rattle.order.specs.Machine as machine
use Rattle.order.specs.Plan as plan
use Rattle.ordered.specs.Chains.{passes}
use Rattle.ordered.specs.Counters.{ruled, all_fit}
use Rattle.ordered.specs.Describing.{Describes}
use Rattle.ordered.specs.Promise.{meanings_from}
use Rattle.ordered.specs.Relation.{Stands}
use Rattle.engine.specs.Running.{Engine}
use Rattle.ordered.proofs.Meanings.{meanings_length, turn_accepted, accepted_declared, all_declared, meaning_at_lem}

-- a table of equal entries, read with the same default
get_d_all : {A : Type 0} (count k : ℕ) (x : A) → get_or (replicate count x) k x ≡ x
get_d_all count k x = go (dec_lt k count)
  where
    go : Dec (k < count) → get_or (replicate count x) k x ≡ x
    go (yes below) = get_or-replicate count k x x below
    go (no past) = get_or-eq_default (replicate count x) x (omega (arith, length-replicate count x))

-- ---- what an accepted opening tells

module _ (s : State) (log : List ℕ) (newest versions results : ℕ)
    (accepts : open_verdict s log newest versions results ≡ Ok tt) where
  pub record Opens : Type 0 where
    pub newest_right : newest ≡ s.records
    pub versions_right : versions ≡ 256
    pub results_right : results ≡ 256
    pub ranged : InRange s
    pub none_open : s.size ≡ 0
    pub whole : length log ≡ 88 * entries_in log
    pub some_entry : 1 ≤ entries_in log
    pub few_entries : entries_in log ≤ 64
    pub positions_last : s.next.0 + entries_in log ≤ no_end
    pub each : each_in_turn s.records log (entries_in log) 0 ≡ Ok tt

  pub opens : Opens
  unfolding open_verdict
  opens =
      let tables = passes (wrong_for_opening s newest versions results) _ _ _ accepts in
      let range = passes (out_of_range s) _ _ _ tables.onward in
      let moment = passes (not (no_batch s)) _ _ _ range.onward in
      let size = passes (wrong_batch_length (length log)) _ _ _ moment.onward in
      let positions = passes (ltb no_end (s.next.0 + entries_in log)) _ _ _ size.onward in
      let first_two = not_of newest s.records || not_of versions 256 in
      let two = not_left first_two (not_of results 256) tables.no_fault in
      let long = eqb (length log) 0 || ltb 5632 (length log) in
      let ends = not_left long (not (eqb (length log % 88) 0)) size.no_fault in
      let no_rest =
      eqb-true (length log % 88) 0
      (not-false (eqb (length log % 88) 0) (not_right long (not (eqb (length log % 88) 0)) size.no_fault)) in
      let some_byte = eqb-false (length log) 0 (not_left (eqb (length log) 0) (ltb 5632 (length log)) ends) in
      let few_bytes = ltb-false 5632 (length log) (not_right (eqb (length log) 0) (ltb 5632 (length log)) ends) in
      record {
        newest_right =
            eqb-true newest s.records
            (not-false (eqb newest s.records) (not_left (not_of newest s.records) (not_of versions 256) two));
        versions_right =
            eqb-true versions 256
            (not-false (eqb versions 256) (not_right (not_of newest s.records) (not_of versions 256) two));
        results_right =
            eqb-true results 256
            (not-false (eqb results 256) (not_right first_two (not_of results 256) tables.no_fault));
        ranged = in_range s range.no_fault;
        none_open = eqb-true s.size 0 (not-false (no_batch s) moment.no_fault);
        whole = omega (arith, no_rest);
        some_entry = positive (length log) some_byte no_rest;
        few_entries = omega (arith, few_bytes);
        positions_last = ltb-false no_end (s.next.0 + entries_in log) positions.no_fault;
        each = positions.onward;
      }
    where
      positive : (long : ℕ) → (long ≡ 0 → ⊥) → long % 88 ≡ 0 → 1 ≤ long / 88
      positive long some_byte no_rest = omega (arith, no_rest)

-- ---- the batch

-- the batch of the log, over these stored records
abbrev pub setting_of : State → List ℕ → List ℕ → listed.Setting ℕ Outcome
setting_of s log stored =
    record {
      transactions = map ruled (meanings_from s.records log (entries_in log) 0);
      records = stored;
      size = entries_in log;
      partitions = s.partitions;
      workers = s.workers;
      first_position = s.next.0;
      no_end = no_end;
      partition_of = λ r. r % s.partitions;
      nothing = ruled nothing;
      blank = 0;
    }

module _ (s : State) (log stored : List ℕ) (newest versions results : ℕ)
    (accepts : open_verdict s log newest versions results ≡ Ok tt) (as_many : length stored ≡ s.records) where
  open_facts : Opens s log newest versions results accepts
  open_facts = opens s log newest versions results accepts

  known : length (map ruled (meanings_from s.records log (entries_in log) 0)) ≡ entries_in log
  known =
      length-map (meanings_from s.records log (entries_in log) 0) ruled
      ∙ meanings_length s.records log (entries_in log) 0

  pub declared_log : AllDeclared (length stored) (meanings_from s.records log (entries_in log) 0)
  declared_log = rw as_many (all_declared s.records log (entries_in log) 0 open_facts.each)

  pub fitting : listed.Fitting (setting_of s log stored)
  unfolding nothing
  fitting =
      record {
        all_fit = all_fit (length stored) (meanings_from s.records log (entries_in log) 0) declared_log;
        nothing_fits =
            record {
              writes_ascend = tt;
              few_reads = omega arith;
              few_writes = omega arith;
              reads_inside = tt;
            };
        in_partition = λ r. mod-lt r open_facts.ranged.some_partition;
        some_worker = open_facts.ranged.some_worker;
        some_transaction = open_facts.some_entry;
        all_known = omega (arith, known);
        positions_fit = omega (arith, known, open_facts.positions_last);
      }

  -- the transaction of an index, in the batch
  at_index : (i : ℕ) → i < entries_in log
      → listed.transaction_at (setting_of s log stored) i ≡ ruled (meaning_at s log i)
  at_index i below =
      let same : 0 + i ≡ i = omega arith in
      meaning_at_lem s.records log (entries_in log) 0 i (ruled nothing) below
      ∙ ap (λ k. ruled (unpack_at_of s.records log k).meaning) same

  is_accepted_lem : (i : ℕ) → i < entries_in log → (unpack_at_of s.records log i).verdict ≡ Ok tt
  is_accepted_lem i below =
      let same : 0 + i ≡ i = omega arith in
      ap (λ k. (unpack_at_of s.records log k).verdict) (sym same)
      ∙ turn_accepted s.records log (entries_in log) 0 i open_facts.each below

  is_declared : (i : ℕ) → i < entries_in log → Declared s.records (meaning_at s log i)
  is_declared i below = accepted_declared s.records log i (is_accepted_lem i below)

  pub describes : Describes (listed.batch_of (setting_of s log stored)) (opened s (entries_in log)) log stored
  describes =
      record {
        proper = fitting_proper (setting_of s log stored) fitting;
        numbers =
            record {
              some_record = open_facts.ranged.some_record;
              few_records = open_facts.ranged.few_records;
              some_partition = open_facts.ranged.some_partition;
              few_partitions = open_facts.ranged.few_partitions;
              some_worker = open_facts.ranged.some_worker;
              few_workers = open_facts.ranged.few_workers;
              some_transaction = open_facts.some_entry;
              few_transactions = open_facts.few_entries;
              batch_below = open_facts.ranged.batch_below;
              positions_last = open_facts.positions_last;
            };
        log_length = open_facts.whole;
        stored_length = as_many;
        size_is = refl;
        known_is = known;
        partitions_is = refl;
        workers_is = refl;
        first_is = refl;
        no_end_is = refl;
        partition_is = λ r. refl;
        stored_is = λ r. refl;
        accepted = is_accepted_lem;
        declared = is_declared;
        reads_count = λ i below.
            ap (λ t. length t.reads) (at_index i below)
            ∙ length-take-le (meaning_at s log i).readcount (meaning_at s log i).reads
            (omega (arith, (is_declared i below).few_reads, (is_declared i below).four_reads));
        reads_are = λ i k below within.
            ap (λ t. get_or t.reads k 0) (at_index i below)
            ∙ get_or-take (meaning_at s log i).readcount (meaning_at s log i).reads k 0 within;
        writes_count = λ i below.
            ap (λ t. length t.writes) (at_index i below)
            ∙ length-take-le (meaning_at s log i).writecount (meaning_at s log i).writes
            (omega (arith, (is_declared i below).few_writes, (is_declared i below).four_writes));
        writes_are = λ i j below within.
            ap (λ t. get_or t.writes j 0) (at_index i below)
            ∙ get_or-take (meaning_at s log i).writecount (meaning_at s log i).writes j 0 within;
        decides_as = λ i values below.
            record {
              outcome_is = ap (λ t. (t.rule values).outcome) (at_index i below);
              contents_are = λ j. ap (λ t. get_or (t.rule values).contents j 0) (at_index i below);
              carried_are = λ j. ap (λ t. get_or (t.rule values).carried j false) (at_index i below);
            };
      }

-- ---- the engine just opened

module _ (s : State) (log stored : List ℕ) (newest : List ℕ) (table : List Version) (results : List ℕ)
    (accepts : open_verdict s log (length newest) (length table) (length results) ≡ Ok tt)
    (eight : length s.placed ≡ 8) where
  facts : Opens s log (length newest) (length table) (length results) accepts
  facts = opens s log (length newest) (length table) (length results) accepts

  abbrev pub just_opened : Engine
  just_opened =
      record {
        state = opened s (entries_in log);
        records = stored;
        newest = none_newest newest;
        versions = all_empty table;
        results = all_zero results;
      }

  none_placed : (p : ℕ) → placed_by s p ≡ 0
  none_placed p = go (dec_lt p 8)
    where
      go : Dec (p < 8) → placed_by s p ≡ 0
      go (yes below) = omega (arith, placed_most s facts.ranged p below, facts.none_open)
      go (no past) = get_or-eq_default s.placed 0 (omega (arith, eight))

  empty_at : (slot : ℕ) → versions.entry_of (all_empty table) slot ≡ empty_entry
  empty_at slot = get_d_all (length table) slot empty_entry

  pub just_stands : Stands (opened s (entries_in log)) stored just_opened machine.opened
  unfolding machine.opened plan.unplanned
  just_stands =
      record {
        fixed =
            record {
              records_fixed = refl;
              partitions_fixed = refl;
              workers_fixed = refl;
              next_fixed = refl;
              size_fixed = refl;
              batch_fixed = refl;
              placed_length = eight;
              rows_length = length-replicate 64 (row Unprocessed);
              crew_length = length-replicate 8 idle_worker;
            };
        records_are = refl;
        results_length = length-replicate (length results) 0 ∙ facts.results_right;
        results_past = λ k past. get_d_all (length results) k 0;
        plan_is =
            record {
              newest_length = length-replicate (length newest) no_slot ∙ facts.newest_right;
              versions_length = length-replicate (length table) empty_entry ∙ facts.versions_right;
              newest_is = λ r below. get_d_all (length newest) r no_slot;
              entries = λ i j below few.
                  rw (empty_at (slot_of i j)) (record { begin_is = refl; end_is = refl; previous_is = refl });
            };
        contents_are = λ i j below few. rw (empty_at (slot_of i j)) refl;
        placed_are = λ p there. none_placed p;
        placed_past = λ p past. none_placed p;
        rows_are = λ i below. ap (λ x. x.progress) (get_d_all 64 i (row Unprocessed));
        crew_are = λ w there. idle_at w;
        crew_past = λ w past. rw (idle_at w);
      }
    where
      idle_at : (w : ℕ) → (get_or (replicate 8 idle_worker) w no_worker).phase ≡ Idle
      idle_at w = go (dec_lt w 8)
        where
          go : Dec (w < 8) → (get_or (replicate 8 idle_worker) w no_worker).phase ≡ Idle
          go (yes below) = ap (λ x. x.phase) (get_or-replicate 8 w idle_worker no_worker below)
          go (no past) =
              let far : length (replicate 8 idle_worker) ≤ w = omega (arith, length-replicate 8 idle_worker) in
              ap (λ x. x.phase) (get_or-eq_default (replicate 8 idle_worker) no_worker far)
