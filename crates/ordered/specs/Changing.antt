-- Changes that the engine and the machine make alike: a worker goes on, a transaction's row changes, an entry is
-- filled. Each keeps the engine standing in the machine's state.
use Prim.Native.Nat.{ℕ, ◌*◌, ◌≤◌, ◌<◌}
use Rattle.std.specs.Prelude.{true, ◌≢◌, ◌≡◌, refl, length, get_or, set}
use Rattle.std.proofs.Common.{sym, ap, ◌∙◌, arith, get_or-set_same, get_or-set_other}
use Rattle.std.proofs.Math.Path.{subst}
use mathlib.Core.List.{List}
use Rattle.std.proofs.Math.Decide.{ℕ_discrete}
use Rattle.std.proofs.Math.ListN.{length-set}
use Rattle.versions.specs.LawsTable.{fill_length, fill_here, fill_other}
use Rattle.versions.specs.Step.{fill_of}
use Rattle.versions.specs.Table.{entry_of}
use Rattle.versions.specs.declared.Version.{Version}
use Rattle.versions.specs.declared.plan.Fill.{Fill}
use Rattle.counters.specs.declared.Outcome.{Outcome}
use Rattle.engine.specs.Place.{slot_of}
use Rattle.engine.specs.Range.{row_at, no_worker, worker_at}
use Rattle.engine.specs.Rows.{row}
use Rattle.engine.specs.States.{with_row, with_worker}
use Rattle.engine.specs.Workers.{is_idle}
use Rattle.engine.specs.declared.Progress.TheVariants.{Unprocessed}
use Rattle.engine.specs.declared.Row.{Row}
use Rattle.engine.specs.declared.State.{State}
use Rattle.engine.specs.declared.Worker.{Worker}
use Rattle.order.specs.Machine as machine
use Rattle.order.specs.Tables.{updated, updated_entry}
use Rattle.order.specs.TableLaws.{updated_all, entry_all}
use Rattle.ordered.specs.Describing.{Numbers}
use Rattle.ordered.specs.Relation.{ContentsIs, EntryIs, four_at, RowIs, WorkIs, Stands}
use Rattle.engine.specs.Running.{Engine}

-- the engine with another state, another version table, other results
abbrev pub with_state : Engine → State → Engine
with_state e s =
    record { state = s; records = e.records; newest = e.newest; versions = e.versions; results = e.results }

abbrev pub with_versions : Engine → List Version → Engine
with_versions e versions =
    record { state = e.state; records = e.records; newest = e.newest; versions = versions; results = e.results }

abbrev pub with_results : Engine → List ℕ → Engine
with_results e results =
    record { state = e.state; records = e.records; newest = e.newest; versions = e.versions; results = results }

-- the machine with another execution
abbrev pub executed : machine.State ℕ Outcome → machine.Execution ℕ Outcome → machine.State ℕ Outcome
executed m execution = record { plan = m.plan; execution = execution }

-- the machine's transaction i has another row
abbrev pub row_changed : machine.Execution ℕ Outcome → ℕ → machine.Row ℕ Outcome → machine.Execution ℕ Outcome
row_changed execution i x =
    record { contents = execution.contents; row = updated execution.row i x; work = execution.work }

module _ (o : State) (stored : List ℕ) (numbers : Numbers o)
    (e : Engine) (m : machine.State ℕ Outcome) (stands : Stands o stored e m) where
  -- a worker goes on
  pub work_stands : (w : ℕ) (worker : Worker) (work : machine.Work ℕ Outcome) → w < o.workers → WorkIs worker work
      → Stands o stored (with_state e (with_worker e.state w worker)) (executed m (machine.with_work m.execution
      w work))
  unfolding machine.with_work
  work_stands w worker work there is =
      record {
        fixed =
            record {
              records_fixed = stands.fixed.records_fixed;
              partitions_fixed = stands.fixed.partitions_fixed;
              workers_fixed = stands.fixed.workers_fixed;
              next_fixed = stands.fixed.next_fixed;
              size_fixed = stands.fixed.size_fixed;
              batch_fixed = stands.fixed.batch_fixed;
              placed_length = stands.fixed.placed_length;
              rows_length = stands.fixed.rows_length;
              crew_length = length-set crew w worker ∙ stands.fixed.crew_length;
            };
        records_are = stands.records_are;
        results_length = stands.results_length;
        results_past = stands.results_past;
        plan_is = stands.plan_is;
        contents_are = stands.contents_are;
        placed_are = stands.placed_are;
        placed_past = stands.placed_past;
        rows_are = stands.rows_are;
        crew_are =
            updated_all (λ (v : ℕ) (x : machine.Work ℕ Outcome). v < o.workers → WorkIs (after v) x)
            m.execution.work w work
            (λ below. subst (λ (x : Worker). WorkIs x work) (sym (get_or-set_same crew w worker no_worker inside)) is)
            (λ v other below.
            subst (λ (x : Worker). WorkIs x (m.execution.work v)) (sym (elsewhere v other))
            (stands.crew_are v below));
        crew_past = λ v past.
            subst (λ (x : Worker). is_idle x ≡ true) (sym (elsewhere v (λ same.
            absurd (omega (arith, there, past, same)))))
            (stands.crew_past v past);
      }
    where
      crew : List Worker
      crew = e.state.crew

      after : ℕ → Worker
      after v = get_or (set crew w worker) v no_worker

      inside : w < length crew
      inside = omega (arith, there, numbers.few_workers, stands.fixed.crew_length)

      elsewhere : (v : ℕ) → v ≢ w → after v ≡ worker_at e.state v
      elsewhere v other = get_or-set_other crew w v worker no_worker other

  -- a transaction's row changes, and perhaps its four results
  row_with_results : (i : ℕ) (x : Row) (results results_after : List ℕ) (y : machine.Row ℕ Outcome)
      → four_at results_after (4 * i) ≡ four_at results (4 * i) → RowIs x results i y → RowIs x results_after i y
  row_with_results i x results results_after machine.unprocessed same is = is
  row_with_results i x results results_after (machine.executing w) same is = is
  row_with_results i x results results_after (machine.complete outcome values) same is = (is.0, same ∙ is.1)

  pub row_stands : (i : ℕ) (x : Row) (results : List ℕ) (y : machine.Row ℕ Outcome) → i < o.size
      → length results ≡ 256 → ((k : ℕ) → 4 * o.size ≤ k → get_or results k 0 ≡ 0)
      → ((a : ℕ) → a ≢ i → four_at results (4 * a) ≡ four_at e.results (4 * a)) → RowIs x results i y
      → Stands o stored (with_results (with_state e (with_row e.state i x)) results)
      (executed m (row_changed m.execution i y))
  row_stands i x results y below long past others is =
      record {
        fixed =
            record {
              records_fixed = stands.fixed.records_fixed;
              partitions_fixed = stands.fixed.partitions_fixed;
              workers_fixed = stands.fixed.workers_fixed;
              next_fixed = stands.fixed.next_fixed;
              size_fixed = stands.fixed.size_fixed;
              batch_fixed = stands.fixed.batch_fixed;
              placed_length = stands.fixed.placed_length;
              rows_length = length-set rows i x ∙ stands.fixed.rows_length;
              crew_length = stands.fixed.crew_length;
            };
        records_are = stands.records_are;
        results_length = long;
        results_past = past;
        plan_is = stands.plan_is;
        contents_are = stands.contents_are;
        placed_are = stands.placed_are;
        placed_past = stands.placed_past;
        rows_are =
            updated_all (λ (a : ℕ) (z : machine.Row ℕ Outcome). a < o.size → RowIs (after a) results a z)
            m.execution.row i y
            (λ there.
            subst (λ (z : Row). RowIs z results i y) (sym (get_or-set_same rows i x (row Unprocessed) inside)) is)
            (λ a other there.
            subst (λ (z : Row). RowIs z results a (m.execution.row a))
            (sym (get_or-set_other rows i a x (row Unprocessed) other))
            (row_with_results a (row_at e.state a) e.results results (m.execution.row a) (others a other)
            (stands.rows_are a there)));
        crew_are = stands.crew_are;
        crew_past = stands.crew_past;
      }
    where
      rows : List Row
      rows = e.state.rows

      after : ℕ → Row
      after a = get_or (set rows i x) a (row Unprocessed)

      inside : i < length rows
      inside = omega (arith, below, numbers.few_transactions, stands.fixed.rows_length)

  -- with the results as they are
  pub row_changed_lem : (i : ℕ) (x : Row) (y : machine.Row ℕ Outcome) → i < o.size → RowIs x e.results i y
      → Stands o stored (with_state e (with_row e.state i x)) (executed m (row_changed m.execution i y))
  row_changed_lem i x y below is =
      row_stands i x e.results y below stands.results_length stands.results_past (λ a other. refl) is

  -- an entry is filled
  pub fill_stands : (i j x : ℕ) → i < o.size → j < 4
      → Stands o stored (with_versions e (fill_of e.versions (record { slot = slot_of i j; contents = x })))
      (executed m (machine.produce m.execution i j x))
  unfolding machine.produce
  fill_stands i j x below few =
      record {
        fixed = stands.fixed;
        records_are = stands.records_are;
        results_length = stands.results_length;
        results_past = stands.results_past;
        plan_is =
            record {
              newest_length = stands.plan_is.newest_length;
              versions_length = fill_length versions fill ∙ stands.plan_is.versions_length;
              newest_is = stands.plan_is.newest_is;
              entries = λ a b there four. entry a b there four (ℕ_discrete (slot_of a b) (slot_of i j));
            };
        contents_are = contents;
        placed_are = stands.placed_are;
        placed_past = stands.placed_past;
        rows_are = stands.rows_are;
        crew_are = stands.crew_are;
        crew_past = stands.crew_past;
      }
    where
      versions : List Version
      versions = e.versions

      fill : Fill
      fill = record { slot = slot_of i j; contents = x }

      inside : slot_of i j < length versions
      inside = omega (arith, below, few, numbers.few_transactions, stands.plan_is.versions_length)

      entry : (a b : ℕ) → a < o.size → b < 4 → Dec (slot_of a b ≡ slot_of i j)
          → EntryIs o.size (entry_of (fill_of versions fill) (slot_of a b)) m.plan a b
      entry a b there four (yes same) =
          let before = stands.plan_is.entries a b there four in
          let is : entry_of (fill_of versions fill) (slot_of a b) ≡ _ =
          ap (entry_of (fill_of versions fill)) same ∙ fill_here versions fill inside in
          rw (is, ← same) (record {
            begin_is = before.begin_is;
            end_is = before.end_is;
            previous_is = before.previous_is;
          })
      entry a b there four (no other) =
          rw (fill_other versions fill (slot_of a b) other) (stands.plan_is.entries a b there four)

      contents : (a b : ℕ) → a < o.size → b < 4
          → ContentsIs (entry_of (fill_of versions fill) (slot_of a b))
          (updated_entry m.execution.contents i j (machine.produced x) a b)
      contents =
          entry_all
          (λ (a b : ℕ) (y : machine.Contents ℕ). a < o.size → b < 4
          → ContentsIs (entry_of (fill_of versions fill) (slot_of a b)) y)
          m.execution.contents i j (machine.produced x)
          (λ there four. rw (fill_here versions fill inside) (refl, refl))
          (λ a b other there four.
          rw (fill_other versions fill (slot_of a b) (λ same. other (omega arith) (omega arith)))
          (stands.contents_are a b there four))
