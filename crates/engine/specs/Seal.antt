-- "Seal. After every transaction is Complete. Each record with a newest version takes its contents. The newest-version
-- and version tables are emptied as at opening, results and outcomes stay until the next opening, the next position
-- rises by n, the batch number by 1, and n and all placed counts become 0."
use Rattle.std.specs.Prelude.{ℕ, ◌+◌, ◌*◌, Bool, true, ◌||◌, not, List, length, replicate, Ok, Err}
use Rattle.terms.specs.Refusals.{refuse_if, Verdict}
use Rattle.terms.specs.declared.refusal.Refusal.TheVariants.{
  WrongParameter,
  WrongMoment,
  StateOutOfRange,
  BrokenTables,
}
use Rattle.versions.specs.Seal.{newest_sound_of, collect_of}
use Rattle.versions.specs.declared.Version.{Version}
use Rattle.engine.specs.Answers.{accept, refuse_by}
use Rattle.engine.specs.Moment.{not_sealable}
use Rattle.engine.specs.Range.{out_of_range}
use Rattle.engine.specs.Tables.{not_of, none_newest, all_empty}
use Rattle.engine.specs.declared.State.{State}
use Rattle.engine.specs.declared.Stepped.{Stepped}

-- what a seal hands back
pub record Sealed : Type 0 where
  pub stepped : Stepped
  pub records : List ℕ
  pub newest : List ℕ
  pub versions : List Version

-- 1, for the tables that a seal is lent
abbrev pub wrong_for_seal : State → ℕ → ℕ → ℕ → Bool
wrong_for_seal s records newest versions =
    not_of records s.records || not_of newest s.records || not_of versions 256

-- "The seal checks 1, 14, 9, 15."
unfoldable pub seal_verdict : State → ℕ → ℕ → ℕ → Bool → Verdict
seal_verdict s records newest versions sound =
    -- 1
    refuse_if (wrong_for_seal s records newest versions) WrongParameter 0
    -- 14
    (refuse_if (out_of_range s) StateOutOfRange 0
    -- 9
    (refuse_if (not_sealable s) WrongMoment 0
    -- 15: "a followed slot is neither 65,535 nor below 4n"; "a newest version is not produced"
    (refuse_if (not sound) BrokenTables 0 (Ok tt))))

-- "the next position rises by n, the batch number by 1, and n and all placed counts become 0"
abbrev pub closed : State → State
closed s =
    record {
      records = s.records;
      partitions = s.partitions;
      workers = s.workers;
      next = record { 0 = s.next.0 + s.size };
      size = 0;
      batch = record { 0 = s.batch.0 + 1 };
      placed = replicate 8 0;
      rows = s.rows;
      crew = s.crew;
    }

abbrev pub sealed_by : Verdict → State → List ℕ → List ℕ → List Version → Sealed
sealed_by (Ok _) s records newest versions =
    record {
      stepped = accept (closed s);
      records = collect_of versions newest records true;
      newest = none_newest newest;
      versions = all_empty versions;
    }
sealed_by (Err why) s records newest versions =
    record { stepped = refuse_by s why.refusal why.place; records = records; newest = newest; versions = versions }

unfoldable pub seal_of : State → List ℕ → List ℕ → List Version → Sealed
seal_of s records newest versions =
    sealed_by
    (seal_verdict s (length records) (length newest) (length versions) (newest_sound_of versions newest (4 * s.size)))
    s
    records
    newest
    versions
