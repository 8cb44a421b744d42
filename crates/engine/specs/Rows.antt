-- A transaction of the batch alone.
use Rattle.std.specs.Prelude.{ℕ, Bool, true, false, eqb}
use Rattle.engine.specs.declared.Progress.{Progress}
use Rattle.engine.specs.declared.Progress.TheVariants.{Unprocessed, Executing, Complete}
use Rattle.engine.specs.declared.Row.{Row}

abbrev pub row : Progress → Row
row progress = record { progress = progress }

abbrev pub unprocessed : Progress → Bool
unprocessed Unprocessed = true
unprocessed (Executing worker) = false
unprocessed (Complete outcome) = false

abbrev pub is_unprocessed : Row → Bool
is_unprocessed x = unprocessed x.progress

abbrev pub complete : Progress → Bool
complete Unprocessed = false
complete (Executing worker) = false
complete (Complete outcome) = true

abbrev pub is_complete : Row → Bool
is_complete x = complete x.progress

-- "Executing by" a worker
abbrev pub run_by : Progress → ℕ → Bool
run_by Unprocessed worker = false
run_by (Executing by) worker = eqb by worker
run_by (Complete outcome) worker = false

abbrev pub executing_by : Row → ℕ → Bool
executing_by x worker = run_by x.progress worker
