-- One entry of the version table.
use Rattle.std.specs.Prelude.{ℕ, true, false}
use Rattle.terms.specs.Reserved.{no_slot, no_end}
use Rattle.versions.specs.declared.Version.{Version}

-- "empty entries (begin, end and contents 0, previous 65,535, not produced)"
abbrev pub empty_entry : Version
empty_entry = record { begin = 0; end = 0; previous = no_slot; contents = 0; produced = false }

-- "begin is its position, end 2^64 − 1, previous is the newest slot, not produced": the contents are as they were
abbrev pub linked_of : Version → ℕ → ℕ → Version
linked_of old position newest =
    record { begin = position; end = no_end; previous = newest; contents = old.contents; produced = false }

-- "a preceding entry's end becomes this position"
abbrev pub ended_of : Version → ℕ → Version
ended_of old position =
    record {
      begin = old.begin;
      end = position;
      previous = old.previous;
      contents = old.contents;
      produced = old.produced;
    }

-- "Filling stores contents and marks produced."
abbrev pub filled_of : Version → ℕ → Version
filled_of old new =
    record { begin = old.begin; end = old.end; previous = old.previous; contents = new; produced = true }
