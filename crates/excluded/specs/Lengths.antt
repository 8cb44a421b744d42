-- A version table of one entry too few, or one too many, accepted: by each call that is lent one, at a moment of the
-- listing at which it accepts the table of 256 entries that is there (`right_accepted`). The tables are that one
-- without
-- its last entry, which is empty, and with one more, so that only the length is wrong.
use Rattle.std.specs.Prelude.{List, [], ◌∷◌, ◌++◌, ◌≡◌, refl, replicate, take}
use Rattle.terms.specs.Refusals.{place_of as placed}
use Rattle.terms.specs.declared.refusal.Refusal.TheVariants.{WrongParameter}
use Rattle.versions.specs.Entry.{empty_entry}
use Rattle.versions.specs.declared.Version.{Version}
use Rattle.engine.specs.Advance.{advance_of}
use Rattle.engine.specs.Open.{open_of}
use Rattle.engine.specs.Place.{place_of}
use Rattle.engine.specs.Running.{Engine}
use Rattle.engine.specs.Seal.{seal_of}
use Rattle.engine.specs.declared.Answer.{Answer}
use Rattle.engine.specs.declared.Answer.TheVariants.{Accepted, Refused}
use Rattle.instances.specs.Listing.{log, made, opened, after}
use Rattle.instances.specs.Moments.{deciding, finished}
use Rattle.excluded.specs.Parts.{answered}
use Rattle.excluded.specs.Rows.{Row, row, AllExclude, all_exclude}

-- the answers at a moment, to a call that is lent this table
abbrev opening : Engine → List Version → Answer
opening c versions = (open_of c.state log c.newest versions c.results).stepped.answer

abbrev placing : Engine → List Version → Answer
placing c versions = (place_of c.state 0 log c.newest versions).stepped.answer

abbrev advancing : Engine → List Version → Answer
advancing c versions = (advance_of c.state 0 log c.records c.newest versions c.results).stepped.answer

abbrev sealing : Engine → List Version → Answer
sealing c versions = (seal_of c.state c.records c.newest versions).stepped.answer

-- the answers of the four calls, each at its moment, to a table made of the one that is there
abbrev answers : (List Version → List Version) → List Answer
answers table =
    opening made (table made.versions)
    ∷ placing opened (table opened.versions)
    ∷ advancing deciding (table deciding.versions)
    ∷ sealing finished (table finished.versions)
    ∷ []

abbrev same : List Version → List Version
same versions = versions

abbrev shorter : List Version → List Version
shorter versions = take 255 versions

abbrev longer : List Version → List Version
longer versions = versions ++ empty_entry ∷ []

-- ---- the right length is accepted, the others are refused by 1
pub right_accepted : answers same ≡ replicate 4 Accepted
unfolding after
right_accepted = refl

pub shorter_refused : answers shorter ≡ replicate 4 (Refused WrongParameter (placed WrongParameter 0))
unfolding after
shorter_refused = refl

pub longer_refused : answers longer ≡ replicate 4 (Refused WrongParameter (placed WrongParameter 0))
unfolding after
longer_refused = refl

-- ---- so what accepts them is excluded
abbrev rows_of : List Answer → List Row
rows_of [] = []
rows_of (answer ∷ rest) = row answered answer Accepted ∷ rows_of rest

abbrev pub rows : List Row
rows = rows_of (answers shorter) ++ rows_of (answers longer)

pub lengths_exclude : AllExclude rows
unfolding after
lengths_exclude = all_exclude rows refl
