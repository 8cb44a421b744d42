-- Wrong accounts of the listing.
use Rattle.std.specs.Prelude.{List, [], ◌∷◌, ◌++◌, refl, replicate}
use Rattle.counters.specs.Listing.{listing}
use Rattle.counters.specs.OneByOne.{values_on, changed_copy, one_by_one}
use Rattle.counters.specs.declared.Outcome.TheVariants.{Committed}
use Rattle.engine.specs.declared.Answer.TheVariants.{Accepted, Waits}
use Rattle.instances.specs.Listing.{after, run}
use Rattle.instances.specs.Steps.{Played}
use Rattle.excluded.specs.Parts.{answers, outcomes}
use Rattle.excluded.specs.Rows.{Row, row, AllExclude, all_exclude, numbers}

-- rows of the listing's run
abbrev played : Played → List Row
played p =
    -- its wait for position 2 (listing_waits_for_two)
    row answers p.answers (replicate 12 Accepted ++ Waits (record { 0 = 2 }) ∷ replicate 16 Accepted)
    -- 41 in record 3 (listing_of_other_records)
    ∷ row numbers p.engine.records (7 ∷ 15 ∷ 30 ∷ 41 ∷ [])
    ∷ []

abbrev pub rows : List Row
rows =
    -- its third transaction committed (listing_of_another_outcome)
    row outcomes (one_by_one listing (10 ∷ 20 ∷ 30 ∷ 40 ∷ [])).outcomes (replicate 4 Committed)
    ∷ played run

pub listing_exclude : AllExclude rows
unfolding run after one_by_one values_on changed_copy
listing_exclude = all_exclude rows refl
