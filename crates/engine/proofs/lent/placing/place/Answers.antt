use Rattle.std.proofs.Common.{ap, ◌∙◌}
use Rattle.engine.specs.LawsLentPlace.{lent_counted, lent_newest, lent_versions}
use Rattle.engine.specs.Place.{Plans}
use Rattle.engine.proofs.lent.placing.place.Goals as goal

pub returns-in-Ok : goal.returns-in-Ok
returns-in-Ok c =
    let a = c.args in
    let plan = c.in-Ok.ensures in
    let written = c.place_writes.ensures in
    let counted = lent_counted a.numbers a.rows.now a.crew.now a.party a.log.now a.newest.now a.versions.now in
    let newest = lent_newest a.numbers a.rows.now a.crew.now a.party a.log.now a.newest.now a.versions.now in
    let versions = lent_versions a.numbers a.rows.now a.crew.now a.party a.log.now a.newest.now a.versions.now in (
      rw c.with_placed.ensures (rw (← plan) at counted),
      (
        ap (λ (t : Plans). t.newest) written ∙ rw (← plan) at newest,
        ap (λ (t : Plans). t.versions) written ∙ rw (← plan) at versions,
      ),
    )

pub returns-in-Err : goal.returns-in-Err
returns-in-Err c =
    let a = c.args in
    let plan = c.in-Err.ensures in
    let counted = lent_counted a.numbers a.rows.now a.crew.now a.party a.log.now a.newest.now a.versions.now in
    let newest = lent_newest a.numbers a.rows.now a.crew.now a.party a.log.now a.newest.now a.versions.now in
    let versions = lent_versions a.numbers a.rows.now a.crew.now a.party a.log.now a.newest.now a.versions.now in
    (rw c.into.ensures (rw (← plan) at counted), (rw (← plan) at newest, rw (← plan) at versions))
