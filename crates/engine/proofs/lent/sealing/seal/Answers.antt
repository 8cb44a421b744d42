use Rattle.engine.specs.LawsLentSeal.{lent_counted, lent_records, lent_newest, lent_versions}
use Rattle.engine.proofs.lent.sealing.seal.Goals as goal

pub returns-in-Ok : goal.returns-in-Ok
returns-in-Ok c =
    let a = c.args in
    let plan = c.in-Ok.ensures in
    let counted = lent_counted a.numbers a.rows.now a.crew.now a.records.now a.newest.now a.versions.now in
    let records = lent_records a.numbers a.rows.now a.crew.now a.records.now a.newest.now a.versions.now in
    let newest = lent_newest a.numbers a.rows.now a.crew.now a.records.now a.newest.now a.versions.now in
    let versions = lent_versions a.numbers a.rows.now a.crew.now a.records.now a.newest.now a.versions.now in (
      rw (← plan) at counted,
      (
        rw c.collect.ensures (rw (← plan) at records),
        (
          rw (c.fill.ensures.after (λ y same. same)) (rw (← plan) at newest),
          rw c.clear.ensures (rw (← plan) at versions),
        ),
      ),
    )

pub returns-in-Err : goal.returns-in-Err
returns-in-Err c =
    let a = c.args in
    let plan = c.in-Err.ensures in
    let counted = lent_counted a.numbers a.rows.now a.crew.now a.records.now a.newest.now a.versions.now in
    let records = lent_records a.numbers a.rows.now a.crew.now a.records.now a.newest.now a.versions.now in
    let newest = lent_newest a.numbers a.rows.now a.crew.now a.records.now a.newest.now a.versions.now in
    let versions = lent_versions a.numbers a.rows.now a.crew.now a.records.now a.newest.now a.versions.now in (
      rw c.into.ensures (rw (← plan) at counted),
      (rw (← plan) at records, (rw (← plan) at newest, rw (← plan) at versions)),
    )
