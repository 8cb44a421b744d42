use Rattle.engine.specs.LawsOpen.{open_stepped, open_newest, open_versions, open_results}
use Rattle.engine.proofs.State.open.Goals as goal

pub returns-in-Ok : goal.returns-in-Ok
returns-in-Ok c =
    let a = c.args in
    let plan = c.in-Ok.ensures in
    let stepped = open_stepped a.self a.log.now a.newest.now a.versions.now a.results.now in
    let newest = open_newest a.self a.log.now a.newest.now a.versions.now a.results.now in
    let versions = open_versions a.self a.log.now a.newest.now a.versions.now a.results.now in
    let results = open_results a.self a.log.now a.newest.now a.versions.now a.results.now in (
      rw (c.accepted.ensures, c.opened.ensures) (rw (← plan) at stepped),
      (
        rw (c.fill.ensures.after (λ y same. same)) (rw (← plan) at newest),
        (
          rw c.clear.ensures (rw (← plan) at versions),
          rw (c.fill-in-Ok.ensures.after (λ y same. same)) (rw (← plan) at results),
        ),
      ),
    )

pub returns-in-Err : goal.returns-in-Err
returns-in-Err c =
    let a = c.args in
    let plan = c.in-Err.ensures in
    let stepped = open_stepped a.self a.log.now a.newest.now a.versions.now a.results.now in
    let newest = open_newest a.self a.log.now a.newest.now a.versions.now a.results.now in
    let versions = open_versions a.self a.log.now a.newest.now a.versions.now a.results.now in
    let results = open_results a.self a.log.now a.newest.now a.versions.now a.results.now in (
      rw c.refused_by.ensures (rw (← plan) at stepped),
      (rw (← plan) at newest, (rw (← plan) at versions, rw (← plan) at results)),
    )
