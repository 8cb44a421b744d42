use Rattle.engine.specs.LawsLentAdvance.{
  advanced_answer,
  advanced_rows,
  advanced_crew,
  advanced_versions,
  advanced_results,
}
use Rattle.engine.proofs.lent.advancing.advance.Goals as goal

pub returns : goal.returns
returns c =
    let numbers = c.args.numbers in
    let rows = c.args.rows.now in
    let crew = c.args.crew.now in
    let party = c.args.party in
    let log = c.args.log.now in
    let records = c.args.records.now in
    let newest = c.args.newest.now in
    let versions = c.args.versions.now in
    let results = c.args.results.now in
    rw (
      c.carry_out.ensures.answer,
      c.carry_out.ensures.rows,
      c.carry_out.ensures.crew,
      c.carry_out.ensures.versions,
      c.carry_out.ensures.results,
      c.turn-turn.ensures,
      c.worker_at-transaction.ensures,
    ) (
      advanced_answer numbers rows crew party log records newest versions results,
      (
        advanced_rows numbers rows crew party log records newest versions results,
        (
          advanced_crew numbers rows crew party log records newest versions results,
          (
            advanced_versions numbers rows crew party log records newest versions results,
            advanced_results numbers rows crew party log records newest versions results,
          ),
        ),
      ),
    )
