use Rattle.std.proofs.Common.{length}
use Rattle.std.proofs.Math.Nat.{min-le_right}
use Rattle.std.proofs.lemmas.List.{length-take-le}
use Rattle.versions.proofs.Laws.Table.{clear_is}
use Rattle.versions.proofs.table.clear.Goals as goal

pub returns : goal.returns
returns c =
    let versions = c.args.versions.now in
    let within = length-take-le _ _ (min-le_right c.args.count (length versions)) in
    rw (c.fill.ensures.after (λ y e. e), c.min-stop.ensures, within, c.empty.ensures)
    (clear_is versions c.args.count)
