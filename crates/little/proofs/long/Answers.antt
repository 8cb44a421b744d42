use Rattle.std.proofs.Common.{arith, ◌∙◌}
use Rattle.little.specs.Laws.{read_whole}
use Rattle.little.proofs.long.Goals as goal

pub returns : goal.returns
returns c = c.from_le_bytes.ensures ∙ read_whole c.args.bytes 7 (omega arith)
