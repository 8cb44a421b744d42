use Rattle.std.proofs.Common.{◌∙◌}
use Rattle.little.specs.Laws.{written}
use Rattle.little.proofs.word_bytes.Goals as goal

pub returns : goal.returns
returns c = c.to_le_bytes.ensures ∙ written c.args.value 2
