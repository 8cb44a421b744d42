use Rattle.desk.specs.Text.{decimal}
use Rattle.desk.proofs.Line.push_number.Goals as goal

pub returns : goal.returns
unfolding decimal
returns c = c.push_digits.ensures
