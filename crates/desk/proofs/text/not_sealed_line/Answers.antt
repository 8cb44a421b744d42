use Rattle.desk.specs.LawsText.{not_sealed_made}
use Rattle.desk.specs.Text.{not_sealed_line}
use Rattle.desk.proofs.text.not_sealed_line.Goals as goal

pub returns : goal.returns
unfolding not_sealed_line
returns c = rw (c.push_text.ensures, c.blank-line.ensures) not_sealed_made
