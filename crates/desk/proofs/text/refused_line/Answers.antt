use Rattle.desk.specs.LawsText.{refused_made}
use Rattle.desk.proofs.text.refused_line.Goals as goal

pub returns : goal.returns
returns c =
    rw (c.push_text-2.ensures, c.push_number.ensures, c.push_text.ensures, c.blank-line.ensures)
    (refused_made c.args.number)
