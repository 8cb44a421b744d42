use Rattle.desk.specs.LawsText.{rec_made}
use Rattle.desk.proofs.text.record_line.Goals as goal

pub returns : goal.returns
returns c =
    rw (
      c.push_text-3.ensures,
      c.push_number-2.ensures,
      c.push_text-2.ensures,
      c.push_number.ensures,
      c.push_text.ensures,
      c.blank-line.ensures,
    )
    (rec_made c.args.number c.args.contents)
