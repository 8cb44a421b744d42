use Rattle.desk.specs.LawsText.{counts_made}
use Rattle.desk.proofs.text.counts_line.Goals as goal

pub returns : goal.returns
returns c =
    rw (
      c.push_text-4.ensures,
      c.push_number-3.ensures,
      c.push_text-3.ensures,
      c.push_number-2.ensures,
      c.push_text-2.ensures,
      c.push_number.ensures,
      c.push_text.ensures,
      c.blank-line.ensures,
    )
    (counts_made c.args.steps c.args.refused c.args.waits)
