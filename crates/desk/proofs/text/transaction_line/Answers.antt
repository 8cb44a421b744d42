use Rattle.std.proofs.Common.{◌≡◌, arith, length, take}
use Rattle.desk.specs.LawsLines.{four_few, four_taken}
use Rattle.desk.specs.LawsText.{tx_made}
use Rattle.desk.proofs.text.transaction_line.Goals as goal

pub returns : goal.returns
returns c =
    let four : length c.args.values ≡ 4 = omega arith in
    rw (
      c.push_text-3.ensures,
      c.push_spaced.ensures,
      c.min.ensures,
      four_taken c.args.values c.args.count four,
      c.push_text-2.ensures,
      c.outcome_word.ensures,
      c.push_number.ensures,
      c.push_text.ensures,
      c.blank-line.ensures,
    )
    (tx_made c.args.position c.args.outcome (take c.args.count c.args.values)
    (four_few c.args.values c.args.count four))
