use Rattle.desk.specs.LawsLines.{digits_none, digits_one, digits_more}
use Rattle.desk.proofs.Line.+push_digits.Goals as goal
use Rattle.desk.proofs.Line.+push_digits.Goals.{then-number-ge10, else-number-ge10}

pub returns-then-most-eq0 : goal.returns-then-most-eq0
returns-then-most-eq0 t c = digits_none _ _ _ c.if-most-eq0.true

pub returns : goal.returns
returns t c =
    elim c.if-number-ge10.branch [
      | then-number-ge10 w ↦
          rw (c.push.ensures, c.digit.ensures, w.self-is, w.push_digits.ensures)
          (digits_more _ _ _ c.if-most-eq0.false w.if-number-ge10.true)
      | else-number-ge10 w ↦
          rw (c.push.ensures, c.digit.ensures, w.self-is)
          (digits_one _ _ _ c.if-most-eq0.false w.if-number-ge10.false)
    ]
