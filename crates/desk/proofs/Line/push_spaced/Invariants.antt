use Rattle.std.proofs.Common.{◌≡◌, take}
use Rattle.desk.specs.Lines.{pushed_all}
use Rattle.desk.specs.Text.{spaced}
use Rattle.desk.proofs.Line.push_spaced.Given as goal

-- the numbers so far are pushed
abbrev pub invariant-loop-number : goal.invariant-loop-number
invariant-loop-number l = l.self ≡ pushed_all l.fn.self (spaced (take l.number-index l.numbers))
