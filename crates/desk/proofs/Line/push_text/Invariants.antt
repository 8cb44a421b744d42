use Rattle.std.proofs.Common.{◌≡◌, take}
use Rattle.desk.specs.Lines.{pushed_all}
use Rattle.desk.proofs.Line.push_text.Given as goal

-- the bytes so far are pushed
abbrev pub invariant-loop-byte : goal.invariant-loop-byte
invariant-loop-byte l = l.self ≡ pushed_all l.fn.self (take l.byte-index l.text)
