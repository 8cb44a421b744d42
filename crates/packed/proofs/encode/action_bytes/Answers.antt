use Rattle.std.proofs.Common.{refl}
use Rattle.little.specs.Little.{bytes_of}
use Rattle.packed.specs.Encode.{action_bytes}
use Rattle.packed.proofs.encode.action_bytes.Goals as goal

pub returns : goal.returns
unfolding action_bytes bytes_of
returns c = rw (c.long_bytes-c.ensures, c.word_bytes-s.ensures, c.word_bytes-r.ensures) refl
