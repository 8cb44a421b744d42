use Rattle.std.proofs.Common.{◌≡◌, false}
use Rattle.packed.specs.Fields.{byte_at, set_at}
use Rattle.packed.specs.LawsMeaning.{written_by}
use Rattle.packed.specs.Records.{some_of, reads_unlisted, writes_unlisted}
use Rattle.packed.proofs.records.undeclared.Given as goal

-- no action before the k-th reads an undeclared record, and `found` tells whether one writes one
abbrev pub invariant-loop-k : goal.invariant-loop-k
invariant-loop-k l = record {
  none_read : false ≡ some_of (reads_unlisted (set_at l.b 4) (byte_at l.b 0)) l.b l.k;
  written : l.found ≡ written_by (some_of (writes_unlisted (set_at l.b 12) (byte_at l.b 1)) l.b l.k);
}
