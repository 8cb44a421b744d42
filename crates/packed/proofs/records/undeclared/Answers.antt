use Rattle.std.proofs.Common.{refl, arith, sym, ap, ◌∙◌, ◌≡◌, ◌||◌, true, false}
use Rattle.packed.specs.Fields.{byte_at, set_at}
use Rattle.packed.specs.LawsMeaning.{written_by, reads_kept, writes_kept}
use Rattle.packed.specs.LawsRecords.{or_true, or_false, none_yet, one_joined, all_joined, none_more, found}
use Rattle.packed.specs.Records.{some_of, writes_unlisted, undeclared_read, undeclared_write}
use Rattle.packed.proofs.records.undeclared.Goals as goal
use Rattle.packed.proofs.records.undeclared.Goals.{then-writes_unlisted, else-writes_unlisted}

pub loop-k-init : goal.loop-k-init
loop-k-init c = record { none_read = none_yet _ _; written = ap written_by (none_yet _ _) }

pub returns-then-reads_unlisted : goal.returns-then-reads_unlisted
unfolding undeclared_read
returns-then-reads_unlisted c =
    let b = c.args.b.now in
    let reads = rw (c.set_at-reads.ensures, c.action_at-action.ensures) at c.reads_unlisted.ensures in
    let read = reads ∙ reads_kept (set_at b 4) (byte_at b 0) _ in
    let some : true ≡ undeclared_read b =
    found _ _ c.loop-k.k c.from-k-end.ensures (omega arith) refl read c.if-reads_unlisted.true in
    rw (← some)

pub loop-k-preserved : goal.loop-k-preserved
loop-k-preserved c =
    let b = c.args.b.now in
    let k = c.loop-k.k in
    let reads = rw (c.set_at-reads.ensures, c.action_at-action.ensures) at c.reads_unlisted.ensures in
    let read = reads ∙ reads_kept (set_at b 4) (byte_at b 0) _ in
    let writes = rw (c.set_at-writes.ensures, c.action_at-action.ensures) at c.writes_unlisted.ensures in
    let write = writes ∙ writes_kept (set_at b 12) (byte_at b 1) _ in
    let so_far = some_of (writes_unlisted (set_at b 12) (byte_at b 1)) b k in
    let joined = one_joined (writes_unlisted (set_at b 12) (byte_at b 1)) b {so_far = so_far} k refl refl write in
    record {
      none_read = none_more _ _ k c.loop-k.invariant.none_read refl read c.if-reads_unlisted.false;
      written =
          elim c.if-writes_unlisted.branch [
            | then-writes_unlisted w ↦
                w.found-is
                ∙ ap written_by
                (sym (or_true so_far) ∙ ap (λ a. so_far || a) (sym w.if-writes_unlisted.true) ∙ joined)
            | else-writes_unlisted w ↦
                w.found-is
                ∙ c.loop-k.invariant.written
                ∙ ap written_by
                (or_false so_far ∙ ap (λ a. so_far || a) (sym w.if-writes_unlisted.false) ∙ joined)
          ];
    }

pub returns : goal.returns
unfolding undeclared_read undeclared_write
returns c =
    let b = c.args.b.now in
    let k = c.loop-k.k in
    let counted = c.from-k-end.ensures in
    let read : false ≡ undeclared_read b =
    all_joined _ _ k c.loop-k.invariant.none_read counted (omega arith) (omega arith) in
    let written : some_of (writes_unlisted (set_at b 12) (byte_at b 1)) b k ≡ undeclared_write b =
    all_joined _ _ k refl counted (omega arith) (omega arith) in
    rw (← read) (c.loop-k.invariant.written ∙ ap written_by written)
