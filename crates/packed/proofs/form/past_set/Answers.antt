use Rattle.little.specs.Laws.{Bytes}
use Rattle.packed.specs.LawsPast.{past_none, past_one, past_two, past_three}
use Rattle.packed.proofs.form.past_set.Goals as goal

pub returns-in-0 : goal.returns-in-0
returns-in-0 c = rw (c.long_at-set.ensures, c.in-0.is) (past_none c.args.b.now c.args.at)

pub returns-in-1 : goal.returns-in-1
returns-in-1 c =
    let b = c.args.b.now in
    let small : Bytes b = λ i. (c.type_inv.b i).fits in
    rw (c.long_at-set.ensures, c.in-1.is) (past_one b c.args.at small)

pub returns-in-2 : goal.returns-in-2
returns-in-2 c =
    let b = c.args.b.now in
    let small : Bytes b = λ i. (c.type_inv.b i).fits in
    rw (c.long_at-set.ensures, c.in-2.is) (past_two b c.args.at small)

pub returns-in-3 : goal.returns-in-3
returns-in-3 c =
    let b = c.args.b.now in
    let small : Bytes b = λ i. (c.type_inv.b i).fits in
    rw (c.long_at-set.ensures, c.in-3.is) (past_three b c.args.at small)
