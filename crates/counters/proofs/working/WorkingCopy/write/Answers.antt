use Rattle.std.proofs.Common.{◌≡◌, arith, length, true}
use Rattle.counters.specs.Working.{written, read_place, write_place}
use Rattle.counters.proofs.Laws.Places.{at_found, none_stored}
use Rattle.counters.proofs.working.WorkingCopy.write.Goals as goal
use Rattle.counters.proofs.working.WorkingCopy.write.Goals.{in-Some, in_default}

pub returns-in-Some-place_in : goal.returns-in-Some-place_in
unfolding written
returns-in-Some-place_in c =
    let meaning = c.args.meaning.now in
    let values = c.args.self.now.values in
    let read = read_place meaning c.args.number in
    let write = at_found c.in-Some-place_in.write (write_place meaning c.args.number) c.in-Some-place_in.ensures in
    elim c.match-place_in.branch [
      | in-Some w ↦ let found = at_found w.in-Some.read read w.in-Some.ensures in
          rw (w.self-is, found.0, write.0)
      | in_default w ↦ let four : length values ≡ 4 = omega arith in
          rw (w.self-is, none_stored values read c.args.value four w.in_default.ensures, write.0)
    ]

pub returns-in_default-place_in : goal.returns-in_default-place_in
unfolding written
returns-in_default-place_in c =
    let meaning = c.args.meaning.now in
    let copy = c.args.self.now in
    let read = read_place meaning c.args.number in
    let write = write_place meaning c.args.number in
    let values : length copy.values ≡ 4 = omega arith in
    let contents : length copy.contents ≡ 4 = omega arith in
    let reached : length copy.reached ≡ 4 = omega arith in
    let none = c.in_default-place_in.ensures in
    let kept = none_stored copy.contents write c.args.value contents none in
    let unmarked = none_stored copy.reached write true reached none in
    elim c.match-place_in.branch [
      | in-Some w ↦ let found = at_found w.in-Some.read read w.in-Some.ensures in
          rw (w.self-is, found.0, kept, unmarked)
      | in_default w ↦ let unread = none_stored copy.values read c.args.value values w.in_default.ensures in
          rw (w.self-is, unread, kept, unmarked)
    ]
