use Rattle.std.proofs.Common.{◌≡◌}
use Rattle.desk.specs.LawsLending.{with_numbers}
use Rattle.desk.specs.Offer.{session_of, offers_of}
use Rattle.desk.proofs.offering.offer_all.Given as goal

-- the session after so many steps
abbrev pub invariant-loop-k : goal.invariant-loop-k
invariant-loop-k l =
    session_of (with_numbers l.tally l.numbers) l.records l.newest l.versions l.results
    ≡ offers_of l.piece l.log (session_of l.fn.tally l.fn.records l.fn.newest l.fn.versions l.fn.results) l.k
