-- Laws of refusals 5 and 6 in the sets: a set that ascends strictly to a last record below n has all below n.
use Rattle.std.specs.Prelude.{ℕ, ◌<◌, Bool, true, false, ◌&&◌, ◌||◌, not, ◌≡◌, refl, List, leb, ltb, get_or}
use Rattle.std.proofs.Common.{sym, arith, leb-true, leb-false, lt-ltb, le-ltb}
use Rattle.std.proofs.lemmas.Bool.{lt-leb, not-true}
use Rattle.packed.specs.Fields.{byte_at, set_at}
use Rattle.packed.specs.LawsForm.{not_left, not_right}
use Rattle.packed.specs.LawsRecords.{or_true, not_both}
use Rattle.packed.specs.Records.{set_too_large, descends, no_such_record, not_ascending, some_action, uses_too_large}

-- neither is met in a set
abbrev pub set_proper : ℕ → List ℕ → ℕ → Bool
set_proper n set count = not (set_too_large n set count || descends set count)

-- nor in both
abbrev pub sets_proper : ℕ → List ℕ → Bool
sets_proper n b = set_proper n (set_at b 4) (byte_at b 0) && set_proper n (set_at b 12) (byte_at b 1)

pub ltb_not : (a b : ℕ) → ltb a b ≡ not (leb b a)
ltb_not a b = go (leb b a) refl
  where
    go : (test : Bool) → leb b a ≡ test → ltb a b ≡ not test
    go true told = le-ltb a b (leb-true b a told)
    go false told = lt-ltb a b (leb-false b a told)

-- below the last, where the next is above
below : (n a b : ℕ) → leb b a ≡ false → leb n b ≡ false → leb n a ≡ false
below n a b ascends last = lt-leb n a (omega (arith, leb-false b a ascends, leb-false n b last))

pub proper_one : (n : ℕ) (set : List ℕ) → not (leb n (get_or set 0 0)) ≡ set_proper n set 1
proper_one n set = go (leb n (get_or set 0 0))
  where
    go : (large : Bool) → not large ≡ not ((((large || false) || false) || false) || false)
    go true = refl
    go false = refl

-- `large` tells that a record is N or more, `last` that the last is, and `down` that an entry does not ascend from the
-- one before it.
two_joined : (large last down : Bool) → (down ≡ false → last ≡ false → large ≡ false)
    → (not down && not last) ≡ not ((((large || last) || false) || false) || ((down || false) || false))
two_joined large last true so = rw (or_true (((large || last) || false) || false))
two_joined large true false so = rw (or_true large)
two_joined large false false so = rw (so refl refl)

pub proper_two : (n : ℕ) (set : List ℕ)
    → (ltb (get_or set 0 0) (get_or set 1 0) && not (leb n (get_or set 1 0))) ≡ set_proper n set 2
proper_two n set =
    let first = get_or set 0 0 in
    let second = get_or set 1 0 in
    rw (ltb_not first second)
    (two_joined (leb n first) (leb n second) (leb second first) (below n first second))

three_joined : (large larger last down lower : Bool)
    → (down ≡ false → lower ≡ false → last ≡ false → (large ≡ false) × (larger ≡ false))
    → ((not down && not lower) && not last)
    ≡ not ((((large || larger) || last) || false) || ((down || lower) || false))
three_joined large larger last true lower so = rw (or_true (((large || larger) || last) || false))
three_joined large larger last false true so = rw (or_true (((large || larger) || last) || false))
three_joined large larger true false false so = rw (or_true (large || larger))
three_joined large larger false false false so = rw ((so refl refl refl).0, (so refl refl refl).1)

pub proper_three : (n : ℕ) (set : List ℕ)
    → ((ltb (get_or set 0 0) (get_or set 1 0) && ltb (get_or set 1 0) (get_or set 2 0)) && not (leb n (get_or set 2 0)))
    ≡ set_proper n set 3
proper_three n set =
    let first = get_or set 0 0 in
    let second = get_or set 1 0 in
    let third = get_or set 2 0 in
    let so : leb second first ≡ false → leb third second ≡ false → leb n third ≡ false
    → (leb n first ≡ false) × (leb n second ≡ false) =
    λ down lower last.
    let next = below n second third lower last in
    (below n first second down next, next) in
    rw (ltb_not first second, ltb_not second third)
    (three_joined (leb n first) (leb n second) (leb n third) (leb second first) (leb third second) so)

four_joined : (large larger largest last down lower lowest : Bool)
    → (down ≡ false → lower ≡ false → lowest ≡ false → last ≡ false
    → (large ≡ false) × ((larger ≡ false) × (largest ≡ false)))
    → (((not down && not lower) && not lowest) && not last)
    ≡ not ((((large || larger) || largest) || last) || ((down || lower) || lowest))
four_joined large larger largest last true lower lowest so = rw (or_true (((large || larger) || largest) || last))
four_joined large larger largest last false true lowest so = rw (or_true (((large || larger) || largest) || last))
four_joined large larger largest last false false true so = rw (or_true (((large || larger) || largest) || last))
four_joined large larger largest true false false false so = rw (or_true ((large || larger) || largest))
four_joined large larger largest false false false false so =
    let all = so refl refl refl refl in
    rw (all.0, all.1.0, all.1.1)

-- four entries, or a count above four
pub proper_four : (n : ℕ) (set : List ℕ) (count : ℕ) → 3 < count
    → (((ltb (get_or set 0 0) (get_or set 1 0) && ltb (get_or set 1 0) (get_or set 2 0))
    && ltb (get_or set 2 0) (get_or set 3 0)) && not (leb n (get_or set 3 0)))
    ≡ set_proper n set count
proper_four n set count many =
    let first = get_or set 0 0 in
    let second = get_or set 1 0 in
    let third = get_or set 2 0 in
    let fourth = get_or set 3 0 in
    let so : leb second first ≡ false → leb third second ≡ false → leb fourth third ≡ false → leb n fourth ≡ false
    → (leb n first ≡ false) × ((leb n second ≡ false) × (leb n third ≡ false)) =
    λ down lower lowest last.
    let next = below n third fourth lowest last in
    let before = below n second third lower next in
    (below n first second down before, (before, next)) in
    rw (
      ltb_not first second,
      ltb_not second third,
      ltb_not third fourth,
      lt-ltb 0 count (omega arith),
      lt-ltb 1 count (omega arith),
      lt-ltb 2 count (omega arith),
      lt-ltb 3 count (omega arith),
    )
    (four_joined
    (leb n first)
    (leb n second)
    (leb n third)
    (leb n fourth)
    (leb second first)
    (leb third second)
    (leb fourth third)
    so)

-- What proper sets say.
neither : (large down : Bool) → not (large || down) ≡ true → (large ≡ false) × (down ≡ false)
neither large down proper =
    let none = not-true (large || down) proper in
    (not_left large down none, not_right large down none)

both : (a b : Bool) → (a && b) ≡ true → (a ≡ true) × (b ≡ true)
both true b together = (refl, together)
both false b together = not_both (sym together)

pub record InSets (n : ℕ) (b : List ℕ) : Type 0 where
  pub reads_exist : set_too_large n (set_at b 4) (byte_at b 0) ≡ false
  pub writes_exist : set_too_large n (set_at b 12) (byte_at b 1) ≡ false
  pub ascend : not_ascending b ≡ false

pub in_sets : (n : ℕ) (b : List ℕ) → sets_proper n b ≡ true → InSets n b
unfolding not_ascending
in_sets n b proper =
    let sets = both (set_proper n (set_at b 4) (byte_at b 0)) (set_proper n (set_at b 12) (byte_at b 1)) proper in
    let reads = neither (set_too_large n (set_at b 4) (byte_at b 0)) (descends (set_at b 4) (byte_at b 0)) sets.0 in
    let writes = neither (set_too_large n (set_at b 12) (byte_at b 1)) (descends (set_at b 12) (byte_at b 1)) sets.1 in
    record { reads_exist = reads.0; writes_exist = writes.0; ascend = rw (reads.1, writes.1) }

-- sets that are not proper and have no record too large do not ascend
one_descends : (reads writes down lower : Bool) → (not (reads || down) && not (writes || lower)) ≡ false
    → reads ≡ false → writes ≡ false → (down || lower) ≡ true
one_descends true writes down lower improper first second = not_both first
one_descends false true down lower improper first second = not_both second
one_descends false false true lower improper first second = refl
one_descends false false false true improper first second = refl
one_descends false false false false improper first second = not_both improper

pub descends_somewhere : (n : ℕ) (b : List ℕ) → sets_proper n b ≡ false → no_such_record n b ≡ false
    → not_ascending b ≡ true
unfolding no_such_record not_ascending
descends_somewhere n b improper exist =
    let reads = set_too_large n (set_at b 4) (byte_at b 0) in
    let writes = set_too_large n (set_at b 12) (byte_at b 1) in
    let in_both = not_left (reads || writes) (some_action (uses_too_large n) b) exist in
    one_descends
    reads
    writes
    (descends (set_at b 4) (byte_at b 0))
    (descends (set_at b 12) (byte_at b 1))
    improper
    (not_left reads writes in_both)
    (not_right reads writes in_both)

-- where the sets are proper, check 5 is left to the actions
pub by_actions : (n : ℕ) (b : List ℕ) → InSets n b → no_such_record n b ≡ some_action (uses_too_large n) b
unfolding no_such_record
by_actions n b sets = rw (sets.reads_exist, sets.writes_exist)
