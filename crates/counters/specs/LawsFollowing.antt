-- While a transaction is decided, its working copy follows the copy of the records that the one-by-one run changes:
-- action by action the two say the same of each record, and they abort at the same action.
use Rattle.std.specs.Prelude.{◌≡◌, ℕ, zero, suc, ◌<◌, true, false, cond}
use Rattle.std.specs.Prelude.{List, [], ◌∷◌, length, slice_index, slice_index_or, slice_set, refl}
use Rattle.std.proofs.Common.{sym, ap, ◌∙◌, arith, get_or-set_same, get_or-set_other}
use Rattle.std.proofs.Math.Decide.{ℕ_discrete}
use Rattle.std.proofs.Math.ListN.{length-set}
use Rattle.packed.specs.Encode.{fields_of, action_in}
use Rattle.packed.specs.Kinds.{uses_of}
use Rattle.packed.specs.Records.{unlisted}
use Rattle.packed.specs.declared.Action.TheVariants.{Nothing}
use Rattle.packed.specs.declared.Transaction.{Transaction}
use Rattle.counters.specs.Actions.{goes_on, actions_of}
use Rattle.counters.specs.Deciding.{worked_of}
use Rattle.counters.specs.Declarations.{Declared}
use Rattle.counters.specs.LawsPlaces.{at_place, listed_place, one_at_place, none_at}
use Rattle.counters.specs.LawsRelated.{each_passes, Keeps, keep_within, SideBySide, RelatedAfter, all_related}
use Rattle.counters.specs.OneByOne.{records_memory, changed_copy}
use Rattle.counters.specs.Working.{read_place, write_place}
use Rattle.counters.specs.Working.{contents_in, written, memory_of, start_of}
use Rattle.counters.specs.declared.working.WorkingCopy.{WorkingCopy}

-- a transaction on records that hold `start` before it
module _ (t : Transaction) (start : List ℕ) where
  abbrev read_at : ℕ → ℕ
  read_at r = read_place t r

  abbrev write_at : ℕ → ℕ
  write_at r = write_place t r

  -- the working copy stands for these records: a declared read is as in them, and they are as before the transaction
  -- but for the new contents of the writes that were reached
  pub record Follows (copy : WorkingCopy) (records : List ℕ) : Type 0 where
    pub four_values : length copy.values ≡ 4
    pub four_contents : length copy.contents ≡ 4
    pub four_reached : length copy.reached ≡ 4
    pub as_long : length records ≡ length start
    pub reads_seen : (r : ℕ) → read_at r < 4 → slice_index copy.values (read_at r) ≡ slice_index records r
    pub writes_made : (r : ℕ)
        → slice_index records r
        ≡ cond (slice_index_or copy.reached (write_at r) false) (slice_index copy.contents (write_at r))
        (slice_index start r)

  holds_same : {copy : WorkingCopy} {records : List ℕ} → Follows copy records → (r : ℕ) → read_at r < 4
      → contents_in t copy r ≡ slice_index records r
  unfolding contents_in
  holds_same follows r declared = follows.reads_seen r declared

  becomes_same : {copy : WorkingCopy} {records : List ℕ} → Follows copy records → (r number : ℕ) → write_at r < 4
      → r < length start → Follows (written t copy r number) (slice_set records r number)
  unfolding written
  becomes_same {copy} {records} follows r number declared exists =
      record {
        four_values = length-set copy.values (read_at r) number ∙ follows.four_values;
        four_contents = length-set copy.contents (write_at r) number ∙ follows.four_contents;
        four_reached = length-set copy.reached (write_at r) true ∙ follows.four_reached;
        as_long = length-set records r number ∙ follows.as_long;
        reads_seen = λ q. seen q (ℕ_discrete q r);
        writes_made = λ q. made q (ℕ_discrete q r);
      }
    where
      inside : r < length records
      inside = omega (arith, follows.as_long)

      seen : (q : ℕ) → Dec (q ≡ r) → read_at q < 4
          → slice_index (slice_set copy.values (read_at r) number) (read_at q)
          ≡ slice_index (slice_set records r number) q
      seen q (yes same) there =
          let at_r : read_at r < 4 = rw (← same) there in
          let within : read_at r < length copy.values = omega (arith, follows.four_values) in
          rw (same, get_or-set_same copy.values (read_at r) number 0 within, get_or-set_same records r number 0 inside)
      seen q (no other) there =
          get_or-set_other copy.values (read_at r) (read_at q) number 0
          (one_at_place t.reads t.readcount q r there other)
          ∙ follows.reads_seen q there
          ∙ sym (get_or-set_other records r q number 0 other)

      made : (q : ℕ) → Dec (q ≡ r)
          → slice_index (slice_set records r number) q
          ≡ cond (slice_index_or (slice_set copy.reached (write_at r) true) (write_at q) false)
          (slice_index (slice_set copy.contents (write_at r) number) (write_at q)) (slice_index start q)
      made q (yes same) =
          let in_reached : write_at r < length copy.reached = omega (arith, follows.four_reached) in
          let in_contents : write_at r < length copy.contents = omega (arith, follows.four_contents) in
          rw (
            same,
            get_or-set_same records r number 0 inside,
            get_or-set_same copy.reached (write_at r) true false in_reached,
            get_or-set_same copy.contents (write_at r) number 0 in_contents,
          )
      made q (no other) =
          let apart : write_at q ≡ write_at r → ⊥ =
          λ same. one_at_place t.writes t.writecount r q declared (λ equal. other (sym equal)) (sym same) in
          rw (
            get_or-set_other records r q number 0 other,
            get_or-set_other copy.reached (write_at r) (write_at q) true false apart,
            get_or-set_other copy.contents (write_at r) (write_at q) number 0 apart,
          )
          (follows.writes_made q)

  -- the records that an action of the transaction may read, and those that it may write
  abbrev pub Readable : ℕ → Type 0
  Readable r = unlisted t.reads t.readcount r ≡ false

  abbrev pub Writable : ℕ → Type 0
  Writable r = unlisted t.writes t.writecount r ≡ false

  module _ (declared : Declared (length start) t) where
    side_by_side : SideBySide (memory_of t) records_memory Follows Readable Writable
    side_by_side =
        record {
          holds_same =
              λ copy records follows r listed. holds_same follows r (listed_place t.reads t.readcount r listed);
          becomes_same =
              λ copy records follows r number listed.
              let place = listed_place t.writes t.writecount r listed in
              let there = at_place t.writes t.writecount r place in
              let exists : r < length start = rw there.0 at (declared.writes_exist (write_at r) there.1) in
              becomes_same follows r number place exists;
        }

    -- the actions keep to what is declared
    kth_keeps : (k : ℕ) → k < t.actioncount → Keeps Readable Writable (action_in t k)
    kth_keeps k within =
        let uses = uses_of (fields_of (action_in t k)) in
        record {
          reads_keep =
              each_passes (unlisted t.reads t.readcount) uses.reads (declared.reads_declared k within);
          writes_keep =
              each_passes (unlisted t.writes t.writecount) uses.writes (declared.writes_declared k within);
        }

    place_keeps : (k : ℕ) → k < t.actioncount
        → Keeps Readable Writable
        (slice_index_or (action_in t 0 ∷ action_in t 1 ∷ action_in t 2 ∷ action_in t 3 ∷ []) k Nothing)
    unfolding uses_of
    place_keeps zero within = kth_keeps 0 within
    place_keeps (suc zero) within = kth_keeps 1 within
    place_keeps (suc (suc zero)) within = kth_keeps 2 within
    place_keeps (suc (suc (suc zero))) within = kth_keeps 3 within
    place_keeps (suc (suc (suc (suc k)))) within = record { reads_keep = tt; writes_keep = tt }

  -- the values are those that the transaction reads
  abbrev pub ReadFrom : List ℕ → Type 0
  ReadFrom values = (i : ℕ) → i < t.readcount → slice_index values i ≡ slice_index start (slice_index t.reads i)

  start_follows : (values : List ℕ) → length values ≡ 4 → ReadFrom values → Follows (start_of values) start
  start_follows values four read =
      record {
        four_values = four;
        four_contents = refl;
        four_reached = refl;
        as_long = refl;
        reads_seen =
            λ r below.
            let there = at_place t.reads t.readcount r below in
            read (read_at r) there.1 ∙ ap (λ q. slice_index start q) there.0;
        writes_made = λ r. rw (none_at (write_at r));
      }

  -- deciding on the values read goes as the run on the records does
  pub worked_alike : (values : List ℕ) → Declared (length start) t → length values ≡ 4 → ReadFrom values
      → RelatedAfter Follows (worked_of t values) (changed_copy t start)
  unfolding worked_of changed_copy
  worked_alike values declared four read =
      all_related (side_by_side declared) (actions_of t)
      (keep_within t.actioncount _ (place_keeps declared))
      (goes_on (start_of values)) (goes_on start) (start_follows values four read)
