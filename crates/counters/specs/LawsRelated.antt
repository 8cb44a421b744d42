-- Two memories side by side: where they hold the same of every record that is read, and stay related when a record that
-- is written becomes a number in both, actions do the same in both.
use Rattle.std.specs.Prelude.{◌≡◌, ℕ, zero, suc, ◌-◌, ◌<◌, Bool, true}
use Rattle.std.specs.Prelude.{false, List, [], ◌∷◌, take, nat_lt, slice_index_or}
use Rattle.std.proofs.Common.{arith}
use Rattle.packed.specs.Encode.{fields_of}
use Rattle.packed.specs.Kinds.{uses_of}
use Rattle.packed.specs.LawsForm.{not_left, not_right}
use Rattle.packed.specs.Records.{any}
use Rattle.packed.specs.declared.Action.{Action}
use Rattle.packed.specs.declared.Action.TheVariants.{Nothing, Set, Add, Take, Copy, Move, Floor}
use Rattle.counters.specs.Actions.{Memory, After, goes_on, aborts, abort_if, act, then_act, act_all}

-- each of some records has a property
abbrev pub Each : (ℕ → Type 0) → List ℕ → Type 0
Each Has [] = Unit {0}
Each Has (r ∷ records) = Has r × Each Has records

-- each, where a test holds of none
pub each_passes : (test : ℕ → Bool) (records : List ℕ) → any test records ≡ false
    → Each (λ r. test r ≡ false) records
each_passes test [] none = tt
each_passes test (r ∷ records) none =
    (not_right (any test records) (test r) none, each_passes test records (not_left (any test records) (test r) none))

-- each, where every record has it
each_has : {Has : ℕ → Type 0} → ((r : ℕ) → Has r) → (records : List ℕ) → Each Has records
each_has every [] = tt
each_has every (r ∷ records) = (every r, each_has every records)

-- an action reads and writes only records with a property
pub record Keeps (Readable Writable : ℕ → Type 0) (action : Action) : Type 0 where
  pub reads_keep : Each Readable (uses_of (fields_of action)).reads
  pub writes_keep : Each Writable (uses_of (fields_of action)).writes

abbrev pub AllKeep : (Readable Writable : ℕ → Type 0) → List Action → Type 0
AllKeep Readable Writable [] = Unit {0}
AllKeep Readable Writable (action ∷ actions) = Keeps Readable Writable action × AllKeep Readable Writable actions

pub keep_within : {Readable Writable : ℕ → Type 0} (count : ℕ) (actions : List Action)
    → ((k : ℕ) → k < count → Keeps Readable Writable (slice_index_or actions k Nothing))
    → AllKeep Readable Writable (take count actions)
keep_within zero actions each = tt
keep_within (suc count) [] each = tt
keep_within (suc count) (action ∷ actions) each =
    (each 0 (omega arith), keep_within count actions (λ k below. each (suc k) (omega arith)))

-- where every record has both properties, every action keeps to them
pub all_keep : {Readable Writable : ℕ → Type 0} → ((r : ℕ) → Readable r) → ((r : ℕ) → Writable r)
    → (actions : List Action) → AllKeep Readable Writable actions
all_keep readable writable [] = tt
all_keep readable writable (action ∷ actions) = (
  record {
    reads_keep = each_has readable (uses_of (fields_of action)).reads;
    writes_keep = each_has writable (uses_of (fields_of action)).writes;
  },
  all_keep readable writable actions,
)

-- two memories that a relation keeps side by side
pub record SideBySide {M N : Type 0} (first : Memory M) (second : Memory N) (Related : M → N → Type 0)
    (Readable Writable : ℕ → Type 0) : Type 0 where
  pub holds_same : (m : M) (n : N) → Related m n → (r : ℕ) → Readable r → first.holds m r ≡ second.holds n r
  pub becomes_same : (m : M) (n : N) → Related m n → (r number : ℕ) → Writable r
      → Related (first.becomes m r number) (second.becomes n r number)

-- both go on, related, or both abort
abbrev pub RelatedAfter : {M N : Type 0} → (M → N → Type 0) → After M → After N → Type 0
RelatedAfter Related (goes_on m) (goes_on n) = Related m n
RelatedAfter Related (goes_on m) aborts = ⊥
RelatedAfter Related aborts (goes_on n) = ⊥
RelatedAfter Related aborts aborts = Unit {0}

module _
    {M N : Type 0} {first : Memory M} {second : Memory N} {Related : M → N → Type 0} {Readable Writable : ℕ → Type 0}
    (side : SideBySide first second Related Readable Writable)
  where
    abort_related : (short : Bool) (m : M) (n : N) → Related m n
        → RelatedAfter Related (abort_if short (goes_on m)) (abort_if short (goes_on n))
    abort_related true m n related = tt
    abort_related false m n related = related

    -- one action
    act_related : (action : Action) → Keeps Readable Writable action → (m : M) (n : N) → Related m n
        → RelatedAfter Related (act first action m) (act second action n)
    unfolding uses_of
    act_related Nothing keeps m n related = related
    act_related (Set r c) keeps m n related = side.becomes_same m n related r c keeps.writes_keep.0
    act_related (Add r c) keeps m n related =
        rw (side.holds_same m n related r keeps.reads_keep.0)
        (side.becomes_same m n related r _ keeps.writes_keep.0)
    act_related (Take r c) keeps m n related =
        rw (side.holds_same m n related r keeps.reads_keep.0)
        (abort_related (nat_lt (second.holds n r) c) _ _
        (side.becomes_same m n related r (second.holds n r - c) keeps.writes_keep.0))
    act_related (Copy r s) keeps m n related =
        rw (side.holds_same m n related s keeps.reads_keep.0)
        (side.becomes_same m n related r _ keeps.writes_keep.0)
    act_related (Move r s) keeps m n related =
        rw (
          side.holds_same m n related r keeps.reads_keep.0,
          side.holds_same m n related s keeps.reads_keep.1.0,
        )
        (side.becomes_same _ _ (side.becomes_same m n related r _ keeps.writes_keep.0) s 0
        keeps.writes_keep.1.0)
    act_related (Floor r c) keeps m n related =
        rw (side.holds_same m n related r keeps.reads_keep.0)
        (abort_related (nat_lt (second.holds n r) c) m n related)

    then_related : (action : Action) → Keeps Readable Writable action → (x : After M) (y : After N)
        → RelatedAfter Related x y → RelatedAfter Related (then_act first action x) (then_act second action y)
    then_related action keeps (goes_on m) (goes_on n) related = act_related action keeps m n related
    then_related action keeps (goes_on m) aborts related = absurd related
    then_related action keeps aborts (goes_on n) related = absurd related
    then_related action keeps aborts aborts related = tt

    -- all actions
    pub all_related : (actions : List Action) → AllKeep Readable Writable actions → (x : After M) (y : After N)
        → RelatedAfter Related x y → RelatedAfter Related (act_all first actions x) (act_all second actions y)
    all_related [] keep x y related = related
    all_related (action ∷ actions) keep x y related =
        all_related actions keep.1 _ _ (then_related action keep.0 x y related)
