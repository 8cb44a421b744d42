-- Laws of storing a decision.
use Rattle.std.specs.Prelude.{◌≡◌, ℕ, zero, suc, ◌+◌, ◌<◌, ◌≤◌, Bool, true, false, cond}
use Rattle.std.specs.Prelude.{not, List, [], ◌∷◌, length, get_or, ◌≢◌, slice_index, slice_index_or, slice_set, refl}
use Rattle.std.proofs.Common.{sym, ap, ◌∙◌, arith, suc-add}
use Rattle.std.proofs.Common.{add-suc, add-zero, zero-add, length-set, get_or-set_same}
use Rattle.std.proofs.Common.{get_or-set_other, get_or-take, length-take-le, lt-ltb}
use Rattle.std.proofs.Math.Decide.{ℕ_discrete, dec_lt}
use Rattle.std.proofs.Math.ListN.{get_or-eq_default}
use Rattle.packed.specs.declared.Transaction.{Transaction}
use Rattle.counters.specs.Deciding.{unreached}
use Rattle.counters.specs.Declarations.{Declared}
use Rattle.counters.specs.LawsPlaces.{at_place, has_place}
use Rattle.counters.specs.Storing.{writes_of, store_from, stored}
use Rattle.counters.specs.Working.{write_place}
use Rattle.counters.specs.declared.Decision.{Decision}

-- a record that some numbers ascend past stands among them once
ascending : (numbers : ℕ → ℕ) (count : ℕ) → ((j : ℕ) → suc j < count → numbers j < numbers (suc j))
    → (i k : ℕ) → i < k → k < count → numbers i < numbers k
ascending numbers count next i zero less within = absurd (omega arith)
ascending numbers count next i (suc k) less within = cases (ℕ_discrete i k) (ascending numbers count next i k)
  where
    cases : Dec (i ≡ k) → (i < k → k < count → numbers i < numbers k) → numbers i < numbers (suc k)
    cases (yes same) earlier = rw same (next k within)
    cases (no other) earlier =
        let before : numbers i < numbers k = earlier (omega arith) (omega arith) in
        let step : numbers k < numbers (suc k) = next k within in
        omega arith

module _ (decision : Decision) where
  length_store : (writes : List ℕ) (j : ℕ) (records : List ℕ)
      → length (store_from decision writes j records) ≡ length records
  length_store [] j records = refl
  length_store (r ∷ writes) j records =
      length_store writes (suc j) _ ∙ after (slice_index_or decision.carried j false)
    where
      after : (carried : Bool)
          → length (cond carried records (slice_set records r (slice_index decision.contents j))) ≡ length records
      after true = refl
      after false = length-set records r (slice_index decision.contents j)

  -- a record at which one write is stored, or not
  store_other : (carried : Bool) (records : List ℕ) (r q number : ℕ) → (q ≢ r)
      → slice_index (cond carried records (slice_set records r number)) q ≡ slice_index records q
  store_other true records r q number other = refl
  store_other false records r q number other = get_or-set_other records r q number 0 other

  store_same : (carried : Bool) (records : List ℕ) (r number : ℕ) → r < length records
      → slice_index (cond carried records (slice_set records r number)) r ≡ cond carried (slice_index records r) number
  store_same true records r number inside = refl
  store_same false records r number inside = get_or-set_same records r number 0 inside

  -- a record that is none of the writes stays
  store_elsewhere : (writes : List ℕ) (j : ℕ) (records : List ℕ) (q : ℕ)
      → ((k : ℕ) → k < length writes → slice_index writes k ≢ q)
      → slice_index (store_from decision writes j records) q ≡ slice_index records q
  store_elsewhere [] j records q absent = refl
  store_elsewhere (r ∷ writes) j records q absent =
      store_elsewhere writes (suc j) _ q (λ k below. absent (suc k) (omega arith))
      ∙ store_other (slice_index_or decision.carried j false) records r q _ (λ same. absent 0 (omega arith) (sym same))

  -- a record that is one of them, and only one, becomes the new contents unless that write is carried
  store_there : (writes : List ℕ) (j : ℕ) (records : List ℕ) (q k : ℕ) → k < length writes → slice_index writes k ≡ q
      → ((i : ℕ) → i < length writes → slice_index writes i ≡ q → i ≡ k) → q < length records
      → slice_index (store_from decision writes j records) q
      ≡ cond (slice_index_or decision.carried (j + k) false) (slice_index records q)
      (slice_index decision.contents (j + k))
  store_there [] j records q k below there once inside = absurd (omega arith)
  store_there (r ∷ writes) j records q zero below there once inside =
      rw (add-zero j, ← there)
      (store_elsewhere writes (suc j) _ r
      (λ i small found. let wrong : suc i ≡ 0 = once (suc i) (omega arith) (found ∙ there) in omega arith)
      ∙ store_same (slice_index_or decision.carried j false) records r _ (rw there inside))
  store_there (r ∷ writes) j records q (suc k) below there once inside =
      let other : q ≡ r → ⊥ =
      λ same. let wrong : 0 ≡ suc k = once 0 (omega arith) (sym same) in omega arith in
      let kept = store_other (slice_index_or decision.carried j false) records r q (slice_index decision.contents j)
      other in
      let longer = length_store (r ∷ []) j records in
      rw (add-suc j k, ← suc-add j k)
      (store_there writes (suc j) _ q k (omega arith) there
      (λ i small found. let up : suc i ≡ suc k = once (suc i) (omega arith) found in omega arith)
      (omega arith)
      ∙ ap (λ x. cond (slice_index_or decision.carried (suc j + k) false) x
      (slice_index decision.contents (suc j + k))) kept)

-- a declared write's mark: carried where it was not reached
carried_at : (writecount : ℕ) (reached : List Bool) (j : ℕ) → j < 4 → j < writecount
    → slice_index_or (unreached writecount reached) j false ≡ not (slice_index_or reached j false)
carried_at writecount reached zero below within = rw (lt-ltb 0 writecount within)
carried_at writecount reached (suc zero) below within = rw (lt-ltb 1 writecount within)
carried_at writecount reached (suc (suc zero)) below within = rw (lt-ltb 2 writecount within)
carried_at writecount reached (suc (suc (suc zero))) below within = rw (lt-ltb 3 writecount within)
carried_at writecount reached (suc (suc (suc (suc j)))) below within = absurd (omega arith)

cond_not : (test : Bool) (x y : ℕ) → cond (not test) x y ≡ cond test y x
cond_not true x y = refl
cond_not false x y = refl

module _ (t : Transaction) (records : List ℕ) (declared : Declared (length records) t) where
  abbrev write_at : ℕ → ℕ
  write_at r = write_place t r

  length_writes : length (writes_of t) ≡ t.writecount
  length_writes =
      let few : t.writecount ≤ length t.writes = omega (arith, declared.few_writes, declared.four_writes) in
      length-take-le t.writecount t.writes few

  pub length_stored : (decision : Decision) → length (stored t decision records) ≡ length records
  unfolding stored
  length_stored decision = length_store decision (writes_of t) 0 records

  -- a record that has no place among the writes stays
  pub stored_elsewhere : (decision : Decision) (q : ℕ) → (write_at q < 4 → ⊥)
      → slice_index (stored t decision records) q ≡ slice_index records q
  unfolding stored
  stored_elsewhere decision q nowhere =
      store_elsewhere decision (writes_of t) 0 records q λ k below there.
      let within : k < t.writecount = omega (arith, length_writes) in
      nowhere (
      has_place t.writes t.writecount q k within (omega (arith, declared.few_writes))
      (sym (get_or-take t.writecount t.writes k 0 within) ∙ there))

  -- a record that has one becomes the new contents unless that write is carried
  stored_there : (decision : Decision) (q : ℕ) → write_at q < 4
      → slice_index (stored t decision records) q
      ≡ cond (slice_index_or decision.carried (write_at q) false)
      (slice_index records q) (slice_index decision.contents (write_at q))
  unfolding stored
  stored_there decision q below =
      rw (zero-add (write_at q)) at (
      store_there decision (writes_of t) 0 records q (write_at q) (omega (arith, length_writes, at_q.1))
      (get_or-take t.writecount t.writes (write_at q) 0 at_q.1 ∙ at_q.0)
      once (rw at_q.0 at (declared.writes_exist (write_at q) at_q.1)))
    where
      at_q : (slice_index t.writes (write_at q) ≡ q) × (write_at q < t.writecount)
      at_q = at_place t.writes t.writecount q below

      less : (i k : ℕ) → i < k → k < t.writecount → slice_index t.writes i < slice_index t.writes k
      less = ascending (λ j. slice_index t.writes j) t.writecount declared.writes_ascend

      once : (i : ℕ) → i < length (writes_of t) → slice_index (writes_of t) i ≡ q → i ≡ write_at q
      once i small there = cases (dec_lt i (write_at q)) (dec_lt (write_at q) i)
        where
          within : i < t.writecount
          within = omega (arith, length_writes)

          same : get_or t.writes i 0 ≡ slice_index t.writes (write_at q)
          same = sym (get_or-take t.writecount t.writes i 0 within) ∙ there ∙ sym at_q.0

          cases : Dec (i < write_at q) → Dec (write_at q < i) → i ≡ write_at q
          cases (yes lower) _ = absurd (omega (arith, same, less i (write_at q) lower at_q.1))
          cases (no lower) (yes higher) = absurd (omega (arith, same, less (write_at q) i higher within))
          cases (no lower) (no higher) = omega arith

  -- every record after a decision whose carried writes are those not reached
  pub stored_at : (decision : Decision) (reached : List Bool) → length reached ≡ 4
      → decision.carried ≡ unreached t.writecount reached → (q : ℕ)
      → slice_index (stored t decision records) q
      ≡ cond (slice_index_or reached (write_at q) false) (slice_index decision.contents (write_at q))
      (slice_index records q)
  stored_at decision reached four carried q = cases (dec_lt (write_at q) 4)
    where
      cases : Dec (write_at q < 4)
          → slice_index (stored t decision records) q
          ≡ cond (slice_index_or reached (write_at q) false) (slice_index decision.contents (write_at q))
          (slice_index records q)
      cases (yes below) =
          let within = (at_place t.writes t.writecount q below).1 in
          let marked =
          ap (λ marks. get_or marks (write_at q) false) carried
          ∙ carried_at t.writecount reached (write_at q) below within in
          stored_there decision q below
          ∙ ap (λ mark. cond mark (slice_index records q) (slice_index decision.contents (write_at q))) marked
          ∙ cond_not (slice_index_or reached (write_at q) false) _ _
      cases (no above) =
          let past : length reached ≤ write_at q = omega (arith, four) in
          rw (get_or-eq_default reached false past) (stored_elsewhere decision q above)
