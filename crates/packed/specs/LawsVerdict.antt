-- What an accepting verdict says.
use Rattle.std.specs.Prelude.{Option, Some, None, not, [], length, get_or, take}
use Rattle.std.specs.Prelude.{drop, zero, suc, ◌+◌, ◌*◌, ◌/◌, ◌<◌, ◌≢◌}
use Rattle.std.proofs.Common.{Bor}
use Rattle.std.specs.Prelude.{ℕ, Bool, true, false, ◌≡◌, refl, List, Result, Ok, Err}
use Rattle.std.proofs.Common.{arith, sym, ap, ◌∙◌}
use Rattle.std.proofs.lemmas.Result.{err_from_is_err_and}
use Rattle.std.proofs.Common.{eq-eqb, mul-zero}
use Rattle.std.proofs.lemmas.Bool.{ne_eqb, le-leb, lt-leb}
use Rattle.std.proofs.lemmas.List.{drop-drop}
use Rattle.std.specs.Array.{IsWholeChunk}
use Rattle.std.specs.Option.{MatchOption, is_some}
use Rattle.std.specs.Result.{IsErrAnd}
use Rattle.std.specs.Simd.{first_chunks}
use Rattle.std.specs.Slice.{IsItemAt}
use Rattle.terms.specs.Refusals.{refused_at, refuse_if, Verdict}
use Rattle.terms.specs.declared.refusal.Refusal.{Refusal}
use Rattle.terms.specs.declared.refusal.Refusal.TheVariants.{WrongParameter, WrongLength}
use Rattle.terms.specs.declared.refusal.Refused.{Refused}
use Rattle.packed.specs.Checks.{entry_verdict, wrong_record_count, verdict_of}
use Rattle.packed.specs.Decode.{decode}
use Rattle.packed.specs.Form.{malformed}
use Rattle.packed.specs.Packing.{written}
use Rattle.packed.specs.Records.{no_such_record, not_ascending, undeclared_read, undeclared_write}
use Rattle.packed.specs.Unpacking.{unpacked, answered, unpack_of, entry_of, unpack_at_of}
use Rattle.packed.specs.declared.Transaction.{Transaction}

-- none of the faults 4 to 8
pub record Proper (n : ℕ) (b : List ℕ) : Type 0 where
  pub is_formed : malformed b ≡ false
  pub records_exist : no_such_record n b ≡ false
  pub ascends : not_ascending b ≡ false
  pub reads_declared : undeclared_read b ≡ false
  pub writes_declared : undeclared_write b ≡ false

no_fault : (fault : Bool) (refusal : Refusal) (transaction : ℕ) (rest : Verdict)
    → refuse_if fault refusal transaction rest ≡ Ok tt → fault ≡ false
no_fault true refusal transaction rest accepted =
    let never : ◌≡◌ {A = ℕ} 0 1 = cc in
    absurd (omega arith)
no_fault false refusal transaction rest accepted = refl

rest_accepts : (fault : Bool) (refusal : Refusal) (transaction : ℕ) (rest : Verdict)
    → refuse_if fault refusal transaction rest ≡ Ok tt → rest ≡ Ok tt
rest_accepts true refusal transaction rest accepted =
    let never : ◌≡◌ {A = ℕ} 0 1 = cc in
    absurd (omega arith)
rest_accepts false refusal transaction rest accepted = accepted

-- A check of the code, whose answer is `passed`: where it goes on the fault is not there,
pub passes : {fault : Bool} {passed : Verdict} (refusal : Refusal) (transaction : ℕ)
    → passed ≡ refuse_if fault refusal transaction (Ok tt) → passed ≡ Ok tt → fault ≡ false
passes {fault = fault} refusal transaction told goes =
    no_fault fault refusal transaction (Ok tt) (sym told ∙ goes)

refuses : (fault : Bool) (refusal : Refusal) (transaction : ℕ) (why : Refused)
    → refuse_if fault refusal transaction (Ok tt) ≡ Err why
    → (fault ≡ true) × (why ≡ refused_at refusal transaction)
refuses true refusal transaction why refused_so = (refl, cc)
refuses false refusal transaction why refused_so =
    let never : ◌≡◌ {A = ℕ} 0 1 = cc in
    absurd (omega arith)

-- and where it exits it is, and the exit tells the refusal.
pub exits : {T : Type 0} {answer : Result T Refused} {why : Refused} {fault : Bool} {passed : Verdict}
    (refusal : Refusal) (transaction : ℕ) → IsErrAnd answer (λ told. told ≡ why)
    → passed ≡ refuse_if fault refusal transaction (Ok tt) → passed ≡ Err why
    → (fault ≡ true) × (answer ≡ Err (refused_at refusal transaction))
exits {answer = answer} {why = why} {fault = fault} refusal transaction out told stops =
    let p = err_from_is_err_and answer out in
    let so = refuses fault refusal transaction why (sym told ∙ stops) in
    (so.0, p.1 ∙ ap Err (p.2 ∙ so.1))

pub proper : (n transaction : ℕ) (b : List ℕ) → entry_verdict n transaction b ≡ Ok tt → Proper n b
unfolding entry_verdict
proper n transaction b accepted =
    let after_form = rest_accepts (malformed b) _ transaction _ accepted in
    let after_records = rest_accepts (no_such_record n b) _ transaction _ after_form in
    let after_order = rest_accepts (not_ascending b) _ transaction _ after_records in
    let after_reads = rest_accepts (undeclared_read b) _ transaction _ after_order in
    record {
      is_formed = no_fault (malformed b) _ transaction _ accepted;
      records_exist = no_fault (no_such_record n b) _ transaction _ after_form;
      ascends = no_fault (not_ascending b) _ transaction _ after_records;
      reads_declared = no_fault (undeclared_read b) _ transaction _ after_order;
      writes_declared = no_fault (undeclared_write b) _ transaction _ after_reads;
    }

-- none of the faults 1, 2, 4 to 8
pub record Sound (n : ℕ) (wrong_length : Bool) (b : List ℕ) : Type 0 where
  pub count_right : wrong_record_count n ≡ false
  pub length_right : wrong_length ≡ false
  pub entry_proper : Proper n b

pub sound : (n transaction : ℕ) (wrong_length : Bool) (b : List ℕ)
    → verdict_of n transaction wrong_length b ≡ Ok tt → Sound n wrong_length b
unfolding verdict_of
sound n transaction wrong_length b accepted =
    let after_count = rest_accepts (wrong_record_count n) _ transaction _ accepted in
    let after_length = rest_accepts wrong_length _ transaction _ after_count in
    record {
      count_right = no_fault (wrong_record_count n) _ transaction _ accepted;
      length_right = no_fault wrong_length _ transaction _ after_count;
      entry_proper = proper n transaction b after_length;
    }

-- what the code reads of an entry: its meaning, where the verdict accepts it,
abbrev pub read_where : Verdict → Transaction → Result Transaction Refused
read_where (Ok _) meaning = Ok meaning
read_where (Err why) meaning = Err why

-- and its answer is that of unpacking
pub answered_where : (verdict : Verdict) (meaning : Transaction)
    → answered (read_where verdict meaning) ≡ unpacked verdict meaning
answered_where (Ok _) meaning = refl
answered_where (Err why) meaning = refl

-- ---- an entry that may be missing
abbrev pub bytes_in : Option (Bor (List ℕ)) → List ℕ
bytes_in None = []
bytes_in (Some entry) = entry.now

-- what is read where one is sought: 2 where there is none
abbrev pub read_in : ℕ → ℕ → Option (Bor (List ℕ)) → Result Transaction Refused
read_in n index found =
    read_where (verdict_of n index (not (is_some found)) (bytes_in found)) (decode (bytes_in found))

-- where 2 is a fault the bytes do not matter
missing : (wrong : Bool) (index : ℕ) (rest other : Verdict) (meaning other_meaning : Transaction)
    → unpacked (refuse_if wrong WrongParameter index (refuse_if true WrongLength index rest)) meaning
    ≡ unpacked (refuse_if wrong WrongParameter index (refuse_if true WrongLength index other)) other_meaning
missing true index rest other meaning other_meaning = refl
missing false index rest other meaning other_meaning = refl

-- "length not 88"
pub whole : (n : ℕ) (bytes : List ℕ) (found : Option (Bor (List ℕ)))
    → MatchOption found (length bytes ≢ 88) (λ y. IsWholeChunk bytes y.now 88)
    → answered (read_in n 0 found) ≡ unpack_of n bytes
unfolding unpack_of verdict_of
whole n bytes None short =
    answered_where (verdict_of n 0 true []) (decode [])
    ∙ rw (ne_eqb (length bytes) 88 short)
    (missing (wrong_record_count n) 0 (entry_verdict n 0 []) (entry_verdict n 0 bytes) (decode []) (decode bytes))
whole n bytes (Some entry) found =
    answered_where (verdict_of n 0 false entry.now) (decode entry.now)
    ∙ rw (found.same, eq-eqb (length bytes) 88 found.long)

-- the entries of a log
chunk_at : (size count k : ℕ) (log : List ℕ) → k < count
    → get_or (first_chunks size count log) k [] ≡ take size (drop (size * k) log)
chunk_at size zero k log within = absurd (omega arith)
chunk_at size (suc count) zero log within = rw (mul-zero size)
chunk_at size (suc count) (suc k) log within =
    let next : size + size * k ≡ size * suc k = omega arith in
    chunk_at size count k (drop size log) (omega arith) ∙ rw (drop-drop (size * k) size log, next)

-- "A log is such entries end to end"
pub in_log : (n index : ℕ) (log : List ℕ) (found : Option (Bor (List ℕ)))
    → IsItemAt (first_chunks 88 (length log / 88) log) index found
    → length (first_chunks 88 (length log / 88) log) ≡ length log / 88
    → answered (read_in n index found) ≡ unpack_at_of n log index
unfolding unpack_at_of verdict_of
in_log n index log None found count =
    answered_where (verdict_of n index true []) (decode [])
    ∙ rw (le-leb (length log / 88) index (omega (arith, found, count)))
    (missing (wrong_record_count n) index (entry_verdict n index []) (entry_verdict n index (entry_of log index))
    (decode []) (decode (entry_of log index)))
in_log n index log (Some entry) found count =
    let within : index < length log / 88 = omega (arith, found.3.0, count) in
    let told : entry.now ≡ entry_of log index =
    found.4 (omega arith) [] ∙ chunk_at 88 (length log / 88) index log within in
    answered_where (verdict_of n index false entry.now) (decode entry.now)
    ∙ rw (told, lt-leb (length log / 88) index within)

-- the verdict of unpacking and of packing is that of their checks
pub unpacked_verdict : (verdict : Verdict) (meaning : Transaction) → (unpacked verdict meaning).verdict ≡ verdict
unpacked_verdict (Ok _) meaning = refl
unpacked_verdict (Err why) meaning = refl

pub written_verdict : (verdict : Verdict) (bytes buffer : List ℕ) → (written verdict bytes buffer).verdict ≡ verdict
written_verdict (Ok _) bytes buffer = refl
written_verdict (Err why) bytes buffer = refl
