-- The line of a refusal tells its number, and no other text of a run begins as it does.
use Rattle.std.specs.Prelude.{ℕ, zero, suc, ◌+◌, ◌-◌, ◌*◌, Bool, true, false, Ok, Err}
use Rattle.std.specs.Prelude.{cond, List, ◌++◌, ◌≡◌, refl, eqb, length, get_or, replicate}
use Rattle.std.proofs.Common.{append_assoc, sym, ap, ◌∙◌, arith, eq-eqb, ne_eqb}
use Rattle.terms.specs.Refusals.{verdict_number, number_of, Verdict}
use Rattle.terms.specs.declared.refusal.Refusal.{Refusal}
use Rattle.terms.specs.declared.refusal.Refusal.TheVariants.{
  WrongParameter,
  WrongLength,
  PositionsRunOut,
  Malformed,
  NoSuchRecord,
  NotAscending,
  UndeclaredRead,
  UndeclaredWrite,
  WrongMoment,
  NoSuchParty,
  PartitionDone,
  WorkerBusyOrIdle,
  NotUnprocessed,
  StateOutOfRange,
  BrokenTables,
}
use Rattle.versions.specs.Entry.{empty_entry}
use Rattle.counters.specs.declared.Outcome.{Outcome}
use Rattle.engine.specs.Answers.{answer_number}
use Rattle.engine.specs.Make.{make_of}
use Rattle.engine.specs.Open.{open_of, entries_in}
use Rattle.engine.specs.declared.Answer.{Answer}
use Rattle.engine.specs.declared.Answer.TheVariants.{Accepted, Waits, Refused}
use Rattle.engine.specs.declared.Made.{Made}
use Rattle.desk.specs.Program.{lines_below, record_at}
use Rattle.desk.specs.Text.{decimal, tx_line, rec_line, counts_line, not_sealed_line, refused_line}
use Rattle.capi.specs.Lent.{wrong_lent, slots_of}
use Rattle.capi.specs.Running.{Returned, made_ran, keeps, after_making, ran_of}
use Rattle.promised.specs.LawsMade.{positive}
use Rattle.promised.specs.Told.{transaction_told, counts_told, batch_told, sealed_told, lines_of, text_of}

-- ---- the numbers that a run can give
pub data Numbered (number : ℕ) : Type 0 where
  of_none : number ≡ 0 → Numbered number
  of_one : (refusal : Refusal) → number ≡ number_of refusal → Numbered number

verdict_numbered : (verdict : Verdict) → Numbered (verdict_number verdict)
verdict_numbered (Ok _) = of_none refl
verdict_numbered (Err why) = of_one why.refusal refl

answer_numbered : (answer : Answer) → Numbered (answer_number answer)
answer_numbered Accepted = of_none refl
answer_numbered (Waits position) = of_none refl
answer_numbered (Refused refusal place) = of_one refusal refl

module _ (p w start : ℕ) (log steps records results outcomes counts : List ℕ) where
  pub ran_numbered : Numbered (ran_of p w start log steps records results outcomes counts).number
  ran_numbered = lent (wrong_lent (length results) (length outcomes) (length counts))
    where
      made : Made
      made = make_of (length records) p w start

      making : (right : Bool)
          → Numbered (cond right (made_ran made.state log steps records results outcomes counts)
          (keeps (verdict_number made.verdict) records results outcomes counts)).number
      making true =
          answer_numbered
          (open_of made.state log (slots_of (length records)) (replicate 256 empty_entry) results).stepped.answer
      making false = verdict_numbered made.verdict

      lent : (wrong : Bool)
          → Numbered (cond wrong (keeps 1 records results outcomes counts)
          (after_making made log steps records results outcomes counts)).number
      lent true = of_one WrongParameter refl
      lent false = making (eqb (verdict_number made.verdict) 0)

-- ---- the number that a line of a refusal tells: one digit, or two
abbrev number_told : List ℕ → ℕ
number_told text =
    cond (eqb (get_or text 9 0) 10)
    (get_or text 8 0 - 48)
    (10 * (get_or text 8 0 - 48) + (get_or text 9 0 - 48))

number_told_lem : (refusal : Refusal) → number_told (refused_line (number_of refusal)) ≡ number_of refusal
unfolding refused_line decimal
number_told_lem WrongParameter = refl
number_told_lem WrongLength = refl
number_told_lem PositionsRunOut = refl
number_told_lem Malformed = refl
number_told_lem NoSuchRecord = refl
number_told_lem NotAscending = refl
number_told_lem UndeclaredRead = refl
number_told_lem UndeclaredWrite = refl
number_told_lem WrongMoment = refl
number_told_lem NoSuchParty = refl
number_told_lem PartitionDone = refl
number_told_lem WorkerBusyOrIdle = refl
number_told_lem NotUnprocessed = refl
number_told_lem StateOutOfRange = refl
number_told_lem BrokenTables = refl

pub one_number : (one other : Refusal) → refused_line (number_of one) ≡ refused_line (number_of other)
    → number_of one ≡ number_of other
one_number one other same = sym (number_told_lem one) ∙ (ap number_told same ∙ number_told_lem other)

-- ---- "ref" is the beginning of no other text
abbrev third : List ℕ → ℕ
third text = get_or text 2 0

refused_third : (number : ℕ) → third (refused_line number) ≡ 102
unfolding refused_line
refused_third number = refl

tx_third : (position : ℕ) (outcome : Outcome) (values more : List ℕ)
    → third (tx_line position outcome values ++ more) ≡ 102 → ⊥
unfolding tx_line
tx_third position outcome values more is = omega (arith, is)

rec_third : (number contents : ℕ) (more : List ℕ) → third (rec_line number contents ++ more) ≡ 102 → ⊥
unfolding rec_line
rec_third number contents more is = omega (arith, is)

counts_third : (steps refused waits : ℕ) → third (counts_line steps refused waits) ≡ 102 → ⊥
unfolding counts_line
counts_third steps refused waits is = omega (arith, is)

not_sealed_third : (more : List ℕ) → third (not_sealed_line ++ more) ≡ 102 → ⊥
unfolding not_sealed_line
not_sealed_third more is = omega (arith, is)

lines_third : (count : ℕ) (line : ℕ → List ℕ) (rest : List ℕ)
    → ((i : ℕ) (more : List ℕ) → third (line i ++ more) ≡ 102 → ⊥) → (third rest ≡ 102 → ⊥)
    → third (lines_below count line ++ rest) ≡ 102 → ⊥
lines_third zero line rest each last is = last is
lines_third (suc count) line rest each last is =
    lines_third count line (line count ++ rest) each (each count rest)
    (sym (ap third (append_assoc (lines_below count line) (line count) rest)) ∙ is)

module _ (n : ℕ) (log : List ℕ) (x : Returned) where
  lines_of_third : third (lines_of n log x) ≡ 102 → ⊥
  lines_of_third = go (sealed_told n log x)
    where
      transactions : List ℕ
      transactions = lines_below (entries_in log) (transaction_told n log x)

      records : List ℕ
      records = lines_below (length x.records) (record_at x.records)

      go : (sealed : Bool)
          → third (cond sealed (batch_told n log x) not_sealed_line ++ counts_told n log x) ≡ 102 → ⊥
      go true is =
          lines_third (entries_in log) (transaction_told n log x) (records ++ counts_told n log x)
          (λ i more. tx_third _ _ _ more)
          (lines_third (length x.records) (record_at x.records) (counts_told n log x) (λ i more. rec_third i _ more)
          (counts_third _ _ _))
          (sym (ap third (append_assoc transactions records (counts_told n log x))) ∙ is)
      go false is = not_sealed_third (counts_told n log x) is

  pub text_refused : (refusal : Refusal) → x.number ≡ number_of refusal
      → text_of n log x ≡ refused_line (number_of refusal)
  text_refused refusal is =
      ap (λ (number : ℕ). cond (eqb number 0) (lines_of n log x) (refused_line number)) is
      ∙ ap (λ (none : Bool). cond none (lines_of n log x) (refused_line (number_of refusal)))
      (ne_eqb (number_of refusal) 0 (λ none. omega (arith, none, positive refusal)))

  pub refused_text : (refusal : Refusal) → Numbered x.number → text_of n log x ≡ refused_line (number_of refusal)
      → x.number ≡ number_of refusal
  refused_text refusal (of_one found is) same =
      is ∙ one_number found refusal (sym (text_refused found is) ∙ same)
  refused_text refusal (of_none is) same =
      absurd
      (lines_of_third
      (ap third (sym (ap (λ (none : Bool). cond none (lines_of n log x) (refused_line x.number))
      (eq-eqb x.number 0 is)) ∙ same)
      ∙ refused_third (number_of refusal)))
