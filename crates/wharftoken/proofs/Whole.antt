-- The first 8,193 bytes of an input decide its report, and what `report` leaves on a page of 1,024 bytes is all of it.
use Rattle.std.specs.Prelude.{ℕ, ◌≡◌, refl, ◌≤◌, ◌<◌, false, List, ◌++◌, OnErr, OnOk, IfSome, Result, Ok, Err, None, Some, cond, ltb, length, take, drop}
use Rattle.std.proofs.Common.{sym, ap, ◌∙◌, subst, arith, lt-ltb, le-ltb, length-take-le, take_all, le_refl, inl, inr}
use Rattle.std.specs.declared.option.Option.{Option}
use Rattle.std.specs.Io.KnownBytes.{Appends}
use Rattle.output.specs.Gained.{GainsPart}
use Rattle.sheet.specs.declared.answer.Refusal.TheVariants.{SheetTooLong}
use Rattle.sheet.specs.declared.answer.Answer.TheVariants.{Accepted}
use Rattle.lines.specs.Result.{refused_at}
use Rattle.reader.specs.Read.{read_sheet}
use Rattle.report.specs.Report.{reading_text, report_of}
use Rattle.report.specs.Answer.{too_short, report_answer, report_buffer}
use Rattle.report.specs.declared.reporting.Reported.{Reported}
use Rattle.report.specs.laws.Short.{report_short}
use lib.Seq.{take-append-le, take-length}
use Rattle.std.proofs.lemmas.Bool.{cases_lt}

read_long : (xs : List ℕ) → 8192 < length xs → read_sheet xs ≡ refused_at SheetTooLong 0 0
unfolding read_sheet
read_long xs h = rw (lt-ltb 8192 (length xs) h) refl

report_long : (xs ys : List ℕ) → 8192 < length xs → 8192 < length ys → report_of xs ≡ report_of ys
unfolding report_of
report_long xs ys h k = ap (λ r. reading_text r.answer r.sheet) (read_long xs h ∙ sym (read_long ys k))

pub first_bytes_decide : (n : ℕ) (xs : List ℕ) → n ≡ 8193 → report_of (take n xs) ≡ report_of xs
first_bytes_decide n xs e = elim (cases_lt 8192 (length xs)) [
  | inl h ↦ let same = length-take-le n xs (omega arith) in report_long (take n xs) xs (omega arith) h
  | inr h ↦ ap report_of (take_all n xs (omega arith))
]

pub first_bytes_read : (known : Option (List ℕ)) (n : ℕ) (text bs : List ℕ) → n ≡ 8193 → bs ≡ report_of text → IfSome known (λ xs. text ≡ take n xs) → IfSome known (λ xs. bs ≡ report_of xs)
first_bytes_read None n text bs e p q = tt
first_bytes_read (Some xs) n text bs e p q = p ∙ ap report_of q ∙ first_bytes_decide n xs e

module _ (text out : List ℕ) {r : Reported} {after : List ℕ} (page : length out ≡ 1024) (answers : r ≡ report_answer text out) (leaves : after ≡ report_buffer text out) where
  fits : ltb (length out) (length (report_of text)) ≡ false
  fits = le-ltb (length out) (length (report_of text)) (let h = report_short text in omega arith)

  size_is : r.size ≡ length (report_of text)
  unfolding report_answer
  size_is = ap (λ z. z.size) answers ∙ ap (λ b. (cond b too_short (record { answer = Accepted; size = length (report_of text) })).size) fits

  after_is : after ≡ report_of text ++ drop (length (report_of text)) out
  unfolding report_buffer
  after_is = leaves ∙ ap (λ b. cond b out (report_of text ++ drop (length (report_of text)) out)) fits

  pub page_has_report : take r.size after ≡ report_of text
  page_has_report = ap (λ n. take n after) size_is ∙ ap (take (length (report_of text))) after_is ∙ take-append-le (length (report_of text)) (report_of text) _ (le_refl _) ∙ take-length (report_of text)

  pub size_on_page : r.size ≤ 1024
  size_on_page = let e = size_is in let h = report_short text in omega arith

pub writes_report : {E : Type 0} {U : Type 0} (r : Result U E) (known a b : Option (List ℕ)) (bs : List ℕ) → OnOk r (Appends a b bs) → IfSome known (λ xs. bs ≡ report_of xs)
    → OnOk r (IfSome known (λ xs. Appends a b (report_of xs)))
writes_report (Err e) known a b bs p q = tt
writes_report (Ok u) None a b bs p q = tt
writes_report (Ok u) (Some xs) a b bs p q = subst (Appends a b) q p

pub writes_part : {E : Type 0} {U : Type 0} (r : Result U E) (known a b : Option (List ℕ)) (bs : List ℕ) → OnErr r (GainsPart a b bs) → IfSome known (λ xs. bs ≡ report_of xs)
    → OnErr r (IfSome known (λ xs. GainsPart a b (report_of xs)))
writes_part (Ok u) known a b bs p q = tt
writes_part (Err e) None a b bs p q = tt
writes_part (Err e) (Some xs) a b bs p q = subst (GainsPart a b) q p
