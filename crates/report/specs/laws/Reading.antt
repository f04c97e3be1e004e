-- What was read decides what is printed.
use Rattle.std.specs.Prelude.{◌≡◌, List, ℕ}
use Rattle.std.proofs.Common.{sym, ◌∙◌}
use Rattle.std.proofs.Math.Path.{ap}
use Rattle.rules.specs.Results.{answer_at_nought}
use Rattle.shape.specs.declared.scan.Place.{Place}
use Rattle.sheet.specs.Recorded.{Recorded}
use Rattle.sheet.specs.declared.answer.Refusal.{Refusal}
use Rattle.sheet.specs.declared.answer.Answer.TheVariants.{Accepted, Refused}
use Rattle.sheet.specs.Lines.{lines_of}
use Rattle.reader.specs.Read.{read_sheet}
use Rattle.lines.specs.declared.result.Reading.{Reading}
use Rattle.reader.proofs.ExactLaws.{given_is_recorded}
use Rattle.report.specs.Report.{answer_text, refusal_text, reading_text, report_of}

module _ (text : List ℕ) (o : Reading) (e : o ≡ read_sheet text) where
  told : report_of text ≡ reading_text o.answer o.sheet
  unfolding report_of
  told = ap (λ z. reading_text z.answer z.sheet) (sym e)

  pub report_of_accepted : o.answer ≡ Accepted → report_of text ≡ answer_text (lines_of o.sheet) (answer_at_nought (lines_of o.sheet))
  report_of_accepted a = told ∙ ap (λ x. reading_text x o.sheet) a

  pub report_of_refused : {p : Place} {why : Refusal} → o.answer ≡ Refused p why → report_of text ≡ refusal_text p why
  report_of_refused a = told ∙ ap (λ x. reading_text x o.sheet) a

  pub accepted_is_recorded : o.answer ≡ Accepted → Recorded o.sheet
  accepted_is_recorded a = given_is_recorded text o.sheet (sym e ∙ ap (λ x. record { answer = x; sheet = o.sheet }) a)
