-- What `report` answers, and what it leaves in the lent buffer.
use Rattle.std.specs.Prelude.{ℕ, cond, List, ◌++◌, ltb, length, drop}
use Rattle.sheet.specs.declared.answer.Refusal.TheVariants.{OutputTooShort}
use Rattle.sheet.specs.declared.answer.Answer.TheVariants.{Accepted, Refused}
use Rattle.report.specs.Report.{report_of}
use Rattle.report.specs.declared.reporting.Reported.{Reported}

-- 13 at 0, 0: "only a buffer shorter than its text is refused".
abbrev pub too_short : Reported
too_short = record { answer = Refused (record { line = 0; column = 0 }) OutputTooShort; size = 0 }

unfoldable pub report_answer : List ℕ → List ℕ → Reported
report_answer text out = cond (ltb (length out) (length (report_of text))) too_short (record { answer = Accepted; size = length (report_of text) })

-- A refusal "changes no lent byte. On success, bytes past the written text stay as they were."
unfoldable pub report_buffer : List ℕ → List ℕ → List ℕ
report_buffer text out = cond (ltb (length out) (length (report_of text))) out (report_of text ++ drop (length (report_of text)) out)
