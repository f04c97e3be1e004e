-- What the reader answers: each refusal returns the number, the place and an all-zero result.
use Rattle.std.specs.Prelude.{ℕ}
use Rattle.shape.specs.declared.scan.Place.{Place}
use Rattle.sheet.specs.Sheet.{empty_sheet}
use Rattle.sheet.specs.declared.answer.Refusal.{Refusal}
use Rattle.sheet.specs.declared.answer.Answer.{Answer}
use Rattle.sheet.specs.declared.answer.Answer.TheVariants.{Accepted, Refused}
use Rattle.sheet.specs.declared.sheet.Sheet.{Sheet}
use Rattle.lines.specs.declared.result.Reading.{Reading}

abbrev pub refused : Place → Refusal → Reading
refused p k = record { answer = Refused p k; sheet = empty_sheet }

abbrev pub refused_at : Refusal → ℕ → ℕ → Reading
refused_at k n c = refused (record { line = n; column = c }) k

abbrev pub accepted : Sheet → Reading
accepted s = record { answer = Accepted; sheet = s }

abbrev pub answered : Answer → Sheet → Reading
answered Accepted s = accepted s
answered (Refused p k) s = refused p k
