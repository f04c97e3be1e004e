-- Writing a sheet: what the contract of `write` cites.
use Rattle.std.specs.Prelude.{ℕ, cond, List, ◌++◌, ltb, length, drop}
use Rattle.sheet.specs.IsRecorded.{is_recorded}
use Rattle.sheet.specs.Text.{text_of}
use Rattle.sheet.specs.declared.sheet.Sheet.{Sheet}
use Rattle.sheet.specs.declared.answer.Refusal.{Refusal}
use Rattle.sheet.specs.declared.answer.Refusal.TheVariants.{NotRecorded, OutputTooShort}
use Rattle.sheet.specs.declared.answer.Answer.TheVariants.{Accepted, Refused}
use Rattle.writer.specs.declared.writing.Written.{Written}

-- a refusal: its number, the place 0, 0 and no byte written
abbrev pub not_written : Refusal → Written
not_written k = record { answer = Refused (record { line = 0; column = 0 }) k; size = 0 }

-- the answer: 12, then 13, else how many bytes were written
unfoldable pub write_answer : Sheet → List ℕ → Written
write_answer s out =
    cond (is_recorded s)
    (cond (ltb (length out) (length (text_of s))) (not_written OutputTooShort) (record { answer = Accepted; size = length (text_of s) }))
    (not_written NotRecorded)

-- the buffer: as it was on a refusal, else the text of the record and every byte past it as it was
unfoldable pub write_buffer : Sheet → List ℕ → List ℕ
write_buffer s out =
    cond (is_recorded s)
    (cond (ltb (length out) (length (text_of s))) out (text_of s ++ drop (length (text_of s)) out))
    out
