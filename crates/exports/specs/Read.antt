-- What `wharftoken_read` answers, and what it leaves in the lent record.
use Rattle.std.specs.Prelude.{ℕ, List, leb, length}
use Rattle.sheet.specs.declared.answer.Answer.{Answer}
use Rattle.reader.specs.Read.{read_sheet}
use Rattle.wire.specs.Packed.{packed_answer}
use Rattle.fields.specs.Record.{record_size, bytes_of}
use Rattle.wire.specs.Lent.{lent, written}

-- 1 to 10; 13 last.
abbrev pub read_lent : (text out : List ℕ) → Answer
read_lent text out = lent (read_sheet text).answer (leb record_size (length out))

unfoldable pub read_result : (text out : List ℕ) → ℕ
read_result text out = packed_answer (read_lent text out) 0

unfoldable pub read_record : (text out : List ℕ) → List ℕ
read_record text out = written (read_lent text out) (bytes_of (read_sheet text).sheet) out
