-- An answer as one number, for callers in C and Rust.
use Rattle.std.specs.Prelude.{ℕ, ◌+◌, ◌*◌, ◌<◌}
use Rattle.sheet.specs.Answer.{number_of}
use Rattle.sheet.specs.declared.answer.Answer.{Answer}
use Rattle.sheet.specs.declared.answer.Answer.TheVariants.{Accepted, Refused}

-- Four numbers below 65,536: the lowest sixteen bits are the count, then come the column, the line and the refusal's number.
abbrev pub packed : (number line column count : ℕ) → ℕ
packed number line column count = count + 65536 * (column + 65536 * (line + 65536 * number))

-- "A refusal carries its number, its line and its column", and no count; a success has the number 0 and a count.
abbrev pub packed_answer : Answer → ℕ → ℕ
packed_answer Accepted count = packed 0 0 0 count
packed_answer (Refused place why) count = packed (number_of why) place.line place.column 0

-- A refusal's line and column have sixteen bits.
abbrev pub Placed : Answer → Type 0
Placed Accepted = Unit {0}
Placed (Refused place why) = (place.line < 65536) × (place.column < 65536)

-- And so has the count.
pub record Fits (answer : Answer) (count : ℕ) : Type 0 where
  pub placed : Placed answer
  pub small_count : count < 65536
