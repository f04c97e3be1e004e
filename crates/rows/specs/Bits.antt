-- A set of slots as the bits of a number.
use Rattle.std.specs.Prelude.{ℕ, ◌/◌, ◌%◌, ◌^◌, Bool, true, false, eqb}
use Rattle.std.specs.Int.Bits.{bit_or, bit_and, bit_xor}

-- Is slot i in the row?
unfoldable pub has : ℕ → ℕ → Bool
has row i = eqb (row / 2 ^ i % 2) 1

-- The row with slot i in it.
unfoldable pub with : ℕ → ℕ → ℕ
with row i = bit_or row (2 ^ i)

unfoldable pub joined : ℕ → ℕ → ℕ
joined a b = bit_or a b

unfoldable pub met : ℕ → ℕ → ℕ
met a b = bit_and a b

-- The same, if asked.
unfoldable pub with_if : ℕ → ℕ → Bool → ℕ
with_if row i true = with row i
with_if row i false = row

unfoldable pub joined_if : ℕ → ℕ → Bool → ℕ
joined_if a b true = joined a b
joined_if a b false = a

-- The row with slot i turned: out if it was in.
unfoldable pub turned : ℕ → ℕ → ℕ
turned row i = bit_xor row (2 ^ i)
