-- Sums of weights.
use Rattle.std.specs.Prelude.{ℕ}

-- 96 weights of 16 bits add up to no more, so their sums fit into 32 bits.
abbrev pub largest_sum : ℕ
largest_sum = 6291360
