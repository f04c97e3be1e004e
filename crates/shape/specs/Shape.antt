-- The shape of a line as an automaton: what the contracts of `shape` cite.
use Rattle.std.specs.Prelude.{ℕ, ◌-◌, cond, ltb, eqb}
use Rattle.shape.specs.declared.shape.Section.{Section}
use Rattle.shape.specs.declared.shape.Section.TheVariants.{Catalogue, Options, Orderings, Trailer}
use Rattle.shape.specs.declared.shape.State.{State}
use Rattle.shape.specs.declared.shape.State.TheVariants.{Start, Gap, First, Digit, Done, Dead}

-- a line's first byte
abbrev pub begin_line : Section → ℕ → State
begin_line Catalogue b = cond (eqb b 67) (Gap 2) (cond (eqb b 88) (Gap 2) Dead)
begin_line Options b = cond (eqb b 70) (Gap 2) Dead
begin_line Orderings b = cond (eqb b 85) (Gap 3) Dead
begin_line Trailer b = cond (eqb b 84) (Gap 3) Dead

-- the byte after a field that k fields follow: a space, or after the last field the line end
abbrev pub after_field : ℕ → ℕ → State
after_field k b = cond (eqb k 0) (cond (eqb b 10) Done Dead) (cond (eqb b 32) (First (k - 1)) Dead)

-- a byte in a number, which k fields follow and which may have m digits more
abbrev pub in_number : ℕ → ℕ → ℕ → State
in_number k m b = cond (ltb b 48) (after_field k b) (cond (ltb 57 b) Dead (cond (eqb m 0) Dead (Digit k (m - 1))))

-- the first byte of a number: `0` has no digit more, another digit at most four
abbrev pub begin_number : ℕ → ℕ → State
begin_number k b = cond (eqb b 48) (Digit k 0) (cond (ltb b 48) Dead (cond (ltb 57 b) Dead (Digit k 4)))

-- one byte of a line; the automaton is dead where no well-shaped line is left
abbrev pub next_state : Section → State → ℕ → State
next_state sec Start b = begin_line sec b
next_state sec (Gap k) b = after_field k b
next_state sec (First k) b = begin_number k b
next_state sec (Digit k m) b = in_number k m b
next_state sec Done b = Dead
next_state sec Dead b = Dead
