-- A table of noughts holds nothing.
use Rattle.std.specs.Prelude.{◌≡◌, refl, false, ℕ, zero, suc, get_or, replicate}
use Rattle.rows.specs.Sets.{cell}
use Rattle.rows.specs.laws.Bits.{has_none}

nought_row : (k p z : ℕ) → get_or (replicate k z) p z ≡ z
nought_row zero p z = refl
nought_row (suc k) zero z = refl
nought_row (suc k) (suc p) z = nought_row k p z

pub nothing_held : (k p q : ℕ) → cell (replicate k 0) p q ≡ false
nothing_held k p q = rw (nought_row k p 0) (has_none q)
