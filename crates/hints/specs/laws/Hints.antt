-- Hints keep what they say of themselves.
use Rattle.std.specs.Prelude.{ℕ, refl}
use Rattle.hints.specs.Hints.{HintsAt}
use Rattle.chains.specs.declared.chain.Hints.{Hints}

-- Hints know what was charged themselves.
pub hints_here : {charged : ℕ} {h : Hints} → HintsAt charged h → HintsAt h.charged h
hints_here w = record { is = refl; soft_size = w.soft_size; held_size = w.held_size }
