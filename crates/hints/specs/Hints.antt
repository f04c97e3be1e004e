-- What the finder of chains goes by.
use Rattle.std.specs.Prelude.{◌≡◌, ℕ, length}
use Rattle.chains.specs.declared.chain.Hints.{Hints}

-- Hints after so much was charged: two full arrays, and nothing else is promised.
pub record HintsAt (charged : ℕ) (h : Hints) : Type 0 where
  pub is : h.charged ≡ charged
  pub soft_size : length h.soft ≡ 32
  pub held_size : length h.held ≡ 32
