-- An item of a set, where the set has one. Items are numbered from 0 for options and from 32 for orderings.
use Rattle.std.specs.Prelude.{◌≡◌, ℕ, ◌+◌, ◌<◌, true, false, Option, IfSome, IfNone}
use Rattle.rows.specs.Bits.{has}

-- r is a slot below n that the set holds; or there is no r, and then the set holds none of the slots below k.
pub record OneOf (set n k : ℕ) (r : Option ℕ) : Type 0 where
  pub here : IfSome r (λ i. (i < n) × (has set i ≡ true))
  pub none : IfNone r ((j : ℕ) → j < k → has set j ≡ false)

-- r is an open option; or 32 and the slot of an open ordering; or there is no r, and then nothing is open.
pub record Picked (open_options open_orderings n m : ℕ) (r : Option ℕ) : Type 0 where
  pub below : IfSome r (λ i. i < 96)
  pub option : IfSome r (λ i. i < 32 → (i < n) × (has open_options i ≡ true))
  pub ordering : IfSome r (λ i. (u : ℕ) → i ≡ 32 + u → (u < m) × (has open_orderings u ≡ true))
  pub no_option : IfNone r ((i : ℕ) → i < n → has open_options i ≡ false)
  pub no_ordering : IfNone r ((u : ℕ) → u < m → has open_orderings u ≡ false)
