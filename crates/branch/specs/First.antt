-- The first slot of a set, and the first open item of a sheet.
use Rattle.std.specs.Prelude.{◌≡◌, true, false, ℕ, ◌+◌, ◌≤◌, ◌<◌, Option, IfSome, IfNone}
use Rattle.rows.specs.Bits.{has}
use Rattle.picks.specs.Picked.{Picked}

-- r is the smallest slot below n in the set; or there is no r, and then the set holds none of them.
pub record FirstOf (set n : ℕ) (r : Option ℕ) : Type 0 where
  pub here : IfSome r (λ i. (i < n) × (has set i ≡ true))
  pub none_before : IfSome r (λ i. (j : ℕ) → j < i → has set j ≡ false)
  pub none : IfNone r ((j : ℕ) → j < n → has set j ≡ false)

-- r is the first open item: options in slot order, then orderings in slot order.
pub record FirstItem (open_options open_orderings n m : ℕ) (r : Option ℕ) : Type 0 where
  pub picked : Picked open_options open_orderings n m r
  pub none_before : IfSome r (λ x. x < 32 → (j : ℕ) → j < x → has open_options j ≡ false)
  pub no_option : IfSome r (λ x. 32 ≤ x → (i : ℕ) → i < n → has open_options i ≡ false)
  pub no_ordering_before : IfSome r (λ x. (u : ℕ) → x ≡ 32 + u → (j : ℕ) → j < u → has open_orderings j ≡ false)
