-- How large a number of so many digits can be.
use Prim.Native.Nat.{ℕ, zero, suc, ◌+◌, ◌*◌, ◌≤◌}
use native.Mathlib.Omega.{arith}

-- the largest number of j digits
unfoldable pub cap : ℕ → ℕ
cap zero = 0
cap (suc j) = cap j * 10 + 9

pub cap_top : (j : ℕ) → j ≤ 5 → cap j ≤ 99999
unfolding cap
cap_top zero h = omega arith
cap_top (suc zero) h = omega arith
cap_top (suc (suc zero)) h = omega arith
cap_top (suc (suc (suc zero))) h = omega arith
cap_top (suc (suc (suc (suc zero)))) h = omega arith
cap_top (suc (suc (suc (suc (suc zero))))) h = omega arith
cap_top (suc (suc (suc (suc (suc (suc j)))))) h = absurd (omega arith)
