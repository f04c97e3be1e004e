-- The first entries of a list, and zeros after them.
use Prim.Native.Nat.{ℕ, zero, suc, ◌≤◌}
use mathlib.Core.Path.{◌≡◌, refl, sym, ap}
use mathlib.Core.List.{List, [], ◌∷◌}
use native.Mathlib.Omega.{arith}
use lib.ListN.{length, take, get_or, set, replicate}

unfoldable pub trim : ℕ → List ℕ → List ℕ
trim k [] = []
trim zero (x ∷ l) = 0 ∷ trim zero l
trim (suc k) (x ∷ l) = x ∷ trim k l

pub trim_none : (l : List ℕ) → trim 0 l ≡ replicate (length l) 0
unfolding trim
trim_none [] = refl
trim_none (x ∷ l) = ap (λ (r : List ℕ). 0 ∷ r) (trim_none l)

pub trim_more : (k : ℕ) (l : List ℕ) → set (trim k l) k (get_or l k 0) ≡ trim (suc k) l
unfolding trim
trim_more k [] = refl
trim_more zero (x ∷ l) = refl
trim_more (suc k) (x ∷ l) = ap (λ (r : List ℕ). x ∷ r) (trim_more k l)

pub trim_all : (k : ℕ) (l : List ℕ) → ((i : ℕ) → k ≤ i → get_or l i 0 ≡ 0) → trim k l ≡ l
unfolding trim
trim_all k [] z = refl
trim_all zero (x ∷ l) z =
    let e : x ≡ 0 = z 0 (omega arith) in
    rw (trim_all zero l (λ i h. z (suc i) (omega arith))) (ap (λ (y : ℕ). y ∷ l) (sym e))
trim_all (suc k) (x ∷ l) z = ap (λ (r : List ℕ). x ∷ r) (trim_all k l (λ i h. z (suc i) (omega arith)))

pub trim_take : (k m : ℕ) (l : List ℕ) → k ≤ m → take k (trim m l) ≡ take k l
unfolding trim
trim_take zero m [] h = refl
trim_take zero m (x ∷ l) h = refl
trim_take (suc k) zero l h = absurd (omega arith)
trim_take (suc k) (suc m) [] h = refl
trim_take (suc k) (suc m) (x ∷ l) h = ap (λ (r : List ℕ). x ∷ r) (trim_take k m l (omega arith))
