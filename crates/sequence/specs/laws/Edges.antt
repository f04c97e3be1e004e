-- One row more: how the loop leaves only what stands between kept options.
use Rattle.std.specs.Prelude.{◌≡◌, refl, Bool, true, false, ◌&&◌, ◌||◌, List, ℕ, ◌+◌, ◌<◌, get_or, set, replicate}
use Rattle.std.proofs.Common.{subst, ◌∙◌, arith, length-set, get_or-set_same, get_or-set_other}
use Rattle.std.proofs.Math.Decide.{ℕ_discrete}
use Rattle.std.proofs.lemmas.List.{length-replicate}
use Rattle.rows.specs.Bits.{has, met, joined_if}
use Rattle.rows.specs.Sets.{cell}
use Rattle.rows.specs.laws.Bits.{has_none, has_joined_if, has_met}
use Rattle.sequence.specs.Edges.{BetweenKept}

pub between_none : (t : List ℕ) (kept : ℕ) → BetweenKept t kept 0 (replicate 32 0)
between_none t kept = record { size = length-replicate {A = ℕ} 32 0; at = λ p q l. absurd (omega arith) }

pub between_step : (t : List ℕ) (kept : ℕ) {i x y : ℕ} {z : Bool} {r : List ℕ} → BetweenKept t kept i r → i < 32 → x ≡ met (get_or t i 0) kept → z ≡ has kept i → y ≡ joined_if 0 x z → BetweenKept t kept (i + 1) (set r i y)
between_step t kept {i} {x} {y} {z} {r} w h ex ez ey = record { size = length-set r i y ∙ w.size; at = λ p q l. go p q l (ℕ_discrete p i) }
  where
    turn : (a b c : Bool) → (false || (a && (b && c))) ≡ (b && (a && c))
    turn true true c = refl
    turn true false c = refl
    turn false true c = refl
    turn false false c = refl

    go : (p q : ℕ) → p < i + 1 → Dec (p ≡ i) → cell (set r i y) p q ≡ (cell t p q && (has kept p && has kept q))
    go p q l (yes k) = rw (k, get_or-set_same r i y 0 (let s = w.size in omega arith), ey, has_joined_if 0 x z q, ex, has_met (get_or t i 0) kept q, has_none q, ez) (turn (has kept i) (cell t i q) (has kept q))
    go p q l (no k) = rw (get_or-set_other r i p y 0 k) (w.at p q (omega arith))

pub between_end : {t : List ℕ} {kept i n : ℕ} {r : List ℕ} → BetweenKept t kept i r → i ≡ n → BetweenKept t kept n r
between_end {t} {kept} {i} {n} {r} w e = subst (λ k. BetweenKept t kept k r) e w
