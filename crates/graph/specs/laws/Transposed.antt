-- One entry more of a table turned over.
use Rattle.std.specs.Prelude.{◌≡◌, refl, ◌&&◌, List, ℕ, suc, ◌+◌, ◌<◌, set, replicate, ltb}
use Rattle.std.proofs.Common.{subst, ◌∙◌, arith, add-one, lt-ltb, le-ltb, length-set, get_or-set_same, get_or-set_other}
use Rattle.std.proofs.Math.Decide.{ℕ_discrete}
use Rattle.rows.specs.Sets.{Holds, cell}
use Rattle.rows.specs.laws.Sets.{ltb_suc_ne}
use Rattle.graph.specs.Transposed.{Transposed}
use Rattle.graph.specs.laws.Nought.{nothing_held}

pub transposed_step : (t : List ℕ) (n : ℕ) {k x : ℕ} {r : List ℕ} → Transposed t n k r → k < 32 → Holds x n (λ i. cell t i k) → Transposed t n (k + 1) (set r k x)
transposed_step t n {k} {x} {r} w h e = record { size = length-set r k x ∙ w.size; at = λ j i l. rw (add-one k) (go j i l (ℕ_discrete j k)) }
  where
    go : (j i : ℕ) → j < 32 → Dec (j ≡ k) → cell (set r k x) j i ≡ (ltb j (suc k) && (ltb i n && cell t i j))
    go j i l (yes q) = rw (q, get_or-set_same r k x 0 (let z = w.size in omega arith), e.at i, lt-ltb k (suc k) (omega arith)) refl
    go j i l (no q) = rw (get_or-set_other r k j x 0 q, w.at j i l, ltb_suc_ne j k q) refl

pub transposed_end : {t : List ℕ} {n k m : ℕ} {r : List ℕ} → Transposed t n k r → k ≡ m → Transposed t n m r
transposed_end {t} {n} {k} {m} {r} w e = subst (λ z. Transposed t n z r) e w

pub transposed_none : (t : List ℕ) (n : ℕ) → Transposed t n 0 (replicate 32 0)
transposed_none t n = record { size = refl; at = λ j i l. rw (nothing_held 32 j i, le-ltb j 0 (omega arith)) refl }
