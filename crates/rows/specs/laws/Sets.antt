-- How a loop fills a row, slot by slot, and what the row then holds.
use Rattle.std.specs.Prelude.{◌≡◌, refl, Bool, true, false, ◌&&◌, ◌||◌, ◌≢◌, ℕ, suc, ◌+◌, ◌<◌, ◌≤◌, eqb, ltb}
use Rattle.std.proofs.Common.{sym, subst, ◌∙◌, arith, add-one, eq-eqb, ne_eqb, lt-ltb, le-ltb, ltb-true, ltb-false}
use Rattle.std.proofs.Math.Bool.{and-true, and-false, or-false}
use Rattle.std.proofs.Math.Decide.{ℕ_discrete}
use Rattle.rows.specs.Bits.{has, with_if}
use Rattle.rows.specs.Sets.{Holds}
use Rattle.rows.specs.laws.Bits.{has_none, has_with_if}

pub ltb_suc_ne : (p i : ℕ) → p ≢ i → ltb p (suc i) ≡ ltb p i
ltb_suc_ne p i k = go (ltb p i) refl
  where
    open_lt : ltb p i ≡ true → ltb p (suc i) ≡ ltb p i
    open_lt e = sym (e ∙ sym (lt-ltb p (suc i) (let h = ltb-true p i e in omega arith)))

    go : (b : Bool) → ltb p i ≡ b → ltb p (suc i) ≡ ltb p i
    go true e = open_lt e
    go false e = let h = ltb-false p i e in le-ltb p (suc i) (omega arith) ∙ sym e

pub holds_none : (p : ℕ → Bool) → Holds 0 0 p
holds_none p = record { at = λ j. rw (has_none j, le-ltb j 0 (omega arith)) refl }

-- one slot more: how a loop fills a row
pub holds_step : (p : ℕ → Bool) {r i s : ℕ} {y : Bool} → Holds r i p → y ≡ p i → s ≡ with_if r i y → Holds s (i + 1) p
holds_step p {r} {i} {s} {y} w e f = record { at = λ j. rw (f, has_with_if r i y j, w.at j, e, add-one i) (go j (ℕ_discrete j i)) }
  where
    old : (a : Bool) → a ≡ (a || (p i && false))
    old a = rw (and-false (p i), or-false a)

    go : (j : ℕ) → Dec (j ≡ i) → ((ltb j i && p j) || (p i && eqb i j)) ≡ (ltb j (suc i) && p j)
    go j (yes k) = rw (k, le-ltb i i (omega arith), eq-eqb i i refl, lt-ltb i (suc i) (omega arith)) (and-true (p i))
    go j (no k) = rw (ne_eqb i j (λ q. k (sym q)), ltb_suc_ne j i k) (sym (old (ltb j i && p j)))

pub has_put_same : (r i : ℕ) (y : Bool) → has r i ≡ false → has (with_if r i y) i ≡ y
has_put_same r i y e = rw (has_with_if r i y i, e, eq-eqb i i refl) (and-true y)

pub has_put_other : (r i : ℕ) (y : Bool) (k : ℕ) → k ≢ i → has (with_if r i y) k ≡ has r k
has_put_other r i y k d = rw (has_with_if r i y k, ne_eqb i k (λ q. d (sym q))) (rw (and-false y, or-false (has r k)))

-- what a set made by a test holds
pub holds_where : {r n : ℕ} (p : ℕ → Bool) → ((k : ℕ) → k < n → has r k ≡ p k) → ((k : ℕ) → n ≤ k → has r k ≡ false) → Holds r n p
holds_where {r} {n} p below above = record { at = λ k. go k (ltb k n) refl }
  where
    go : (k : ℕ) (b : Bool) → ltb k n ≡ b → has r k ≡ (ltb k n && p k)
    go k true e = rw e (below k (ltb-true k n e))
    go k false e = rw e (above k (let h = ltb-false k n e in omega arith))

pub holds_at : {r n : ℕ} {p : ℕ → Bool} → Holds r n p → (j : ℕ) → j < n → has r j ≡ p j
holds_at {r} {n} {p} w j h = w.at j ∙ rw (lt-ltb j n h) refl

pub holds_same : {r n : ℕ} {p q : ℕ → Bool} → Holds r n p → ((j : ℕ) → j < n → p j ≡ q j) → Holds r n q
holds_same {r} {n} {p} {q} w h = record { at = λ j. w.at j ∙ go j (ltb j n) refl }
  where
    go : (j : ℕ) (b : Bool) → ltb j n ≡ b → (ltb j n && p j) ≡ (ltb j n && q j)
    go j true e = rw e (h j (ltb-true j n e))
    go j false e = rw e refl

pub holds_end : {r i n : ℕ} {p : ℕ → Bool} → Holds r i p → i ≡ n → Holds r n p
holds_end {r} {i} {n} {p} w e = subst (λ k. Holds r k p) e w
