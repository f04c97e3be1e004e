-- The table of slots, one slot more at a time.
use Rattle.std.specs.Prelude.{◌≡◌, List, ◌⊎◌, ℕ, ◌+◌, ◌<◌, length, get_or, set, replicate, eqb}
use Rattle.std.proofs.Common.{sym, ap, ◌∙◌, inl, inr, ⊎_elim, arith, eq-eqb, ne_eqb, length-set, get_or-set_same, get_or-set_other}
use Rattle.std.proofs.Math.Decide.{ℕ_discrete}
use Rattle.std.proofs.lemmas.List.{length-replicate, get_or-replicate}
use Rattle.slots.specs.Slots.{NumbersDiffer, SlotOf, TableOf}

-- r is the slot below k at which the number x stands, or n.
pub record SlotBelow (n k : ℕ) (numbers : List ℕ) (x r : ℕ) : Type 0 where
  pub bound : (r < k) ⊎ (r ≡ n)
  pub at : (i : ℕ) → i < k → eqb x (get_or numbers i 0) ≡ eqb r i

pub record TableBelow (n k : ℕ) (numbers r : List ℕ) : Type 0 where
  pub size : length r ≡ 256
  pub at : (x : ℕ) → x < 256 → SlotBelow n k numbers x (get_or r x 0)

pub table_none : (n : ℕ) (numbers : List ℕ) → TableBelow n 0 numbers (replicate 256 n)
table_none n numbers = record {
  size = length-replicate {A = ℕ} 256 n;
  at = λ x l. record { bound = inr (get_or-replicate 256 x n 0 l); at = λ i h. absurd (omega arith) };
}

module _ {n k : ℕ} {numbers : List ℕ} (d : NumbersDiffer n numbers) (h : k < n) where
  -- The number at slot k stands at no slot before.
  slot_put : SlotBelow n (k + 1) numbers (get_or numbers k 0) k
  slot_put = record { bound = inl (omega arith); at = λ i l. go i l (ℕ_discrete k i) }
    where
      go : (i : ℕ) → i < k + 1 → Dec (k ≡ i) → eqb (get_or numbers k 0) (get_or numbers i 0) ≡ eqb k i
      go i l (yes e) = eq-eqb _ _ (ap (λ j. get_or numbers j 0) e) ∙ sym (eq-eqb k i e)
      go i l (no e) = ne_eqb _ _ (λ q. e (d.distinct k i h (omega arith) q)) ∙ sym (ne_eqb k i e)

  -- Another number does not stand at slot k.
  slot_left : (x : ℕ) {r : ℕ} → (x ≡ get_or numbers k 0 → ⊥) → SlotBelow n k numbers x r → SlotBelow n (k + 1) numbers x r
  slot_left x {r} g w = record { bound = ⊎_elim (λ l. inl (omega arith)) inr w.bound; at = λ i l. go i l (ℕ_discrete i k) }
    where
      other : r ≡ k → ⊥
      other e = ⊎_elim (λ l. omega arith) (λ q. omega arith) w.bound

      go : (i : ℕ) → i < k + 1 → Dec (i ≡ k) → eqb x (get_or numbers i 0) ≡ eqb r i
      go i l (yes e) = ne_eqb x _ (λ q. g (q ∙ ap (λ j. get_or numbers j 0) e)) ∙ sym (ne_eqb r i (λ q. other (q ∙ e)))
      go i l (no e) = w.at i (omega arith)

  pub table_step : {r : List ℕ} → TableBelow n k numbers r → get_or numbers k 0 < 256 → TableBelow n (k + 1) numbers (set r (get_or numbers k 0) k)
  table_step {r} w b = record { size = length-set r (get_or numbers k 0) k ∙ w.size; at = λ x l. go x l (ℕ_discrete x (get_or numbers k 0)) }
    where
      go : (x : ℕ) → x < 256 → Dec (x ≡ get_or numbers k 0) → SlotBelow n (k + 1) numbers x (get_or (set r (get_or numbers k 0) k) x 0)
      go x l (yes e) = rw (e, get_or-set_same r (get_or numbers k 0) k 0 (let z = w.size in omega arith)) slot_put
      go x l (no e) = rw (get_or-set_other r (get_or numbers k 0) x k 0 e) (slot_left x e (w.at x l))

pub table_end : {n k : ℕ} {numbers r : List ℕ} → TableBelow n k numbers r → k ≡ n → TableOf n numbers r
table_end {n} {k} {numbers} {r} w e = record { size = w.size; at = λ x l. slot x l }
  where
    slot : (x : ℕ) → x < 256 → SlotOf n numbers x (get_or r x 0)
    slot x l = record { bound = ⊎_elim (λ z. omega arith) (λ z. omega arith) (w.at x l).bound; at = λ i h. (w.at x l).at i (omega arith) }
