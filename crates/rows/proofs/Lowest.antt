-- The slots of a set with its lowest taken off.
use Rattle.std.proofs.Common.{◌≡◌, refl, ap, sym, ◌∙◌, ℕ, zero, suc, ◌+◌, ◌-◌, ◌/◌, ◌%◌, ◌^◌, ◌<◌, ◌≤◌, true, false, [], ◌∷◌, eqb, min, bit_and, arith}
use Rattle.std.specs.Int.{bit_at, trailing_zeros, w32}
use Rattle.std.proofs.lemmas.Nat.Bits.{bit_at_lowest, bit_at-suc, bit_at_and, bit_at-trailing_zeros}
use Rattle.rows.specs.Bits.{has}
use Rattle.rows.specs.laws.Bits.{has_none}
use Rattle.rows.specs.Ones.{slots_from, slots}

pub slots_none : (k i : ℕ) → slots_from k i 0 ≡ []
unfolding slots_from
slots_none zero i = refl
slots_none (suc k) i = rw (has_none i) (slots_none k (i + 1))

-- the slots depend only on the bits
pub slots_same : (k i s s' : ℕ) → ((j : ℕ) → i ≤ j → j < i + k → has s j ≡ has s' j) → slots_from k i s ≡ slots_from k i s'
unfolding slots_from
slots_same zero i s s' h = refl
slots_same (suc k) i s s' h =
    rw (h i (omega arith) (omega arith), slots_same k (i + 1) s s' (λ j a b. h j (omega arith) (omega arith))) refl

-- the lowest slot comes first
pub slots_first : (d k i t s s' : ℕ) → t ≡ i + d → d < k → has s t ≡ true → has s' t ≡ false → ((j : ℕ) → j < t → has s j ≡ false) → ((j : ℕ) → j < t → has s' j ≡ false) → ((j : ℕ) → t < j → j < i + k → has s j ≡ has s' j) → slots_from k i s ≡ t ∷ slots_from k i s'
unfolding slots_from
slots_first d zero i t s s' e l on off low low' high = absurd (omega arith)
slots_first zero (suc k) i t s s' e l on off low low' high =
    let e' : t ≡ i = omega arith in
    let on' : has s i ≡ true = rw e' at on in
    let off' : has s' i ≡ false = rw e' at off in
    rw (e', on', off') (ap (λ xs. i ∷ xs) (slots_same k (i + 1) s s' (λ j a b. high j (omega arith) (omega arith))))
slots_first (suc d) (suc k) i t s s' e l on off low low' high =
    rw (low i (omega arith), low' i (omega arith))
    (slots_first d k (i + 1) t s s' (omega arith) (omega arith) on off low low' (λ j a b. high j a (omega arith)))

-- one less: the lowest bit goes, and those above it stay
above_odd : (s : ℕ) → s % 2 ≡ 1 → (j : ℕ) → 0 < j → bit_at (s - 1) j ≡ bit_at s j
above_odd s odd zero l = absurd (omega arith)
above_odd s odd (suc j) l = bit_at-suc (s - 1) j ∙ ap (λ n. bit_at n j) (let e : (s - 1) / 2 ≡ s / 2 = omega arith in e) ∙ sym (bit_at-suc s j)

one_less : (t s : ℕ) → 0 < s → bit_at s t ≡ 1 → ((j : ℕ) → j < t → bit_at s j ≡ 0) → (bit_at (s - 1) t ≡ 0) × ((j : ℕ) → t < j → bit_at (s - 1) j ≡ bit_at s j)
one_less zero s pos on low =
    let odd : s % 2 ≡ 1 = sym (bit_at_lowest s) ∙ on in
    (bit_at_lowest (s - 1) ∙ (let e : (s - 1) % 2 ≡ 0 = omega arith in e), above_odd s odd)
one_less (suc t) s pos on low =
    let even : s % 2 ≡ 0 = sym (bit_at_lowest s) ∙ low 0 (omega arith) in
    let half : (s - 1) / 2 ≡ s / 2 - 1 = omega arith in
    let h : (bit_at (s / 2 - 1) t ≡ 0) × ((j : ℕ) → t < j → bit_at (s / 2 - 1) j ≡ bit_at (s / 2) j) =
    one_less t (s / 2) (omega arith) (sym (bit_at-suc s t) ∙ on) (λ j l. sym (bit_at-suc s j) ∙ low (suc j) (omega arith)) in
    (bit_at-suc (s - 1) t ∙ ap (λ n. bit_at n t) half ∙ h.0, above h.1 half)
  where
    above : ((j : ℕ) → t < j → bit_at (s / 2 - 1) j ≡ bit_at (s / 2) j) → (s - 1) / 2 ≡ s / 2 - 1 → (j : ℕ) → suc t < j → bit_at (s - 1) j ≡ bit_at s j
    above h half zero l = absurd (omega arith)
    above h half (suc j) l = bit_at-suc (s - 1) j ∙ ap (λ n. bit_at n j) half ∙ h j (omega arith) ∙ sym (bit_at-suc s j)

min_same : (x : ℕ) → min x x ≡ x
min_same x = omega arith

min_none : (x : ℕ) → min x 0 ≡ 0
min_none x = omega arith

none_min : (x : ℕ) → min 0 x ≡ 0
none_min x = omega arith

-- without the lowest
pub slots_lowest : (s : ℕ) → 0 < s → s < 2 ^ 32 → slots s ≡ trailing_zeros w32 s ∷ slots (bit_and s (s - 1))
unfolding has
slots_lowest s pos fits =
    let t : ℕ = trailing_zeros w32 s in
    let h : (t < 32) × (bit_at s t ≡ 1) × ((j : ℕ) → j < t → bit_at s j ≡ 0) = bit_at-trailing_zeros w32 s pos fits in
    let k : (bit_at (s - 1) t ≡ 0) × ((j : ℕ) → t < j → bit_at (s - 1) j ≡ bit_at s j) = one_less t s pos h.1 h.2 in
    let s' : ℕ = bit_and s (s - 1) in
    let off : bit_at s' t ≡ 0 = bit_at_and s (s - 1) t ∙ ap (min (bit_at s t)) k.0 ∙ min_none (bit_at s t) in
    slots_first t 32 0 t s s' (omega arith) h.0 (ap (λ n. eqb n 1) h.1) (ap (λ n. eqb n 1) off)
    (λ j l. ap (λ n. eqb n 1) (h.2 j l))
    (λ j l. ap (λ n. eqb n 1) (bit_at_and s (s - 1) j ∙ ap (λ n. min n (bit_at (s - 1) j)) (h.2 j l) ∙ none_min (bit_at (s - 1) j)))
    (λ j a b. sym (ap (λ n. eqb n 1) (bit_at_and s (s - 1) j ∙ ap (min (bit_at s j)) (k.1 j a) ∙ min_same (bit_at s j))))
