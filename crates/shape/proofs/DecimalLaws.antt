-- A number of the grammar is the decimal text of its value.
use Prim.Native.Nat.{ℕ, zero, suc, ◌+◌, ◌-◌, ◌*◌, ◌/◌, ◌%◌, ◌≤◌, ◌<◌}
use mathlib.Core.Path.{◌≡◌, refl, sym, ap, ◌∙◌}
use mathlib.Core.List.{List, [], ◌∷◌, ◌++◌, append_assoc, append-nil}
use native.Mathlib.Omega.{arith}
use lib.ListN.{length}
use borrow.Author.Tests.{lt-ltb, le-ltb}
use Rattle.shape.specs.Number.{number_value, number_width}
use Rattle.shape.specs.LineText.{decimal}
use Rattle.shape.specs.Grammar.{Digits, Numeral, Digits.none, Digits.more, Numeral.nought, Numeral.long}
use Rattle.shape.proofs.DigitLaws.{last_digits, decimal_digits}
use Rattle.shape.proofs.LengthLaws.{w1, w2, w3, w4, w5}

-- the value of a list of digits, after a number v
unfoldable pub val : ℕ → List ℕ → ℕ
val v [] = v
val v (b ∷ d) = val (v * 10 + (b - 48)) d

pub num_val : (m v c : ℕ) (d r : List ℕ) → Digits d → length d ≤ m → c < 48 → (number_value m v (d ++ c ∷ r) ≡ val v d) × (number_width m (d ++ c ∷ r) ≡ length d)
unfolding val
num_val zero v c [] r none h lo = (refl, refl)
num_val (suc m) v c [] r none h lo = rw (lt-ltb c 48 lo) (refl, refl)
num_val zero v c (b ∷ d) r (more p q ds) h lo = absurd (omega arith)
num_val (suc m) v c (b ∷ d) r (more p q ds) h lo =
    let e = num_val m (v * 10 + (b - 48)) c d r ds (omega arith) lo in
    rw (le-ltb b 48 p, le-ltb 57 b q) (e.0, ap suc e.1)

digits_val : (k j v : ℕ) (d : List ℕ) → Digits d → k ≡ length d + j → last_digits k (val v d) ≡ last_digits j v ++ d
unfolding val
digits_val k j v [] none e =
    let f : k ≡ j = omega arith in
    rw f (sym (append-nil (last_digits j v)))
digits_val k j v (b ∷ d) (more p q ds) e =
    let w : ℕ = v * 10 + (b - 48) in
    let x : w / 10 ≡ v = omega arith in
    let y : 48 + w % 10 ≡ b = omega arith in
    let f : k ≡ length d + suc j = omega arith in
    digits_val k (suc j) w d ds f ∙ rw (x, y) (append_assoc (last_digits j v) (b ∷ []) d)

-- a number has as many digits as its value
width_val : (a : List ℕ) → Numeral a → length (decimal (val 0 a)) ≡ length a
unfolding val
width_val a nought = w1 0 (omega arith)
width_val a (long {b = x} {bs = []} lo hi ds n) = w1 (val 0 (x ∷ [])) (omega arith)
width_val a (long {b = x} {bs = y ∷ []} lo hi (more p q ds) n) = w2 (val 0 (x ∷ y ∷ [])) (omega arith) (omega arith)
width_val a (long {b = x} {bs = y ∷ z ∷ []} lo hi (more p q (more r s ds)) n) = w3 (val 0 (x ∷ y ∷ z ∷ [])) (omega arith) (omega arith)
width_val a (long {b = x} {bs = y ∷ z ∷ v ∷ []} lo hi (more p q (more r s (more t u ds))) n) = w4 (val 0 (x ∷ y ∷ z ∷ v ∷ [])) (omega arith) (omega arith)
width_val a (long {b = x} {bs = y ∷ z ∷ v ∷ w ∷ []} lo hi (more p q (more r s (more t u (more i j ds)))) n) = w5 (val 0 (x ∷ y ∷ z ∷ v ∷ w ∷ [])) (omega arith) (omega arith)
width_val a (long {b = x} {bs = y ∷ z ∷ v ∷ w ∷ k ∷ l} lo hi ds n) = absurd (omega arith)

pub number_digits : {a : List ℕ} → Numeral a → (length a ≤ 5) × Digits a
number_digits nought =
    let p : 48 ≤ 48 = omega arith in
    let q : 48 ≤ 57 = omega arith in
    (omega arith, more p q none)
number_digits (long {b = x} lo hi ds n) =
    let p : 48 ≤ x = omega arith in
    (omega arith, more p hi ds)

-- read back and written out
pub number_text : (a : List ℕ) (c : ℕ) (r : List ℕ) → Numeral a → c < 48 → (a ≡ decimal (number_value 5 0 (a ++ c ∷ r))) × (number_width 5 (a ++ c ∷ r) ≡ length a)
number_text a c r n lo =
    let d = number_digits n in
    let e = num_val 5 0 c a r d.1 d.0 lo in
    let z : length a ≡ length a + 0 = omega arith in
    (sym (ap decimal e.0 ∙ decimal_digits (val 0 a) ∙ ap (λ (k : ℕ). last_digits k (val 0 a)) (width_val a n) ∙ digits_val (length a) 0 0 a d.1 z), e.1)
