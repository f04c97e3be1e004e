-- One digit more, and the ends of a number, as the loop of `number_at` meets them.
use Prim.Native.Nat.{ℕ, zero, suc, ◌+◌, ◌-◌, ◌*◌, ◌≤◌, ◌<◌}
use mathlib.Core.Path.{◌≡◌, refl, ap, ◌∙◌}
use mathlib.Core.Bool.{Bool, true, false, cond}
use mathlib.Core.List.{List, [], ◌∷◌}
use native.Mathlib.Omega.{arith}
use native.Mathlib.Numerals.{add-one}
use lib.ListN.{length, drop, get_or, drop_of_length-le}
use lib.Seq.{drop-cons}
use lib.Dec.{ltb}
use Rattle.std.specs.Char.{IsNotAsciiDigit}
use Rattle.std.proofs.Common.{inl, inr}
use borrow.Author.Tests.{lt-ltb, le-ltb}
use Rattle.shape.specs.declared.number.Numbers.{Numbers}
use Rattle.shape.specs.Number.{number_value, number_width, numbers_of}
use Rattle.shape.proofs.NumberLaws.{cap}

abbrev pub Same : ℕ → ℕ → List ℕ → ℕ → ℕ → Type 0
Same m v l a w = (number_value m v l ≡ a) × (number_width m l ≡ w)

pub more : (j v b i : ℕ) (s : List ℕ) → j < 5 → i < length s → b ≡ get_or s i 0 → 48 ≤ b → b ≤ 57
    → Same (5 - j) v (drop i s) (number_value (5 - (j + 1)) (v * 10 + (b - 48)) (drop (i + 1) s)) (suc (number_width (5 - (j + 1)) (drop (i + 1) s)))
more j v b i s p h e lo hi =
    let k : 5 - j ≡ suc (5 - (j + 1)) = omega arith in
    let low : 48 ≤ get_or s i 0 = omega arith in
    let high : get_or s i 0 ≤ 57 = omega arith in
    rw (k, e, add-one i, drop-cons s i 0, le-ltb _ 48 low, le-ltb 57 _ high) (refl, refl)

pub stop_end : (m v i : ℕ) (s : List ℕ) → length s ≤ i → Same m v (drop i s) v 0
stop_end zero v i s h = (refl, refl)
stop_end (suc m) v i s h = rw (drop_of_length-le s h) (refl, refl)

-- a byte that is no digit
pub stop_other : (m v b i : ℕ) (s : List ℕ) → i < length s → b ≡ get_or s i 0 → IsNotAsciiDigit b → Same m v (drop i s) v 0
stop_other zero v b i s h e other = (refl, refl)
stop_other (suc m) v b i s h e (inl low) =
    let lo : get_or s i 0 < 48 = omega arith in
    rw (drop-cons s i 0, lt-ltb _ 48 lo) (refl, refl)
stop_other (suc m) v b i s h e (inr high) =
    let lo : 48 ≤ get_or s i 0 = omega arith in
    let hi : 57 < get_or s i 0 = omega arith in
    rw (drop-cons s i 0, le-ltb _ 48 lo, lt-ltb 57 _ hi) (refl, refl)

pub cap_more : (j v d : ℕ) → v ≤ cap j → d ≤ 9 → v * 10 + d ≤ cap (j + 1)
unfolding cap
cap_more j v d b q = rw add-one (omega arith)

-- no more digits than may come
either : (s t : Bool) (k m : ℕ) → k ≤ m → cond s 0 (cond t 0 (suc k)) ≤ suc m
either true t k m h = omega arith
either false true k m h = omega arith
either false false k m h = omega arith

pub width_le : (m : ℕ) (l : List ℕ) → number_width m l ≤ m
width_le zero l = omega arith
width_le (suc m) [] = omega arith
width_le (suc m) (b ∷ l) = either (ltb b 48) (ltb 57 b) (number_width m l) m (width_le m l)

same_numbers : {a a' b b' w w' p p' q q' : ℕ} → a ≡ a' → b ≡ b' → w ≡ w' → p ≡ p' → q ≡ q'
    → ◌≡◌ {A = Numbers} (record { first = a; second = b; third = w; second_column = p; third_column = q }) (record { first = a'; second = b'; third = w'; second_column = p'; third_column = q' })
same_numbers ea eb ew ep eq = λ i. record { first = ea i; second = eb i; third = ew i; second_column = ep i; third_column = eq i }

-- three numbers that were read one after the other are the numbers of the line
pub numbers_law : (l : List ℕ) (v₁ n₁ v₂ n₂ v₃ : ℕ)
    → v₁ ≡ number_value 5 0 (drop 2 l) → n₁ ≡ 2 + number_width 5 (drop 2 l)
    → v₂ ≡ number_value 5 0 (drop (n₁ + 1) l) → n₂ ≡ n₁ + 1 + number_width 5 (drop (n₁ + 1) l)
    → v₃ ≡ number_value 5 0 (drop (n₂ + 1) l)
    → ◌≡◌ {A = Numbers} (record { first = v₁; second = v₂; third = v₃; second_column = n₁ + 1 + 1; third_column = n₂ + 1 + 1 }) (numbers_of l)
numbers_law l v₁ n₁ v₂ n₂ v₃ a₁ b₁ a₂ b₂ a₃ =
    let p : ℕ = 2 + number_width 5 (drop 2 l) + 1 in
    let x₂ : n₁ + 1 ≡ p = omega arith in
    let q : ℕ = p + number_width 5 (drop p l) + 1 in
    let c₂ : n₂ ≡ n₁ + 1 + number_width 5 (drop p l) = b₂ ∙ ap (λ (k : ℕ). n₁ + 1 + number_width 5 (drop k l)) x₂ in
    let x₃ : n₂ + 1 ≡ q = omega arith in
    same_numbers a₁ (a₂ ∙ ap (λ (k : ℕ). number_value 5 0 (drop k l)) x₂) (a₃ ∙ ap (λ (k : ℕ). number_value 5 0 (drop k l)) x₃) (omega arith) (omega arith)
