-- The digits of a number: the last one, and those before it.
use Prim.Native.Nat.{ℕ, zero, suc, ◌+◌, ◌/◌, ◌%◌, ◌≤◌, ◌<◌}
use mathlib.Core.Path.{◌≡◌, refl, ap, ◌∙◌}
use mathlib.Core.Bool.{Bool, true, false}
use mathlib.Core.List.{List, [], ◌∷◌, ◌++◌}
use native.Mathlib.Omega.{arith}
use native.Mathlib.Numerals.{add-one}
use borrow.Author.Tests.{lt-ltb, le-ltb, ltb-false}
use lib.Dec.{ltb}
use lib.ListN.{length, length-append}
use Rattle.shape.specs.LineText.{unless_first, digits, decimal}

-- room for more digits than a number has changes nothing
digits_enough : (k j n : ℕ) → n < k → n < j → digits k n ≡ digits j n
unfolding digits
digits_enough zero j n h g = absurd (omega arith)
digits_enough (suc k) zero n h g = absurd (omega arith)
digits_enough (suc k) (suc j) n h g = go (ltb n 10) refl (λ l. digits_enough k j (n / 10) (omega arith) (omega arith))
  where
    go : (b : Bool) → ltb n 10 ≡ b → (10 ≤ n → digits k (n / 10) ≡ digits j (n / 10))
        → unless_first b (digits k) (n / 10) ++ ((48 + n % 10) ∷ []) ≡ unless_first b (digits j) (n / 10) ++ ((48 + n % 10) ∷ [])
    go true e f = refl
    go false e f = ap (λ l. l ++ ((48 + n % 10) ∷ [])) (f (ltb-false n 10 e))

pub decimal_digit : (n : ℕ) → n < 10 → decimal n ≡ (48 + n) ∷ []
unfolding decimal digits
decimal_digit n h = let e : n % 10 ≡ n = omega arith in rw (lt-ltb n 10 h, e) refl

pub decimal_more : (n : ℕ) → 10 ≤ n → decimal n ≡ decimal (n / 10) ++ ((48 + n % 10) ∷ [])
unfolding decimal digits
decimal_more n h = rw (le-ltb n 10 h) (ap (λ l. l ++ ((48 + n % 10) ∷ [])) (digits_enough n (suc (n / 10)) (n / 10) (omega arith) (omega arith)))

-- the last k digits of n
abbrev pub last_digits : ℕ → ℕ → List ℕ
last_digits zero n = []
last_digits (suc k) n = last_digits k (n / 10) ++ ((48 + n % 10) ∷ [])

pub digits_length : (k n : ℕ) → length (last_digits k n) ≡ k
digits_length zero n = refl
digits_length (suc k) n =
    let e = digits_length k (n / 10) in
    length-append (last_digits k (n / 10)) ((48 + n % 10) ∷ []) ∙ (omega arith)

digits_last : (k n : ℕ) → digits k n ≡ last_digits (length (digits k n)) n
unfolding digits
digits_last zero n = refl
digits_last (suc k) n = go (ltb n 10) (digits_last k (n / 10))
  where
    go : (b : Bool) → digits k (n / 10) ≡ last_digits (length (digits k (n / 10))) (n / 10)
        → unless_first b (digits k) (n / 10) ++ ((48 + n % 10) ∷ []) ≡ last_digits (length (unless_first b (digits k) (n / 10) ++ ((48 + n % 10) ∷ []))) n
    go true e = refl
    go false e = rw (length-append (digits k (n / 10)) ((48 + n % 10) ∷ []), add-one) (ap (λ l. l ++ ((48 + n % 10) ∷ [])) e)

-- a number in decimal is as many of its last digits as it has
pub decimal_digits : (n : ℕ) → decimal n ≡ last_digits (length (decimal n)) n
unfolding decimal
decimal_digits n = digits_last (suc n) n
