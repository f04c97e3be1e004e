-- How many bytes a number and a line have.
use Prim.Native.Nat.{ℕ, zero, suc, ◌+◌, ◌/◌, ◌%◌, ◌≤◌, ◌<◌}
use mathlib.Core.Path.{◌≡◌, refl, ap, ◌∙◌}
use mathlib.Core.Bool.{Bool, true, false}
use mathlib.Core.List.{[], ◌∷◌, ◌++◌}
use native.Mathlib.Omega.{arith}
use borrow.Author.Tests.{ltb-true, ltb-false}
use lib.Dec.{ltb}
use lib.ListN.{length, length-append}
use Rattle.shape.specs.LineText.{decimal, line_text}
use Rattle.shape.proofs.DigitLaws.{decimal_digit, decimal_more}
use Rattle.shape.proofs.NumberLaws.{cap}

-- ---- just so many digits
pub w1 : (n : ℕ) → n < 10 → length (decimal n) ≡ 1
w1 n h = ap length (decimal_digit n h)

pub width_more : (n : ℕ) → 10 ≤ n → length (decimal n) ≡ length (decimal (n / 10)) + 1
width_more n g = ap length (decimal_more n g) ∙ length-append (decimal (n / 10)) ((48 + n % 10) ∷ [])

pub w2 : (n : ℕ) → 10 ≤ n → n < 100 → length (decimal n) ≡ 2
w2 n g h = let e = width_more n g in let f = w1 (n / 10) (omega arith) in omega arith

pub w3 : (n : ℕ) → 100 ≤ n → n < 1000 → length (decimal n) ≡ 3
w3 n g h = let e = width_more n (omega arith) in let f = w2 (n / 10) (omega arith) (omega arith) in omega arith

pub w4 : (n : ℕ) → 1000 ≤ n → n < 10000 → length (decimal n) ≡ 4
w4 n g h = let e = width_more n (omega arith) in let f = w3 (n / 10) (omega arith) (omega arith) in omega arith

pub w5 : (n : ℕ) → 10000 ≤ n → n < 100000 → length (decimal n) ≡ 5
w5 n g h = let e = width_more n (omega arith) in let f = w4 (n / 10) (omega arith) (omega arith) in omega arith

-- ---- at most so many digits
pub few_digits : (k n : ℕ) → n ≤ cap (suc k) → length (decimal n) ≤ suc k
unfolding cap
few_digits zero n h = let e = w1 n (omega arith) in omega arith
few_digits (suc k) n h = go (ltb n 10) refl (few_digits k (n / 10) (omega arith))
  where
    go : (b : Bool) → ltb n 10 ≡ b → length (decimal (n / 10)) ≤ suc k → length (decimal n) ≤ suc (suc k)
    go true e f = let d = w1 n (ltb-true n 10 e) in omega arith
    go false e f = let d = width_more n (ltb-false n 10 e) in omega arith

pub two_digits : (n : ℕ) → n < 100 → length (decimal n) ≤ 2
unfolding cap
two_digits n h = few_digits 1 n (omega arith)

pub three_digits : (n : ℕ) → n < 1000 → length (decimal n) ≤ 3
unfolding cap
three_digits n h = few_digits 2 n (omega arith)

pub four_digits : (n : ℕ) → n < 10000 → length (decimal n) ≤ 4
unfolding cap
four_digits n h = few_digits 3 n (omega arith)

pub five_digits : (n : ℕ) → n < 100000 → length (decimal n) ≤ 5
unfolding cap
five_digits n h = few_digits 4 n (omega arith)

pub six_digits : (n : ℕ) → n < 1000000 → length (decimal n) ≤ 6
unfolding cap
six_digits n h = few_digits 5 n (omega arith)

-- as many as any number of 64 bits has
pub twenty_digits : (n : ℕ) → n < 18446744073709551616 → length (decimal n) ≤ 20
unfolding cap
twenty_digits n h = few_digits 19 n (omega arith)

-- ---- lines
pub one_length : (c a : ℕ) → length (line_text c (a ∷ [])) ≡ 3 + length (decimal a)
one_length c a = let e = length-append (decimal a) (10 ∷ []) in omega arith

pub two_length : (c a b : ℕ) → length (line_text c (a ∷ b ∷ [])) ≡ 4 + length (decimal a) + length (decimal b)
two_length c a b =
    rw (length-append (decimal a) (32 ∷ decimal b ++ (10 ∷ [])), length-append (decimal b) (10 ∷ [])) (omega arith)

pub three_length : (c a b w : ℕ) → length (line_text c (a ∷ b ∷ w ∷ [])) ≡ 5 + length (decimal a) + length (decimal b) + length (decimal w)
three_length c a b w =
    rw (length-append (decimal a) (32 ∷ decimal b ++ (32 ∷ decimal w ++ (10 ∷ []))), length-append (decimal b) (32 ∷ decimal w ++ (10 ∷ [])), length-append (decimal w) (10 ∷ [])) (omega arith)
