-- Tests, lists and sums over the slots below a number. The rules count slots from 0; callers see them from 1.
use Rattle.std.specs.Prelude.{Bool, true, false, ◌&&◌, ◌||◌, List, [], ◌∷◌, ℕ, zero, suc, ◌+◌}

-- Does some element of a list pass a test?
abbrev pub some_of {ℓ} : {A : Type ℓ} → (A → Bool) → List A → Bool
some_of p [] = false
some_of p (x ∷ xs) = p x || some_of p xs

-- Does every element pass it?
abbrev pub every_of {ℓ} : {A : Type ℓ} → (A → Bool) → List A → Bool
every_of p [] = true
every_of p (x ∷ xs) = p x && every_of p xs

-- Does some slot below n pass a test?
unfoldable pub some_below : ℕ → (ℕ → Bool) → Bool
some_below zero p = false
some_below (suc n) p = some_below n p || p n

abbrev pub keep_if : Bool → ℕ → List ℕ → List ℕ
keep_if true n l = n ∷ l
keep_if false n l = l

-- The slots below n that pass a test.
unfoldable pub slots : ℕ → (ℕ → Bool) → List ℕ
slots zero p = []
slots (suc n) p = keep_if (p n) n (slots n p)

-- g 0, …, g (n − 1).
unfoldable pub list_of {ℓ} : {A : Type ℓ} → ℕ → (ℕ → A) → List A
list_of zero g = []
list_of (suc n) g = g 0 ∷ list_of n (λ i. g (suc i))

-- w if a test passes, and nothing otherwise.
abbrev pub pick : Bool → ℕ → ℕ
pick true w = w
pick false w = 0

-- f 0 + … + f (n − 1): a sum over distinct slots.
unfoldable pub sum : ℕ → (ℕ → ℕ) → ℕ
sum zero f = 0
sum (suc n) f = sum n f + f n

-- The weight of the slots below n that pass a test.
abbrev pub over : ℕ → (ℕ → ℕ) → (ℕ → Bool) → ℕ
over n w p = sum n (λ i. pick (p i) (w i))
