-- The numbers of a line.
use Rattle.std.specs.Prelude.{ℕ, zero, suc, ◌+◌, ◌-◌, ◌*◌, cond, List, [], ◌∷◌, ltb, drop}
use Rattle.shape.specs.declared.number.Numbers.{Numbers}

-- the value of the digits at the start of a list, at most m of them, after a number v
abbrev pub number_value : ℕ → ℕ → List ℕ → ℕ
number_value zero v l = v
number_value (suc m) v [] = v
number_value (suc m) v (b ∷ l) = cond (ltb b 48) v (cond (ltb 57 b) v (number_value m (v * 10 + (b - 48)) l))

-- how many they are
abbrev pub number_width : ℕ → List ℕ → ℕ
number_width zero l = 0
number_width (suc m) [] = 0
number_width (suc m) (b ∷ l) = cond (ltb b 48) 0 (cond (ltb 57 b) 0 (suc (number_width m l)))

-- the numbers of the line that begins a text, and the columns of the second and the third
abbrev pub numbers_of : List ℕ → Numbers
numbers_of l =
    let p : ℕ = 2 + number_width 5 (drop 2 l) + 1 in
    let q : ℕ = p + number_width 5 (drop p l) + 1 in
    record { first = number_value 5 0 (drop 2 l); second = number_value 5 0 (drop p l); third = number_value 5 0 (drop q l); second_column = p + 1; third_column = q + 1 }
