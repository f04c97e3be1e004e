-- A number is in a list, and two stand at one place of two lists, if some element or some pair of elements passes the test.
use Rattle.std.specs.Prelude.{ℕ, ◌≡◌, ◌&&◌, ◌||◌, List, [], ◌∷◌, eqb, zip}
use Rattle.std.specs.List.{list_any}
use Rattle.std.proofs.Common.{refl, ap}
use Rattle.sheet.specs.Judge.{is_in, is_pair}

pub some_is_in : (x : ℕ) (l : List ℕ) → list_any (λ y. eqb y x) l ≡ is_in x l
some_is_in x [] = refl
some_is_in x (y ∷ l) = ap (λ r. eqb y x || r) (some_is_in x l)

pub some_is_pair : (x y : ℕ) (l m : List ℕ) → list_any (λ p. eqb p.0 x && eqb p.1 y) (zip l m) ≡ is_pair x y l m
some_is_pair x y [] m = refl
some_is_pair x y (a ∷ l) [] = refl
some_is_pair x y (a ∷ l) (b ∷ m) = ap (λ r. (eqb a x && eqb b y) || r) (some_is_pair x y l m)
