-- What can be placed depends only on the numbers and the edges of what is to be placed.
use Rattle.std.specs.Prelude.{◌≡◌, Bool, not, ◌⊎◌, length}
use Rattle.std.proofs.Math.Path.{refl, subst, ap}
use Rattle.std.proofs.Common.{sym, ◌∙◌, inl, inr, arith}
use Rattle.std.proofs.Math.Bool.{true, false}
use mathlib.Core.List.Memᴰ
use mathlib.Core.List.{List, [], ◌∷◌, map, Memᴰ}
use Rattle.std.proofs.Math.Option.{Option, none, some}
use Prim.Native.Nat.{ℕ, zero, suc, ◌≤◌, ◌<◌}
use Rattle.rules.specs.Slots.{some_of}
use Rattle.rules.specs.Results.{placed, smallest_ready, placed_first}
use Rattle.rules.specs.Sequence.{without, ready}
use Rattle.placing.specs.laws.Next.{smallest_is_there}
use Rattle.rules.specs.Results.{if_ready}
use Rattle.rules.specs.laws.Without.{without_out}

some_of_same : (p q : ℕ → Bool) (l : List ℕ) → ((x : ℕ) → Memᴰ x l → p x ≡ q x) → some_of p l ≡ some_of q l
some_of_same p q [] h = refl
some_of_same p q (x ∷ l) h = rw (h x (Memᴰ.head refl), some_of_same p q l (λ y m. h y (Memᴰ.tail m))) refl

module _ (n : ℕ) (f g : ℕ → ℕ) (d e : ℕ → ℕ → Bool) (same_number : (i : ℕ) → i < n → f i ≡ g i) (same_edge : (i j : ℕ) → i < n → j < n → d i j ≡ e i j) where
  abbrev Within : List ℕ → Type 0
  Within l = (x : ℕ) → Memᴰ x l → x < n

  ready_same : (l : List ℕ) → Within l → (x : ℕ) → x < n → ready d l x ≡ ready e l x
  ready_same l h x k = ap not (some_of_same (λ y. d y x) (λ y. e y x) l (λ y m. same_edge y x (h y m) k))

  smallest_same : (left l : List ℕ) → Within left → Within l → smallest_ready f d left l ≡ smallest_ready g e left l
  unfolding smallest_ready
  smallest_same left [] h k = refl
  smallest_same left (x ∷ l) h k =
      rw (ready_same left h x (k x (Memᴰ.head refl)), smallest_same left l h (λ y m. k y (Memᴰ.tail m))) (go (ready e left x) (smallest_ready g e left l) (λ y q. k y (Memᴰ.tail (smallest_is_there g e left l y q))) (k x (Memᴰ.head refl)))
    where
      go : (b : Bool) (o : Option ℕ) → ((y : ℕ) → o ≡ some y → y < n) → x < n → if_ready f d b x o ≡ if_ready g e b x o
      go false o w lx = refl
      go true none w lx = refl
      go true (some y) w lx = rw (same_number y (w y refl), same_number x lx) refl

  pub placed_same : (k : ℕ) (l : List ℕ) → Within l → placed f d k l ≡ placed g e k l
  unfolding placed
  placed_same zero l h = refl
  placed_same (suc k) l h = rw (smallest_same l l h h) (go (smallest_ready g e l l) (λ x. placed_same k (without x l) (λ y m. h y (without_out x l y m).0)))
    where
      go : (o : Option ℕ) → ((x : ℕ) → placed f d k (without x l) ≡ placed g e k (without x l)) → placed_first f d o (λ x. placed f d k (without x l)) ≡ placed_first g e o (λ x. placed g e k (without x l))
      go none w = refl
      go (some x) w = ap (λ z. x ∷ z) (w x)

  map_same : (l : List ℕ) → Within l → map f l ≡ map g l
  map_same [] h = refl
  map_same (x ∷ l) h = rw (same_number x (h x (Memᴰ.head refl)), map_same l (λ y m. h y (Memᴰ.tail m))) refl

  -- What is placed was there.
  placed_within : (k : ℕ) (l : List ℕ) → Within l → Within (placed g e k l)
  unfolding placed
  placed_within zero l h x m = elim m [ ]
  placed_within (suc k) l h x m = go (smallest_ready g e l l) (λ y q. h y (smallest_is_there g e l l y q)) (λ y. placed_within k (without y l) (λ z w. h z (without_out y l z w).0)) x m
    where
      go : (o : Option ℕ) → ((y : ℕ) → o ≡ some y → y < n) → ((y : ℕ) → Within (placed g e k (without y l))) → Within (placed_first g e o (λ y. placed g e k (without y l)))
      go none w v x m = elim m [ ]
      go (some y) w v x m = at (Memᴰ.cases_cons m)
        where
          at : (x ≡ y) ⊎ Memᴰ x (placed g e k (without y l)) → x < n
          at (inl q) = subst (λ z. z < n) (sym q) (w y refl)
          at (inr q) = v y x q

  pub numbers_same : (k : ℕ) (l : List ℕ) → Within l → map f (placed f d k l) ≡ map g (placed g e k l)
  numbers_same k l h = ap (map f) (placed_same k l h) ∙ map_same (placed g e k l) (placed_within k l h)

placed_few : (f : ℕ → ℕ) (e : ℕ → ℕ → Bool) (k : ℕ) (l : List ℕ) → length (placed f e k l) ≤ k
unfolding placed
placed_few f e zero l = omega arith
placed_few f e (suc k) l = go (smallest_ready f e l l) (λ x. placed_few f e k (without x l))
  where
    go : (o : Option ℕ) → ((x : ℕ) → length (placed f e k (without x l)) ≤ k) → length (placed_first f e o (λ x. placed f e k (without x l))) ≤ suc k
    go none h = omega arith
    go (some x) h = let z = h x in omega arith

length_map : (f : ℕ → ℕ) (l : List ℕ) → length (map f l) ≡ length l
length_map f [] = refl
length_map f (x ∷ l) = ap suc (length_map f l)

pub few_numbers : (f g : ℕ → ℕ) (e : ℕ → ℕ → Bool) (k : ℕ) (l : List ℕ) → length (map f (placed g e k l)) ≤ k
few_numbers f g e k l = let a = length_map f (placed g e k l) in let b = placed_few g e k l in omega arith
