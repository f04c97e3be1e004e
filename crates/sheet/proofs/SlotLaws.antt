-- To be in a list is to stand in one of its slots.
use Prim.Native.Nat.{ℕ, zero, suc, ◌≤◌, ◌<◌}
use mathlib.Core.Path.{◌≡◌, refl, sym, ◌∙◌}
use mathlib.Core.Bool.{Bool, true, false, ◌&&◌, ◌||◌}
use mathlib.Core.List.{List, [], ◌∷◌}
use native.Mathlib.Omega.{arith}
use lib.Dec.{eqb}
use lib.ListN.{length, take, get_or}
use lib.Seq.{length-take-le, get_or-take}
use borrow.Author.Tests.{eqb-true, eq-eqb}
use Rattle.std.proofs.lemmas.Bool.{and_parts, both_ways, false_from_ne_true, or_right}
use Rattle.sheet.specs.Judge.{is_in, is_pair}

in_slot : (x : ℕ) (l : List ℕ) → is_in x l ≡ true → (i : ℕ) × ((i < length l) × (get_or l i 0 ≡ x))
in_slot x [] e = cc
in_slot x (y ∷ l) e = go (eqb y x) refl e (in_slot x l)
  where
    go : (b : Bool) → eqb y x ≡ b → (b || is_in x l) ≡ true → (is_in x l ≡ true → (i : ℕ) × ((i < length l) × (get_or l i 0 ≡ x)))
        → (i : ℕ) × ((i < suc (length l)) × (get_or (y ∷ l) i 0 ≡ x))
    go true p q ih = (0, (omega arith, eqb-true y x p))
    go false p q ih =
        let r = ih q in
        (suc r.0, (omega (arith, r.1.0), r.1.1))

slot_in : (x : ℕ) (l : List ℕ) (i : ℕ) → i < length l → get_or l i 0 ≡ x → is_in x l ≡ true
slot_in x [] i h e = absurd (omega arith)
slot_in x (y ∷ l) zero h e = rw (eq-eqb y x e)
slot_in x (y ∷ l) (suc i) h e = or_right (eqb y x) (is_in x l) (slot_in x l i (omega arith) e)

slot_pair : (x y : ℕ) (l m : List ℕ) (i : ℕ) → i < length l → i < length m → get_or l i 0 ≡ x → get_or m i 0 ≡ y → is_pair x y l m ≡ true
slot_pair x y [] m i h g e d = absurd (omega arith)
slot_pair x y (a ∷ l) [] i h g e d = absurd (omega arith)
slot_pair x y (a ∷ l) (b ∷ m) zero h g e d = rw (eq-eqb a x e, eq-eqb b y d)
slot_pair x y (a ∷ l) (b ∷ m) (suc i) h g e d = or_right (eqb a x && eqb b y) (is_pair x y l m) (slot_pair x y l m i (omega arith) (omega arith) e d)

pair_slot : (x y : ℕ) (l m : List ℕ) → is_pair x y l m ≡ true → (i : ℕ) × ((i < length l) × ((get_or l i 0 ≡ x) × (get_or m i 0 ≡ y)))
pair_slot x y [] m e = cc
pair_slot x y (a ∷ l) [] e = cc
pair_slot x y (a ∷ l) (b ∷ m) e = go (eqb a x && eqb b y) refl e (pair_slot x y l m)
  where
    Found : List ℕ → List ℕ → Type 0
    Found l m = (i : ℕ) × ((i < length l) × ((get_or l i 0 ≡ x) × (get_or m i 0 ≡ y)))

    go : (t : Bool) → (eqb a x && eqb b y) ≡ t → (t || is_pair x y l m) ≡ true → (is_pair x y l m ≡ true → Found l m) → Found (a ∷ l) (b ∷ m)
    go true p q ih =
        let r = and_parts (eqb a x) (eqb b y) p in
        (0, (omega arith, (eqb-true a x r.0, eqb-true b y r.1)))
    go false p q ih =
        let r = ih q in
        (suc r.0, (omega (arith, r.1.0), r.1.1))

-- the same of the first n entries of a list that has so many
module _ (n : ℕ) (l : List ℕ) (len : n ≤ length l) where
  first_in : (i : ℕ) → i < n → get_or (take n l) i 0 ≡ get_or l i 0
  first_in i h = get_or-take n l i 0 h

  pub in_slot_of : (x : ℕ) → is_in x (take n l) ≡ true → (i : ℕ) × ((i < n) × (get_or l i 0 ≡ x))
  in_slot_of x e =
      let r = in_slot x (take n l) e in
      let h : r.0 < n = omega (arith, r.1.0, length-take-le n l len) in
      (r.0, (h, sym (first_in r.0 h) ∙ r.1.1))

  pub slot_is_in : (x i : ℕ) → i < n → get_or l i 0 ≡ x → is_in x (take n l) ≡ true
  slot_is_in x i h e = slot_in x (take n l) i (omega (arith, length-take-le n l len)) (first_in i h ∙ e)

  pub not_in_slots : (x : ℕ) → is_in x (take n l) ≡ false → (i : ℕ) → i < n → get_or l i 0 ≡ x → ⊥
  not_in_slots x e i h d = both_ways _ e (slot_is_in x i h d)

  pub no_slot_has : (x : ℕ) → ((i : ℕ) → i < n → get_or l i 0 ≡ x → ⊥) → is_in x (take n l) ≡ false
  no_slot_has x no_one = false_from_ne_true (is_in x (take n l)) (λ e. let r = in_slot_of x e in no_one r.0 r.1.0 r.1.1)

  module _ (m : List ℕ) (len' : n ≤ length m) where
    pub pair_not_in_slots : (x y : ℕ) → is_pair x y (take n l) (take n m) ≡ false → (i : ℕ) → i < n → get_or l i 0 ≡ x → get_or m i 0 ≡ y → ⊥
    pair_not_in_slots x y e i h p q =
        both_ways _ e
        (slot_pair x y (take n l) (take n m) i (omega (arith, length-take-le n l len)) (omega (arith, length-take-le n m len')) (first_in i h ∙ p) (get_or-take n m i 0 h ∙ q))

    pub no_slot_has_pair : (x y : ℕ) → ((i : ℕ) → i < n → get_or l i 0 ≡ x → get_or m i 0 ≡ y → ⊥) → is_pair x y (take n l) (take n m) ≡ false
    no_slot_has_pair x y no_one =
        false_from_ne_true (is_pair x y (take n l) (take n m))
        (λ e.
        let r = pair_slot x y (take n l) (take n m) e in
        let h : r.0 < n = omega (arith, r.1.0, length-take-le n l len) in
        no_one r.0 h (sym (first_in r.0 h) ∙ r.1.1.0) (sym (get_or-take n m r.0 0 h) ∙ r.1.1.1))
