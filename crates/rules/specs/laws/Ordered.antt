-- An order (each node once, every edge forward) is what placing one after another gives.
use Rattle.std.specs.Prelude.{◌≡◌, refl, Bool, ◌⊎◌, ◌↔◌, ℕ, T}
use Rattle.std.proofs.Common.{sym, subst, ap, inl, inr, arith, T_not}
use mathlib.Core.List.Memᴰ
use mathlib.Core.List.{List, [], ◌∷◌, ◌++◌, Memᴰ}
use Rattle.std.proofs.Math.Decide.{ℕ_discrete}
use Rattle.std.proofs.Math.Dec.{not_T}
use Rattle.rules.specs.Slots.{some_of}
use Rattle.rules.specs.Sequence.{without, ready, Ordered}
use Rattle.rules.specs.laws.Tests.{some_of_in, some_of_out}
use Rattle.rules.specs.laws.Without.{without_in, without_out}
use Rattle.rules.specs.laws.Placing.{Placing, nothing, next}

abbrev head_of : List ℕ → ℕ
head_of [] = 0
head_of (x ∷ l) = x

abbrev tail_of : List ℕ → List ℕ
tail_of [] = []
tail_of (x ∷ l) = l

module _ (e : ℕ → ℕ → Bool) where
  ordered_nothing : (l : List ℕ) → Ordered e l [] → l ≡ []
  ordered_nothing [] o = refl
  ordered_nothing (x ∷ l) o = elim (o.all x (Memᴰ.head refl)) [ ]

  -- what stands first is ready, and the rest is an order of the rest
  first_ready : (l : List ℕ) (x : ℕ) (rest : List ℕ) → Ordered e l (x ∷ rest) → T (ready e l x)
  first_ready l x rest o = not_T (some_of (λ y. e y x) l) (λ t. let (y, m, w) = some_of_out (λ y. e y x) l t in o.forward [] rest x refl y (o.all y m) w)

  rest_ordered : (l : List ℕ) (x : ℕ) (rest : List ℕ) → Ordered e l (x ∷ rest) → Ordered e (without x l) rest
  rest_ordered l x rest o = record {
    all = λ y m. let (p, q) = without_out x l y m in other y q (Memᴰ.cases_cons (o.all y p));
    only = λ y m. without_in x l y (o.only y (Memᴰ.tail m)) (λ c. o.once [] rest x refl (subst (λ z. Memᴰ z rest) (sym c) m));
    once = λ front back z p. o.once (x ∷ front) back z (ap (λ k. x ∷ k) p);
    forward = λ front back z p. o.forward (x ∷ front) back z (ap (λ k. x ∷ k) p);
  }
    where
      other : (y : ℕ) → (x ≡ y → ⊥) → (y ≡ x) ⊎ Memᴰ y rest → Memᴰ y rest
      other y n (inl c) = absurd (n (sym c))
      other y n (inr m) = m

  pub ordered_placing : (l order : List ℕ) → Ordered e l order → Placing e l order
  ordered_placing l [] o = subst (λ z. Placing e z []) (sym (ordered_nothing l o)) nothing
  ordered_placing l (x ∷ rest) o = next x (o.only x (Memᴰ.head refl)) (first_ready l x rest o) (ordered_placing (without x l) rest (rest_ordered l x rest o))

  nothing_ordered : Ordered e [] []
  nothing_ordered = record {
    all = λ x m. m;
    only = λ x m. m;
    once = λ front back x p m. empty front back x p;
    forward = λ front back x p y m t. empty front back x p;
  }
    where
      empty : (front back : List ℕ) (x : ℕ) → [] ≡ front ++ (x ∷ back) → ⊥
      empty [] back x p = let z : ◌≡◌ {A = ℕ} 0 1 = cc in omega arith
      empty (y ∷ front) back x p = let z : ◌≡◌ {A = ℕ} 0 1 = cc in omega arith

  pub placing_ordered : {l order : List ℕ} → Placing e l order → Ordered e l order
  placing_ordered nothing = nothing_ordered
  placing_ordered (next {left = l} {rest = rest} x here free then) = with_first (placing_ordered then)
    where
      with_first : Ordered e (without x l) rest → Ordered e l (x ∷ rest)
      with_first o = record { all = all; only = only; once = once; forward = forward }
        where
          all : (y : ℕ) → Memᴰ y l → Memᴰ y (x ∷ rest)
          all y m = go (ℕ_discrete x y)
            where
              go : Dec (x ≡ y) → Memᴰ y (x ∷ rest)
              go (yes c) = Memᴰ.head (sym c)
              go (no n) = Memᴰ.tail (o.all y (without_in x l y m n))

          only : (y : ℕ) → Memᴰ y (x ∷ rest) → Memᴰ y l
          only y m = go (Memᴰ.cases_cons m)
            where
              go : (y ≡ x) ⊎ Memᴰ y rest → Memᴰ y l
              go (inl c) = subst (λ z. Memᴰ z l) (sym c) here
              go (inr k) = (without_out x l y (o.only y k)).0

          once : (front back : List ℕ) (z : ℕ) → x ∷ rest ≡ front ++ (z ∷ back) → Memᴰ z back → ⊥
          once [] back z p m = let in_rest = subst (λ k. Memᴰ z k) (sym (ap tail_of p)) m in (without_out x l z (o.only z in_rest)).1 (ap head_of p)
          once (w ∷ front) back z p m = o.once front back z (ap tail_of p) m

          forward : (front back : List ℕ) (z : ℕ) → x ∷ rest ≡ front ++ (z ∷ back) → (y : ℕ) → Memᴰ y (z ∷ back) → T (e y z) → ⊥
          forward [] back z p y m t = T_not (some_of (λ y. e y x) l) free
              (some_of_in (λ y. e y x) l y (only y (subst (λ k. Memᴰ y k) (sym p) m)) (subst (λ k. T (e y k)) (sym (ap head_of p)) t))
          forward (w ∷ front) back z p y m t = o.forward front back z (ap tail_of p) y m t

  pub ordered_iff_placing : (l order : List ℕ) → Ordered e l order ↔ Placing e l order
  ordered_iff_placing l order = (ordered_placing l order, placing_ordered)
