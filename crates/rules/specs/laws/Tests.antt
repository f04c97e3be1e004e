-- Tests as facts: what a Bool made of `&&`, `||`, `not` says, and what a test of a list says.
use Rattle.std.specs.Prelude.{◌≡◌, refl, Bool, true, false, not, ◌&&◌, ◌||◌, ◌⊎◌, T}
use Rattle.std.proofs.Common.{sym, subst, inl, inr}
use mathlib.Core.List.{List, [], ◌∷◌, Memᴰ}
use Rattle.rules.specs.Slots.{some_of, every_of}

pub and_l : (a b : Bool) → T (a && b) → T a
and_l true b t = tt
and_l false b t = t

pub and_r : (a b : Bool) → T (a && b) → T b
and_r true b t = t
and_r false b t = absurd t

pub and_i : (a b : Bool) → T a → T b → T (a && b)
and_i true b t u = u
and_i false b t u = t

pub or_l : (a b : Bool) → T a → T (a || b)
or_l true b t = tt
or_l false b t = absurd t

pub or_r : (a b : Bool) → T b → T (a || b)
or_r true b t = tt
or_r false b t = t

pub or_e : (a b : Bool) → T (a || b) → T a ⊎ T b
or_e true b t = inl tt
or_e false b t = inr t

pub test : (b : Bool) → T b ⊎ (T b → ⊥)
test true = inl tt
test false = inr (λ t. t)

pub T_true : (b : Bool) → T b → b ≡ true
T_true true t = refl
T_true false t = absurd t

pub T_false : (b : Bool) → T (not b) → b ≡ false
T_false true t = absurd t
T_false false t = refl

-- Two tests that say the same are equal.
pub bool_ext : (a b : Bool) → (T a → T b) → (T b → T a) → a ≡ b
bool_ext true true h k = refl
bool_ext true false h k = absurd (h tt)
bool_ext false true h k = absurd (k tt)
bool_ext false false h k = refl

-- ---- some or every element of a list
pub some_of_in {ℓ} : {A : Type ℓ} (p : A → Bool) (xs : List A) (x : A) → Memᴰ x xs → T (p x) → T (some_of p xs)
some_of_in {A = A} p [] x x4 t = elim x4 [ ]
some_of_in p (y ∷ ys) x (Memᴰ.head e) t = or_l (p y) _ (subst (λ z. T (p z)) e t)
some_of_in p (y ∷ ys) x (Memᴰ.tail m) t = or_r (p y) _ (some_of_in p ys x m t)

pub some_of_out {ℓ} : {A : Type ℓ} (p : A → Bool) (xs : List A) → T (some_of p xs) → (x : A) × Memᴰ x xs × T (p x)
some_of_out {A} p [] t = absurd t
some_of_out {A} p (y ∷ ys) t = step (some_of_out p ys) (or_e (p y) _ t)
  where
    step : (T (some_of p ys) → (x : A) × Memᴰ x ys × T (p x)) → T (p y) ⊎ T (some_of p ys) → (x : A) × Memᴰ x (y ∷ ys) × T (p x)
    step below (inl u) = (y, Memᴰ.head refl, u)
    step below (inr u) = let (x, m, w) = below u in (x, Memᴰ.tail m, w)

pub every_of_at {ℓ} : {A : Type ℓ} (p : A → Bool) (xs : List A) → T (every_of p xs) → (x : A) → Memᴰ x xs → T (p x)
every_of_at {A = A} p [] t x x4 = elim x4 [ ]
every_of_at p (y ∷ ys) t x (Memᴰ.head e) = subst (λ z. T (p z)) (sym e) (and_l (p y) _ t)
every_of_at p (y ∷ ys) t x (Memᴰ.tail m) = every_of_at p ys (and_r (p y) _ t) x m

pub every_of_all {ℓ} : {A : Type ℓ} (p : A → Bool) (xs : List A) → ((x : A) → Memᴰ x xs → T (p x)) → T (every_of p xs)
every_of_all p [] h = tt
every_of_all p (y ∷ ys) h = and_i (p y) _ (h y (Memᴰ.head refl)) (every_of_all p ys (λ x m. h x (Memᴰ.tail m)))
