-- Joining through middles: one middle more, and the test `through` against the relation `Joined`.
use Rattle.std.specs.Prelude.{◌≡◌, refl, Bool, ◌&&◌, ◌||◌, ◌⊎◌, T}
use Rattle.std.proofs.Common.{subst, inl, inr}
use mathlib.Core.List.{List, [], ◌∷◌, Memᴰ}
use Prim.Native.Nat.{ℕ}
use Rattle.rules.specs.Joined.{Joined, base, join, through}
use Rattle.rules.specs.laws.Tests.{and_l, and_r, and_i, or_l, or_r, or_e}

-- one more middle, c
pub one_more : {B : ℕ → ℕ → Type 0} {K K' : ℕ → Type 0} (c : ℕ) → ((j : ℕ) → K' j → K j ⊎ (j ≡ c)) → {i j : ℕ}
    → Joined B K' i j → Joined B K i j ⊎ (Joined B K i c × Joined B K c j)
one_more c h (base b) = inl (base b)
one_more {B} {K} {K'} c h (join {i = i} {j = j} {k = k} p t q) = mix (one_more c h p) (one_more c h q) (h j t)
  where
    P : ℕ → ℕ → Type 0
    P = Joined B K

    mix : P i j ⊎ (P i c × P c j) → P j k ⊎ (P j c × P c k) → K j ⊎ (j ≡ c) → P i k ⊎ (P i c × P c k)
    mix (inl a) (inl b) (inl m) = inl (join a m b)
    mix (inl a) (inl b) (inr e) = inr (subst (P i) e a, subst (λ x. P x k) e b)
    mix (inl a) (inr b) (inl m) = inr (join a m b.0, b.1)
    mix (inl a) (inr b) (inr e) = inr (subst (P i) e a, b.1)
    mix (inr a) (inl b) (inl m) = inr (a.0, join a.1 m b)
    mix (inr a) (inl b) (inr e) = inr (a.0, subst (λ x. P x k) e b)
    mix (inr a) (inr b) m = inr (a.0, b.1)

pub weaken : {B B' : ℕ → ℕ → Type 0} {K K' : ℕ → Type 0} → ((i j : ℕ) → B i j → B' i j) → ((j : ℕ) → K j → K' j) → {i j : ℕ}
    → Joined B K i j → Joined B' K' i j
weaken f g (base {i = i} {j = j} b) = base (f i j b)
weaken f g (join {j = j} p t q) = join (weaken f g p) (g j t) (weaken f g q)

-- ---- the test and the relation
pub through_join : (b : ℕ → ℕ → Bool) (cs : List ℕ) (i c j : ℕ) → T (through b cs i c) → Memᴰ c cs → T (through b cs c j) → T (through b cs i j)
unfolding through
through_join b [] i c j p x3 q = elim x3 [ ]
through_join b (d ∷ ds) i c j p (Memᴰ.head e) q = or_r (through b ds i j) _ (and_i (through b ds i d) _ (left i p) (right j q))
  where
    left : (x : ℕ) → T (through b (d ∷ ds) x c) → T (through b ds x d)
    left x t = pickl (or_e (through b ds x c) _ t)
      where
        pickl : T (through b ds x c) ⊎ T (through b ds x d && through b ds d c) → T (through b ds x d)
        pickl (inl u) = subst (λ z. T (through b ds x z)) e u
        pickl (inr u) = and_l (through b ds x d) _ u

    right : (x : ℕ) → T (through b (d ∷ ds) c x) → T (through b ds d x)
    right x t = pickr (or_e (through b ds c x) _ t)
      where
        pickr : T (through b ds c x) ⊎ T (through b ds c d && through b ds d x) → T (through b ds d x)
        pickr (inl u) = subst (λ z. T (through b ds z x)) e u
        pickr (inr u) = and_r (through b ds c d) _ u
through_join b (d ∷ ds) i c j p (Memᴰ.tail m) q = mix (through_join b ds i c j) (through_join b ds i c d) (through_join b ds d c j) (or_e (R i c) _ p) (or_e (R c j) _ q)
  where
    R : ℕ → ℕ → Bool
    R x y = through b ds x y

    F : Type 0
    F = T (R i j || (R i d && R d j))

    mix : (T (R i c) → Memᴰ c ds → T (R c j) → T (R i j)) → (T (R i c) → Memᴰ c ds → T (R c d) → T (R i d)) → (T (R d c) → Memᴰ c ds → T (R c j) → T (R d j))
        → T (R i c) ⊎ T (R i d && R d c) → T (R c j) ⊎ T (R c d && R d j) → F
    mix f g h (inl a) (inl z) = or_l (R i j) _ (f a m z)
    mix f g h (inl a) (inr z) = or_r (R i j) _ (and_i (R i d) _ (g a m (and_l (R c d) _ z)) (and_r (R c d) _ z))
    mix f g h (inr a) (inl z) = or_r (R i j) _ (and_i (R i d) _ (and_l (R i d) _ a) (h (and_r (R i d) _ a) m z))
    mix f g h (inr a) (inr z) = or_r (R i j) _ (and_i (R i d) _ (and_l (R i d) _ a) (and_r (R c d) _ z))

module _ (b : ℕ → ℕ → Bool) where
  abbrev Bᵀ : ℕ → ℕ → Type 0
  Bᵀ i j = T (b i j)

  pub through_sound : (cs : List ℕ) (i j : ℕ) → T (through b cs i j) → Joined Bᵀ (λ c. Memᴰ c cs) i j
  unfolding through
  through_sound [] i j t = base t
  through_sound (c ∷ cs) i j t = mix (through_sound cs i j) (through_sound cs i c) (through_sound cs c j) (or_e (through b cs i j) _ t)
    where
      J : ℕ → ℕ → Type 0
      J = Joined Bᵀ (λ x. Memᴰ x cs)

      up : {x y : ℕ} → J x y → Joined Bᵀ (λ z. Memᴰ z (c ∷ cs)) x y
      up = weaken (λ x y q. q) (λ z m. Memᴰ.tail m)

      mix : (T (through b cs i j) → J i j) → (T (through b cs i c) → J i c) → (T (through b cs c j) → J c j)
          → T (through b cs i j) ⊎ T (through b cs i c && through b cs c j) → Joined Bᵀ (λ z. Memᴰ z (c ∷ cs)) i j
      mix f g h (inl u) = up (f u)
      mix f g h (inr u) = join (up (g (and_l (through b cs i c) _ u))) (Memᴰ.head refl) (up (h (and_r (through b cs i c) _ u)))

  pub through_base : (cs : List ℕ) (i j : ℕ) → T (b i j) → T (through b cs i j)
  unfolding through
  through_base [] i j t = t
  through_base (c ∷ cs) i j t = or_l (through b cs i j) _ (through_base cs i j t)

  pub through_complete : (cs : List ℕ) {i j : ℕ} → Joined Bᵀ (λ c. Memᴰ c cs) i j → T (through b cs i j)
  through_complete cs (base {i = i} {j = j} t) = through_base cs i j t
  through_complete cs (join {i = i} {j = j} {k = k} p m q) = through_join b cs i j k (through_complete cs p) m (through_complete cs q)
