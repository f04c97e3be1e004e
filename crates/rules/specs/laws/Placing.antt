-- Placing options one after another: it can go to the end exactly if there is no cycle, and the smallest choice each time is the smallest of all.
use Rattle.std.specs.Prelude.{◌≡◌, Bool, true, false, not, ◌⊎◌, ℕ, zero, suc, ◌≤◌, ◌<◌, length, leb}
use Rattle.std.proofs.Math.Path.{refl}
use Rattle.std.proofs.Common.{sym, subst, inl, inr, eq-or-lt_of_le, arith, T_not, leb→le}
use mathlib.Core.List.Memᴰ
use mathlib.Core.List.{List, [], ◌∷◌, Memᴰ, map}
use Rattle.std.proofs.Math.Dec.{T, not_T, nleb→lt}
use Rattle.rules.specs.Slots.{some_of}
use Rattle.rules.specs.Joined.{Joined, base, join}
use Rattle.rules.specs.Sequence.{without, ready, Sequence, done, place, NoLater, end, smaller, same}
use Rattle.rules.specs.laws.Tests.{or_e, test, some_of_in, some_of_out}
use Rattle.rules.specs.laws.Joined.{weaken}
use Rattle.rules.specs.laws.Without.{without_in, without_out, without_lt}

-- A nonempty list has a first element with respect to a relation that is transitive and never holds of one thing and itself.
-- It is shown not to be missing; a test then finds it.
module _ (P : ℕ → ℕ → Type 0) (transitive : (a b c : ℕ) → P a b → P b c → P a c) (irreflexive : (a : ℕ) → P a a → ⊥) where
  Minimal : List ℕ → Type 0
  Minimal l = (x : ℕ) × Memᴰ x l × ((y : ℕ) → Memᴰ y l → P y x → ⊥)

  minimal_not_missing : (x : ℕ) (l : List ℕ) → (Minimal (x ∷ l) → ⊥) → ⊥
  unfolding Minimal
  minimal_not_missing x [] k = k (x, Memᴰ.head refl, λ y m p. alone y (Memᴰ.cases_cons m) p)
    where
      alone : (y : ℕ) → (y ≡ x) ⊎ Memᴰ y [] → P y x → ⊥
      alone y (inl q) p = irreflexive x (subst (λ z. P z x) q p)
      alone y (inr m) p = elim m [ ]
  minimal_not_missing x (z ∷ l) k = minimal_not_missing z l (λ w. step w)
    where
      step : Minimal (z ∷ l) → ⊥
      step w = k (w.0, Memᴰ.tail w.1, λ y my p. old y (Memᴰ.cases_cons my) p)
        where
          no_x : P x w.0 → ⊥
          no_x p = k (x, Memᴰ.head refl, λ y my q. new y (Memᴰ.cases_cons my) q)
            where
              new : (y : ℕ) → (y ≡ x) ⊎ Memᴰ y (z ∷ l) → P y x → ⊥
              new y (inl c) q = irreflexive x (subst (λ t. P t x) c q)
              new y (inr my) q = w.2 y my (transitive y x w.0 q p)

          old : (y : ℕ) → (y ≡ x) ⊎ Memᴰ y (z ∷ l) → P y w.0 → ⊥
          old y (inl c) p = no_x (subst (λ t. P t w.0) c p)
          old y (inr my) p = w.2 y my p

module _ (e : ℕ → ℕ → Bool) where
  -- The edges among l, and walks along them.
  pub data Among (l : List ℕ) (a b : ℕ) : Type 0 where
    among : Memᴰ a l → Memᴰ b l → T (e a b) → Among l a b

  abbrev pub Walk : List ℕ → ℕ → ℕ → Type 0
  Walk l = Joined (Among l) (λ _. Unit {0})

  -- One after another, each with all its predecessors placed.
  pub data Placing : List ℕ → List ℕ → Type 0 where
    nothing : Placing [] []
    next : {left rest : List ℕ} (x : ℕ) → Memᴰ x left → T (ready e left x) → Placing (without x left) rest → Placing left (x ∷ rest)

  -- ---- without a cycle something is ready
  some_ready : (x : ℕ) (l : List ℕ) → ((a : ℕ) → Walk (x ∷ l) a a → ⊥) → T (some_of (ready e (x ∷ l)) (x ∷ l))
  unfolding Minimal
  some_ready x l acyclic = go (test (some_of (ready e (x ∷ l)) (x ∷ l)))
    where
      go : T (some_of (ready e (x ∷ l)) (x ∷ l)) ⊎ (T (some_of (ready e (x ∷ l)) (x ∷ l)) → ⊥) → T (some_of (ready e (x ∷ l)) (x ∷ l))
      go (inl t) = t
      go (inr n) = absurd (minimal_not_missing (Walk (x ∷ l)) (λ a b c p q. join p tt q) acyclic x l (λ w.
          n (some_of_in (ready e (x ∷ l)) (x ∷ l) w.0 w.1 (not_T (some_of (λ y. e y w.0) (x ∷ l)) (λ s.
          let (y, m, t) = some_of_out (λ y. e y w.0) (x ∷ l) s in w.2 y m (base (among m w.1 t)))))))

  -- ---- what is placed first is on no cycle, so a cycle lives in the rest
  not_reached : {l : List ℕ} (x : ℕ) → T (ready e l x) → {a b : ℕ} → Walk l a b → b ≡ x → ⊥
  not_reached {l} x r (base {i = a} (among p q t)) c = T_not (some_of (λ y. e y x) l) r (some_of_in (λ y. e y x) l a p (subst (λ z. T (e a z)) c t))
  not_reached x r (join p u q) c = not_reached x r q c

  walk_without : {l : List ℕ} (x : ℕ) → T (ready e l x) → {a b : ℕ} → Walk l a b → (a ≡ x → ⊥) → Walk (without x l) a b
  walk_without {l} x r (base {i = a} {j = b} (among p q t)) n = base (among (without_in x l a p (λ h. n (sym h))) (without_in x l b q (λ h. not_reached x r (base (among p q t)) (sym h))) t)
  walk_without x r (join p u q) n = join (walk_without x r p n) tt (walk_without x r q (λ h. not_reached x r p h))

  pub placing_acyclic : {l s : List ℕ} → Placing l s → (a : ℕ) → Walk l a a → ⊥
  placing_acyclic nothing a w = none w
    where
      none : {a b : ℕ} → Walk [] a b → ⊥
      none (base (among p q t)) = elim p [ ]
      none (join p u q) = none p
  placing_acyclic (next x m r o) a w = placing_acyclic o a (walk_without x r w (λ h. not_reached x r w h))

  placing_of_nothing : {t : List ℕ} → Placing [] t → t ≡ []
  placing_of_nothing nothing = refl
  placing_of_nothing (next x m r o) = elim m [ ]

  -- What a placing of a list that is not empty begins with.
  record Begins (left order : List ℕ) : Type 0 where
    first : ℕ
    rest : List ℕ
    is : order ≡ first ∷ rest
    here : Memᴰ first left
    free : T (ready e left first)
    then : Placing (without first left) rest

  begins : {l t : List ℕ} (x : ℕ) → Memᴰ x l → Placing l t → Begins l t
  begins x m nothing = elim m [ ]
  begins x m (next {rest = u} y n w o) = record { first = y; rest = u; is = refl; here = n; free = w; then = o }

module _ (number : ℕ → ℕ) (e : ℕ → ℕ → Bool) where
  pub sequence_is_placing : {l s : List ℕ} → Sequence number e l s → Placing e l s
  sequence_is_placing done = nothing
  sequence_is_placing (place x m r f q) = next x m r (sequence_is_placing q)

  -- ---- the smallest of those that pass a test
  record Smallest (p : ℕ → Bool) (l : List ℕ) : Type 0 where
    which : ℕ
    here : Memᴰ which l
    passes : T (p which)
    least : (y : ℕ) → Memᴰ y l → T (p y) → number which ≤ number y

  smallest : (p : ℕ → Bool) (l : List ℕ) → T (some_of p l) → Smallest p l
  smallest p [] t = absurd t
  smallest p (z ∷ l) t = go (test (p z)) (test (some_of p l)) (smallest p l)
    where
      -- z is the smallest; or that of the rest is
      head : T (p z) → ((y : ℕ) → Memᴰ y l → T (p y) → number z ≤ number y) → Smallest p (z ∷ l)
      head a f = record { which = z; here = Memᴰ.head refl; passes = a; least = λ y k q. at y (Memᴰ.cases_cons k) q }
        where
          at : (y : ℕ) → (y ≡ z) ⊎ Memᴰ y l → T (p y) → number z ≤ number y
          at y (inl c) q = subst (λ w. number z ≤ number w) (sym c) (omega arith)
          at y (inr k) q = f y k q

      tail : (b : Smallest p l) → (T (p z) → number b.which ≤ number z) → Smallest p (z ∷ l)
      tail b f = record { which = b.which; here = Memᴰ.tail b.here; passes = b.passes; least = λ y k q. at y (Memᴰ.cases_cons k) q }
        where
          at : (y : ℕ) → (y ≡ z) ⊎ Memᴰ y l → T (p y) → number b.which ≤ number y
          at y (inl c) q = subst (λ w. number b.which ≤ number w) (sym c) (f (subst (λ w. T (p w)) c q))
          at y (inr k) q = b.least y k q

      both : T (p z) → (b : Smallest p l) → (c : Bool) → (T c → number b.which ≤ number z) → (T (not c) → number z < number b.which) → Smallest p (z ∷ l)
      both a b true g h = tail b (λ _. g tt)
      both a b false g h = head a (λ y k q. let x = b.least y k q in let w = h tt in omega arith)

      none : T (p z) ⊎ T (some_of p l) → (T (p z) → ⊥) → (T (some_of p l) → ⊥) → ⊥
      none (inl u) n k = n u
      none (inr u) n k = k u

      go : T (p z) ⊎ (T (p z) → ⊥) → T (some_of p l) ⊎ (T (some_of p l) → ⊥) → (T (some_of p l) → Smallest p l) → Smallest p (z ∷ l)
      go (inl a) (inr n) f = head a (λ y m q. absurd (n (some_of_in p l y m q)))
      go (inl a) (inl b) f = let x = f b in both a x (leb (number x.which) (number z)) (leb→le (number x.which) (number z)) (nleb→lt (number x.which) (number z))
      go (inr n) (inl b) f = tail (f b) (λ u. absurd (n u))
      go (inr n) (inr k) f = absurd (none (or_e (p z) _ t) n k)

  -- WITHOUT A CYCLE there is a sequence.
  pub sequence_exists : (n : ℕ) (l : List ℕ) → length l ≤ n → ((a : ℕ) → Walk e l a a → ⊥) → (s : List ℕ) × Sequence number e l s
  sequence_exists zero [] h acyclic = ([], done)
  sequence_exists (suc n) [] h acyclic = ([], done)
  sequence_exists zero (x ∷ l) h acyclic = absurd (omega arith)
  sequence_exists (suc n) (x ∷ l) h acyclic =
      let b = smallest (ready e (x ∷ l)) (x ∷ l) (some_ready e x l acyclic) in
      let fewer = without_lt b.which (x ∷ l) b.here in
      let (s, q) = sequence_exists n (without b.which (x ∷ l)) (omega arith) (λ a w. acyclic a (weaken (sub b.which) (λ j u. u) w)) in
      (b.which ∷ s, place b.which b.here b.passes b.least q)
    where
      sub : (y a b : ℕ) → Among e (without y (x ∷ l)) a b → Among e (x ∷ l) a b
      sub y a b (among p q t) = among (without_out y (x ∷ l) a p).0 (without_out y (x ∷ l) b q).0 t

  -- Different options of l have different numbers.
  abbrev pub Distinct : List ℕ → Type 0
  Distinct l = (x y : ℕ) → Memᴰ x l → Memᴰ y l → number x ≡ number y → x ≡ y

  -- THE SMALLEST of all placings, place by place.
  pub sequence_least : {l s t : List ℕ} → Distinct l → Sequence number e l s → Placing e l t → NoLater (map number s) (map number t)
  sequence_least {t} distinct done o = subst (λ z. NoLater [] (map number z)) (sym (placing_of_nothing e o)) end
  sequence_least {l} distinct (place {rest = s} x m r f q) o = step (begins e x m o) (λ u o'. sequence_least {t = u} distinct' q o')
    where
      distinct' : Distinct (without x l)
      distinct' y z p k c = distinct y z (without_out x l y p).0 (without_out x l z k).0 c

      step : {t : List ℕ} → Begins e l t → ((u : List ℕ) → Placing e (without x l) u → NoLater (map number s) (map number u)) → NoLater (map number (x ∷ s)) (map number t)
      step h below = subst (λ z. NoLater (map number (x ∷ s)) (map number z)) (sym h.is) (go (eq-or-lt_of_le (f h.first h.here h.free)))
        where
          go : (number x ≡ number h.first) ⊎ (number x < number h.first) → NoLater (map number (x ∷ s)) (map number (h.first ∷ h.rest))
          go (inr k) = smaller k
          go (inl k) = let c = distinct x h.first m h.here k in
              subst (λ z. NoLater (map number (x ∷ s)) (map number (z ∷ h.rest))) c (same (below h.rest (subst (λ z. Placing e (without z l) h.rest) (sym c) h.then)))
