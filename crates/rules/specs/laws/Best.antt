-- What the first best of all choices says, and that dropping everything is consistent.
-- That `best_of` is the best, and the only one, is in `proofs/laws/Best.antt`: it rests on the tie order.
use Rattle.std.specs.Prelude.{◌≡◌, Bool, true, false, not, cond, ◌⊎◌, ℕ, zero, suc, ◌≤◌, ◌<◌, length, get_or, take, drop, leb}
use Rattle.std.proofs.Math.Path.{refl, sym, subst, ap}
use Rattle.std.proofs.Common.{◌∙◌, inl, inr, ⊎_elim, leb→le}
use mathlib.Core.List.{List, [], ◌∷◌}
use Rattle.std.proofs.Math.Option.{Option, none, some}
use native.Mathlib.Omega.{arith}
use Rattle.std.proofs.Math.Dec.{T, nleb→lt}
use Rattle.rules.specs.Lines.{Lines}
use Rattle.rules.specs.Slots.{pick}
use Rattle.rules.specs.Subscription.{Subscription, subscription, items}
use Rattle.rules.specs.Relaxation.{kept_by_slot, Edge, by_catalogue, by_ordering, Path, one, more, value, ConsistentRelaxation, value_of}
use Rattle.rules.specs.Best.{wins_tie, Best}
use Rattle.rules.specs.Results.{with_item, better_of, first_best}
use Rattle.rules.specs.laws.Sums.{sum_cong, over_none}

-- ---- of all choices on n items that pass a test, the first that is worth most is the best
module _ (worth : List Bool → ℕ) where
  -- What an answer says of the choices in S.
  abbrev pub Says : (List Bool → Type 0) → Option (List Bool) → Type 0
  Says S none = (r : List Bool) → S r → ⊥
  Says S (some r) = Best worth S r

  -- The better of two answers, where the first's choices win every tie over the second's.
  better_says : (P Q S : List Bool → Type 0) → ((r : List Bool) → S r → P r ⊎ Q r) → ((r : List Bool) → P r → S r) → ((r : List Bool) → Q r → S r)
      → ((r s : List Bool) → P r → Q s → T (wins_tie r s)) → (x y : Option (List Bool)) → Says P x → Says Q y → Says S (better_of worth x y)
  better_says P Q S split ps qs wins none none h k = λ r m. ⊎_elim (λ p. h r p) (λ q. k r q) (split r m)
  better_says P Q S split ps qs wins none (some b) h k = record {
    allowed = qs b k.allowed;
    top = λ r m. ⊎_elim (λ p. absurd (h r p)) (λ q. k.top r q) (split r m);
    tie = λ r m e. ⊎_elim (λ p. absurd (h r p)) (λ q. k.tie r q e) (split r m);
  }
  better_says P Q S split ps qs wins (some a) none h k = record {
    allowed = ps a h.allowed;
    top = λ r m. ⊎_elim (λ p. h.top r p) (λ q. absurd (k r q)) (split r m);
    tie = λ r m e. ⊎_elim (λ p. h.tie r p e) (λ q. absurd (k r q)) (split r m);
  }
  better_says P Q S split ps qs wins (some a) (some b) h k = go (leb (worth b) (worth a)) (leb→le (worth b) (worth a)) (nleb→lt (worth b) (worth a))
    where
      go : (t : Bool) → (T t → worth b ≤ worth a) → (T (not t) → worth a < worth b) → Says S (cond t (some a) (some b))
      go true f g = record {
        allowed = ps a h.allowed;
        top = λ r m. ⊎_elim (λ p. h.top r p) (λ q. let x = k.top r q in let y = f tt in omega arith) (split r m);
        tie = λ r m e. ⊎_elim (λ p. h.tie r p e) (λ q. inr (wins a r h.allowed q)) (split r m);
      }
      go false f g = record {
        allowed = qs b k.allowed;
        top = λ r m. ⊎_elim (λ p. let x = h.top r p in let y = g tt in omega arith) (λ q. k.top r q) (split r m);
        tie = λ r m e. ⊎_elim (λ p. let x = h.top r p in let y = g tt in absurd (omega arith)) (λ q. k.tie r q e) (split r m);
      }

-- A choice on n items that passes a test.
abbrev pub Passes : ℕ → (List Bool → Bool) → List Bool → Type 0
Passes n ok r = (length r ≡ n) × T (ok r)

-- One that begins with b.
record Begins (n : ℕ) (ok : List Bool → Bool) (b : Bool) (r : List Bool) : Type 0 where
  rest : List Bool
  is : r ≡ b ∷ rest
  size : length rest ≡ n
  passes : T (ok (b ∷ rest))

with_item_says : (worth : List Bool → ℕ) (n : ℕ) (ok : List Bool → Bool) (b : Bool) (x : Option (List Bool))
    → Says (λ r. worth (b ∷ r)) (Passes n (λ r. ok (b ∷ r))) x → Says worth (Begins n ok b) (with_item b x)
with_item_says worth n ok b none h = λ r m. h m.rest (m.size, m.passes)
with_item_says worth n ok b (some a) h = record {
  allowed = record { rest = a; is = refl; size = h.allowed.0; passes = h.allowed.1 };
  top = λ r m. subst (λ z. worth z ≤ worth (b ∷ a)) (sym m.is) (h.top m.rest (m.size, m.passes));
  tie = λ r m e. go b r m (h.tie m.rest (m.size, m.passes) (sym (ap worth m.is) ∙ e));
}
  where
    go : (b : Bool) (r : List Bool) (m : Begins n ok b r) → (m.rest ≡ a) ⊎ T (wins_tie a m.rest) → (r ≡ b ∷ a) ⊎ T (wins_tie (b ∷ a) r)
    go b r m (inl e) = inl (m.is ∙ ap (λ z. b ∷ z) e)
    go true r m (inr t) = inr (subst (λ z. T (wins_tie (true ∷ a) z)) (sym m.is) t)
    go false r m (inr t) = inr (subst (λ z. T (wins_tie (false ∷ a) z)) (sym m.is) t)

pub first_best_says : (n : ℕ) (ok : List Bool → Bool) (worth : List Bool → ℕ) → Says worth (Passes n ok) (first_best n ok worth)
unfolding first_best
first_best_says zero ok worth = go (ok []) refl
  where
    only : (r : List Bool) → length r ≡ 0 → r ≡ []
    only [] e = refl
    only (b ∷ r) e = absurd (omega arith)

    go : (b : Bool) → ok [] ≡ b → Says worth (Passes zero ok) (cond b (some []) none)
    go true e = record { allowed = (refl, subst T (sym e) tt); top = λ r m. subst (λ z. worth z ≤ worth []) (sym (only r m.0)) (omega arith); tie = λ r m q. inl (only r m.0) }
    go false e = λ r m. subst T e (subst (λ z. T (ok z)) (only r m.0) m.1)
first_best_says (suc n) ok worth = better_says worth (Begins n ok true) (Begins n ok false) (Passes (suc n) ok) split (join true) (join false) wins
    (with_item true (first_best n (λ r. ok (true ∷ r)) (λ r. worth (true ∷ r)))) (with_item false (first_best n (λ r. ok (false ∷ r)) (λ r. worth (false ∷ r))))
    (with_item_says worth n ok true (first_best n (λ r. ok (true ∷ r)) (λ r. worth (true ∷ r))) (first_best_says n (λ r. ok (true ∷ r)) (λ r. worth (true ∷ r))))
    (with_item_says worth n ok false (first_best n (λ r. ok (false ∷ r)) (λ r. worth (false ∷ r))) (first_best_says n (λ r. ok (false ∷ r)) (λ r. worth (false ∷ r))))
  where
    split : (r : List Bool) → Passes (suc n) ok r → Begins n ok true r ⊎ Begins n ok false r
    split [] m = absurd (let e = m.0 in omega arith)
    split (true ∷ r) m = inl (record { rest = r; is = refl; size = (let e = m.0 in omega arith); passes = m.1 })
    split (false ∷ r) m = inr (record { rest = r; is = refl; size = (let e = m.0 in omega arith); passes = m.1 })

    join : (b : Bool) (r : List Bool) → Begins n ok b r → Passes (suc n) ok r
    join b r m = (ap length m.is ∙ ap suc m.size, subst (λ z. T (ok z)) (sym m.is) m.passes)

    wins : (r s : List Bool) → Begins n ok true r → Begins n ok false s → T (wins_tie r s)
    wins r s p q = subst (λ z. T (wins_tie z s)) (sym p.is) (subst (λ z. T (wins_tie (true ∷ p.rest) z)) (sym q.is) tt)

-- ---- dropping everything is always consistent
abbrev pub none_kept : ℕ → List Bool
none_kept zero = []
none_kept (suc k) = false ∷ none_kept k

pub length_none_kept : (k : ℕ) → length (none_kept k) ≡ k
length_none_kept zero = refl
length_none_kept (suc k) = ap suc (length_none_kept k)

none_in_take : (j k i : ℕ) → get_or (take j (none_kept k)) i false ≡ false
none_in_take zero k i = refl
none_in_take (suc j) zero i = refl
none_in_take (suc j) (suc k) zero = refl
none_in_take (suc j) (suc k) (suc i) = none_in_take j k i

none_in_drop : (j k i : ℕ) → get_or (drop j (none_kept k)) i false ≡ false
none_in_drop zero zero i = refl
none_in_drop zero (suc k) zero = refl
none_in_drop zero (suc k) (suc i) = none_in_drop zero k i
none_in_drop (suc j) zero i = refl
none_in_drop (suc j) (suc k) i = none_in_drop j k i

module _ (s : Lines) where
  pub dropping_all_is_consistent : ConsistentRelaxation s (none_kept (items s))
  unfolding kept_by_slot
  dropping_all_is_consistent = record {
    relaxation = record { size = length_none_kept (items s); ends = λ u t. absurd (subst T (none_in_drop (length s.options) (items s) u) t) };
    consistent = λ i p. no_path p;
  }
    where
      no_edge : (i j : ℕ) → Edge (subscription s) (kept_by_slot s (none_kept (items s))) i j → ⊥
      no_edge i j (by_catalogue t a b) = subst T (none_in_take (length s.options) (items s) i) a
      no_edge i j (by_ordering u t p q) = subst T (none_in_drop (length s.options) (items s) u) t

      no_path : {i j : ℕ} → Path (subscription s) (kept_by_slot s (none_kept (items s))) i j → ⊥
      no_path (one {i = i} {j = j} e) = no_edge i j e
      no_path (more {i = i} {j = j} e p) = no_edge i j e

  pub dropping_all_is_worth_nothing : value_of s (none_kept (items s)) ≡ 0
  unfolding value_of value kept_by_slot
  dropping_all_is_worth_nothing =
      let e = sum_cong v.option_count _ _ (λ i _. ap (λ b. pick b (v.weight i)) (none_in_take (length s.options) (items s) i)) in
      let f = sum_cong v.ordering_count _ _ (λ u _. ap (λ b. pick b (v.ordering_weight u)) (none_in_drop (length s.options) (items s) u)) in
      let x = over_none v.option_count v.weight in let y = over_none v.ordering_count v.ordering_weight in omega arith
    where
      v : Subscription
      v = subscription s
