-- The slot that the code finds is the one that the rules place next.
use Rattle.std.proofs.Math.Path.{◌≡◌, refl}
use Rattle.std.proofs.Common.{sym, subst, arith}
use Rattle.std.specs.Prelude.{Bool, ◌&&◌, Some, None, IfSome, ℕ, ◌+◌, ◌<◌, ◌≤◌, ltb, T}
use Rattle.std.specs.declared.option.Option as Held
use Rattle.std.proofs.Math.Bool.{true, false, cond}
use mathlib.Core.List.{List, [], ◌∷◌, Memᴰ}
use Rattle.std.proofs.Math.Option.{Option, none, some}
use Rattle.std.proofs.Math.Numerals.{add-one}
use Rattle.rules.specs.Slots.{slots, keep_if}
use Rattle.rules.specs.laws.Slots.{slots_out}
use Rattle.rows.specs.Bits.{has}
use Rattle.rows.specs.Sets.{cell}
use Rattle.rules.specs.Results.{smallest_ready}
use Rattle.rules.specs.Sequence.{ready}
use Rattle.placing.specs.Next.{found_slot, number_at, is_ready, smallest_below, smaller_slot}
use Rattle.rules.specs.Results.{if_ready}

module _ (number : ℕ → ℕ) (e : ℕ → ℕ → Bool) where
  -- The smallest of a list is one of it.
  pub smallest_is_there : (left l : List ℕ) (x : ℕ) → smallest_ready number e left l ≡ some x → Memᴰ x l
  unfolding smallest_ready
  smallest_is_there left [] x q = let z : ◌≡◌ {A = ℕ} 0 1 = cc in absurd (omega arith)
  smallest_is_there left (z ∷ l) x q = go (ready e left z) (smallest_ready number e left l) (smallest_is_there left l) x q
    where
      one : (b : Bool) (y x : ℕ) → Memᴰ y l → some (cond b y z) ≡ some x → Memᴰ x (z ∷ l)
      one true y x m q = let f : y ≡ x = cc in Memᴰ.tail (subst (λ w. Memᴰ w l) f m)
      one false y x m q = let f : x ≡ z = cc in Memᴰ.head f

      go : (r : Bool) (o : Option ℕ) → ((y : ℕ) → o ≡ some y → Memᴰ y l) → (x : ℕ) → if_ready number e r z o ≡ some x → Memᴰ x (z ∷ l)
      go false o h x q = Memᴰ.tail (h x q)
      go true none h x q = let f : x ≡ z = cc in Memᴰ.head f
      go true (some y) h x q = one (ltb (number y) (number z)) y x (h y refl) q

module _ (t numbers : List ℕ) (n left : ℕ) where
  abbrev N : ℕ → ℕ
  N = number_at numbers

  abbrev L : List ℕ
  L = slots n (has left)

  -- The best of the first i slots.
  abbrev best_of : ℕ → Option ℕ
  best_of i = smallest_ready N (cell t) L (slots i (has left))

  pub smallest_none : None ≡ found_slot (smallest_below t numbers n left 0)
  unfolding smallest_below slots smallest_ready
  smallest_none = refl

  -- What is found is a slot that was looked at.
  pub found_below : (i k : ℕ) → i ≤ k → IfSome (found_slot (smallest_below t numbers n left i)) (λ x. x < k)
  unfolding smallest_below
  found_below i k l = go (best_of i) (λ x q. let z = (slots_out i (has left) x (smallest_is_there N (cell t) L (slots i (has left)) x q)).0 in omega arith)
    where
      go : (o : Option ℕ) → ((x : ℕ) → o ≡ some x → x < k) → IfSome (found_slot o) (λ x. x < k)
      go none h = tt
      go (some x) h = h x refl

  -- A slot that is ready is compared with the best before it, and one that is not ready changes nothing.
  pub smallest_step : (i : ℕ) {r : ℕ} {best : Held.Option ℕ} → best ≡ found_slot (smallest_below t numbers n left i) → is_ready t n left i ≡ true → r ≡ smaller_slot numbers best i → Some r ≡ found_slot (smallest_below t numbers n left (i + 1))
  unfolding smallest_below slots smallest_ready smaller_slot
  smallest_step i {r} {best} eb ey er = rw (er, eb, add-one i) (held (has left i) ey)
    where
      compared : (f : Bool) → f ≡ true → (o : Option ℕ) → Some (smaller_slot numbers (found_slot o) i) ≡ found_slot (if_ready N (cell t) f i o)
      compared true e none = refl
      compared true e (some x) = refl
      compared false e o = absurd (subst T (sym e) tt)

      held : (b : Bool) → (b && ready (cell t) L i) ≡ true → Some (smaller_slot numbers (found_slot (best_of i)) i) ≡ found_slot (smallest_ready N (cell t) L (keep_if b i (slots i (has left))))
      held true e = compared (ready (cell t) L i) e (best_of i)
      held false e = absurd (subst T (sym e) tt)

  pub smallest_stays : (i : ℕ) {best : Held.Option ℕ} → best ≡ found_slot (smallest_below t numbers n left i) → is_ready t n left i ≡ false → best ≡ found_slot (smallest_below t numbers n left (i + 1))
  unfolding smallest_below slots smallest_ready
  smallest_stays i {best} eb ey = rw (eb, add-one i) (held (has left i) ey)
    where
      passed : (f : Bool) → f ≡ false → (o : Option ℕ) → found_slot o ≡ found_slot (if_ready N (cell t) f i o)
      passed true e o = absurd (subst T e tt)
      passed false e o = refl

      held : (b : Bool) → (b && ready (cell t) L i) ≡ false → found_slot (best_of i) ≡ found_slot (smallest_ready N (cell t) L (keep_if b i (slots i (has left))))
      held true e = passed (ready (cell t) L i) e (best_of i)
      held false e = refl
