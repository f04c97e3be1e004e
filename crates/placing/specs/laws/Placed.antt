-- Writing the next number and turning its slot out leaves what is to be placed after it.
use Rattle.std.specs.Prelude.{◌≡◌, Some, None, ⊤, set}
use Rattle.std.specs.declared.option.Option as Held
use Rattle.std.proofs.Math.Path.{refl, ap}
use Rattle.std.proofs.Common.{sym, subst}
use mathlib.Core.List.{List, [], ◌∷◌, map}
use Rattle.std.proofs.Math.Option.{Option, none, some}
use Prim.Native.Nat.{ℕ, zero, suc, ◌+◌, ◌-◌, ◌<◌}
use native.Mathlib.Omega.{arith}
use Rattle.std.proofs.Math.Dec.{T}
use Rattle.rules.specs.Slots.{slots}
use Rattle.rules.specs.laws.Slots.{slots_out}
use Rattle.rows.specs.Bits.{has, turned}
use Rattle.rows.specs.Sets.{cell}
use Rattle.rules.specs.Results.{placed, smallest_ready, placed_first}
use Rattle.rules.specs.Sequence.{without}
use Rattle.placing.specs.Next.{found_slot, number_at, smallest_below, numbers_placed, number, written}
use Rattle.placing.specs.laws.Next.{smallest_is_there}
use Rattle.placing.specs.laws.Slots.{slots_turned}
use Rattle.sheet.specs.declared.count.Number.{Number}

-- Whether the code holds no slot.
abbrev is_none_held : Held.Option ℕ → Type 0
is_none_held None = ⊤
is_none_held (Some x) = ⊥

module _ (t numbers : List ℕ) (n left : ℕ) where
  abbrev N : ℕ → ℕ
  N = number_at numbers

  abbrev found : Option ℕ
  found = smallest_ready N (cell t) (slots n (has left)) (slots n (has left))

  inside : (x : ℕ) → found ≡ some x → (x < n) × T (has left x)
  inside x q = slots_out n (has left) x (smallest_is_there N (cell t) (slots n (has left)) (slots n (has left)) x q)

  pub nothing_placed : (k : ℕ) → None ≡ found_slot (smallest_below t numbers n left n) → numbers_placed t numbers n k left ≡ []
  unfolding smallest_below numbers_placed placed
  nothing_placed zero e = refl
  nothing_placed (suc k) e = go found e
    where
      go : (o : Option ℕ) → None ≡ found_slot o → map N (placed_first N (cell t) o (λ y. placed N (cell t) k (without y (slots n (has left))))) ≡ []
      go none q = refl
      go (some y) q = absurd (subst is_none_held q tt)

  pub one_placed : {x r : ℕ} (k : ℕ) → Some x ≡ found_slot (smallest_below t numbers n left n) → r ≡ turned left x → numbers_placed t numbers n (suc k) left ≡ N x ∷ numbers_placed t numbers n k r
  unfolding smallest_below numbers_placed placed
  one_placed {x} {r} k e g = rw g (go found inside e)
    where
      go : (o : Option ℕ) → ((y : ℕ) → o ≡ some y → (y < n) × T (has left y)) → Some x ≡ found_slot o
          → map N (placed_first N (cell t) o (λ y. placed N (cell t) k (without y (slots n (has left))))) ≡ N x ∷ map N (placed N (cell t) k (slots n (has (turned left x))))
      go none h q = absurd (subst is_none_held (sym q) tt)
      go (some y) h q = let f : y ≡ x = cc in rw (← f) (ap (λ l. N y ∷ map N (placed N (cell t) k l)) (slots_turned n left y (h y refl).1))

-- ---- how the loop writes
module _ (t numbers : List ℕ) (s : List Number) (n at left : ℕ) where
  pub written_end : None ≡ found_slot (smallest_below t numbers n left n) → written s at (numbers_placed t numbers n (n - at) left) ≡ s
  unfolding written
  written_end e = rw (nothing_placed t numbers n left (n - at) e) refl

  pub written_more : {x y : ℕ} → at < n → Some x ≡ found_slot (smallest_below t numbers n left n) → y ≡ turned left x
      → written s at (numbers_placed t numbers n (n - at) left) ≡ written (set s at (number (number_at numbers x))) (at + 1) (numbers_placed t numbers n (n - (at + 1)) y)
  unfolding written
  written_more {x} {y} l e g = let q : n - at ≡ suc (n - (at + 1)) = omega arith in rw (q, one_placed t numbers n left {x = x} {r = y} (n - (at + 1)) e g) refl

  pub written_done : at ≡ n → written s at (numbers_placed t numbers n (n - at) left) ≡ s
  unfolding written numbers_placed placed
  written_done e = let q : n - at ≡ 0 = omega arith in rw q refl

pub written_begin : (t numbers : List ℕ) (s : List Number) (n left : ℕ) → written s 0 (numbers_placed t numbers n n left) ≡ written s 0 (numbers_placed t numbers n (n - 0) left)
written_begin t numbers s n left = let q : n ≡ n - 0 = omega arith in ap (λ k. written s 0 (numbers_placed t numbers n k left)) q
