-- One slot more in the search of a member, and what two members found make of an item.
use Rattle.std.specs.Prelude.{◌≡◌, ℕ, ◌+◌, ◌<◌, ◌≤◌, Bool, true, false, ◌&&◌, refl, Option, Some, None, IfNone}
use Rattle.std.proofs.Common.{sym, subst, ◌∙◌, arith}
use borrow.Author.Count.{below_more}
use Rattle.rows.specs.Bits.{has}
use Rattle.picks.specs.Picked.{OneOf, Picked}

pub one_of_none : (set n : ℕ) → OneOf set n 0 None
one_of_none set n = record { here = tt; none = λ j l. absurd (omega arith) }

pub one_of_found : (set n : ℕ) {i : ℕ} → i < n → has set i ≡ true → OneOf set n (i + 1) (Some i)
one_of_found set n l e = record { here = (l, e); none = tt }

and_true : (a b : Bool) → (a && b) ≡ true → a ≡ true
and_true true b e = refl
and_true false b e = e

pub one_of_taken : (set n : ℕ) (z : Bool) {i : ℕ} {h y : Bool} → i < n → h ≡ has set i → y ≡ (h && z) → y ≡ true → OneOf set n (i + 1) (Some i)
one_of_taken set n z {i} {h} {y} l e f g = one_of_found set n l (sym e ∙ and_true h z (sym f ∙ g))

-- a slot that was passed over is not in the set, or a member was found before
pub one_of_passed : (set n : ℕ) {i : ℕ} (r : Option ℕ) → OneOf set n i r → IfNone r (has set i ≡ false) → OneOf set n (i + 1) r
one_of_passed set n (Some b) w e = record { here = w.here; none = tt }
one_of_passed set n None w e = record { here = tt; none = below_more _ _ w.none e }

pub one_of_end : {set n k : ℕ} {r : Option ℕ} → OneOf set n k r → k ≡ n → OneOf set n n r
one_of_end {set} {n} {k} {r} w e = subst (λ z. OneOf set n z r) e w

-- an option found; an ordering found; nothing found
pub picked_option : {open_options open_orderings n m i : ℕ} → n ≤ 32 → OneOf open_options n n (Some i) → Picked open_options open_orderings n m (Some i)
picked_option h w = let l = w.here.0 in record { below = omega arith; option = λ _. w.here; ordering = λ u e. absurd (omega arith); no_option = tt; no_ordering = tt }

pub picked_ordering : {open_options open_orderings n m u : ℕ} → m ≤ 64 → OneOf open_orderings m m (Some u) → Picked open_options open_orderings n m (Some (32 + u))
picked_ordering {open_orderings = open_orderings} {m = m} {u = u} h w = let l = w.here.0 in record {
  below = omega arith;
  option = λ q. absurd (omega arith);
  ordering = λ v e. subst (λ z. (z < m) × (has open_orderings z ≡ true)) (let k : u ≡ v = omega arith in k) w.here;
  no_option = tt;
  no_ordering = tt;
}

pub picked_none : {open_options open_orderings n m : ℕ} → OneOf open_options n n None → OneOf open_orderings m m None → Picked open_options open_orderings n m None
picked_none a b = record { below = tt; option = tt; ordering = tt; no_option = a.none; no_ordering = b.none }
