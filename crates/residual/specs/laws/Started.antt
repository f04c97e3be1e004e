-- What is left before anything is charged, one slot more at a time.
use Rattle.std.specs.Prelude.{◌≡◌, refl, Bool, List, ℕ, zero, suc, ◌+◌, ◌≤◌, ◌<◌, get_or, set, replicate}
use Rattle.std.proofs.Common.{sym, subst, ap, ◌∙◌, arith, length-set, get_or-set_same, get_or-set_other}
use Rattle.std.proofs.Math.Decide.{ℕ_discrete}
use Rattle.std.proofs.lemmas.List.{length-replicate}
use Rattle.rules.specs.Slots.{pick}
use Rattle.rows.specs.Bits.{has}
use Rattle.residual.specs.Taken.{LeftIn}
use Rattle.residual.specs.Started.{StartsAs}

same_at : (size i z : ℕ) → get_or (replicate size z) i z ≡ z
same_at zero i z = refl
same_at (suc size) zero z = refl
same_at (suc size) (suc i) z = same_at size i z

pub starts_none : (opens : ℕ) (weights : List ℕ) (size : ℕ) → StartsAs opens weights size 0 (replicate size 0)
starts_none opens weights size = record {
  long = length-replicate {A = ℕ} size 0;
  at = λ i l. absurd (omega arith);
  past = λ i l. same_at size i 0;
  small = λ i. let e = same_at size i 0 in omega arith;
}

pub starts_more : (opens : ℕ) (weights : List ℕ) {size k : ℕ} {left : List ℕ} {w : ℕ} {y : Bool} → StartsAs opens weights size k left → k < size → y ≡ has opens k → (w ≡ pick y (get_or weights k 0)) × (w ≤ 65535)
    → StartsAs opens weights size (k + 1) (set left k w)
starts_more opens weights {size} {k} {left} {w} {y} s l e (f, few) = record {
  long = length-set left k w ∙ s.long;
  at = λ i h. at i h (ℕ_discrete i k);
  past = λ i h. get_or-set_other left k i w 0 (λ z. omega arith) ∙ s.past i (omega arith);
  small = λ i. small i (ℕ_discrete i k);
}
  where
    here : get_or (set left k w) k 0 ≡ w
    here = get_or-set_same left k w 0 (let z = s.long in omega arith)

    at : (i : ℕ) → i < k + 1 → Dec (i ≡ k) → get_or (set left k w) i 0 ≡ pick (has opens i) (get_or weights i 0)
    at i h (yes q) = subst (λ z. get_or (set left k w) z 0 ≡ pick (has opens z) (get_or weights z 0)) (sym q) (here ∙ f ∙ ap (λ b. pick b (get_or weights k 0)) e)
    at i h (no q) = get_or-set_other left k i w 0 q ∙ s.at i (omega arith)

    small : (i : ℕ) → Dec (i ≡ k) → get_or (set left k w) i 0 ≤ 65535
    small i (yes q) = subst (λ z. get_or (set left k w) z 0 ≤ 65535) (sym q) (let z = here in omega arith)
    small i (no q) = let z = get_or-set_other left k i w 0 q in let h = s.small i in omega arith

pub starts_end : {opens size k n : ℕ} {weights left : List ℕ} → StartsAs opens weights size k left → k ≡ n → StartsAs opens weights size n left
starts_end {opens} {size} {k} {n} {weights} {left} s e = subst (λ z. StartsAs opens weights size z left) e s

pub starts_left : {opens open_orderings n m : ℕ} {weights ordering_weights options orderings : List ℕ} → n ≤ 32 → m ≤ 64 → StartsAs opens weights 32 n options → StartsAs open_orderings ordering_weights 64 m orderings → LeftIn n m options orderings
starts_left p q s t = record { option_size = (let a = s.long in omega arith); ordering_size = (let a = t.long in omega arith); option = s.small; ordering = t.small }
