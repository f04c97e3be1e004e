-- Lists of slots and sets of slots: what a list holds, and the list without one slot.
use Rattle.std.specs.Prelude.{◌≡◌, refl, Bool, true, false, not, ◌&&◌, ◌||◌, List, ◌∷◌, ℕ, zero, suc, T, eqb}
use Rattle.std.proofs.Common.{sym, ap, ◌∙◌}
use Rattle.rules.specs.Slots.{some_below, slots, keep_if, some_of}
use Rattle.rules.specs.laws.Tests.{T_true}
use Rattle.rows.specs.Bits.{has, turned}
use Rattle.rows.specs.Sets.{cell}
use Rattle.rows.specs.laws.Bits.{has_turned}
use Rattle.rows.specs.laws.Slots.{slots_same}
use Rattle.rules.specs.Sequence.{without, ready}

pub some_slots : (n : ℕ) (p q : ℕ → Bool) → some_of q (slots n p) ≡ some_below n (λ y. p y && q y)
unfolding slots some_below
some_slots zero p q = refl
some_slots (suc n) p q = go (p n) (some_slots n p q)
  where
    turn : (a b : Bool) → (a || b) ≡ (b || a)
    turn true true = refl
    turn true false = refl
    turn false true = refl
    turn false false = refl

    rest : (a : Bool) → a ≡ (a || false)
    rest true = refl
    rest false = refl

    go : (b : Bool) → some_of q (slots n p) ≡ some_below n (λ y. p y && q y) → some_of q (keep_if b n (slots n p)) ≡ (some_below n (λ y. p y && q y) || (b && q n))
    go true e = rw e (turn (q n) (some_below n (λ y. p y && q y)))
    go false e = e ∙ rest (some_below n (λ y. p y && q y))

pub without_slots : (x n : ℕ) (p : ℕ → Bool) → without x (slots n p) ≡ slots n (λ y. p y && not (eqb x y))
unfolding slots without
without_slots x zero p = refl
without_slots x (suc n) p = go (p n) (eqb x n) refl (without_slots x n p)
  where
    go : (b c : Bool) → eqb x n ≡ c → without x (slots n p) ≡ slots n (λ y. p y && not (eqb x y)) → without x (keep_if b n (slots n p)) ≡ keep_if (b && not c) n (slots n (λ y. p y && not (eqb x y)))
    go true true e h = rw e h
    go true false e h = rw e (ap (λ l. n ∷ l) h)
    go false c e h = h

pub ready_slots : (t : List ℕ) (n left x : ℕ) {w o : Bool} → w ≡ some_below n (λ y. has left y && cell t y x) → o ≡ not w → o ≡ ready (cell t) (slots n (has left)) x
ready_slots t n left x {w} {o} e f = f ∙ rw e (ap not (sym (some_slots n (has left) (λ y. cell t y x))))

pub slots_turned : (n left x : ℕ) → T (has left x) → without x (slots n (has left)) ≡ slots n (has (turned left x))
slots_turned n left x h = without_slots x n (has left) ∙ slots_same n _ _ (λ y _. sym (has_turned left x y (T_true _ h)))
