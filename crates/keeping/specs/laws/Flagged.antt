-- A set that grows slot by slot, with a flag that tells whether something came.
use Rattle.std.specs.Prelude.{◌≡◌, refl, Bool, true, false, not, ◌||◌, ◌⊎◌, ℕ, ◌+◌, ◌<◌, eqb}
use Rattle.std.proofs.Common.{sym, ◌∙◌, eqb→eq}
use Rattle.std.proofs.Math.Path.{subst}
use Rattle.std.proofs.Math.Logic.{inl, inr}
use native.Mathlib.Omega.{arith}
use Rattle.std.proofs.Math.Dec.{T, eqb_refl}
use Rattle.rules.specs.laws.Tests.{or_l, or_r, or_e}
use Rattle.rows.specs.Bits.{has, with_if}
use Rattle.rows.specs.laws.Bits.{has_with_slot}
use Rattle.links.specs.Links.{OnlyIf}
use Rattle.keeping.specs.Keeping.{AddedTo}
use Rattle.keeping.specs.Flagged.{AddedWithFlag}

-- A test that was not turned away was passed.
pub opened : {b c : Bool} → b ≡ c → not b ≡ false → T c
opened {b} {c} e q = subst T e (go b q)
  where
    go : (x : Bool) → not x ≡ false → T x
    go true w = tt
    go false w = absurd (subst T w tt)

module _ (before opens : ℕ) (P : ℕ → Type 0) where
  pub added_none : AddedWithFlag before before opens 0 false P
  added_none = record { keeps = λ j t. t; only = λ j t. inl t; one = λ e. absurd (subst T (sym e) tt); none = λ _. refl }

  -- one slot more
  pub added_step : {i set set' : ℕ} {more more' yes : Bool} → AddedWithFlag before set opens i more P → OnlyIf yes (T (has opens i) × P i) → set' ≡ with_if set i yes → more' ≡ (more || yes) → AddedWithFlag before set' opens (i + 1) more' P
  unfolding with_if
  added_step {i} {set} {set'} {more} {more'} {yes} w o e f = subst (λ z. AddedWithFlag before set' opens (i + 1) z P) (sym f) (subst (λ z. AddedWithFlag before z opens (i + 1) (more || yes) P) (sym e) (go yes o))
    where
      was : (j : ℕ) → T (has before j) ⊎ ((j < i) × T (has opens j) × P j) → T (has before j) ⊎ ((j < i + 1) × T (has opens j) × P j)
      was j (inl t) = inl t
      was j (inr (l, t, p)) = inr (omega arith, t, p)

      or_false : (a : Bool) → (a || false) ≡ a
      or_false true = refl
      or_false false = refl

      or_true : (a : Bool) → (a || true) ≡ true
      or_true true = refl
      or_true false = refl

      go : (y : Bool) → OnlyIf y (T (has opens i) × P i) → AddedWithFlag before (with_if set i y) opens (i + 1) (more || y) P
      go false o = record {
        keeps = w.keeps;
        only = λ j t. was j (w.only j t);
        one = λ q. let (j, l, t, a) = w.one (sym (or_false more) ∙ q) in (j, omega arith, t, a);
        none = λ q. w.none (sym (or_false more) ∙ q);
      }
      go true o = let (h, p) = o.told refl in record {
        keeps = λ j t. subst T (sym (has_with_slot set i j)) (or_l (has set j) _ (w.keeps j t));
        only = λ j t. at j (or_e (has set j) _ (subst T (has_with_slot set i j) t));
        one = λ _. (i, omega arith, h, subst T (sym (has_with_slot set i i)) (or_r (has set i) _ (eqb_refl i)));
        none = λ q. absurd (subst T (sym (or_true more) ∙ q) tt);
      }
        where
          at : (j : ℕ) → T (has set j) ⊎ T (eqb i j) → T (has before j) ⊎ ((j < i + 1) × T (has opens j) × P j)
          at j (inl t) = was j (w.only j t)
          at j (inr q) = let z = eqb→eq i j q in let (h, p) = o.told refl in inr (omega arith, subst (λ k. T (has opens k)) z h, subst P z p)

  pub added_end : {i n set : ℕ} {more : Bool} → AddedWithFlag before set opens i more P → i ≡ n → AddedWithFlag before set opens n more P
  added_end {i} {n} {set} {more} w e = subst (λ z. AddedWithFlag before set opens z more P) e w

  -- without the flag
  pub added_to : {n after : ℕ} (more : Bool) → AddedWithFlag before after opens n more P → AddedTo before after opens n P
  added_to true w = record { keeps = w.keeps; only = w.only; one = λ d. w.one refl }
  added_to false w = record { keeps = w.keeps; only = w.only; one = λ d. absurd (d (w.none refl)) }
