-- A set that grows slot by slot.
use Rattle.std.specs.Prelude.{◌≡◌, ◌⊎◌, ℕ, ◌+◌, ◌<◌, true, T, eqb}
use Rattle.std.proofs.Common.{refl, sym, subst, eqb→eq, inl, inr, arith}
use Rattle.std.proofs.Math.Dec.{eqb_refl}
use Rattle.rules.specs.laws.Tests.{or_l, or_r, or_e}
use Rattle.rows.specs.Bits.{has, with}
use Rattle.rows.specs.laws.Bits.{has_with_slot}
use Rattle.keeping.specs.Keeping.{AddedTo}

module _ {before opens : ℕ} {P : ℕ → Type 0} where
  -- a slot that was passed over
  pub added_passed : {i set set' : ℕ} → AddedTo before set opens i P → set' ≡ set → AddedTo before set' opens (i + 1) P
  added_passed {i} {set} {set'} w e = subst (λ z. AddedTo before z opens (i + 1) P) (sym e) (record {
    keeps = w.keeps;
    only = λ j t. further (w.only j t);
    one = λ d. let (j, l, t, a) = w.one d in (j, omega arith, t, a);
  })
    where
      further : {j : ℕ} → T (has before j) ⊎ ((j < i) × T (has opens j) × P j) → T (has before j) ⊎ ((j < i + 1) × T (has opens j) × P j)
      further (inl t) = inl t
      further (inr (l, t, p)) = inr (omega arith, t, p)

  -- one slot more
  pub added_put : {i set set' : ℕ} → AddedTo before set opens i P → has opens i ≡ true → P i → set' ≡ with set i → AddedTo before set' opens (i + 1) P
  added_put {i} {set} {set'} w o p e = subst (λ z. AddedTo before z opens (i + 1) P) (sym e) (record {
    keeps = λ j t. subst T (sym (has_with_slot set i j)) (or_l (has set j) _ (w.keeps j t));
    only = λ j t. at j (or_e (has set j) _ (subst T (has_with_slot set i j) t));
    one = λ _. (i, omega arith, here, subst T (sym (has_with_slot set i i)) (or_r (has set i) _ (eqb_refl i)));
  })
    where
      here : T (has opens i)
      here = subst T (sym o) tt

      at : (j : ℕ) → T (has set j) ⊎ T (eqb i j) → T (has before j) ⊎ ((j < i + 1) × T (has opens j) × P j)
      at j (inl t) = (added_passed w refl).only j t
      at j (inr q) = let z = eqb→eq i j q in inr (omega arith, subst (λ k. T (has opens k)) z here, subst P z p)

-- what holds of the slots that came may be said in other words
pub added_weaker : {before after opens n : ℕ} {P Q : ℕ → Type 0} → ((j : ℕ) → j < n → P j → Q j) → AddedTo before after opens n P → AddedTo before after opens n Q
added_weaker {before} {after} {opens} {n} {P} {Q} f w = record { keeps = w.keeps; only = λ j t. said (w.only j t); one = w.one }
  where
    said : {j : ℕ} → T (has before j) ⊎ ((j < n) × T (has opens j) × P j) → T (has before j) ⊎ ((j < n) × T (has opens j) × Q j)
    said (inl t) = inl t
    said {j} (inr (l, t, p)) = inr (l, t, f j l p)
