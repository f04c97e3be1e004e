-- A test that finds a sheet's lines proper: for worked cases.
use Rattle.std.specs.Prelude.{◌≡◌, Bool, true, false, not, ◌&&◌, ℕ, ◌<◌, eqb, ltb}
use Rattle.std.proofs.Common.{subst, eqb→eq}
use Rattle.std.proofs.Math.Decide.{ℕ_discrete}
use Rattle.std.proofs.Math.ListN.{length}
use Rattle.std.proofs.Math.Dec.{T, T_not, not_T, eqb_refl, ltb→lt}
use Rattle.rules.specs.Slots.{some_below}
use Rattle.rules.specs.Lines.{Lines}
use Rattle.rules.specs.Subscription.{subscription, Proper}
use Rattle.rules.specs.laws.Tests.{and_l, and_r, and_i}
use Rattle.rules.specs.laws.Slots.{some_in}

module _ (s : Lines) where
  -- another slot has the number of slot i
  unfoldable pub number_again : ℕ → Bool
  number_again i = some_below (length s.options) (λ j. not (eqb i j) && eqb ((subscription s).number i) ((subscription s).number j))

  -- an ordering's ends differ, and both are subscribed
  unfoldable pub good_ends : ℕ → Bool
  good_ends u = not (eqb ((subscription s).first u) ((subscription s).second u)) && (ltb ((subscription s).first u) (length s.options) && ltb ((subscription s).second u) (length s.options))

  unfoldable pub is_proper : Bool
  is_proper = not (some_below (length s.options) number_again) && not (some_below (length s.orderings) (λ u. not (good_ends u)))

  yes_from : (a : Bool) → (T (not a) → ⊥) → T a
  yes_from true k = tt
  yes_from false k = absurd (k tt)

  pub proper_out : T is_proper → Proper s
  unfolding is_proper number_again good_ends
  proper_out t = record {
    numbers_differ = λ i j p q e. differ i j p q e (ℕ_discrete i j);
    ends_differ = λ u l e. T_not (eqb ((subscription s).first u) ((subscription s).second u)) (and_l (not (eqb ((subscription s).first u) ((subscription s).second u))) _ (good u l))
        (subst (λ z. T (eqb ((subscription s).first u) z)) e (eqb_refl ((subscription s).first u)));
    first_subscribed = λ u l. ltb→lt _ _ (and_l (ltb ((subscription s).first u) (length s.options)) _ (and_r (not (eqb ((subscription s).first u) ((subscription s).second u))) _ (good u l)));
    second_subscribed = λ u l. ltb→lt _ _ (and_r (ltb ((subscription s).first u) (length s.options)) _ (and_r (not (eqb ((subscription s).first u) ((subscription s).second u))) _ (good u l)));
  }
    where
      differ : (i j : ℕ) → i < length s.options → j < length s.options → (subscription s).number i ≡ (subscription s).number j → Dec (i ≡ j) → i ≡ j
      differ i j p q e (yes c) = c
      differ i j p q e (no n) = absurd (T_not (some_below (length s.options) number_again) (and_l (not (some_below (length s.options) number_again)) _ t)
          (some_in (length s.options) _ i p (some_in (length s.options) _ j q (and_i (not (eqb i j)) _ (not_T (eqb i j) (λ h. n (eqb→eq i j h)))
          (subst (λ z. T (eqb ((subscription s).number i) z)) e (eqb_refl ((subscription s).number i)))))))

      good : (u : ℕ) → u < length s.orderings → T (good_ends u)
      good u l = yes_from (good_ends u) (λ h. T_not (some_below (length s.orderings) (λ u. not (good_ends u))) (and_r (not (some_below (length s.options) number_again)) _ t) (some_in (length s.orderings) _ u l h))
