-- The best value alone: the contract of a pass that takes up open items in any order, from a floor, and may stop at a given value.
use Rattle.std.specs.Prelude.{◌≡◌, refl, Bool, false, ◌⊎◌, List, ℕ, suc, ◌+◌, ◌≤◌, ◌<◌, get_or, set, T}
use Rattle.std.proofs.Common.{sym, subst, ◌∙◌, inl, inr, arith}
use Rattle.std.proofs.Math.Dec.{not_T}
use Rattle.rules.specs.Decisions.{Decision, Open, Kept, Dropped, is_open, Agrees, open_items}
use Rattle.rules.specs.laws.Tests.{test}
use Rattle.rules.specs.laws.Decisions.{agrees_decided, agrees_undecided, just_the_kept, just_the_kept_agrees, only_choice}
use Rattle.rules.specs.laws.search.Reduces.{Above, Reduces}

module _ (worth : List Bool → ℕ) (Allowed : List Bool → Type 0) where
  -- Some choice that agrees with d is worth exactly w.
  pub record Worth (d : List Decision) (w : ℕ) : Type 0 where
    pub which : List Bool
    pub allowed : Allowed which
    pub agrees : Agrees d which
    pub is : worth which ≡ w

  -- The greater of the floor and the best value among what agrees with d; from the value `stop` on it need not be the best.
  pub record Valued (stop floor : ℕ) (d : List Decision) (w : ℕ) : Type 0 where
    pub above : floor ≤ w
    pub top : w < stop → (r : List Bool) → Allowed r → Agrees d r → worth r ≤ w
    pub reached : (w ≡ floor) ⊎ Worth d w

  -- Two branches at any open item, in any order of items: the first's value is the floor of the second.
  pub value_split : (stop floor m w : ℕ) (d : List Decision) (k : ℕ) → T (is_open (get_or d k Open))
      → Valued stop floor (set d k Kept) m → Valued stop m (set d k Dropped) w → Valued stop floor d w
  value_split stop floor m w d k o p q = record {
    above = (let a = p.above in let b = q.above in omega arith);
    top = λ l r ok a. let b = q.above in go l r ok a (test (get_or r k false));
    reached = from p.reached q.reached;
  }
    where
      go : w < stop → (r : List Bool) → Allowed r → Agrees d r → T (get_or r k false) ⊎ (T (get_or r k false) → ⊥) → worth r ≤ w
      go l r ok a (inl t) = let b = q.above in let x = p.top (omega arith) r ok (agrees_decided Kept d r k a t) in omega arith
      go l r ok a (inr n) = q.top l r ok (agrees_decided Dropped d r k a (not_T (get_or r k false) n))

      wide : (m : Decision) (x : ℕ) → Worth (set d k m) x → Worth d x
      wide m x y = record { which = y.which; allowed = y.allowed; agrees = agrees_undecided m d y.which k o y.agrees; is = y.is }

      from : (m ≡ floor) ⊎ Worth (set d k Kept) m → (w ≡ m) ⊎ Worth (set d k Dropped) w → (w ≡ floor) ⊎ Worth d w
      from x (inr b) = inr (wide Dropped w b)
      from (inl e) (inl f) = inl (f ∙ e)
      from (inr a) (inl f) = inr (subst (λ z. Worth d z) (sym f) (wide Kept m a))

  -- A cut; a contradiction; the value to stop at is reached.
  pub value_cut : (stop floor : ℕ) (d : List Decision) (u : ℕ) → ((r : List Bool) → Allowed r → Agrees d r → worth r ≤ u) → u ≤ floor → Valued stop floor d floor
  value_cut stop floor d u h l = record { above = omega arith; top = λ z r o a. (let k = h r o a in omega arith); reached = inl refl }

  pub value_none : (stop floor : ℕ) (d : List Decision) → ((r : List Bool) → Allowed r → Agrees d r → ⊥) → Valued stop floor d floor
  value_none stop floor d h = record { above = omega arith; top = λ z r o a. absurd (h r o a); reached = inl refl }

  pub value_stop : (stop floor : ℕ) (d : List Decision) → stop ≤ floor → Valued stop floor d floor
  value_stop stop floor d h = record { above = omega arith; top = λ z. absurd (omega arith); reached = inl refl }

  -- A leaf, above the floor or not.
  pub value_leaf : (stop floor : ℕ) (d : List Decision) → open_items d ≡ 0 → Allowed (just_the_kept d) → floor ≤ worth (just_the_kept d) → Valued stop floor d (worth (just_the_kept d))
  value_leaf stop floor d z o l = record {
    above = l;
    top = λ _ r _ a. subst (λ s. worth s ≤ worth (just_the_kept d)) (sym (only_choice d r z a)) (omega arith);
    reached = inr (record { which = just_the_kept d; allowed = o; agrees = just_the_kept_agrees d; is = refl });
  }

  pub value_worse : (stop floor : ℕ) (d : List Decision) → open_items d ≡ 0 → worth (just_the_kept d) ≤ floor → Valued stop floor d floor
  value_worse stop floor d z l = record { above = omega arith; top = λ _ r _ a. subst (λ s. worth s ≤ floor) (sym (only_choice d r z a)) l; reached = inl refl }

  -- A reduction towards what is worth more than the floor.
  pub value_reduced : (stop floor w : ℕ) (d f : List Decision) → Reduces worth Allowed 0 (suc floor) d f → Valued stop floor f w → Valued stop floor d w
  value_reduced stop floor w d f p q = record { above = q.above; top = λ l r o a. go l r (p.to r o a); reached = from q.reached }
    where
      go : w < stop → (r : List Bool) → (worth r < suc floor + 0) ⊎ Above worth Allowed 0 f r → worth r ≤ w
      go l r (inl k) = let b = q.above in omega arith
      go l r (inr a) = let k = q.top l a.other a.allowed a.agrees in let x = a.value_of in omega arith

      from : (w ≡ floor) ⊎ Worth f w → (w ≡ floor) ⊎ Worth d w
      from (inl e) = inl e
      from (inr y) = inr (record { which = y.which; allowed = y.allowed; agrees = p.from y.which y.agrees; is = y.is })

  -- ---- what a pass comes to
  -- The best value among what agrees with d: reached, and never passed.
  pub record BestValue (d : List Decision) (w : ℕ) : Type 0 where
    pub reached : Worth d w
    pub top : (r : List Bool) → Allowed r → Agrees d r → worth r ≤ w

  -- From a floor that is some choice's value, with nothing to stop at: the best value.
  pub value_best : (stop floor w : ℕ) (d : List Decision) → w < stop → Worth d floor → Valued stop floor d w → BestValue d w
  value_best stop floor w d l g p = record { reached = from p.reached; top = p.top l }
    where
      from : (w ≡ floor) ⊎ Worth d w → Worth d w
      from (inl e) = subst (λ z. Worth d z) (sym e) g
      from (inr y) = y
