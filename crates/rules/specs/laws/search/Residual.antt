-- Residuals: how much of each item's weight is not charged yet. What an item's consequences hold, and what a relaxation loses.
use Rattle.std.specs.Prelude.{◌≡◌, refl, Bool, true, false, ◌&&◌, ◌⊎◌, ℕ, ◌+◌, ◌≤◌, T, eqb}
use Rattle.std.proofs.Common.{subst, inl, inr, eqb→eq}
use Rattle.std.proofs.Math.Bool.{not}
use native.Mathlib.Omega.{arith}
use Rattle.std.proofs.Math.Dec.{T_not, not_T}
use Rattle.rules.specs.Slots.{pick, over}
use Rattle.rules.specs.Subscription.{Subscription}
use Rattle.rules.specs.Relaxation.{KeptBySlot}
use Rattle.rules.specs.Decisions.{DecidedBySlot}
use Rattle.rules.specs.KnownBefore.{touches}
use Rattle.rules.specs.Limits.{option_open, ordering_open}
use Rattle.rules.specs.laws.Tests.{or_e}
use Rattle.rules.specs.laws.Sums.{sum_add, sum_mono, sum_cong}
use Rattle.rules.specs.laws.BySlot.{ConsistentBySlot}
use Rattle.rules.specs.laws.search.Items.{Item, option, ordering, keeps}

-- What is left of each option's and each ordering's weight.
pub record Residual : Type 0 where
  pub option : ℕ → ℕ
  pub ordering : ℕ → ℕ

-- One residual is nowhere above another.
pub record Lower (s r : Residual) : Type 0 where
  pub option : (i : ℕ) → s.option i ≤ r.option i
  pub ordering : (u : ℕ) → s.ordering u ≤ r.ordering u

-- The options that go if an item goes: an option itself.
abbrev pub option_goes : Item → ℕ → Bool
option_goes (option i) j = eqb i j
option_goes (ordering w) j = false

-- a smaller test and a greater one: what the weights fall by outside the smaller is lost in the greater alone
pick_swap : (p q : Bool) (w s : ℕ) → s ≤ w → (T p → T q) → pick p w + pick q s ≤ pick p s + pick q w
pick_swap true true w s h k = omega arith
pick_swap true false w s h k = absurd (k tt)
pick_swap false true w s h k = omega arith
pick_swap false false w s h k = omega arith

pub over_swap : (n : ℕ) (w s : ℕ → ℕ) (p q : ℕ → Bool) → ((i : ℕ) → s i ≤ w i) → ((i : ℕ) → T (p i) → T (q i)) → over n w p + over n s q ≤ over n s p + over n w q
over_swap n w s p q h k =
    let a = sum_mono n (λ i. pick (p i) (w i) + pick (q i) (s i)) (λ i. pick (p i) (s i) + pick (q i) (w i)) (λ i _. pick_swap (p i) (q i) (w i) (s i) (h i) (k i)) in
    let e = sum_add n (λ i. pick (p i) (w i)) (λ i. pick (q i) (s i)) in
    let f = sum_add n (λ i. pick (p i) (s i)) (λ i. pick (q i) (w i)) in omega arith

pick_under : (p q : Bool) (w : ℕ) → (T p → T q) → pick p w ≤ pick q w
pick_under true true w k = omega arith
pick_under true false w k = absurd (k tt)
pick_under false q w k = omega arith

pub over_under : (n : ℕ) (w : ℕ → ℕ) (p q : ℕ → Bool) → ((i : ℕ) → T (p i) → T (q i)) → over n w p ≤ over n w q
over_under n w p q k = sum_mono n (λ i. pick (p i) (w i)) (λ i. pick (q i) (w i)) (λ i _. pick_under (p i) (q i) (w i) (k i))

pick_both : (a b : Bool) (w : ℕ) → pick a (pick b w) ≡ pick (b && a) w
pick_both true true w = refl
pick_both true false w = refl
pick_both false true w = refl
pick_both false false w = refl

pub over_both : (n : ℕ) (w : ℕ → ℕ) (q p : ℕ → Bool) → over n (λ i. pick (q i) (w i)) p ≡ over n w (λ i. q i && p i)
over_both n w q p = sum_cong n (λ i. pick (p i) (pick (q i) (w i))) (λ i. pick (q i && p i) (w i)) (λ i _. pick_both (p i) (q i) (w i))

module _ (v : Subscription) where
  -- The orderings that go if an item goes: an ordering itself, an option's orderings.
  abbrev pub ordering_goes : Item → ℕ → Bool
  ordering_goes (option i) u = touches v u i
  ordering_goes (ordering w) u = eqb w u

  -- What an item's consequences hold together.
  unfoldable pub held : Residual → Item → ℕ
  held r x = over v.option_count r.option (option_goes x) + over v.ordering_count r.ordering (ordering_goes x)

  -- What a choice loses: the residuals of the items that it does not keep.
  unfoldable pub lost : Residual → KeptBySlot → ℕ
  lost r c = over v.option_count r.option (λ i. not (c.option i)) + over v.ordering_count r.ordering (λ u. not (c.ordering u))

  module _ (c : KeptBySlot) (ok : ConsistentBySlot v c) where
    -- If an item is dropped, its consequences are.
    pub option_goes_dropped : (x : Item) → T (not (keeps c x)) → (i : ℕ) → T (option_goes x i) → T (not (c.option i))
    option_goes_dropped (option i) n j e = subst (λ z. T (not (c.option z))) (eqb→eq i j e) n
    option_goes_dropped (ordering w) n j e = absurd e

    pub ordering_goes_dropped : (x : Item) → T (not (keeps c x)) → (u : ℕ) → T (ordering_goes x u) → T (not (c.ordering u))
    ordering_goes_dropped (option i) n u t = not_T (c.ordering u) (λ k. ends k (or_e (eqb (v.first u) i) _ t))
      where
        ends : T (c.ordering u) → T (eqb (v.first u) i) ⊎ T (eqb (v.second u) i) → ⊥
        ends k (inl e) = T_not (c.option i) n (subst (λ z. T (c.option z)) (eqb→eq _ i e) (ok.ends u k).0)
        ends k (inr e) = T_not (c.option i) n (subst (λ z. T (c.option z)) (eqb→eq _ i e) (ok.ends u k).1)
    ordering_goes_dropped (ordering w) n u e = subst (λ z. T (not (c.ordering z))) (eqb→eq w u e) n

    -- A dropped item loses what its consequences hold.
    pub held_lost : (r : Residual) (x : Item) → T (not (keeps c x)) → held r x ≤ lost r c
    unfolding held lost
    held_lost r x n = let a = over_under v.option_count r.option (option_goes x) (λ i. not (c.option i)) (option_goes_dropped x n) in
        let b = over_under v.ordering_count r.ordering (ordering_goes x) (λ u. not (c.ordering u)) (ordering_goes_dropped x n) in omega arith

    -- Where residuals fall, a dropped item loses at least what its consequences fell by.
    pub held_falls : (r s : Residual) → Lower s r → (x : Item) → T (not (keeps c x)) → held r x + lost s c ≤ held s x + lost r c
    unfolding held lost
    held_falls r s le x n = let a = over_swap v.option_count r.option s.option (option_goes x) (λ i. not (c.option i)) le.option (option_goes_dropped x n) in
        let b = over_swap v.ordering_count r.ordering s.ordering (ordering_goes x) (λ u. not (c.ordering u)) le.ordering (ordering_goes_dropped x n) in omega arith

module _ (v : Subscription) (d : DecidedBySlot) where
  -- At the start an open item's residual is its weight, any other's 0.
  unfoldable pub open_weights : Residual
  open_weights = record { option = λ i. pick (option_open v d i) (v.weight i); ordering = λ u. pick (ordering_open v d u) (v.ordering_weight u) }
