-- Each limit of 01's table holds for every consistent relaxation that agrees, slot by slot; sums only, no subtraction.
use Rattle.std.proofs.Common.{sym, inl, inr, eqb→eq}
use Rattle.std.proofs.Math.Path.{subst}
use Rattle.std.proofs.Math.Bool.{Bool}
use Rattle.std.specs.Prelude.{true, false, not, ◌&&◌, ◌||◌, ◌⊎◌}
use Prim.Native.Nat.{ℕ, ◌+◌, ◌≤◌, ◌<◌}
use native.Mathlib.Omega.{arith}
use Rattle.std.proofs.Math.Dec.{T, T_not, eqb}
use Rattle.rules.specs.Slots.{sum, over}
use Rattle.rules.specs.Subscription.{Subscription}
use Rattle.rules.specs.Relaxation.{KeptBySlot, value}
use Rattle.rules.specs.Decisions.{DecidedBySlot}
use Rattle.rules.specs.KnownBefore.{touches, ordering_kept, option_kept, known_before}
use Rattle.rules.specs.Forced.{option_dropped, ordering_dropped}
use Rattle.rules.specs.Limits.{weight_of, option_open, ordering_open, M, K, D, clash, open_option_of, open_ordering_touching, weight_with_orderings, A, B, E}
use Rattle.rules.specs.laws.Tests.{and_l, and_r, or_l, or_r, or_e}
use Rattle.rules.specs.laws.Sums.{over2, over_none, over_one_is}
use Rattle.rules.specs.laws.BySlot.{ConsistentBySlot, AgreesBySlot, append}
use Rattle.rules.specs.laws.Forced.{keeps_kept, known_path, drops_dropped, drops_dropped_ordering}
use Rattle.rules.proofs.laws.Computed.{option_kept_out, known_before_out, option_dropped_out, ordering_dropped_out}
use Rattle.rules.specs.laws.Bounds.{Apart, Within, upper, lower}

abbrev pub never : ℕ → Bool
never i = false

module _ (v : Subscription) (d : DecidedBySlot) where
  -- ---- open is neither kept nor dropped
  pub open_option_not_kept : Apart (option_kept v d) (option_open v d)
  open_option_not_kept i a o = T_not (option_kept v d i || option_dropped v d i) o (or_l (option_kept v d i) _ a)

  pub open_option_not_dropped : Apart (option_dropped v d) (option_open v d)
  open_option_not_dropped i a o = T_not (option_kept v d i || option_dropped v d i) o (or_r (option_kept v d i) _ a)

  pub open_ordering_not_kept : Apart (ordering_kept v d) (ordering_open v d)
  open_ordering_not_kept u a o = T_not (ordering_kept v d u || ordering_dropped v d u) o (or_l (ordering_kept v d u) _ a)

  pub open_ordering_not_dropped : Apart (ordering_dropped v d) (ordering_open v d)
  open_ordering_not_dropped u a o = T_not (ordering_kept v d u || ordering_dropped v d u) o (or_r (ordering_kept v d u) _ a)

  -- ---- nothing is cut off in M − D − A: what is charged is open, so not in D
  module _ (p q : ℕ → Bool) (opens : Within p (option_open v d)) (opens_ordering : Within q (ordering_open v d)) where
    pub open_weight_fits : D v d + weight_of v p q ≤ M v d
    unfolding D M
    open_weight_fits =
        let a = fit v.option_count v.weight (option_dropped v d) p (λ i a b. open_option_not_dropped i a (opens i b)) in
        let b = fit v.ordering_count v.ordering_weight (ordering_dropped v d) q (λ u a b. open_ordering_not_dropped u a (opens_ordering u b)) in
        omega arith
      where
        fit : (n : ℕ) (w : ℕ → ℕ) (p q : ℕ → Bool) → Apart p q → over n w p + over n w q ≤ sum n w
        fit n w p q h = over2 n w p q (λ i. true) (λ i _. h i) (λ i _ _. tt) (λ i _ _. tt)

  pub A_fits : (i : ℕ) → D v d + A v d i ≤ M v d
  unfolding A
  A_fits i = open_weight_fits (open_option_of v d (clash v d i)) (open_ordering_touching v d (clash v d i)) (λ j h. and_l (option_open v d j) _ h) (λ u h. and_l (ordering_open v d u) _ h)

  pub B_fits : (i : ℕ) → T (option_open v d i) → D v d + B v d i ≤ M v d
  unfolding B
  B_fits i o = open_weight_fits (λ j. eqb i j) (λ u. ordering_open v d u && touches v u i) (λ j e. subst (λ z. T (option_open v d z)) (eqb→eq i j e) o) (λ u h. and_l (ordering_open v d u) _ h)

  pub E_fits : (u : ℕ) → D v d + E v d u ≤ M v d
  unfolding E
  E_fits u = open_weight_fits (open_option_of v d p) (open_ordering_touching v d p) (λ j h. and_l (option_open v d j) _ h) (λ w h. and_l (ordering_open v d w) _ h)
    where
      p : ℕ → Bool
      p j = clash v d (v.first u) j || clash v d (v.second u) j

  pub ordering_weight_fits : (u : ℕ) → u < v.ordering_count → T (ordering_open v d u) → D v d + v.ordering_weight u ≤ M v d
  ordering_weight_fits u l o =
      let h = open_weight_fits never (λ w. eqb u w) (λ i t. absurd t) (λ w e. subst (λ z. T (ordering_open v d z)) (eqb→eq u w e) o) in
      let e = over_one_is u v.ordering_count v.ordering_weight l in let f = over_none v.option_count v.weight in omega arith

  -- ---- the table, for one consistent relaxation that agrees
  module _ (c : KeptBySlot) (ok : ConsistentBySlot v c) (ag : AgreesBySlot d c) where
    drops : Apart c.option (option_dropped v d)
    drops i t h = drops_dropped v d c ok ag i (option_dropped_out v d i h) t

    drops_ordering : Apart c.ordering (ordering_dropped v d)
    drops_ordering u t h = drops_dropped_ordering v d c ok ag u (ordering_dropped_out v d u h) t

    keeps : Within (option_kept v d) c.option
    keeps i t = keeps_kept v d c ok ag i (option_kept_out v d i t)

    keeps_ordering : Within (ordering_kept v d) c.ordering
    unfolding ordering_kept
    keeps_ordering u t = ag.keeps_ordering u t

    -- Open items that c does not keep are missing, beside what is dropped.
    pub taken_off : (p q : ℕ → Bool) → Apart c.option p → Apart c.ordering q → Within p (option_open v d) → Within q (ordering_open v d)
        → value v c + D v d + weight_of v p q ≤ M v d
    unfolding D M
    taken_off p q np nq op oq = upper v c (option_dropped v d) (ordering_dropped v d) p q drops drops_ordering np nq
        (λ i a h. open_option_not_dropped i a (op i h)) (λ u a h. open_ordering_not_dropped u a (oq u h))

    -- Open items that c keeps are there, beside what is kept.
    added : (p q : ℕ → Bool) → Within p c.option → Within q c.ordering → Within p (option_open v d) → Within q (ordering_open v d) → K v d + weight_of v p q ≤ value v c
    unfolding K
    added p q yp yq op oq = lower v c (option_kept v d) (ordering_kept v d) p q keeps keeps_ordering yp yq
        (λ i k h. open_option_not_kept i k (op i h)) (λ u k h. open_ordering_not_kept u k (oq u h))

    -- Options none of which c keeps go with their orderings.
    taken_off_with_orderings : (p : ℕ → Bool) → Apart c.option p → value v c + D v d + weight_with_orderings v d p ≤ M v d
    taken_off_with_orderings p np = taken_off (open_option_of v d p) (open_ordering_touching v d p)
        (λ j t h. np j t (and_r (option_open v d j) _ h))
        (λ u t h. end u t (or_e (open_option_of v d p (v.first u)) _ (and_r (ordering_open v d u) _ h)))
        (λ j h. and_l (option_open v d j) _ h) (λ u h. and_l (ordering_open v d u) _ h)
      where
        end : (u : ℕ) → T (c.ordering u) → T (open_option_of v d p (v.first u)) ⊎ T (open_option_of v d p (v.second u)) → ⊥
        end u t (inl h) = np (v.first u) (ok.ends u t).0 (and_r (option_open v d (v.first u)) _ h)
        end u t (inr h) = np (v.second u) (ok.ends u t).1 (and_r (option_open v d (v.second u)) _ h)

    keeps_no_clash : (i j : ℕ) → T (c.option i) → T (c.option j) → T (clash v d i j) → ⊥
    unfolding clash
    keeps_no_clash i j a b t =
        let k = and_r (not (eqb i j)) _ t in
        ok.acyclic i (append (known_path v d c ok ag (known_before_out v d i j (and_l (known_before v d i j) _ k)) a b)
        (known_path v d c ok ag (known_before_out v d j i (and_r (known_before v d i j) _ k)) b a))

    pub whole_lower_holds : K v d ≤ value v c
    whole_lower_holds = let h = added never never (λ i t. absurd t) (λ u t. absurd t) (λ i t. absurd t) (λ u t. absurd t) in omega arith

    pub whole_upper_holds : value v c + D v d ≤ M v d
    whole_upper_holds = let h = taken_off never never (λ i k t. t) (λ u k t. t) (λ i t. absurd t) (λ u t. absurd t) in omega arith

    pub option_kept_lower_holds : (i : ℕ) → i < v.option_count → T (option_open v d i) → T (c.option i) → K v d + v.weight i ≤ value v c
    option_kept_lower_holds i l o t =
        let h = added (λ j. eqb i j) never (λ j e. subst (λ z. T (c.option z)) (eqb→eq i j e) t) (λ u h. absurd h)
        (λ j e. subst (λ z. T (option_open v d z)) (eqb→eq i j e) o) (λ u h. absurd h) in
        let e = over_one_is i v.option_count v.weight l in omega arith

    pub option_kept_upper_holds : (i : ℕ) → T (c.option i) → value v c + D v d + A v d i ≤ M v d
    unfolding A
    option_kept_upper_holds i t = taken_off_with_orderings (clash v d i) (λ j k h. keeps_no_clash i j t k h)

    pub option_dropped_upper_holds : (i : ℕ) → T (option_open v d i) → T (not (c.option i)) → value v c + D v d + B v d i ≤ M v d
    unfolding B
    option_dropped_upper_holds i o t = taken_off (λ j. eqb i j) (λ u. ordering_open v d u && touches v u i)
        (λ j k e. T_not (c.option i) t (subst (λ z. T (c.option z)) (sym (eqb→eq i j e)) k))
        (λ u k h. end u k (or_e (eqb (v.first u) i) _ (and_r (ordering_open v d u) _ h)))
        (λ j e. subst (λ z. T (option_open v d z)) (eqb→eq i j e) o) (λ u h. and_l (ordering_open v d u) _ h)
      where
        end : (u : ℕ) → T (c.ordering u) → T (eqb (v.first u) i) ⊎ T (eqb (v.second u) i) → ⊥
        end u k (inl e) = T_not (c.option i) t (subst (λ z. T (c.option z)) (eqb→eq _ i e) (ok.ends u k).0)
        end u k (inr e) = T_not (c.option i) t (subst (λ z. T (c.option z)) (eqb→eq _ i e) (ok.ends u k).1)

    pub ordering_kept_lower_holds : (w : ℕ) → w < v.ordering_count → T (ordering_open v d w) → T (c.ordering w)
        → K v d + v.ordering_weight w + over v.option_count v.weight (λ j. option_open v d j && touches v w j) ≤ value v c
    ordering_kept_lower_holds w l o t =
        let h = added (λ j. option_open v d j && touches v w j) (λ u. eqb w u)
        (λ j h. end j (or_e (eqb (v.first w) j) _ (and_r (option_open v d j) _ h)))
        (λ u e. subst (λ z. T (c.ordering z)) (eqb→eq w u e) t)
        (λ j h. and_l (option_open v d j) _ h) (λ u e. subst (λ z. T (ordering_open v d z)) (eqb→eq w u e) o) in
        let e = over_one_is w v.ordering_count v.ordering_weight l in omega arith
      where
        end : (j : ℕ) → T (eqb (v.first w) j) ⊎ T (eqb (v.second w) j) → T (c.option j)
        end j (inl e) = subst (λ z. T (c.option z)) (eqb→eq _ j e) (ok.ends w t).0
        end j (inr e) = subst (λ z. T (c.option z)) (eqb→eq _ j e) (ok.ends w t).1

    pub ordering_kept_upper_holds : (w : ℕ) → T (c.ordering w) → value v c + D v d + E v d w ≤ M v d
    unfolding E
    ordering_kept_upper_holds w t = taken_off_with_orderings (λ j. clash v d (v.first w) j || clash v d (v.second w) j) (λ j k h. at j k (or_e (clash v d (v.first w) j) _ h))
      where
        at : (j : ℕ) → T (c.option j) → T (clash v d (v.first w) j) ⊎ T (clash v d (v.second w) j) → ⊥
        at j k (inl h) = keeps_no_clash (v.first w) j (ok.ends w t).0 k h
        at j k (inr h) = keeps_no_clash (v.second w) j (ok.ends w t).1 k h

    pub ordering_dropped_upper_holds : (w : ℕ) → w < v.ordering_count → T (ordering_open v d w) → T (not (c.ordering w)) → value v c + D v d + v.ordering_weight w ≤ M v d
    ordering_dropped_upper_holds w l o t =
        let h = taken_off never (λ u. eqb w u) (λ i k h. h) (λ u k e. T_not (c.ordering w) t (subst (λ z. T (c.ordering z)) (sym (eqb→eq w u e)) k))
        (λ i h. absurd h) (λ u e. subst (λ z. T (ordering_open v d z)) (eqb→eq w u e) o) in
        let e = over_one_is w v.ordering_count v.ordering_weight l in omega arith
