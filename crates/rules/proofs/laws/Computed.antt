-- The computed forms of kept, known before, dropped and contradiction say exactly what 01's rules say.
use Rattle.std.proofs.Common.{subst, inl, inr, eqb→eq}
use Rattle.std.specs.Prelude.{not, ◌&&◌, ◌||◌, ◌⊎◌, ℕ, ◌<◌, eqb}
use Rattle.std.proofs.Math.Dec.{T, T_not, not_T, eqb_refl}
use Rattle.rules.specs.Slots.{some_below, slots}
use Rattle.rules.specs.Joined.{join}
use Rattle.rules.specs.Subscription.{Subscription}
use Rattle.rules.specs.Decisions.{DecidedBySlot, is_kept, is_dropped}
use Rattle.rules.specs.KnownBefore.{OptionKept, KnownFromTheStart, KnownBefore, puts_first, touches, ordering_kept, option_kept, known_from_the_start, known_before}
use Rattle.rules.specs.Forced.{OptionDropped, OrderingDropped, NoContradiction, option_dropped, ordering_dropped, contradiction}
use Rattle.rules.specs.laws.Tests.{and_l, and_r, and_i, or_l, or_r, or_e}
use Rattle.rules.specs.laws.Slots.{some_in, some_out, slots_in, slots_out}
use Rattle.rules.specs.laws.Joined.{weaken, through_sound, through_complete}
use Rattle.rules.specs.laws.BySlot.{OnTheSheet}

module _ (v : Subscription) (d : DecidedBySlot) where
  pub option_kept_out : (i : ℕ) → T (option_kept v d i) → OptionKept v d i
  unfolding option_kept ordering_kept
  option_kept_out i t = go (or_e (is_kept (d.option i)) _ t)
    where
      at : (u : ℕ) → T (is_kept (d.ordering u)) → T (eqb (v.first u) i) ⊎ T (eqb (v.second u) i) → OptionKept v d i
      at u k (inl e) = OptionKept.first_of u k (eqb→eq _ _ e)
      at u k (inr e) = OptionKept.second_of u k (eqb→eq _ _ e)

      go : T (is_kept (d.option i)) ⊎ T (some_below v.ordering_count (λ u. is_kept (d.ordering u) && touches v u i)) → OptionKept v d i
      go (inl k) = OptionKept.given k
      go (inr s) = let (u, l, w) = some_out v.ordering_count _ s in
          at u (and_l (is_kept (d.ordering u)) _ w) (or_e (eqb (v.first u) i) _ (and_r (is_kept (d.ordering u)) _ w))

  pub known_from_the_start_out : (i j : ℕ) → T (known_from_the_start v d i j) → KnownFromTheStart v d i j
  unfolding known_from_the_start ordering_kept
  known_from_the_start_out i j t = go (or_e (v.before i j) _ t)
    where
      go : T (v.before i j) ⊎ T (some_below v.ordering_count (λ u. is_kept (d.ordering u) && puts_first v u i j)) → KnownFromTheStart v d i j
      go (inl k) = KnownFromTheStart.catalogue k
      go (inr s) = let (u, l, w) = some_out v.ordering_count _ s in
          let a = and_r (is_kept (d.ordering u)) _ w in
          KnownFromTheStart.kept_ordering u (and_l (is_kept (d.ordering u)) _ w) (eqb→eq _ _ (and_l (eqb (v.first u) i) _ a)) (eqb→eq _ _ (and_r (eqb (v.first u) i) _ a))

  pub known_before_out : (i j : ℕ) → T (known_before v d i j) → KnownBefore v d i j
  unfolding known_before
  known_before_out i j t = weaken known_from_the_start_out (λ c m. option_kept_out c (slots_out v.option_count (option_kept v d) c m).1) (through_sound (known_from_the_start v d) (slots v.option_count (option_kept v d)) i j t)

  pub option_dropped_out : (i : ℕ) → T (option_dropped v d i) → OptionDropped v d i
  unfolding option_dropped
  option_dropped_out i t = go (or_e (is_dropped (d.option i)) _ t)
    where
      round : T (some_below v.option_count (λ j. option_kept v d j && (known_before v d i j && known_before v d j i))) → OptionDropped v d i
      round s = let (j, l, w) = some_out v.option_count _ s in
          let a = and_r (option_kept v d j) _ w in
          OptionDropped.before_and_after_a_kept_option j (option_kept_out j (and_l (option_kept v d j) _ w)) (known_before_out i j (and_l (known_before v d i j) _ a)) (known_before_out j i (and_r (known_before v d i j) _ a))

      go₂ : T (known_before v d i i) ⊎ T (some_below v.option_count (λ j. option_kept v d j && (known_before v d i j && known_before v d j i))) → OptionDropped v d i
      go₂ (inl k) = OptionDropped.before_itself (known_before_out i i k)
      go₂ (inr s) = round s

      go : T (is_dropped (d.option i)) ⊎ T (known_before v d i i || some_below v.option_count (λ j. option_kept v d j && (known_before v d i j && known_before v d j i))) → OptionDropped v d i
      go (inl k) = OptionDropped.given k
      go (inr s) = go₂ (or_e (known_before v d i i) _ s)

  pub ordering_dropped_out : (u : ℕ) → T (ordering_dropped v d u) → OrderingDropped v d u
  unfolding ordering_dropped
  ordering_dropped_out u t = g₁ (or_e (is_dropped (d.ordering u)) _ t)
    where
      g₃ : T (option_dropped v d (v.second u)) ⊎ T (known_before v d (v.second u) (v.first u)) → OrderingDropped v d u
      g₃ (inl s) = OrderingDropped.second_dropped (option_dropped_out _ s)
      g₃ (inr s) = OrderingDropped.known_the_other_way (known_before_out _ _ s)

      g₂ : T (option_dropped v d (v.first u)) ⊎ T (option_dropped v d (v.second u) || known_before v d (v.second u) (v.first u)) → OrderingDropped v d u
      g₂ (inl s) = OrderingDropped.first_dropped (option_dropped_out _ s)
      g₂ (inr s) = g₃ (or_e (option_dropped v d (v.second u)) _ s)

      g₁ : T (is_dropped (d.ordering u)) ⊎ T (option_dropped v d (v.first u) || (option_dropped v d (v.second u) || known_before v d (v.second u) (v.first u))) → OrderingDropped v d u
      g₁ (inl s) = OrderingDropped.given s
      g₁ (inr s) = g₂ (or_e (option_dropped v d (v.first u)) _ s)

  -- and back
  module _ (fit : OnTheSheet v d) where
    pub option_kept_in : (i : ℕ) → OptionKept v d i → T (option_kept v d i)
    unfolding option_kept ordering_kept
    option_kept_in i (OptionKept.given t) = or_l (is_kept (d.option i)) _ t
    option_kept_in i (OptionKept.first_of u t e) = or_r (is_kept (d.option i)) _ (some_in v.ordering_count _ u (fit.ordering u t)
        (and_i (is_kept (d.ordering u)) _ t (or_l (eqb (v.first u) i) _ (subst (λ z. T (eqb (v.first u) z)) e (eqb_refl (v.first u))))))
    option_kept_in i (OptionKept.second_of u t e) = or_r (is_kept (d.option i)) _ (some_in v.ordering_count _ u (fit.ordering u t)
        (and_i (is_kept (d.ordering u)) _ t (or_r (eqb (v.first u) i) _ (subst (λ z. T (eqb (v.second u) z)) e (eqb_refl (v.second u))))))

    pub option_kept_bound : (i : ℕ) → OptionKept v d i → i < v.option_count
    option_kept_bound i (OptionKept.given t) = fit.option i t
    option_kept_bound i (OptionKept.first_of u t e) = subst (λ z. z < v.option_count) e (fit.first u (fit.ordering u t))
    option_kept_bound i (OptionKept.second_of u t e) = subst (λ z. z < v.option_count) e (fit.second u (fit.ordering u t))

    pub known_from_the_start_in : (i j : ℕ) → KnownFromTheStart v d i j → T (known_from_the_start v d i j)
    unfolding known_from_the_start ordering_kept
    known_from_the_start_in i j (KnownFromTheStart.catalogue t) = or_l (v.before i j) _ t
    known_from_the_start_in i j (KnownFromTheStart.kept_ordering u t e f) = or_r (v.before i j) _ (some_in v.ordering_count _ u (fit.ordering u t)
        (and_i (is_kept (d.ordering u)) _ t (and_i (eqb (v.first u) i) _ (subst (λ z. T (eqb (v.first u) z)) e (eqb_refl (v.first u))) (subst (λ z. T (eqb (v.second u) z)) f (eqb_refl (v.second u))))))

    pub known_before_in : (i j : ℕ) → KnownBefore v d i j → T (known_before v d i j)
    unfolding known_before
    known_before_in i j p = through_complete (known_from_the_start v d) (slots v.option_count (option_kept v d)) (weaken known_from_the_start_in (λ c k. slots_in v.option_count (option_kept v d) c (option_kept_bound c k) (option_kept_in c k)) p)

    pub option_dropped_in : (i : ℕ) → OptionDropped v d i → T (option_dropped v d i)
    unfolding option_dropped
    option_dropped_in i (OptionDropped.given t) = or_l (is_dropped (d.option i)) _ t
    option_dropped_in i (OptionDropped.before_itself p) = or_r (is_dropped (d.option i)) _ (or_l (known_before v d i i) _ (known_before_in i i p))
    option_dropped_in i (OptionDropped.before_and_after_a_kept_option j m p q) = or_r (is_dropped (d.option i)) _ (or_l (known_before v d i i) _ (known_before_in i i (join p m q)))

    pub ordering_dropped_in : (u : ℕ) → OrderingDropped v d u → T (ordering_dropped v d u)
    unfolding ordering_dropped
    ordering_dropped_in u (OrderingDropped.given t) = or_l (is_dropped (d.ordering u)) _ t
    ordering_dropped_in u (OrderingDropped.first_dropped h) = or_r (is_dropped (d.ordering u)) _ (or_l (option_dropped v d (v.first u)) _ (option_dropped_in _ h))
    ordering_dropped_in u (OrderingDropped.second_dropped h) = or_r (is_dropped (d.ordering u)) _ (or_r (option_dropped v d (v.first u)) _ (or_l (option_dropped v d (v.second u)) _ (option_dropped_in _ h)))
    ordering_dropped_in u (OrderingDropped.known_the_other_way p) = or_r (is_dropped (d.ordering u)) _ (or_r (option_dropped v d (v.first u)) _ (or_r (option_dropped v d (v.second u)) _ (known_before_in _ _ p)))

    -- no contradiction is computed exactly if the rules give none
    pub no_contradiction_out : T (not (contradiction v d)) → NoContradiction v d
    unfolding contradiction ordering_kept
    no_contradiction_out t = record {
      option = λ i k h. T_not (contradiction v d) t (or_l (some_below v.option_count (λ i. option_kept v d i && option_dropped v d i)) _ (some_in v.option_count _ i (option_kept_bound i k) (and_i (option_kept v d i) _ (option_kept_in i k) (option_dropped_in i h))));
      ordering = λ u k h. T_not (contradiction v d) t (or_r (some_below v.option_count (λ i. option_kept v d i && option_dropped v d i)) _ (some_in v.ordering_count _ u (fit.ordering u k) (and_i (is_kept (d.ordering u)) _ k (ordering_dropped_in u h))));
    }

  pub no_contradiction_in : NoContradiction v d → T (not (contradiction v d))
  unfolding contradiction ordering_kept
  no_contradiction_in s = not_T (contradiction v d) (λ t. go (or_e (some_below v.option_count (λ i. option_kept v d i && option_dropped v d i)) _ t))
    where
      go : T (some_below v.option_count (λ i. option_kept v d i && option_dropped v d i)) ⊎ T (some_below v.ordering_count (λ u. is_kept (d.ordering u) && ordering_dropped v d u)) → ⊥
      go (inl h) = let (i, l, w) = some_out v.option_count _ h in s.option i (option_kept_out i (and_l (option_kept v d i) _ w)) (option_dropped_out i (and_r (option_kept v d i) _ w))
      go (inr h) = let (u, l, w) = some_out v.ordering_count _ h in s.ordering u (and_l (is_kept (d.ordering u)) _ w) (ordering_dropped_out u (and_r (is_kept (d.ordering u)) _ w))
