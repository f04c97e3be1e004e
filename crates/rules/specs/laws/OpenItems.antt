-- An item that the rules do not drop may be kept, and one that they do not keep may be dropped: neither contradicts.
use Rattle.std.specs.Prelude.{◌≡◌, refl, Bool, not, ◌⊎◌, ℕ, T}
use Rattle.std.proofs.Common.{sym, subst, ap, ◌∙◌, inl, inr}
use Rattle.std.proofs.Math.Dec.{not_T}
use Rattle.rules.specs.Joined.{Joined, base, join}
use Rattle.rules.specs.Subscription.{Subscription}
use Rattle.rules.specs.Decisions.{Decision, is_kept, is_dropped, DecidedBySlot}
use Rattle.rules.specs.KnownBefore.{OrderingKept, OptionKept, KnownFromTheStart, KnownBefore}
use Rattle.rules.specs.Forced.{OptionDropped, OrderingDropped, NoContradiction}
use Rattle.rules.specs.laws.Joined.{one_more, weaken}
use Rattle.rules.specs.laws.BySlot.{AgreesBySlot}
use Rattle.rules.specs.laws.Forced.{no_contradiction, least, least_consistent, least_agrees}

-- From the decisions f to the decisions g no slot comes to pass a test, or only slot x does.
abbrev pub Stays : (Decision → Bool) → (ℕ → Decision) → (ℕ → Decision) → Type 0
Stays q f g = (j : ℕ) → T (q (g j)) → T (q (f j))

abbrev pub GrowsAt : ℕ → (Decision → Bool) → (ℕ → Decision) → (ℕ → Decision) → Type 0
GrowsAt x q f g = (j : ℕ) → T (q (g j)) → T (q (f j)) ⊎ (j ≡ x)

-- What has to be shown for `NoContradiction`: the rest follows.
pub no_contradiction_from : (v : Subscription) (d : DecidedBySlot)
    → ((i : ℕ) → OptionKept v d i → T (is_dropped (d.option i)) → ⊥)
    → ((i : ℕ) → OptionKept v d i → KnownBefore v d i i → ⊥)
    → ((u : ℕ) → OrderingKept v d u → T (is_dropped (d.ordering u)) → ⊥)
    → NoContradiction v d
no_contradiction_from v d not_given no_cycle not_given_ordering = record { option = option; ordering = ordering }
  where
    option : (i : ℕ) → OptionKept v d i → OptionDropped v d i → ⊥
    option i k (OptionDropped.given t) = not_given i k t
    option i k (OptionDropped.before_itself p) = no_cycle i k p
    option i k (OptionDropped.before_and_after_a_kept_option j m p q) = no_cycle i k (join p m q)

    ordering : (u : ℕ) → OrderingKept v d u → OrderingDropped v d u → ⊥
    ordering u k (OrderingDropped.given t) = not_given_ordering u k t
    ordering u k (OrderingDropped.first_dropped h) = option (v.first u) (OptionKept.first_of u k refl) h
    ordering u k (OrderingDropped.second_dropped h) = option (v.second u) (OptionKept.second_of u k refl) h
    ordering u k (OrderingDropped.known_the_other_way p) = no_cycle (v.first u) (OptionKept.first_of u k refl) (join (base (KnownFromTheStart.kept_ordering u k refl refl)) (OptionKept.second_of u k refl) p)

module _ (v : Subscription) (d g : DecidedBySlot) (fine : NoContradiction v d) where
  -- ---- g keeps one option more: a new cycle would go through it, and the rules would have dropped it
  module _ (x : ℕ) (not_dropped : OptionDropped v d x → ⊥) (kept_grows : GrowsAt x is_kept d.option g.option) (dropped_stays : Stays is_dropped d.option g.option)
      (orderings_kept : Stays is_kept d.ordering g.ordering) (orderings_dropped : Stays is_dropped d.ordering g.ordering) where
    kept : (j : ℕ) → OptionKept v g j → OptionKept v d j ⊎ (j ≡ x)
    kept j (OptionKept.given t) = from (kept_grows j t)
      where
        from : T (is_kept (d.option j)) ⊎ (j ≡ x) → OptionKept v d j ⊎ (j ≡ x)
        from (inl h) = inl (OptionKept.given h)
        from (inr e) = inr e
    kept j (OptionKept.first_of u t e) = inl (OptionKept.first_of u (orderings_kept u t) e)
    kept j (OptionKept.second_of u t e) = inl (OptionKept.second_of u (orderings_kept u t) e)

    from_the_start : (i j : ℕ) → KnownFromTheStart v g i j → KnownFromTheStart v d i j
    from_the_start i j (KnownFromTheStart.catalogue t) = KnownFromTheStart.catalogue t
    from_the_start i j (KnownFromTheStart.kept_ordering u t e f) = KnownFromTheStart.kept_ordering u (orderings_kept u t) e f

    pub keep_option : NoContradiction v g
    keep_option = no_contradiction_from v g
        (λ i k t. not_given i (kept i k) (dropped_stays i t))
        (λ i k p. no_cycle i (kept i k) (one_more x kept (weaken from_the_start (λ j m. m) p)))
        (λ u k t. fine.ordering u (orderings_kept u k) (OrderingDropped.given (orderings_dropped u t)))
      where
        not_given : (i : ℕ) → OptionKept v d i ⊎ (i ≡ x) → T (is_dropped (d.option i)) → ⊥
        not_given i (inl k) t = fine.option i k (OptionDropped.given t)
        not_given i (inr e) t = not_dropped (OptionDropped.given (subst (λ z. T (is_dropped (d.option z))) e t))

        no_cycle : (i : ℕ) → OptionKept v d i ⊎ (i ≡ x) → KnownBefore v d i i ⊎ (KnownBefore v d i x × KnownBefore v d x i) → ⊥
        no_cycle i (inl k) (inl p) = fine.option i k (OptionDropped.before_itself p)
        no_cycle i (inl k) (inr p) = not_dropped (OptionDropped.before_and_after_a_kept_option i k p.1 p.0)
        no_cycle i (inr e) (inl p) = not_dropped (OptionDropped.before_itself (subst (λ z. KnownBefore v d z z) e p))
        no_cycle i (inr e) (inr p) = not_dropped (OptionDropped.before_itself (subst (λ z. KnownBefore v d z x) e p.0))

  -- ---- g drops one item more: keeping only what is kept still agrees
  module _ (keeps : ℕ → Bool) (keeps_out : (i : ℕ) → T (keeps i) → OptionKept v d i) (keeps_in : (i : ℕ) → OptionKept v d i → T (keeps i)) where
    agrees : AgreesBySlot d (least v d keeps keeps_out keeps_in fine)
    agrees = least_agrees v d keeps keeps_out keeps_in fine

    pub drop_option : (x : ℕ) → (OptionKept v d x → ⊥) → Stays is_kept d.option g.option → GrowsAt x is_dropped d.option g.option
        → Stays is_kept d.ordering g.ordering → Stays is_dropped d.ordering g.ordering → NoContradiction v g
    drop_option x not_kept ks ds ks' ds' = no_contradiction v g (least v d keeps keeps_out keeps_in fine) (least_consistent v d keeps keeps_out keeps_in fine) (record {
      keeps_option = λ i t. agrees.keeps_option i (ks i t);
      drops_option = λ i t. from i (ds i t);
      keeps_ordering = λ u t. agrees.keeps_ordering u (ks' u t);
      drops_ordering = λ u t. agrees.drops_ordering u (ds' u t);
    })
      where
        from : (i : ℕ) → T (is_dropped (d.option i)) ⊎ (i ≡ x) → T (not (keeps i))
        from i (inl t) = agrees.drops_option i t
        from i (inr e) = not_T (keeps i) (λ k. not_kept (subst (OptionKept v d) e (keeps_out i k)))

    pub drop_ordering : (w : ℕ) → (OrderingKept v d w → ⊥) → Stays is_kept d.option g.option → Stays is_dropped d.option g.option
        → Stays is_kept d.ordering g.ordering → GrowsAt w is_dropped d.ordering g.ordering → NoContradiction v g
    drop_ordering w not_kept ks ds ks' ds' = no_contradiction v g (least v d keeps keeps_out keeps_in fine) (least_consistent v d keeps keeps_out keeps_in fine) (record {
      keeps_option = λ i t. agrees.keeps_option i (ks i t);
      drops_option = λ i t. agrees.drops_option i (ds i t);
      keeps_ordering = λ u t. agrees.keeps_ordering u (ks' u t);
      drops_ordering = λ u t. from u (ds' u t);
    })
      where
        from : (u : ℕ) → T (is_dropped (d.ordering u)) ⊎ (u ≡ w) → T (not (is_kept (d.ordering u)))
        from u (inl t) = agrees.drops_ordering u t
        from u (inr e) = not_T (is_kept (d.ordering u)) (λ k. not_kept (subst (λ z. T (is_kept (d.ordering z))) e k))

-- ---- one ordering more kept: its two options become middles, and it becomes an edge
data OrOne (K : ℕ → Type 0) (x : ℕ) (j : ℕ) : Type 0 where
  old : K j → OrOne K x j
  new : j ≡ x → OrOne K x j

data OrEdge (B : ℕ → ℕ → Type 0) (x y : ℕ) (i j : ℕ) : Type 0 where
  old : B i j → OrEdge B x y i j
  new : i ≡ x → j ≡ y → OrEdge B x y i j

or_one_cases : {K : ℕ → Type 0} (x j : ℕ) → OrOne K x j → K j ⊎ (j ≡ x)
or_one_cases x j (OrOne.old k) = inl k
or_one_cases x j (OrOne.new e) = inr e

-- Joined with one more edge, from x to y, is joined, or joined (or equal) to x and from y.
one_more_edge : {B : ℕ → ℕ → Type 0} {K : ℕ → Type 0} (x y : ℕ) {i j : ℕ} → Joined (OrEdge B x y) K i j
    → Joined B K i j ⊎ (((i ≡ x) ⊎ Joined B K i x) × ((y ≡ j) ⊎ Joined B K y j))
one_more_edge x y (base (OrEdge.old b)) = inl (base b)
one_more_edge x y (base (OrEdge.new e f)) = inr (inl e, inl (sym f))
one_more_edge {B} {K} x y (join {i = i} {j = m} {k = j} p t q) = mix (one_more_edge x y p) (one_more_edge x y q)
  where
    J : ℕ → ℕ → Type 0
    J = Joined B K

    to : J i m → (m ≡ x) ⊎ J m x → (i ≡ x) ⊎ J i x
    to a (inl e) = inr (subst (J i) e a)
    to a (inr b) = inr (join a t b)

    from : (y ≡ m) ⊎ J y m → J m j → (y ≡ j) ⊎ J y j
    from (inl e) b = inr (subst (λ z. J z j) (sym e) b)
    from (inr a) b = inr (join a t b)

    mix : J i m ⊎ (((i ≡ x) ⊎ J i x) × ((y ≡ m) ⊎ J y m)) → J m j ⊎ (((m ≡ x) ⊎ J m x) × ((y ≡ j) ⊎ J y j)) → J i j ⊎ (((i ≡ x) ⊎ J i x) × ((y ≡ j) ⊎ J y j))
    mix (inl a) (inl b) = inl (join a t b)
    mix (inl a) (inr b) = inr (to a b.0, b.1)
    mix (inr a) (inl b) = inr (a.0, from a.1 b)
    mix (inr a) (inr b) = inr (a.0, b.1)

module _ (v : Subscription) (d g : DecidedBySlot) (fine : NoContradiction v d) (w : ℕ) (not_dropped : OrderingDropped v d w → ⊥) (ends_differ : v.first w ≡ v.second w → ⊥)
    (options_kept : Stays is_kept d.option g.option) (options_dropped : Stays is_dropped d.option g.option)
    (kept_grows : GrowsAt w is_kept d.ordering g.ordering) (dropped_stays : Stays is_dropped d.ordering g.ordering) where
  abbrev x : ℕ
  x = v.first w

  abbrev y : ℕ
  y = v.second w

  -- with x as one more middle, then with y too
  abbrev WithFirst : ℕ → Type 0
  WithFirst = OrOne (OptionKept v d) x

  abbrev WithBoth : ℕ → Type 0
  WithBoth = OrOne WithFirst y

  abbrev J : ℕ → ℕ → Type 0
  J = KnownBefore v d

  abbrev J_first : ℕ → ℕ → Type 0
  J_first = Joined (KnownFromTheStart v d) WithFirst

  abbrev J_both : ℕ → ℕ → Type 0
  J_both = Joined (KnownFromTheStart v d) WithBoth

  without_first : {i j : ℕ} → J_first i j → J i j ⊎ (J i x × J x j)
  without_first = one_more x (or_one_cases x)

  without_second : {i j : ℕ} → J_both i j → J_first i j ⊎ (J_first i y × J_first y j)
  without_second = one_more y (or_one_cases y)

  -- y is not known before x, and neither before itself, whatever middles are added
  not_back : J y x → ⊥
  not_back p = not_dropped (OrderingDropped.known_the_other_way p)

  not_back_first : J_first y x → ⊥
  not_back_first p = go (without_first p)
    where
      go : J y x ⊎ (J y x × J x x) → ⊥
      go (inl q) = not_back q
      go (inr q) = not_back q.0

  not_back_both : J_both y x → ⊥
  not_back_both p = go (without_second p)
    where
      go : J_first y x ⊎ (J_first y y × J_first y x) → ⊥
      go (inl q) = not_back_first q
      go (inr q) = not_back_first q.1

  second_not_round : J_first y y → ⊥
  second_not_round p = go (without_first p)
    where
      go : J y y ⊎ (J y x × J x y) → ⊥
      go (inl q) = not_dropped (OrderingDropped.second_dropped (OptionDropped.before_itself q))
      go (inr q) = not_back q.0

  first_not_round : J_first x x → ⊥
  first_not_round p = go (without_first p)
    where
      go : J x x ⊎ (J x x × J x x) → ⊥
      go (inl q) = not_dropped (OrderingDropped.first_dropped (OptionDropped.before_itself q))
      go (inr q) = not_dropped (OrderingDropped.first_dropped (OptionDropped.before_itself q.0))

  none_round_first : (i : ℕ) → WithFirst i → J_first i i → ⊥
  none_round_first i (OrOne.new e) p = first_not_round (subst (λ z. J_first z z) e p)
  none_round_first i (OrOne.old k) p = go (without_first p)
    where
      go : J i i ⊎ (J i x × J x i) → ⊥
      go (inl q) = fine.option i k (OptionDropped.before_itself q)
      go (inr q) = not_dropped (OrderingDropped.first_dropped (OptionDropped.before_and_after_a_kept_option i k q.1 q.0))

  none_round_both : (i : ℕ) → WithBoth i → J_both i i → ⊥
  none_round_both i k p = go k (without_second p)
    where
      go : WithBoth i → J_first i i ⊎ (J_first i y × J_first y i) → ⊥
      go (OrOne.old k) (inl q) = none_round_first i k q
      go (OrOne.old k) (inr q) = second_not_round (join q.1 k q.0)
      go (OrOne.new e) (inl q) = second_not_round (subst (λ z. J_first z z) e q)
      go (OrOne.new e) (inr q) = second_not_round (subst (λ z. J_first z y) e q.0)

  -- what g adds
  kept_in_both : (j : ℕ) → OptionKept v g j → WithBoth j
  kept_in_both j (OptionKept.given t) = OrOne.old (OrOne.old (OptionKept.given (options_kept j t)))
  kept_in_both j (OptionKept.first_of u t e) = go (kept_grows u t)
    where
      go : OrderingKept v d u ⊎ (u ≡ w) → WithBoth j
      go (inl h) = OrOne.old (OrOne.old (OptionKept.first_of u h e))
      go (inr f) = OrOne.old (OrOne.new (sym e ∙ ap v.first f))
  kept_in_both j (OptionKept.second_of u t e) = go (kept_grows u t)
    where
      go : OrderingKept v d u ⊎ (u ≡ w) → WithBoth j
      go (inl h) = OrOne.old (OrOne.old (OptionKept.second_of u h e))
      go (inr f) = OrOne.new (sym e ∙ ap v.second f)

  one_edge_more : (i j : ℕ) → KnownFromTheStart v g i j → OrEdge (KnownFromTheStart v d) x y i j
  one_edge_more i j (KnownFromTheStart.catalogue t) = OrEdge.old (KnownFromTheStart.catalogue t)
  one_edge_more i j (KnownFromTheStart.kept_ordering u t e f) = go (kept_grows u t)
    where
      go : OrderingKept v d u ⊎ (u ≡ w) → OrEdge (KnownFromTheStart v d) x y i j
      go (inl h) = OrEdge.old (KnownFromTheStart.kept_ordering u h e f)
      go (inr q) = OrEdge.new (sym e ∙ ap v.first q) (sym f ∙ ap v.second q)

  none_round : (i : ℕ) → WithBoth i → KnownBefore v g i i → ⊥
  none_round i k p = go (one_more_edge x y (weaken one_edge_more kept_in_both p))
    where
      back : (i ≡ x) ⊎ J_both i x → (y ≡ i) ⊎ J_both y i → ⊥
      back (inl e) (inl f) = ends_differ (sym (f ∙ e))
      back (inl e) (inr q) = not_back_both (subst (J_both y) e q)
      back (inr q) (inl f) = not_back_both (subst (λ z. J_both z x) (sym f) q)
      back (inr q) (inr r) = not_back_both (join r k q)

      go : J_both i i ⊎ (((i ≡ x) ⊎ J_both i x) × ((y ≡ i) ⊎ J_both y i)) → ⊥
      go (inl q) = none_round_both i k q
      go (inr q) = back q.0 q.1

  not_given : (i : ℕ) → WithBoth i → T (is_dropped (d.option i)) → ⊥
  not_given i (OrOne.old (OrOne.old k)) t = fine.option i k (OptionDropped.given t)
  not_given i (OrOne.old (OrOne.new e)) t = not_dropped (OrderingDropped.first_dropped (OptionDropped.given (subst (λ z. T (is_dropped (d.option z))) e t)))
  not_given i (OrOne.new e) t = not_dropped (OrderingDropped.second_dropped (OptionDropped.given (subst (λ z. T (is_dropped (d.option z))) e t)))

  pub keep_ordering : NoContradiction v g
  keep_ordering = no_contradiction_from v g (λ i k t. not_given i (kept_in_both i k) (options_dropped i t)) (λ i k p. none_round i (kept_in_both i k) p)
      (λ u k t. ordering u (kept_grows u k) (dropped_stays u t))
    where
      ordering : (u : ℕ) → OrderingKept v d u ⊎ (u ≡ w) → T (is_dropped (d.ordering u)) → ⊥
      ordering u (inl k) t = fine.ordering u k (OrderingDropped.given t)
      ordering u (inr e) t = not_dropped (OrderingDropped.given (subst (λ z. T (is_dropped (d.ordering z))) e t))
