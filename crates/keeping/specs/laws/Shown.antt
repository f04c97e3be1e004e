-- The sets that the search carries show its decision list, before and after forcing and with one item more decided.
use Rattle.std.specs.Prelude.{◌≡◌, Bool, not, ◌&&◌, ◌||◌, cond, List, ◌∷◌, ◌++◌, take, drop, eqb}
use Rattle.std.proofs.Math.Path.{refl, sym, subst, ap}
use Rattle.std.proofs.Common.{◌∙◌, take_at, drop_at, eqb→eq}
use Rattle.std.proofs.Math.Bool.{true, false}
use Prim.Native.Nat.{ℕ, zero, suc, ◌+◌, ◌-◌, ◌≤◌, ◌<◌}
use native.Mathlib.Omega.{arith}
use borrow.Author.Tests.{ltb-true, ltb-false}
use Rattle.std.proofs.Math.ListN.{length, get_or, set, length-append, get_or-eq_default}
use Rattle.std.proofs.Math.Dec.{T, ltb}
use Rattle.rules.specs.Slots.{list_of}
use Rattle.rules.specs.Lines.{Lines}
use Rattle.rules.specs.Subscription.{subscription, items}
use Rattle.rules.specs.Decisions.{Decision, Open, Kept, Dropped, is_open, is_kept, is_dropped, decided_by_slot, open_items}
use Rattle.rules.specs.Forced.{decision_of, forced_option, forced_ordering, forced}
use Rattle.rules.specs.laws.Slots.{length_list_of, getD_list_of, list_of_same}
use Rattle.rules.specs.laws.TwoLists.{changed_at, getD_first, getD_second, set_first, set_second}
use Rattle.rules.specs.laws.OpenLists.{none_open_in, none_open_alone}
use Rattle.rules.specs.laws.Decisions.{just_the_kept}
use Rattle.rows.specs.Bits.{has, with}
use Rattle.rows.specs.Sets.{Holds}
use Rattle.rows.specs.laws.Bits.{has_with_slot}
use Rattle.rows.specs.laws.Sets.{holds_at}
use Rattle.graph.specs.Shown.{counted}
use Rattle.given.specs.Given.{Gives}
use Rattle.forced.specs.Forced.{ForcedAs, ForcedBy}
use Rattle.given.specs.declared.sets.Given.{Given}
use Rattle.forced.specs.declared.forcing.Forced.{Forced}
use Rattle.chart.specs.Chart.{BySlot, ShowsSheet}
use Rattle.keeping.specs.Sets.{decisions_of, chosen_list, Apart, OpenItem, place, sets_of, with_option_kept, with_option_dropped, with_ordering_kept, with_ordering_dropped, with_item_kept, with_item_dropped}

not_has : (b : Bool) → (T b → ⊥) → b ≡ false
not_has true k = absurd (k tt)
not_has false k = refl

-- ---- the list by slot
module _ (s : Lines) (n m : ℕ) (en : length s.options ≡ n) (em : length s.orderings ≡ m) (p q : ℕ → Decision) where
  pub size_of : length (list_of n p ++ list_of m q) ≡ items s
  size_of = length-append (list_of n p) (list_of m q) ∙ let x = length_list_of n p in let y = length_list_of m q in omega arith

  options_of : take (length s.options) (list_of n p ++ list_of m q) ≡ list_of n p
  options_of = take_at (list_of n p) (list_of m q) (length s.options) (length_list_of n p ∙ sym en)

  orderings_of : drop (length s.options) (list_of n p ++ list_of m q) ≡ list_of m q
  orderings_of = drop_at (list_of n p) (list_of m q) (length s.options) (length_list_of n p ∙ sym en)

  option_at : (i : ℕ) → i < n → (decided_by_slot s (list_of n p ++ list_of m q)).option i ≡ p i
  unfolding decided_by_slot
  option_at i l = ap (λ z. get_or z i Open) options_of ∙ getD_list_of n p Open i l

  option_past : (i : ℕ) → n ≤ i → (decided_by_slot s (list_of n p ++ list_of m q)).option i ≡ Open
  unfolding decided_by_slot
  option_past i l = ap (λ z. get_or z i Open) options_of ∙ get_or-eq_default (list_of n p) Open (let x = length_list_of n p in omega arith)

  ordering_at : (u : ℕ) → u < m → (decided_by_slot s (list_of n p ++ list_of m q)).ordering u ≡ q u
  unfolding decided_by_slot
  ordering_at u l = ap (λ z. get_or z u Open) orderings_of ∙ getD_list_of m q Open u l

-- ---- what sets of kept and dropped slots say of a list
kept_of_two : (a b : Bool) → is_kept (decision_of a b) ≡ a
kept_of_two true b = refl
kept_of_two false true = refl
kept_of_two false false = refl

dropped_of_two : (a b : Bool) → (T a → T b → ⊥) → is_dropped (decision_of a b) ≡ b
dropped_of_two true true k = absurd (k tt tt)
dropped_of_two true false k = refl
dropped_of_two false true k = refl
dropped_of_two false false k = refl

holds_from : (row n : ℕ) (p : ℕ → Bool) → ((i : ℕ) → T (has row i) → i < n) → ((i : ℕ) → i < n → has row i ≡ p i) → Holds row n p
holds_from row n p below same = record { at = λ j. go j (ltb j n) refl }
  where
    go : (j : ℕ) (b : Bool) → ltb j n ≡ b → has row j ≡ (ltb j n && p j)
    go j true e = rw e (same j (ltb-true j n e))
    go j false e = rw e (not_has (has row j) (λ t. let x = below j t in let y = ltb-false j n e in absurd (omega arith)))

pub counted_is : (s : Lines) (n m : ℕ) → length s.options ≡ n → length s.orderings ≡ m → counted n m (subscription s) ≡ subscription s
unfolding subscription
counted_is s n m en em = λ i. record {
  option_count = sym en i;
  ordering_count = sym em i;
  number = (subscription s).number;
  weight = (subscription s).weight;
  first = (subscription s).first;
  second = (subscription s).second;
  ordering_weight = (subscription s).ordering_weight;
  before = (subscription s).before;
}

-- ---- one item more
-- A set with one slot more, beside another.
with_kept : (i j : ℕ) (a b : Bool) → decision_of (a || eqb i j) b ≡ cond (eqb i j) Kept (decision_of a b)
with_kept i j a b = go (eqb i j) a
  where
    go : (c a : Bool) → decision_of (a || c) b ≡ cond c Kept (decision_of a b)
    go true true = refl
    go true false = refl
    go false true = refl
    go false false = refl

with_dropped : (i j : ℕ) (a b : Bool) → (T (eqb i j) → T a → ⊥) → decision_of a (b || eqb i j) ≡ cond (eqb i j) Dropped (decision_of a b)
with_dropped i j a b k = go (eqb i j) a b k
  where
    go : (c a b : Bool) → (T c → T a → ⊥) → decision_of a (b || c) ≡ cond c Dropped (decision_of a b)
    go true true b k = absurd (k tt tt)
    go true false true k = refl
    go true false false k = refl
    go false true b k = refl
    go false false true k = refl
    go false false false k = refl

-- One slot more in a set of kept slots, or of dropped ones, changes the list there.
kept_changes : (k kept dropped i : ℕ) → list_of k (changed_at i Kept (λ j. decision_of (has kept j) (has dropped j))) ≡ list_of k (λ j. decision_of (has (with kept i) j) (has dropped j))
kept_changes k kept dropped i = list_of_same k _ _ (λ j l. sym (ap (λ x. decision_of x (has dropped j)) (has_with_slot kept i j) ∙ with_kept i j (has kept j) (has dropped j)))

dropped_changes : (k kept dropped i : ℕ) → has kept i ≡ false → list_of k (changed_at i Dropped (λ j. decision_of (has kept j) (has dropped j))) ≡ list_of k (λ j. decision_of (has kept j) (has (with dropped i) j))
dropped_changes k kept dropped i e = list_of_same k _ _ (λ j l. sym (ap (λ x. decision_of (has kept j) x) (has_with_slot dropped i j)
    ∙ with_dropped i j (has kept j) (has dropped j) (λ q t. subst T (ap (has kept) (sym (eqb→eq i j q)) ∙ e) t)))

module _ (chart : BySlot) where
  abbrev n : ℕ
  n = chart.option_count

  abbrev m : ℕ
  m = chart.ordering_count

  module _ (s : Lines) (en : length s.options ≡ n) (em : length s.orderings ≡ m) (g : Given) (ap_g : Apart chart g) where
    pub gives_of : Gives (decided_by_slot s (decisions_of chart g)) n m g
    unfolding decisions_of
    gives_of = record {
      kept = holds_from g.kept n _ ap_g.kept (λ i l. sym (ap is_kept (option_at s n m en em p q i l) ∙ kept_of_two (has g.kept i) (has g.dropped i)));
      dropped = holds_from g.dropped n _ ap_g.dropped (λ i l. sym (ap is_dropped (option_at s n m en em p q i l) ∙ dropped_of_two (has g.kept i) (has g.dropped i) (ap_g.options i)));
      kept_orderings = holds_from g.kept_orderings m _ ap_g.kept_orderings (λ u l. sym (ap is_kept (ordering_at s n m en em p q u l) ∙ kept_of_two (has g.kept_orderings u) (has g.dropped_orderings u)));
      dropped_orderings = holds_from g.dropped_orderings m _ ap_g.dropped_orderings (λ u l. sym (ap is_dropped (ordering_at s n m en em p q u l) ∙ dropped_of_two (has g.kept_orderings u) (has g.dropped_orderings u) (ap_g.orderings u)));
    }
      where
        p : ℕ → Decision
        p i = decision_of (has g.kept i) (has g.dropped i)

        q : ℕ → Decision
        q u = decision_of (has g.kept_orderings u) (has g.dropped_orderings u)

  -- ---- after forcing
  module _ (s : Lines) (sh : ShowsSheet s chart) (g : Given) (ap_g : Apart chart g) (f : Forced) (by : ForcedBy chart g f) where
    abbrev d : List Decision
    d = decisions_of chart g

    pub forced_as : ForcedAs (subscription s) (decided_by_slot s d) f
    forced_as = subst (λ v. ForcedAs v (decided_by_slot s d) f) (counted_is s n m sh.options sh.orderings)
        (by (subscription s) (decided_by_slot s d) sh.shows (gives_of s sh.options sh.orderings g ap_g))

    pub forced_shown : forced s d ≡ decisions_of chart (sets_of f)
    unfolding forced decisions_of forced_option forced_ordering subscription
    forced_shown =
        let en = sh.options in let em = sh.orderings in
        ap (λ k. list_of k F ++ list_of (length s.orderings) G) en ∙ ap (λ k. list_of n F ++ list_of k G) em
        ∙ ap (λ l. l ++ list_of m G) (list_of_same n F (λ i. decision_of (has f.kept i) (has f.dropped i)) (λ i l. two (sym (holds_at forced_as.kept i (omega arith))) (sym (holds_at forced_as.dropped i (omega arith)))))
        ∙ ap (λ l. list_of n (λ i. decision_of (has f.kept i) (has f.dropped i)) ++ l)
        (list_of_same m G (λ u. decision_of (has f.kept_orderings u) (has f.dropped_orderings u)) (λ u l. two (sym (holds_at forced_as.kept_orderings u (omega arith))) (sym (holds_at forced_as.dropped_orderings u (omega arith)))))
      where
        F : ℕ → Decision
        F = forced_option (subscription s) (decided_by_slot s d)

        G : ℕ → Decision
        G = forced_ordering (subscription s) (decided_by_slot s d)

        two : {a a' c c' : Bool} → a ≡ a' → c ≡ c' → decision_of a c ≡ decision_of a' c'
        two e h = λ i. decision_of (e i) (h i)

  -- ---- the choice of the kept
  pub kept_shown : (g : Given) → just_the_kept (decisions_of chart g) ≡ chosen_list n m g.kept g.kept_orderings
  unfolding decisions_of chosen_list list_of
  kept_shown g =
      append n (λ i. decision_of (has g.kept i) (has g.dropped i)) (list_of m (λ u. decision_of (has g.kept_orderings u) (has g.dropped_orderings u)))
      ∙ ap (λ l. l ++ just_the_kept (list_of m (λ u. decision_of (has g.kept_orderings u) (has g.dropped_orderings u)))) (alone n (has g.kept) (has g.dropped))
      ∙ ap (λ l. list_of n (has g.kept) ++ l) (alone m (has g.kept_orderings) (has g.dropped_orderings))
    where
      append : (n : ℕ) (p : ℕ → Decision) (rest : List Decision) → just_the_kept (list_of n p ++ rest) ≡ just_the_kept (list_of n p) ++ just_the_kept rest
      append zero p rest = refl
      append (suc n) p rest = ap (λ l. is_kept (p 0) ∷ l) (append n (λ i. p (suc i)) rest)

      alone : (n : ℕ) (a b : ℕ → Bool) → just_the_kept (list_of n (λ i. decision_of (a i) (b i))) ≡ list_of n a
      alone zero a b = refl
      alone (suc n) a b = ap (λ x. x ∷ just_the_kept (list_of n (λ i. decision_of (a (suc i)) (b (suc i))))) (kept_of_two (a 0) (b 0)) ∙ ap (λ l. a 0 ∷ l) (alone n (λ i. a (suc i)) (λ i. b (suc i)))

  module _ (g : Given) where
    abbrev option : ℕ → Decision
    option i = decision_of (has g.kept i) (has g.dropped i)

    abbrev ordering : ℕ → Decision
    ordering u = decision_of (has g.kept_orderings u) (has g.dropped_orderings u)

    -- what stands at the place of an option, and of an ordering
    pub option_stands : (i : ℕ) → i < n → get_or (decisions_of chart g) i Open ≡ option i
    unfolding decisions_of
    option_stands i l = getD_first n option (list_of m ordering) Open i l

    pub ordering_stands : (u : ℕ) → u < m → get_or (decisions_of chart g) (n + u) Open ≡ ordering u
    unfolding decisions_of
    ordering_stands u l = getD_second n m option ordering Open u l

    module _ (x : ℕ) (o : OpenItem chart g x) where
      open_two : (a b : Bool) → a ≡ false → b ≡ false → T (is_open (decision_of a b))
      open_two a b e f = rw (e, f) tt

      pub item_open : T (is_open (get_or (decisions_of chart g) (place n x) Open))
      unfolding place
      item_open = go (ltb x 32) refl
        where
          go : (q : Bool) → ltb x 32 ≡ q → T (is_open (get_or (decisions_of chart g) (cond q x (n + (x - 32))) Open))
          go true e = let w = o.option (ltb-true x 32 e) in subst (λ z. T (is_open z)) (sym (option_stands x w.0)) (open_two _ _ w.1 w.2)
          go false e = let w = o.ordering (ltb-false x 32 e) in subst (λ z. T (is_open z)) (sym (ordering_stands (x - 32) w.0)) (open_two _ _ w.1 w.2)

      pub item_kept_shown : set (decisions_of chart g) (place n x) Kept ≡ decisions_of chart (with_item_kept g x)
      unfolding decisions_of place with_item_kept
      item_kept_shown = go (ltb x 32) refl
        where
          go : (q : Bool) → ltb x 32 ≡ q → set (decisions_of chart g) (cond q x (n + (x - 32))) Kept ≡ decisions_of chart (cond q (with_option_kept g x) (with_ordering_kept g (x - 32)))
          go true e = let w = o.option (ltb-true x 32 e) in set_first n option (list_of m ordering) Kept x w.0 ∙ ap (λ z. z ++ list_of m ordering) (kept_changes n g.kept g.dropped x)
          go false e = let w = o.ordering (ltb-false x 32 e) in set_second n m option ordering Kept (x - 32) w.0 ∙ ap (λ z. list_of n option ++ z) (kept_changes m g.kept_orderings g.dropped_orderings (x - 32))

      pub item_dropped_shown : set (decisions_of chart g) (place n x) Dropped ≡ decisions_of chart (with_item_dropped g x)
      unfolding decisions_of place with_item_dropped
      item_dropped_shown = go (ltb x 32) refl
        where
          go : (q : Bool) → ltb x 32 ≡ q → set (decisions_of chart g) (cond q x (n + (x - 32))) Dropped ≡ decisions_of chart (cond q (with_option_dropped g x) (with_ordering_dropped g (x - 32)))
          go true e = let w = o.option (ltb-true x 32 e) in set_first n option (list_of m ordering) Dropped x w.0 ∙ ap (λ z. z ++ list_of m ordering) (dropped_changes n g.kept g.dropped x w.1)
          go false e = let w = o.ordering (ltb-false x 32 e) in set_second n m option ordering Dropped (x - 32) w.0 ∙ ap (λ z. list_of n option ++ z) (dropped_changes m g.kept_orderings g.dropped_orderings (x - 32) w.1)

      -- the place is in the list
      pub place_below : place n x < length (decisions_of chart g)
      unfolding place decisions_of
      place_below = go (ltb x 32) refl
        where
          size : length (list_of n option ++ list_of m ordering) ≡ n + m
          size = length-append (list_of n option) (list_of m ordering) ∙ let a = length_list_of n option in let b = length_list_of m ordering in omega arith

          go : (q : Bool) → ltb x 32 ≡ q → cond q x (n + (x - 32)) < length (list_of n option ++ list_of m ordering)
          go true e = let w = o.option (ltb-true x 32 e) in let k = w.0 in let z = size in omega arith
          go false e = let w = o.ordering (ltb-false x 32 e) in let k = w.0 in let z = size in omega arith

    -- ---- what is open
    neither_open : (a b : Bool) → not (a || b) ≡ false → T (is_open (decision_of a b)) → ⊥
    neither_open true b e t = t
    neither_open false true e t = t
    neither_open false false e t = subst T e tt

    option_closed : (j : ℕ) → not (has g.kept j || has g.dropped j) ≡ false → T (is_open (option j)) → ⊥
    option_closed j = neither_open (has g.kept j) (has g.dropped j)

    ordering_closed : (j : ℕ) → not (has g.kept_orderings j || has g.dropped_orderings j) ≡ false → T (is_open (ordering j)) → ⊥
    ordering_closed j = neither_open (has g.kept_orderings j) (has g.dropped_orderings j)

    pub nothing_open : ((i : ℕ) → i < n → not (has g.kept i || has g.dropped i) ≡ false) → ((u : ℕ) → u < m → not (has g.kept_orderings u || has g.dropped_orderings u) ≡ false) → open_items (decisions_of chart g) ≡ 0
    unfolding decisions_of
    nothing_open p q = none_open_in n option (list_of m ordering) (λ i l. option_closed i (p i l)) ∙ none_open_alone m ordering (λ u l. ordering_closed u (q u l))

    -- No open item stands before item x, if none has a smaller number.
    pub none_before_item : (x : ℕ) → OpenItem chart g x → (x < 32 → (j : ℕ) → j < x → not (has g.kept j || has g.dropped j) ≡ false)
        → (32 ≤ x → (j : ℕ) → j < n → not (has g.kept j || has g.dropped j) ≡ false) → (32 ≤ x → (j : ℕ) → j < x - 32 → not (has g.kept_orderings j || has g.dropped_orderings j) ≡ false)
        → (k : ℕ) → k < place n x → T (is_open (get_or (decisions_of chart g) k Open)) → ⊥
    unfolding place
    none_before_item x o among_options all_options among_orderings k l t = go (ltb x 32) refl l
      where
        past : (h : 32 ≤ x) → (k : ℕ) → k < n + (x - 32) → T (is_open (get_or (decisions_of chart g) k Open)) → ⊥
        past h k l t = at (ltb k n) refl
          where
            at : (q : Bool) → ltb k n ≡ q → ⊥
            at true e = let w = ltb-true k n e in option_closed k (all_options h k w) (subst (λ z. T (is_open z)) (option_stands k w) t)
            at false e = let w = ltb-false k n e in let r = (o.ordering h).0 in
                ordering_closed (k - n) (among_orderings h (k - n) (omega arith)) (subst (λ z. T (is_open z)) (ap (λ z. get_or (decisions_of chart g) z Open) (let q : k ≡ n + (k - n) = omega arith in q) ∙ ordering_stands (k - n) (omega arith)) t)

        go : (q : Bool) → ltb x 32 ≡ q → k < cond q x (n + (x - 32)) → ⊥
        go true e l = let h = ltb-true x 32 e in let r = (o.option h).0 in option_closed k (among_options h k l) (subst (λ z. T (is_open z)) (option_stands k (omega arith)) t)
        go false e l = past (ltb-false x 32 e) k l t
