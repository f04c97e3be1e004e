-- What the code keeps beside the forced items may be kept, on every sheet that the chart shows.
use Rattle.std.specs.Prelude.{◌≡◌, refl, Bool, not, ◌||◌, ◌⊎◌, List, ℕ, ◌+◌, ◌-◌, ◌≤◌, ◌<◌, T}
use Rattle.std.proofs.Math.Path.{sym, ap}
use Rattle.std.proofs.Common.{subst, ◌∙◌, inl, inr}
use Rattle.std.proofs.Math.Bool.{true, false, cond}
use native.Mathlib.Omega.{arith}
use borrow.Author.Tests.{ltb-true, ltb-false, lt-ltb, le-ltb}
use Rattle.std.proofs.Math.ListN.{length, get_or}
use Rattle.std.proofs.Math.Dec.{ltb}
use Rattle.rules.specs.Lines.{Lines}
use Rattle.rules.specs.Subscription.{Subscription, subscription, items}
use Rattle.rules.specs.Relaxation.{ConsistentRelaxation, value_of}
use Rattle.rules.specs.Decisions.{Decision, Open, is_open, DecidedBySlot, decided_by_slot, Agrees}
use Rattle.rules.specs.Forced.{contradiction, decision_of, forced}
use Rattle.rules.specs.laws.search.Items.{Item, option, ordering}
use Rattle.rules.specs.laws.search.Residual.{Residual, held}
use Rattle.rules.specs.laws.search.Charged as R
use Rattle.rules.proofs.laws.search.Loose as L
use Rattle.rules.proofs.laws.search.Places.{item_at}
use Rattle.rules.proofs.laws.search.Keepable.{Keepable, AsForcedOrKept, as_forced, kept_too, KeepsKeepable, charged_fits, charged_limit_holds}
use Rattle.rules.proofs.laws.search.Keepable as K
use Rattle.rows.specs.Bits.{has}
use Rattle.rows.specs.laws.Sets.{holds_at}
use Rattle.graph.specs.Shown.{counted}
use Rattle.forced.specs.Forced.{ForcedAs, ForcedBy}
use Rattle.half.specs.Half.{HalfDecidedAs}
use Rattle.numbered.specs.Items.{numbered, Named}
use Rattle.residual.specs.Left.{rest, residual_of}
use Rattle.numbered.specs.laws.Items.{numbered_option, numbered_ordering}
use Rattle.numbered.specs.Shown.{ShowsKnown}
use Rattle.numbered.specs.laws.Items.{shows_known}
use Rattle.residual.specs.laws.Shown.{held_same}
use Rattle.settle.specs.laws.Opened.{open_options_hold, open_orderings_hold}
use Rattle.graph.specs.Transposed as C
use Rattle.bound.specs.Bound.{BoundedAs}
use Rattle.loose.specs.Loose.{Transposed}
use Rattle.loose.specs.laws.Shown.{Opens, loose_told}
use Rattle.given.specs.declared.sets.Given.{Given}
use Rattle.forced.specs.declared.forcing.Forced.{Forced}
use Rattle.half.specs.declared.opened.Half.{Half}
use Rattle.bound.specs.declared.charging.Charged.{Charged}
use Rattle.chart.specs.Chart.{BySlot, Known, ShowsSheet}
use Rattle.keeping.specs.Sets.{decisions_of, Apart, sets_of}
use Rattle.keeping.specs.Keeping.{MayKeep, needed, loose, KeptMore}
use Rattle.keeping.specs.laws.Shown.{size_of, counted_is, forced_as, forced_shown, option_stands, ordering_stands}
use Rattle.settle.specs.laws.Forcing.{size, upper_is}

not_has : (b : Bool) → (T b → ⊥) → b ≡ false
not_has true k = absurd (k tt)
not_has false k = refl

has_it : (b : Bool) → T b → b ≡ true
has_it true t = refl
has_it false t = absurd t

-- The table turned over, in the words of the loose items.
turned : {known after : List ℕ} {n : ℕ} → n ≤ 32 → C.Transposed known n n after → Transposed known after n
turned {known} {after} {n} few w = record { at = λ p q l k. w.at q p (omega arith) ∙ rw (lt-ltb q n k, lt-ltb p n l) refl }

module _ (chart : BySlot) (known : Known chart) (want : ℕ) (g : Given) (apart : Apart chart g) (f : Forced) (by : ForcedBy chart g f)
    (h : Half) (half : HalfDecidedAs chart f h) (fine : f.contradiction ≡ false) (c : Charged) (bounded : BoundedAs chart h.known h.open_options h.open_orderings c) where
  abbrev n : ℕ
  n = chart.option_count

  abbrev m : ℕ
  m = chart.ordering_count

  -- ---- what is charged
  module _ (s : Lines) (sh : ShowsSheet s chart) where
    abbrev d₀ : List Decision
    d₀ = decisions_of chart g

    abbrev b₀ : DecidedBySlot
    b₀ = decided_by_slot s d₀

    same : counted n m (subscription s) ≡ subscription s
    same = counted_is s n m sh.options sh.orderings

    fa : ForcedAs (counted n m (subscription s)) b₀ f
    fa = subst (λ z. ForcedAs z b₀ f) (sym same) (forced_as chart s sh g apart f by)

    pub no_contradiction_here : T (not (contradiction (subscription s) b₀))
    no_contradiction_here = subst (λ z. T (not z)) (sym (sym (forced_as chart s sh g apart f by).contradicts ∙ fine)) tt

    shows : ShowsKnown (subscription s) b₀ n m h.known chart.firsts chart.seconds
    shows = subst (λ z. ShowsKnown (subscription s) b₀ n m z chart.firsts chart.seconds) (sym half.knows) (shows_known known.ends sh.shows fa.known)

    -- it is charged on this sheet
    pub charged_here : R.Charged (subscription s) b₀ c.charged (residual_of (rest c.left))
    charged_here = subst (λ z. R.Charged z b₀ c.charged (residual_of (rest c.left))) same
        (bounded.charged (subscription s) b₀ shows sh.weighs (open_options_hold (subscription s) b₀ chart f h fa half) (open_orderings_hold (subscription s) b₀ chart f h fa half))

    -- so no relaxation that agrees is worth more than what is left of the limit
    pub charged_limit : (r : List Bool) → ConsistentRelaxation s r → Agrees d₀ r → value_of s r + c.charged ≤ h.upper
    charged_limit r ok ag = let a = size chart want g apart f by s sh in
        let p = charged_limit_holds s sh.proper 0 d₀ a c.charged (residual_of (rest c.left)) charged_here r ok ag in
        let q = upper_is chart want g apart f by s sh h half in omega arith

  -- ---- what is kept besides
  module _ (after : List ℕ) (turn : C.Transposed h.known n n after) (low : want + c.charged ≤ h.upper)
      (spare : ℕ) (es : spare ≡ h.upper - want - c.charged) (k : Given) (kept : KeptMore chart h after (rest c.left) spare (sets_of f) k) where
    abbrev d : List Decision
    d = decisions_of chart g

    abbrev e : List Decision
    e = decisions_of chart k

    abbrev r : Residual
    r = residual_of (rest c.left)

    module _ (s : Lines) (sh : ShowsSheet s chart) where
      abbrev v : Subscription
      v = subscription s

      abbrev b : DecidedBySlot
      b = decided_by_slot s d

      abbrev w : Subscription
      w = counted n m v

      opens : Opens v b n m chart.firsts chart.seconds h.open_options h.open_orderings kept.begins kept.ends
      opens = record { options = open_options_hold v b chart f h (fa s sh) half; orderings = open_orderings_hold v b chart f h (fa s sh) half; begin = kept.begin; end = kept.end }

      -- what may be kept by the arrays may be kept on the sheet
      keepable : (x : ℕ) → Named n m x → T (L.item_open w b (numbered x)) → MayKeep chart h.known after h.open_options kept.begins kept.ends (rest c.left) spare x
          → Keepable s sh.proper 0 d (size chart want g apart f by s sh) want (numbered x)
      keepable x named o (needed l) = K.needed c.charged r (charged_here s sh)
          (let p = held_same v b n m h.known chart.firsts chart.seconds (shows s sh) r (numbered x) ∙ ap (λ z. held z r (numbered x)) (same s sh) in
          let q = upper_is chart want g apart f by s sh h half in
          let fits = charged_fits s sh.proper 0 d (size chart want g apart f by s sh) (no_contradiction_here s sh) c.charged r (charged_here s sh) in omega arith)
      keepable x named o (loose y) = K.loose_item (subst (λ z. T (L.loose z b (numbered x))) (same s sh)
          (loose_told v b n m h.known chart.firsts chart.seconds (shows s sh) h.open_options h.open_orderings kept.begins kept.ends opens x named after (turned known.ends.few_options turn) o y))

      -- ---- place by place
      -- the forced decisions, by the sets
      forced_is : forced s d ≡ decisions_of chart (sets_of f)
      forced_is = forced_shown chart s sh g apart f by

      -- what an open option's slot shows, and an open ordering's
      option_is_open : (i : ℕ) → i < n → T (has h.open_options i) → T (is_open (decision_of (has f.kept i) (has f.dropped i)))
      option_is_open i l t = go (has f.kept i) (has f.dropped i) (subst T (holds_at half.options i l) t)
        where
          go : (a b : Bool) → T (not (a || b)) → T (is_open (decision_of a b))
          go true b t = absurd t
          go false true t = absurd t
          go false false t = tt

      ordering_is_open : (u : ℕ) → u < m → T (has h.open_orderings u) → T (is_open (decision_of (has f.kept_orderings u) (has f.dropped_orderings u)))
      ordering_is_open u l t = go (has f.kept_orderings u) (has f.dropped_orderings u) (subst T (holds_at half.orderings u l) t)
        where
          go : (a b : Bool) → T (not (a || b)) → T (is_open (decision_of a b))
          go true b t = absurd t
          go false true t = absurd t
          go false false t = tt

      -- a place of the list, whether option or ordering: as forced, or kept too
      at_place : (p : ℕ) (was now dropped : Bool) (x : Item) → get_or e p Open ≡ decision_of now dropped → get_or (forced s d) p Open ≡ decision_of was dropped → item_at s p ≡ x
          → (T was → T now) → (T now → T was ⊎ (T (is_open (decision_of was dropped)) × Keepable s sh.proper 0 d (size chart want g apart f by s sh) want x))
          → AsForcedOrKept s sh.proper 0 d (size chart want g apart f by s sh) want e p
      at_place p true true dropped x q z i keeps only = as_forced (q ∙ sym z)
      at_place p true false dropped x q z i keeps only = absurd (keeps tt)
      at_place p false false dropped x q z i keeps only = as_forced (q ∙ sym z)
      at_place p false true dropped x q z i keeps only = go (only tt)
        where
          go : ⊥ ⊎ (T (is_open (decision_of false dropped)) × Keepable s sh.proper 0 d (size chart want g apart f by s sh) want x)
              → AsForcedOrKept s sh.proper 0 d (size chart want g apart f by s sh) want e p
          go (inl t) = absurd t
          go (inr (o, y)) = kept_too q (subst (λ y. T (is_open y)) (sym z) o) (subst (λ y. Keepable s sh.proper 0 d (size chart want g apart f by s sh) want y) (sym i) y)

      module _ (p : ℕ) where
        -- an option
        option_place : p < n → AsForcedOrKept s sh.proper 0 d (size chart want g apart f by s sh) want e p
        unfolding item_at
        option_place l = at_place p (has f.kept p) (has k.kept p) (has f.dropped p) (numbered p)
            (option_stands chart k p l ∙ ap (λ z. decision_of (has k.kept p) (has z p)) kept.dropped)
            (ap (λ z. get_or z p Open) forced_is ∙ option_stands chart (sets_of f) p l)
            (ap (λ z. cond z (option p) (ordering (p - length s.options))) (lt-ltb p (length s.options) (let q = sh.options in omega arith)) ∙ sym (numbered_option p (let q = known.ends.few_options in omega arith)))
            (kept.option.keeps p) (λ t. go (kept.option.only p t))
          where
            named : Named n m p
            named = record { option = λ _. l; ordering = λ k. (let q = known.ends.few_options in absurd (omega arith)) }

            go : T (has f.kept p) ⊎ ((p < n) × T (has h.open_options p) × MayKeep chart h.known after h.open_options kept.begins kept.ends (rest c.left) spare p)
                → T (has f.kept p) ⊎ (T (is_open (decision_of (has f.kept p) (has f.dropped p))) × Keepable s sh.proper 0 d (size chart want g apart f by s sh) want (numbered p))
            go (inl t) = inl t
            go (inr (_, t, y)) = inr (option_is_open p l t, keepable p named (subst (λ z. T (L.item_open w b z)) (sym (numbered_option p (let q = known.ends.few_options in omega arith))) (subst T (holds_at opens.options p l) t)) y)

        -- an ordering
        ordering_place : (u : ℕ) → u < m → p ≡ n + u → AsForcedOrKept s sh.proper 0 d (size chart want g apart f by s sh) want e p
        unfolding item_at
        ordering_place u l q = at_place p (has f.kept_orderings u) (has k.kept_orderings u) (has f.dropped_orderings u) (numbered (32 + u))
            (ap (λ z. get_or e z Open) q ∙ ordering_stands chart k u l ∙ ap (λ z. decision_of (has k.kept_orderings u) (has z u)) kept.dropped_orderings)
            (ap (λ z. get_or z p Open) forced_is ∙ ap (λ z. get_or (decisions_of chart (sets_of f)) z Open) q ∙ ordering_stands chart (sets_of f) u l)
            (ap (λ z. cond z (option p) (ordering (p - length s.options))) (le-ltb p (length s.options) (let z = sh.options in omega arith)) ∙ ap ordering (let z = sh.options in let y : p - length s.options ≡ 32 + u - 32 = omega arith in y) ∙ sym (numbered_ordering (32 + u) (omega arith)))
            (kept.ordering.keeps u) (λ t. go (kept.ordering.only u t))
          where
            named : Named n m (32 + u)
            named = record { option = λ k. absurd (omega arith); ordering = λ _. (let y : 32 + u - 32 ≡ u = omega arith in omega arith) }

            go : T (has f.kept_orderings u) ⊎ ((u < m) × T (has h.open_orderings u) × MayKeep chart h.known after h.open_options kept.begins kept.ends (rest c.left) spare (32 + u))
                → T (has f.kept_orderings u) ⊎ (T (is_open (decision_of (has f.kept_orderings u) (has f.dropped_orderings u))) × Keepable s sh.proper 0 d (size chart want g apart f by s sh) want (numbered (32 + u)))
            go (inl t) = inl t
            go (inr (_, t, y)) = inr (ordering_is_open u l t, keepable (32 + u) named (subst (λ z. T (L.item_open w b z)) (ap ordering (let y : u ≡ 32 + u - 32 = omega arith in y) ∙ sym (numbered_ordering (32 + u) (omega arith))) (subst T (holds_at opens.orderings u l) t)) y)

      pub keeps_keepable : KeepsKeepable s sh.proper 0 d (size chart want g apart f by s sh) want e
      unfolding decisions_of
      keeps_keepable = record {
        long = size_of s n m sh.options sh.orderings (λ i. decision_of (has k.kept i) (has k.dropped i)) (λ u. decision_of (has k.kept_orderings u) (has k.dropped_orderings u));
        places = λ p l. go p l (ltb p n) refl;
      }
        where
          go : (p : ℕ) → p < items s → (q : Bool) → ltb p n ≡ q → AsForcedOrKept s sh.proper 0 d (size chart want g apart f by s sh) want e p
          go p l true q = option_place p (ltb-true p n q)
          go p l false q = let y = ltb-false p n q in let a = sh.options in let z = sh.orderings in ordering_place p (p - n) (omega arith) (omega arith)
