-- Loose items: an open item with no open item after it, or none before it, may be added to any consistent relaxation that agrees.
use Rattle.std.specs.Prelude.{◌≡◌, refl, Bool, true, false, not, ◌&&◌, ◌||◌, ◌⊎◌, ℕ, ◌≤◌, ◌<◌, eqb}
use Rattle.std.proofs.Common.{sym, subst, ap, ◌∙◌, inr, T_not, eqb→eq}
use Rattle.std.proofs.Math.Logic.{inl}
use native.Mathlib.Omega.{arith}
use Rattle.std.proofs.Math.Dec.{T, not_T, eqb_refl}
use Rattle.rules.specs.Slots.{some_below}
use Rattle.rules.specs.Joined.{base, join}
use Rattle.rules.specs.Subscription.{Subscription}
use Rattle.rules.specs.Relaxation.{KeptBySlot, Edge, by_catalogue, by_ordering, Path, one, more, value}
use Rattle.rules.specs.Decisions.{DecidedBySlot}
use Rattle.rules.specs.KnownBefore.{OptionKept, KnownFromTheStart, KnownBefore, ordering_kept, option_kept, known_before}
use Rattle.rules.specs.Forced.{option_dropped, ordering_dropped}
use Rattle.rules.specs.Limits.{option_open, ordering_open}
use Rattle.rules.specs.laws.Tests.{and_l, and_r, and_i, or_l, or_r, or_e, test}
use Rattle.rules.specs.laws.Slots.{some_in}
use Rattle.rules.specs.laws.BySlot.{ConsistentBySlot, AgreesBySlot, OnTheSheet, KeptOnTheSheet, append}
use Rattle.rules.specs.laws.Forced.{keeps_kept, drops_dropped, drops_dropped_ordering}
use Rattle.rules.proofs.laws.Computed.{option_kept_out, known_before_in, option_dropped_out, ordering_dropped_out}
use Rattle.rules.specs.laws.search.Items.{Item, option, ordering, keeps, begins_at, ends_at, linked, link}
use Rattle.rules.specs.laws.search.Residual.{option_goes, over_under}

-- The ordering that an item is.
abbrev pub is_ordering : Item → ℕ → Bool
is_ordering (option i) u = false
is_ordering (ordering w) u = eqb w u

-- A choice with one more item, and nothing else.
unfoldable pub adding : KeptBySlot → Item → KeptBySlot
adding c x = record { option = λ j. c.option j || option_goes x j; ordering = λ u. c.ordering u || is_ordering x u }

module _ (v : Subscription) where
  -- An item of the sheet.
  abbrev pub ItemOnTheSheet : Item → Type 0
  ItemOnTheSheet (option i) = i < v.option_count
  ItemOnTheSheet (ordering u) = u < v.ordering_count

  -- One item more is worth no less.
  pub adding_value : (c : KeptBySlot) (x : Item) → value v c ≤ value v (adding c x)
  unfolding value adding
  adding_value c x = let a = over_under v.option_count v.weight c.option (λ j. c.option j || option_goes x j) (λ j t. or_l (c.option j) _ t) in
      let b = over_under v.ordering_count v.ordering_weight c.ordering (λ u. c.ordering u || is_ordering x u) (λ u t. or_l (c.ordering u) _ t) in omega arith

module _ (v : Subscription) (d : DecidedBySlot) where
  -- Is an item open?
  abbrev pub item_open : Item → Bool
  item_open (option i) = option_open v d i
  item_open (ordering u) = ordering_open v d u

  -- An option may be added alone; an ordering only if both its options are kept.
  abbrev pub options_kept : Item → Bool
  options_kept (option i) = true
  options_kept (ordering u) = option_kept v d (v.first u) && option_kept v d (v.second u)

  -- Some open item lies after x.
  unfoldable pub open_item_after : Item → Bool
  open_item_after x = some_below v.option_count (λ j. option_open v d j && link v d x (option j)) || some_below v.ordering_count (λ u. ordering_open v d u && link v d x (ordering u))

  -- Some open item lies before x.
  unfoldable pub open_item_before : Item → Bool
  open_item_before x = some_below v.option_count (λ j. option_open v d j && link v d (option j) x) || some_below v.ordering_count (λ u. ordering_open v d u && link v d (ordering u) x)

  -- An item is loose if it is open, stands by itself, and no open item lies after it or none before it.
  unfoldable pub loose : Item → Bool
  loose x = item_open x && (options_kept x && (not (open_item_after x) || not (open_item_before x)))

  pub open_item_after_in : (x y : Item) → ItemOnTheSheet v y → T (item_open y) → T (link v d x y) → T (open_item_after x)
  unfolding open_item_after
  open_item_after_in x (option j) l o t = or_l (some_below v.option_count (λ j. option_open v d j && link v d x (option j))) _ (some_in v.option_count _ j l (and_i (option_open v d j) _ o t))
  open_item_after_in x (ordering u) l o t = or_r (some_below v.option_count (λ j. option_open v d j && link v d x (option j))) _ (some_in v.ordering_count _ u l (and_i (ordering_open v d u) _ o t))

  pub open_item_before_in : (x y : Item) → ItemOnTheSheet v y → T (item_open y) → T (link v d y x) → T (open_item_before x)
  unfolding open_item_before
  open_item_before_in x (option j) l o t = or_l (some_below v.option_count (λ j. option_open v d j && link v d (option j) x)) _ (some_in v.option_count _ j l (and_i (option_open v d j) _ o t))
  open_item_before_in x (ordering u) l o t = or_r (some_below v.option_count (λ j. option_open v d j && link v d (option j) x)) _ (some_in v.ordering_count _ u l (and_i (ordering_open v d u) _ o t))

  pub link_known : OnTheSheet v d → (x y : Item) → KnownBefore v d (ends_at v x) (begins_at v y) → T (link v d x y)
  unfolding linked
  link_known fit x y k = or_l (known_before v d (ends_at v x) (begins_at v y)) _ (known_before_in v d fit (ends_at v x) (begins_at v y) k)

  pub link_meets : (u w : ℕ) → v.second u ≡ v.first w → T (link v d (ordering u) (ordering w))
  unfolding linked
  link_meets u w e = or_r (known_before v d (v.second u) (v.first w)) _ (subst (λ z. T (eqb (v.second u) z)) e (eqb_refl (v.second u)))

  module _ (fit : OnTheSheet v d) (c : KeptBySlot) (ok : ConsistentBySlot v c) (ag : AgreesBySlot d c) (ins : KeptOnTheSheet v c) where
    -- What the relaxation keeps and is not open, is kept.
    settled_option : (j : ℕ) → T (c.option j) → (T (option_open v d j) → ⊥) → OptionKept v d j
    settled_option j t n = go (test (option_kept v d j || option_dropped v d j))
      where
        or : T (option_kept v d j) ⊎ T (option_dropped v d j) → OptionKept v d j
        or (inl k) = option_kept_out v d j k
        or (inr h) = absurd (drops_dropped v d c ok ag j (option_dropped_out v d j h) t)

        go : T (option_kept v d j || option_dropped v d j) ⊎ (T (option_kept v d j || option_dropped v d j) → ⊥) → OptionKept v d j
        go (inl k) = or (or_e (option_kept v d j) _ k)
        go (inr k) = absurd (n (not_T (option_kept v d j || option_dropped v d j) k))

    settled_ordering : (u : ℕ) → T (c.ordering u) → (T (ordering_open v d u) → ⊥) → T (ordering_kept v d u)
    settled_ordering u t n = go (test (ordering_kept v d u || ordering_dropped v d u))
      where
        or : T (ordering_kept v d u) ⊎ T (ordering_dropped v d u) → T (ordering_kept v d u)
        or (inl k) = k
        or (inr h) = absurd (drops_dropped_ordering v d c ok ag u (ordering_dropped_out v d u h) t)

        go : T (ordering_kept v d u || ordering_dropped v d u) ⊎ (T (ordering_kept v d u || ordering_dropped v d u) → ⊥) → T (ordering_kept v d u)
        go (inl k) = or (or_e (ordering_kept v d u) _ k)
        go (inr k) = absurd (n (not_T (ordering_kept v d u || ordering_dropped v d u) k))

    module _ (x : Item) (on : ItemOnTheSheet v x) (o : T (item_open x)) (n : T (not (keeps c x))) where
      abbrev more_kept : KeptBySlot
      more_kept = adding c x

      -- one edge more: what the new item may bring in
      is_ordering_out : (x : Item) (u : ℕ) → T (is_ordering x u) → ordering u ≡ x
      is_ordering_out (option i) u t = absurd t
      is_ordering_out (ordering w) u t = ap ordering (sym (eqb→eq w u t))

      option_goes_out : (x : Item) (j : ℕ) → T (option_goes x j) → option j ≡ x
      option_goes_out (option i) j t = ap option (sym (eqb→eq i j t))
      option_goes_out (ordering w) j t = absurd t

      -- a kept ordering that begins where x ends, or ends where x begins, is met by x: an option dropped keeps none
      ends_here : (x : Item) → T (not (keeps c x)) → (u : ℕ) → T (c.ordering u) → v.first u ≡ ends_at v x → T (link v d x (ordering u))
      ends_here (option i) n u t e = absurd (T_not (c.option i) n (subst (λ z. T (c.option z)) e (ok.ends u t).0))
      ends_here (ordering w) n u t e = link_meets w u (sym e)

      begins_here : (x : Item) → T (not (keeps c x)) → (u : ℕ) → T (c.ordering u) → v.second u ≡ begins_at v x → T (link v d (ordering u) x)
      begins_here (option i) n u t e = absurd (T_not (c.option i) n (subst (λ z. T (c.option z)) e (ok.ends u t).1))
      begins_here (ordering w) n u t e = link_meets u w e

      -- ---- forwards: whatever is reached from x is known after x, and kept
      module _ (free : T (not (open_item_after x))) where
        no_after : (y : Item) → ItemOnTheSheet v y → T (link v d x y) → T (item_open y) → ⊥
        no_after y l t q = T_not (open_item_after x) free (open_item_after_in x y l q t)

        abbrev After : ℕ → Type 0
        After k = (k ≡ ends_at v x) ⊎ (KnownBefore v d (ends_at v x) k × OptionKept v d k)

        reach : (k j : ℕ) → After k → KnownFromTheStart v d k j → KnownBefore v d (ends_at v x) j
        reach k j (inl e) b = base (subst (λ z. KnownFromTheStart v d z j) e b)
        reach k j (inr p) b = join p.0 p.1 (base b)

        after_ordering : (k : ℕ) → After k → (u : ℕ) → T (c.ordering u) → v.first u ≡ k → T (link v d x (ordering u))
        after_ordering k (inl q) u t e = ends_here x n u t (e ∙ q)
        after_ordering k (inr p) u t e = link_known fit x (ordering u) (subst (λ z. KnownBefore v d (ends_at v x) z) (sym e) p.0)

        own_after : (u : ℕ) → ordering u ≡ x → (k : ℕ) → After k → v.first u ≡ k → T (link v d x (ordering u))
        own_after u ue k (inl q) e = subst (λ z. T (link v d z (ordering u))) ue (link_meets u u (sym (e ∙ q ∙ sym (ap (ends_at v) ue))))
        own_after u ue k (inr p) e = link_known fit x (ordering u) (subst (λ z. KnownBefore v d (ends_at v x) z) (sym e) p.0)

        after_edge : (k j : ℕ) → After k → Edge v more_kept k j → KnownBefore v d (ends_at v x) j × OptionKept v d j
        unfolding adding ordering_kept
        after_edge k j a (by_catalogue t p q) = at (or_e (c.option j) _ q)
          where
            known_j : KnownBefore v d (ends_at v x) j
            known_j = reach k j a (KnownFromTheStart.catalogue t)

            at : T (c.option j) ⊎ T (option_goes x j) → KnownBefore v d (ends_at v x) j × OptionKept v d j
            at (inl h) = (known_j, settled_option j h (no_after (option j) (ins.option j h) (link_known fit x (option j) known_j)))
            at (inr h) = let e = option_goes_out x j h in
                absurd (no_after (option j) (subst (λ z. ItemOnTheSheet v z) (sym e) on) (link_known fit x (option j) known_j) (subst (λ z. T (item_open z)) (sym e) o))
        after_edge k j a (by_ordering u t p q) = at (or_e (c.ordering u) _ t)
          where
            at : T (c.ordering u) ⊎ T (is_ordering x u) → KnownBefore v d (ends_at v x) j × OptionKept v d j
            at (inl h) = let m = settled_ordering u h (no_after (ordering u) (ins.ordering u h) (after_ordering k a u h p)) in
                (reach k j a (KnownFromTheStart.kept_ordering u m p q), OptionKept.second_of u m q)
            at (inr h) = let e = is_ordering_out x u h in
                absurd (no_after (ordering u) (subst (λ z. ItemOnTheSheet v z) (sym e) on) (own_after u e k a p) (subst (λ z. T (item_open z)) (sym e) o))

        after_path : {k j : ℕ} → After k → Path v more_kept k j → KnownBefore v d (ends_at v x) j
        after_path a (one {i = k} {j = j} e) = (after_edge k j a e).0
        after_path a (more {i = k} {j = j} e p) = after_path (inr (after_edge k j a e)) p

        pub no_round_after : Path v more_kept (ends_at v x) (begins_at v x) → ⊥
        no_round_after p = no_after x on (link_known fit x x (after_path (inl refl) p)) o

      -- ---- backwards: whatever reaches x is known before x, and kept
      module _ (free : T (not (open_item_before x))) where
        no_before : (y : Item) → ItemOnTheSheet v y → T (link v d y x) → T (item_open y) → ⊥
        no_before y l t q = T_not (open_item_before x) free (open_item_before_in x y l q t)

        abbrev Before : ℕ → Type 0
        Before k = (k ≡ begins_at v x) ⊎ (KnownBefore v d k (begins_at v x) × OptionKept v d k)

        reached : (j k : ℕ) → Before k → KnownFromTheStart v d j k → KnownBefore v d j (begins_at v x)
        reached j k (inl e) b = base (subst (λ z. KnownFromTheStart v d j z) e b)
        reached j k (inr p) b = join (base b) p.1 p.0

        before_ordering : (k : ℕ) → Before k → (u : ℕ) → T (c.ordering u) → v.second u ≡ k → T (link v d (ordering u) x)
        before_ordering k (inl q) u t e = begins_here x n u t (e ∙ q)
        before_ordering k (inr p) u t e = link_known fit (ordering u) x (subst (λ z. KnownBefore v d z (begins_at v x)) (sym e) p.0)

        own_before : (u : ℕ) → ordering u ≡ x → (k : ℕ) → Before k → v.second u ≡ k → T (link v d (ordering u) x)
        own_before u ue k (inl q) e = subst (λ z. T (link v d (ordering u) z)) ue (link_meets u u (e ∙ q ∙ sym (ap (begins_at v) ue)))
        own_before u ue k (inr p) e = link_known fit (ordering u) x (subst (λ z. KnownBefore v d z (begins_at v x)) (sym e) p.0)

        before_edge : (j k : ℕ) → Before k → Edge v more_kept j k → KnownBefore v d j (begins_at v x) × OptionKept v d j
        unfolding adding ordering_kept
        before_edge j k a (by_catalogue t p q) = at (or_e (c.option j) _ p)
          where
            known_j : KnownBefore v d j (begins_at v x)
            known_j = reached j k a (KnownFromTheStart.catalogue t)

            at : T (c.option j) ⊎ T (option_goes x j) → KnownBefore v d j (begins_at v x) × OptionKept v d j
            at (inl h) = (known_j, settled_option j h (no_before (option j) (ins.option j h) (link_known fit (option j) x known_j)))
            at (inr h) = let e = option_goes_out x j h in
                absurd (no_before (option j) (subst (λ z. ItemOnTheSheet v z) (sym e) on) (link_known fit (option j) x known_j) (subst (λ z. T (item_open z)) (sym e) o))
        before_edge j k a (by_ordering u t p q) = at (or_e (c.ordering u) _ t)
          where
            at : T (c.ordering u) ⊎ T (is_ordering x u) → KnownBefore v d j (begins_at v x) × OptionKept v d j
            at (inl h) = let m = settled_ordering u h (no_before (ordering u) (ins.ordering u h) (before_ordering k a u h q)) in
                (reached j k a (KnownFromTheStart.kept_ordering u m p q), OptionKept.first_of u m p)
            at (inr h) = let e = is_ordering_out x u h in
                absurd (no_before (ordering u) (subst (λ z. ItemOnTheSheet v z) (sym e) on) (own_before u e k a q) (subst (λ z. T (item_open z)) (sym e) o))

        before_path : {j k : ℕ} → Before k → Path v more_kept j k → KnownBefore v d j (begins_at v x) × OptionKept v d j
        before_path a (one {i = j} {j = k} e) = before_edge j k a e
        before_path a (more {i = j} {j = k} e p) = before_edge j k (inr (before_path a p)) e

        pub no_round_before : Path v more_kept (ends_at v x) (begins_at v x) → ⊥
        no_round_before p = no_before x on (link_known fit x x (before_path (inl refl) p).0) o

      -- ---- a cycle of the greater choice is one of the smaller, or goes round through x
      abbrev Walk : ℕ → ℕ → Type 0
      Walk k l = (k ≡ l) ⊎ Path v more_kept k l

      walk_walk : (i j k : ℕ) → Walk i j → Walk j k → Walk i k
      walk_walk i j k (inl e) q = subst (λ z. Walk z k) (sym e) q
      walk_walk i j k (inr p) (inl e) = inr (subst (λ z. Path v more_kept i z) e p)
      walk_walk i j k (inr p) (inr q) = inr (append p q)

      path_walk : (i j k : ℕ) → Path v more_kept i j → Walk j k → Path v more_kept i k
      path_walk i j k p (inl e) = subst (λ z. Path v more_kept i z) e p
      path_walk i j k p (inr q) = append p q

      walk_path : (i j k : ℕ) → Walk i j → Path v more_kept j k → Path v more_kept i k
      walk_path i j k (inl e) q = subst (λ z. Path v more_kept z k) (sym e) q
      walk_path i j k (inr p) q = append p q

      -- an edge that x brings in: it touches the option, or is the ordering
      abbrev Fresh : Item → ℕ → ℕ → Type 0
      Fresh (option i) k l = Edge v more_kept k l × ((k ≡ i) ⊎ (l ≡ i))
      Fresh (ordering w) k l = (v.first w ≡ k) × (v.second w ≡ l)

      edge_split : (k l : ℕ) → Edge v more_kept k l → Edge v c k l ⊎ Fresh x k l
      unfolding adding
      edge_split k l (by_catalogue t p q) = at (or_e (c.option k) _ p) (or_e (c.option l) _ q)
        where
          left : (x : Item) → T (option_goes x k) → Edge v more_kept k l → Fresh x k l
          left (option i) h e = (e, inl (sym (eqb→eq i k h)))
          left (ordering w) h e = absurd h

          right : (x : Item) → T (option_goes x l) → Edge v more_kept k l → Fresh x k l
          right (option i) h e = (e, inr (sym (eqb→eq i l h)))
          right (ordering w) h e = absurd h

          at : T (c.option k) ⊎ T (option_goes x k) → T (c.option l) ⊎ T (option_goes x l) → Edge v c k l ⊎ Fresh x k l
          at (inl a) (inl b) = inl (by_catalogue t a b)
          at (inr a) b = inr (left x a (by_catalogue t p q))
          at (inl a) (inr b) = inr (right x b (by_catalogue t p q))
      edge_split k l (by_ordering u t p q) = at (or_e (c.ordering u) _ t)
        where
          new : (x : Item) → T (is_ordering x u) → Fresh x k l
          new (option i) h = absurd h
          new (ordering w) h = (ap v.first (eqb→eq w u h) ∙ p, ap v.second (eqb→eq w u h) ∙ q)

          at : T (c.ordering u) ⊎ T (is_ordering x u) → Edge v c k l ⊎ Fresh x k l
          at (inl a) = inl (by_ordering u a p q)
          at (inr a) = inr (new x a)

      -- a walk that uses a fresh edge
      pub record Uses (k l : ℕ) : Type 0 where
        pub start : ℕ
        pub stop : ℕ
        pub to : Walk k start
        pub fresh : Fresh x start stop
        pub rest : Walk stop l

      path_split : {k l : ℕ} → Path v more_kept k l → Path v c k l ⊎ Uses k l
      path_split (one {i = k} {j = l} e) = at (edge_split k l e)
        where
          at : Edge v c k l ⊎ Fresh x k l → Path v c k l ⊎ Uses k l
          at (inl a) = inl (one a)
          at (inr a) = inr (record { start = k; stop = l; to = inl refl; fresh = a; rest = inl refl })
      path_split (more {i = k} {j = j} {k = l} e p) = at (edge_split k j e) (path_split p)
        where
          at : Edge v c k j ⊎ Fresh x k j → Path v c j l ⊎ Uses j l → Path v c k l ⊎ Uses k l
          at (inl a) (inl b) = inl (more a b)
          at (inl a) (inr b) = inr (record { start = b.start; stop = b.stop; to = inr (path_walk k j b.start (one e) b.to); fresh = b.fresh; rest = b.rest })
          at (inr a) b = inr (record { start = k; stop = j; to = inl refl; fresh = a; rest = inr p })

      module _ (self : T (link v d x x) → ⊥) (round : Path v more_kept (ends_at v x) (begins_at v x) → ⊥) where
        no_fresh_round : (x : Item) → (T (link v d x x) → ⊥) → (Path v more_kept (ends_at v x) (begins_at v x) → ⊥) → (k l : ℕ) → Fresh x k l → Walk l k → ⊥
        no_fresh_round (option i) s r k l (e, inl q) w = r (subst (λ z. Path v more_kept z z) q (path_walk k l k (one e) w))
        no_fresh_round (option i) s r k l (e, inr q) w = r (subst (λ z. Path v more_kept z z) q (walk_path l k l w (one e)))
        no_fresh_round (ordering u) s r k l (p, q) (inl e) = s (link_meets u u (q ∙ e ∙ sym p))
        no_fresh_round (ordering u) s r k l (p, q) (inr w) = r (subst (λ z. Path v more_kept z (v.first u)) (sym q) (subst (λ z. Path v more_kept l z) (sym p) w))

        no_cycle : (k : ℕ) → Path v more_kept k k → ⊥
        no_cycle k p = at (path_split p)
          where
            at : Path v c k k ⊎ Uses k k → ⊥
            at (inl a) = ok.acyclic k a
            at (inr a) = no_fresh_round x self round a.start a.stop a.fresh (walk_walk a.stop k a.start a.rest a.to)

        adding_ends : T (options_kept x) → (u : ℕ) → T (more_kept.ordering u) → T (more_kept.option (v.first u)) × T (more_kept.option (v.second u))
        unfolding adding
        adding_ends st u t = at (or_e (c.ordering u) _ t)
          where
            up : (j : ℕ) → T (c.option j) → T (c.option j || option_goes x j)
            up j h = or_l (c.option j) _ h

            new : (y : Item) → T (options_kept y) → T (is_ordering y u) → T (c.option (v.first u)) × T (c.option (v.second u))
            new (option i) st h = absurd h
            new (ordering w) st h = let e = eqb→eq w u h in (
              subst (λ z. T (c.option (v.first z))) e (keeps_kept v d c ok ag (v.first w) (option_kept_out v d (v.first w) (and_l (option_kept v d (v.first w)) _ st))),
              subst (λ z. T (c.option (v.second z))) e (keeps_kept v d c ok ag (v.second w) (option_kept_out v d (v.second w) (and_r (option_kept v d (v.first w)) _ st))),
            )

            at : T (c.ordering u) ⊎ T (is_ordering x u) → T (c.option (v.first u) || option_goes x (v.first u)) × T (c.option (v.second u) || option_goes x (v.second u))
            at (inl h) = let (a, b) = ok.ends u h in (up (v.first u) a, up (v.second u) b)
            at (inr h) = let (a, b) = new x st h in (up (v.first u) a, up (v.second u) b)

      -- A LOOSE ITEM MAY BE ADDED.
      pub adding_consistent : T (options_kept x) → T (not (open_item_after x) || not (open_item_before x)) → ConsistentBySlot v (adding c x)
      adding_consistent st t = at (or_e (not (open_item_after x)) _ t)
        where
          at : T (not (open_item_after x)) ⊎ T (not (open_item_before x)) → ConsistentBySlot v more_kept
          at (inl f) = record { ends = adding_ends (λ t. no_after f x on t o) (no_round_after f) st; acyclic = no_cycle (λ t. no_after f x on t o) (no_round_after f) }
          at (inr f) = record { ends = adding_ends (λ t. no_before f x on t o) (no_round_before f) st; acyclic = no_cycle (λ t. no_before f x on t o) (no_round_before f) }

    -- The same from the test, whether the item is kept already or not.
    pub loose_may_be_added : (x : Item) → ItemOnTheSheet v x → T (loose x) → T (not (keeps c x)) → ConsistentBySlot v (adding c x)
    unfolding loose
    loose_may_be_added x on t n = let a = and_r (item_open x) _ t in
        adding_consistent x on (and_l (item_open x) _ t) n (and_l (options_kept x) _ a) (and_r (options_kept x) _ a)
