-- An open item that the code finds loose is loose by the rules, on every half-decided sheet that the arrays show.
use Rattle.std.specs.Prelude.{◌≡◌, Bool, false, ◌&&◌, ◌||◌, ◌⊎◌, List, ℕ, ◌≤◌, ◌<◌, get_or, ltb}
use Rattle.std.proofs.Math.Path.{refl, subst}
use Rattle.std.proofs.Common.{sym, ap, ◌∙◌, arith, ltb-true, ltb-false, T_not, eqb→eq}
use Rattle.std.proofs.Math.Bool.{true, not}
use Rattle.std.proofs.Math.Logic.{inl, inr}
use Rattle.std.proofs.Math.Dec.{T, not_T}
use Rattle.rules.specs.Slots.{some_below}
use Rattle.rules.specs.Subscription.{Subscription}
use Rattle.rules.specs.Decisions.{DecidedBySlot, is_dropped}
use Rattle.rules.specs.KnownBefore.{ordering_kept, option_kept}
use Rattle.rules.specs.Forced.{option_dropped, ordering_dropped}
use Rattle.rules.specs.Limits.{option_open, ordering_open}
use Rattle.rules.specs.laws.Tests.{and_l, and_r, and_i, or_l, or_r, or_e, test, T_true}
use Rattle.rules.specs.laws.Slots.{some_out}
use Rattle.rules.specs.laws.search.Items.{Item, option, ordering, begins_at, ends_at, meets, linked, link}
use Rattle.rules.proofs.laws.search.Loose.{ItemOnTheSheet, item_open, options_kept, open_item_after, open_item_before, loose}
use Rattle.rows.specs.Bits.{has}
use Rattle.rows.specs.Sets.{Holds, cell}
use Rattle.rows.specs.laws.Sets.{holds_at}
use Rattle.graph.specs.Shown.{counted}
use Rattle.numbered.specs.Items.{numbered, Named, ends_only}
use Rattle.links.specs.Links.{end_of, OptionAt}
use Rattle.numbered.specs.laws.Items.{numbered_option}
use Rattle.numbered.specs.Shown.{ShowsKnown}
use Rattle.numbered.specs.laws.Items.{named_on_the_sheet}
use Rattle.links.specs.laws.Shown.{linked_same}
use Rattle.loose.specs.Loose.{EndsOf, Transposed, ClosedEnds, FreeSide, LooseBy}
use Rattle.loose.specs.laws.Masks.{end_in}
use Rattle.loose.specs.laws.Sides.{never}

-- The sets hold what is open, and where open orderings begin and end.
pub record Opens (v : Subscription) (d : DecidedBySlot) (n m : ℕ) (firsts seconds : List ℕ) (opens open_orderings begins ends : ℕ) : Type 0 where
  pub options : Holds opens n (option_open (counted n m v) d)
  pub orderings : Holds open_orderings m (ordering_open (counted n m v) d)
  pub begin : EndsOf open_orderings firsts m begins
  pub end : EndsOf open_orderings seconds m ends

-- An ordering's number is past the options'.
ordering_number : (x u : ℕ) → numbered x ≡ ordering u → 32 ≤ x
ordering_number x u e = go (ltb x 32) refl
  where
    go : (c : Bool) → ltb x 32 ≡ c → 32 ≤ x
    go true c = let p : option x ≡ ordering u = sym (numbered_option x (ltb-true x 32 c)) ∙ e in let r : ◌≡◌ {A = ℕ} 0 1 = cc in absurd (omega arith)
    go false c = ltb-false x 32 c

module _ (v : Subscription) (d : DecidedBySlot) (n m : ℕ) (known firsts seconds : List ℕ) (sh : ShowsKnown v d n m known firsts seconds)
    (opens open_orderings begins ends : ℕ) (os : Opens v d n m firsts seconds opens open_orderings begins ends) (x : ℕ) (named : Named n m x) where
  abbrev s : Subscription
  s = counted n m v

  abbrev w : Subscription
  w = ends_only n m firsts seconds

  abbrev y : Item
  y = numbered x

  here : ItemOnTheSheet s y
  here = named_on_the_sheet v n m x named

  option_in : (j : ℕ) → j < n → T (option_open s d j) → has opens j ≡ true
  option_in j l t = holds_at os.options j l ∙ T_true _ t

  ordering_in : (u : ℕ) → u < m → T (ordering_open s d u) → T (has open_orderings u)
  ordering_in u l t = subst T (sym (holds_at os.orderings u l)) t

  begins_is : (z : Item) → begins_at w z ≡ end_of firsts z
  unfolding ends_only
  begins_is (option j) = refl
  begins_is (ordering u) = refl

  ends_is : (z : Item) → ends_at w z ≡ end_of seconds z
  unfolding ends_only
  ends_is (option j) = refl
  ends_is (ordering u) = refl

  -- the links of two items, by the arrays
  links_in : (p q : Item) → ItemOnTheSheet s p → ItemOnTheSheet s q → T (link s d p q) → T (cell known (end_of seconds p) (end_of firsts q)) ⊎ T (meets w p q)
  unfolding linked
  links_in p q op oq k = go (or_e (cell known (ends_at w p) (begins_at w q)) _ (subst T (sym (linked_same v d n m known firsts seconds sh p q op oq)) k))
    where
      go : T (cell known (ends_at w p) (begins_at w q)) ⊎ T (meets w p q) → T (cell known (end_of seconds p) (end_of firsts q)) ⊎ T (meets w p q)
      go (inl h) = inl (subst (λ i. T (cell known i (end_of firsts q))) (ends_is p) (subst (λ j. T (cell known (ends_at w p) j)) (begins_is q) h))
      go (inr h) = inr h

  -- ---- nothing open lies after the item
  module _ (o : ℕ) (at : OptionAt seconds n x o) (free : FreeSide (get_or known o 0) opens begins o x) where
    row : (j : ℕ) → T (cell known (end_of seconds y) j) → has (get_or known o 0) j ≡ true
    row j t = T_true _ (subst (λ i. T (cell known i j)) (sym at.is) t)

    no_option_after : (j : ℕ) → j < n → T (option_open s d j) → T (link s d y (option j)) → ⊥
    no_option_after j l q k = go (links_in y (option j) here l k)
      where
        none : (z : Item) → T (meets w z (option j)) → ⊥
        none (option i) h = h
        none (ordering u) h = h

        go : T (cell known (end_of seconds y) j) ⊎ T (meets w y (option j)) → ⊥
        go (inl h) = free.option j (row j h) (option_in j l q)
        go (inr h) = none y h

    no_ordering_after : (u : ℕ) → u < m → T (ordering_open s d u) → T (link s d y (ordering u)) → ⊥
    unfolding ends_only
    no_ordering_after u l q k = go (links_in y (ordering u) here l k)
      where
        bit : has begins (get_or firsts u 0) ≡ true
        bit = end_in os.begin u l (ordering_in u l q)

        meet : (z : Item) → y ≡ z → T (meets w z (ordering u)) → ⊥
        meet (option i) e h = h
        meet (ordering z) e h = never (sym bit ∙ ap (has begins) (sym (at.is ∙ ap (end_of seconds) e ∙ eqb→eq (get_or seconds z 0) (get_or firsts u 0) h)) ∙ free.own (ordering_number x z e))

        go : T (cell known (end_of seconds y) (get_or firsts u 0)) ⊎ T (meets w y (ordering u)) → ⊥
        go (inl h) = free.ordering (get_or firsts u 0) (row (get_or firsts u 0) h) bit
        go (inr h) = meet y refl h

    pub nothing_after : T (not (open_item_after s d y))
    unfolding open_item_after
    nothing_after = not_T (open_item_after s d y) (λ h. go (or_e (some_below n (λ j. option_open s d j && link s d y (option j))) _ h))
      where
        go : T (some_below n (λ j. option_open s d j && link s d y (option j))) ⊎ T (some_below m (λ u. ordering_open s d u && link s d y (ordering u))) → ⊥
        go (inl h) = let (j, l, t) = some_out n _ h in no_option_after j l (and_l (option_open s d j) _ t) (and_r (option_open s d j) _ t)
        go (inr h) = let (u, l, t) = some_out m _ h in no_ordering_after u l (and_l (ordering_open s d u) _ t) (and_r (ordering_open s d u) _ t)

  -- ---- nothing open lies before it
  module _ (after : List ℕ) (turned : Transposed known after n) (o : ℕ) (at : OptionAt firsts n x o) (free : FreeSide (get_or after o 0) opens ends o x) where
    column : (j : ℕ) → j < n → T (cell known j (end_of firsts y)) → has (get_or after o 0) j ≡ true
    column j l t = turned.at j o l at.small ∙ T_true _ (subst (λ i. T (cell known j i)) (sym at.is) t)

    no_option_before : (j : ℕ) → j < n → T (option_open s d j) → T (link s d (option j) y) → ⊥
    no_option_before j l q k = go (links_in (option j) y l here k)
      where
        go : T (cell known j (end_of firsts y)) ⊎ T (meets w (option j) y) → ⊥
        go (inl h) = free.option j (column j l h) (option_in j l q)
        go (inr h) = h

    no_ordering_before : (u : ℕ) → u < m → T (ordering_open s d u) → T (link s d (ordering u) y) → ⊥
    unfolding ends_only
    no_ordering_before u l q k = go (links_in (ordering u) y l here k)
      where
        bit : has ends (get_or seconds u 0) ≡ true
        bit = end_in os.end u l (ordering_in u l q)

        meet : (z : Item) → y ≡ z → T (meets w (ordering u) z) → ⊥
        meet (option i) e h = h
        meet (ordering z) e h = never (sym bit ∙ ap (has ends) (eqb→eq (get_or seconds u 0) (get_or firsts z 0) h ∙ sym (at.is ∙ ap (end_of firsts) e)) ∙ free.own (ordering_number x z e))

        go : T (cell known (get_or seconds u 0) (end_of firsts y)) ⊎ T (meets w (ordering u) y) → ⊥
        go (inl h) = free.ordering (get_or seconds u 0) (column (get_or seconds u 0) (sh.ends.second u l) h) bit
        go (inr h) = meet y refl h

    pub nothing_before : T (not (open_item_before s d y))
    unfolding open_item_before
    nothing_before = not_T (open_item_before s d y) (λ h. go (or_e (some_below n (λ j. option_open s d j && link s d (option j) y)) _ h))
      where
        go : T (some_below n (λ j. option_open s d j && link s d (option j) y)) ⊎ T (some_below m (λ u. ordering_open s d u && link s d (ordering u) y)) → ⊥
        go (inl h) = let (j, l, t) = some_out n _ h in no_option_before j l (and_l (option_open s d j) _ t) (and_r (option_open s d j) _ t)
        go (inr h) = let (u, l, t) = some_out m _ h in no_ordering_before u l (and_l (ordering_open s d u) _ t) (and_r (ordering_open s d u) _ t)

  -- ---- an open ordering whose options are not open has them kept
  kept_end : (i : ℕ) → i < n → has opens i ≡ false → (T (option_dropped s d i) → ⊥) → T (option_kept s d i)
  kept_end i l e stays = go (test (option_kept s d i))
    where
      go : T (option_kept s d i) ⊎ (T (option_kept s d i) → ⊥) → T (option_kept s d i)
      go (inl t) = t
      go (inr k) = absurd (never (sym (option_in i l (not_T (option_kept s d i || option_dropped s d i) (λ h. or h))) ∙ e))
        where
          or : T (option_kept s d i || option_dropped s d i) → ⊥
          or h = elim (or_e (option_kept s d i) _ h) [ inl a ↦ k a | inr a ↦ stays a ]

  stands : (z : Item) → y ≡ z → T (item_open s d z) → (a b : ℕ) → OptionAt firsts n x a → OptionAt seconds n x b → ClosedEnds opens a b x → T (options_kept s d z)
  unfolding ordering_dropped
  stands (option i) e t a b p q c = tt
  stands (ordering u) e t a b p q c = and_i (option_kept s d (v.first u)) _ first second
    where
      l : u < m
      l = subst (ItemOnTheSheet s) e here

      big : 32 ≤ x
      big = ordering_number x u e

      dropped_no : T (ordering_dropped s d u) → ⊥
      dropped_no h = T_not (ordering_kept s d u || ordering_dropped s d u) t (or_r (ordering_kept s d u) _ h)

      first : T (option_kept s d (v.first u))
      first = let q : v.first u ≡ a = sh.first u l ∙ sym (p.is ∙ ap (end_of firsts) e) in
          kept_end (v.first u) (subst (λ i. i < n) (sym q) p.small) (ap (has opens) q ∙ c.first big)
          (λ h. dropped_no (or_r (is_dropped (d.ordering u)) _ (or_l (option_dropped s d (v.first u)) _ h)))

      second : T (option_kept s d (v.second u))
      second = let r : v.second u ≡ b = sh.second u l ∙ sym (q.is ∙ ap (end_of seconds) e) in
          kept_end (v.second u) (subst (λ i. i < n) (sym r) q.small) (ap (has opens) r ∙ c.second big)
          (λ h. dropped_no (or_r (is_dropped (d.ordering u)) _ (or_r (option_dropped s d (v.first u)) _ (or_l (option_dropped s d (v.second u)) _ h))))

  -- WHAT THE CODE FINDS LOOSE IS LOOSE, if it is open.
  pub loose_told : (after : List ℕ) → Transposed known after n → T (item_open s d y) → LooseBy known after firsts seconds n opens begins ends x → T (loose s d y)
  unfolding loose
  loose_told after turned t k = and_i (item_open s d y) _ t (and_i (options_kept s d y) _ (stands y refl t k.from k.to k.begins_at k.ends_at k.closed_ends) (go k.free))
    where
      go : FreeSide (get_or known k.to 0) opens begins k.to x ⊎ FreeSide (get_or after k.from 0) opens ends k.from x → T (not (open_item_after s d y) || not (open_item_before s d y))
      go (inl f) = or_l (not (open_item_after s d y)) _ (nothing_after k.to k.ends_at f)
      go (inr f) = or_r (not (open_item_after s d y)) _ (nothing_before after turned k.from k.begins_at f)
