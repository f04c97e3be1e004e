-- The list of forced decisions: what agrees agrees with it, it is a fixed point, and it opens nothing.
use Rattle.std.specs.Prelude.{◌≡◌, Bool, true, false, List, ◌++◌, take, drop}
use Rattle.std.proofs.Math.Path.{sym, subst, ap, fun_ext}
use Rattle.std.proofs.Common.{◌∙◌, length-drop, take_at, drop_at}
use Prim.Native.Nat.{ℕ, ◌-◌, ◌≤◌, ◌<◌, min}
use native.Mathlib.Omega.{arith}
use Rattle.std.proofs.Math.ListN.{length, get_or, length-take, length-append}
use Rattle.std.proofs.Math.Dec.{T, not_T}
use Rattle.rules.specs.Slots.{list_of}
use Rattle.rules.specs.Lines.{Lines}
use Rattle.rules.specs.Subscription.{Subscription, subscription, items, Proper}
use Rattle.rules.specs.Relaxation.{KeptBySlot, kept_by_slot, value, ConsistentRelaxation, value_of}
use Rattle.rules.specs.Decisions.{Decision, Open, is_open, is_kept, is_dropped, DecidedBySlot, decided_by_slot, Agrees, open_items}
use Rattle.rules.specs.KnownBefore.{OrderingKept, OptionKept, KnownFromTheStart, KnownBefore, ordering_kept, option_kept}
use Rattle.rules.specs.Forced.{OptionDropped, OrderingDropped, NoContradiction, option_dropped, ordering_dropped, decision_of, forced_option, forced_ordering, forced, NoneLeft}
use Rattle.rules.specs.Limits.{K}
use Rattle.rules.specs.laws.Tests.{bool_ext}
use Rattle.rules.specs.laws.Slots.{length_list_of, getD_list_of, list_of_same}
use Rattle.rules.specs.laws.Joined.{weaken}
use Rattle.rules.specs.laws.BySlot.{ConsistentBySlot, AgreesBySlot, OnTheSheet}
use Rattle.rules.specs.laws.Forced.{keeps_kept, drops_dropped, drops_dropped_ordering, least, least_consistent}
use Rattle.rules.proofs.laws.Computed.{option_kept_out, option_kept_in, option_kept_bound, option_dropped_out, option_dropped_in, ordering_dropped_out, ordering_dropped_in}
use Rattle.rules.specs.laws.Decisions.{not_decided_is_open, agrees_length, open_items_fall, open_items_split, just_the_kept, just_the_kept_at, length_just_the_kept, take_just_the_kept, drop_just_the_kept}
use Rattle.rules.specs.laws.OnSlots.{agrees_by_slot, agrees_from_slots, consistent_by_slot, consistent_from_slots, option_on_the_sheet, ordering_on_the_sheet, on_the_sheet}

-- ---- the decision made of two tests
kept_from : (a b : Bool) → T (is_kept (decision_of a b)) → T a
kept_from true b t = tt
kept_from false true t = t
kept_from false false t = t

dropped_from : (a b : Bool) → T (is_dropped (decision_of a b)) → T b
dropped_from true b t = absurd t
dropped_from false true t = tt
dropped_from false false t = t

kept_to : (a b : Bool) → T a → T (is_kept (decision_of a b))
kept_to true b t = tt
kept_to false b t = absurd t

dropped_to : (a b : Bool) → (T a → ⊥) → T b → T (is_dropped (decision_of a b))
dropped_to true b k t = absurd (k tt)
dropped_to false true k t = tt
dropped_to false false k t = t

pub open_from : (a b : Bool) → T (is_open (decision_of a b)) → (T a → ⊥) × (T b → ⊥)
open_from true b t = absurd t
open_from false true t = absurd t
open_from false false t = (λ z. z, λ z. z)

module _ (s : Lines) (ps : Proper s) (d : List Decision) (size : length d ≡ items s) where
  abbrev n : ℕ
  n = length s.options

  abbrev m : ℕ
  m = length s.orderings

  abbrev v : Subscription
  v = subscription s

  -- the decisions by slot, before forcing and after
  abbrev b : DecidedBySlot
  b = decided_by_slot s d

  abbrev b' : DecidedBySlot
  b' = decided_by_slot s (forced s d)

  on : OnTheSheet v b
  on = on_the_sheet s d size ps

  pub forced_length : length (forced s d) ≡ items s
  unfolding forced
  forced_length = length-append (list_of n (forced_option v b)) _ ∙ let e = length_list_of n (forced_option v b) in let f = length_list_of m (forced_ordering v b) in omega arith

  pub forced_option_at : (i : ℕ) → i < n → b'.option i ≡ decision_of (option_kept v b i) (option_dropped v b i)
  unfolding forced decided_by_slot forced_option
  forced_option_at i h = ap (λ l. get_or l i Open) (take_at (list_of n (forced_option v b)) (list_of m (forced_ordering v b)) n (length_list_of n (forced_option v b))) ∙ getD_list_of n (forced_option v b) Open i h

  pub forced_ordering_at : (u : ℕ) → u < m → b'.ordering u ≡ decision_of (ordering_kept v b u) (ordering_dropped v b u)
  unfolding forced decided_by_slot forced_ordering
  forced_ordering_at u h = ap (λ l. get_or l u Open) (drop_at (list_of n (forced_option v b)) (list_of m (forced_ordering v b)) n (length_list_of n (forced_option v b))) ∙ getD_list_of m (forced_ordering v b) Open u h

  -- ---- what the list holds is what the rules say
  pub option_kept_is_told : (i : ℕ) → T (is_kept (b'.option i)) → OptionKept v b i
  option_kept_is_told i t = option_kept_out v b i (kept_from (option_kept v b i) (option_dropped v b i)
      (subst (λ w. T (is_kept w)) (forced_option_at i (option_on_the_sheet s (forced s d) forced_length is_kept (λ z. z) i t)) t))

  pub told_option_is_kept : (i : ℕ) → OptionKept v b i → T (is_kept (b'.option i))
  unfolding subscription
  told_option_is_kept i k = subst (λ w. T (is_kept w)) (sym (forced_option_at i (option_kept_bound v b on i k))) (kept_to (option_kept v b i) (option_dropped v b i) (option_kept_in v b on i k))

  pub ordering_kept_is_told : (u : ℕ) → OrderingKept v b' u → OrderingKept v b u
  unfolding ordering_kept
  ordering_kept_is_told u t = kept_from (ordering_kept v b u) (ordering_dropped v b u)
      (subst (λ w. T (is_kept w)) (forced_ordering_at u (ordering_on_the_sheet s (forced s d) forced_length is_kept (λ z. z) u t)) t)

  pub told_ordering_is_kept : (u : ℕ) → OrderingKept v b u → OrderingKept v b' u
  unfolding ordering_kept subscription
  told_ordering_is_kept u k = subst (λ w. T (is_kept w)) (sym (forced_ordering_at u (on.ordering u k))) (kept_to (ordering_kept v b u) (ordering_dropped v b u) k)

  pub option_dropped_is_told : (i : ℕ) → T (is_dropped (b'.option i)) → OptionDropped v b i
  option_dropped_is_told i t = option_dropped_out v b i (dropped_from (option_kept v b i) (option_dropped v b i)
      (subst (λ w. T (is_dropped w)) (forced_option_at i (option_on_the_sheet s (forced s d) forced_length is_dropped (λ z. z) i t)) t))

  pub ordering_dropped_is_told : (u : ℕ) → T (is_dropped (b'.ordering u)) → OrderingDropped v b u
  ordering_dropped_is_told u t = ordering_dropped_out v b u (dropped_from (ordering_kept v b u) (ordering_dropped v b u)
      (subst (λ w. T (is_dropped w)) (forced_ordering_at u (ordering_on_the_sheet s (forced s d) forced_length is_dropped (λ z. z) u t)) t))

  -- EVERY CONSISTENT RELAXATION that agrees with the decisions agrees with the forced ones.
  pub agrees_with_forced : (r : List Bool) → ConsistentRelaxation s r → Agrees d r → Agrees (forced s d) r
  agrees_with_forced r ok a = agrees_from_slots s (forced s d) r (forced_length ∙ sym ok.relaxation.size) (record {
    keeps_option = λ i t. keeps_kept v b c cs ag i (option_kept_is_told i t);
    drops_option = λ i t. not_T (c.option i) (drops_dropped v b c cs ag i (option_dropped_is_told i t));
    keeps_ordering = λ u t. ag.keeps_ordering u (ordering_kept_is_told u t);
    drops_ordering = λ u t. not_T (c.ordering u) (drops_dropped_ordering v b c cs ag u (ordering_dropped_is_told u t));
  })
    where
      c : KeptBySlot
      c = kept_by_slot s r

      cs : ConsistentBySlot v c
      cs = consistent_by_slot s r ok

      ag : AgreesBySlot b c
      ag = agrees_by_slot s d r a

  -- ---- without a contradiction
  module _ (fine : NoContradiction v b) where
    told_option_is_dropped : (i : ℕ) → i < n → OptionDropped v b i → T (is_dropped (b'.option i))
    told_option_is_dropped i l h = subst (λ w. T (is_dropped w)) (sym (forced_option_at i l))
        (dropped_to (option_kept v b i) (option_dropped v b i) (λ k. fine.option i (option_kept_out v b i k) h) (option_dropped_in v b on i h))

    told_ordering_is_dropped : (u : ℕ) → u < m → OrderingDropped v b u → T (is_dropped (b'.ordering u))
    unfolding ordering_kept
    told_ordering_is_dropped u l h = subst (λ w. T (is_dropped w)) (sym (forced_ordering_at u l))
        (dropped_to (ordering_kept v b u) (ordering_dropped v b u) (λ k. fine.ordering u k h) (ordering_dropped_in v b on u h))

    -- What agrees with the forced decisions agrees with the decisions.
    pub forced_agrees : (r : List Bool) → Agrees (forced s d) r → Agrees d r
    forced_agrees r a = agrees_from_slots s d r (size ∙ sym forced_length ∙ agrees_length (forced s d) r a) (record {
      keeps_option = λ i t. ag.keeps_option i (told_option_is_kept i (OptionKept.given t));
      drops_option = λ i t. ag.drops_option i (told_option_is_dropped i (option_on_the_sheet s d size is_dropped (λ z. z) i t) (OptionDropped.given t));
      keeps_ordering = λ u t. ag.keeps_ordering u (told_ordering_is_kept u t);
      drops_ordering = λ u t. ag.drops_ordering u (told_ordering_is_dropped u (ordering_on_the_sheet s d size is_dropped (λ z. z) u t) (OrderingDropped.given t));
    })
      where
        ag : AgreesBySlot b' (kept_by_slot s r)
        ag = agrees_by_slot s (forced s d) r a

    -- Forcing opens nothing.
    pub forcing_opens_nothing : open_items (forced s d) ≤ open_items d
    unfolding decided_by_slot ordering_kept
    forcing_opens_nothing =
        let f = forced s d in
        let p = open_items_fall (take n f) (take n d) (length-take n f ∙ ap (λ k. min n k) (forced_length ∙ sym size) ∙ sym (length-take n d)) option in
        let q = open_items_fall (drop n f) (drop n d) (length-drop n f ∙ ap (λ k. k - n) (forced_length ∙ sym size) ∙ sym (length-drop n d)) ordering in
        let x = open_items_split n f in let y = open_items_split n d in omega arith
      where
        option : (i : ℕ) → i < length (take n d) → T (is_open (b'.option i)) → T (is_open (b.option i))
        option i l t = let k = length-take n d in let o = open_from (option_kept v b i) (option_dropped v b i) (subst (λ w. T (is_open w)) (forced_option_at i (omega arith)) t) in
            not_decided_is_open (b.option i) (λ h. o.0 (option_kept_in v b on i (OptionKept.given h))) (λ h. o.1 (option_dropped_in v b on i (OptionDropped.given h)))

        ordering : (u : ℕ) → u < length (drop n d) → T (is_open (b'.ordering u)) → T (is_open (b.ordering u))
        ordering u l t = let k = length-drop n d in let o = open_from (ordering_kept v b u) (ordering_dropped v b u) (subst (λ w. T (is_open w)) (forced_ordering_at u (omega arith)) t) in
            not_decided_is_open (b.ordering u) (λ h. o.0 h) (λ h. o.1 (ordering_dropped_in v b on u (OrderingDropped.given h)))

    -- Keeping just the kept, slot by slot: what the rules keep.
    least_option : (i : ℕ) → (kept_by_slot s (just_the_kept (forced s d))).option i ≡ option_kept v b i
    unfolding kept_by_slot decided_by_slot
    least_option i = ap (λ l. get_or l i false) (take_just_the_kept n (forced s d)) ∙ just_the_kept_at (take n (forced s d)) i
        ∙ bool_ext (is_kept (b'.option i)) (option_kept v b i) (λ t. option_kept_in v b on i (option_kept_is_told i t)) (λ t. told_option_is_kept i (option_kept_out v b i t))

    least_ordering : (u : ℕ) → (kept_by_slot s (just_the_kept (forced s d))).ordering u ≡ ordering_kept v b u
    unfolding kept_by_slot decided_by_slot ordering_kept
    least_ordering u = ap (λ l. get_or l u false) (drop_just_the_kept n (forced s d)) ∙ just_the_kept_at (drop n (forced s d)) u
        ∙ bool_ext (is_kept (b'.ordering u)) (is_kept (b.ordering u)) (ordering_kept_is_told u) (told_ordering_is_kept u)

    least_by_slot : kept_by_slot s (just_the_kept (forced s d)) ≡ least v b (option_kept v b) (option_kept_out v b) (option_kept_in v b on) fine
    unfolding ordering_kept
    least_by_slot = λ i. record { option = fun_ext least_option i; ordering = fun_ext least_ordering i }

    -- It is a consistent relaxation, and it is worth K.
    pub least_is_consistent : ConsistentRelaxation s (just_the_kept (forced s d))
    least_is_consistent = consistent_from_slots s (just_the_kept (forced s d)) (length_just_the_kept (forced s d) ∙ forced_length)
        (subst (λ c. ConsistentBySlot v c) (sym least_by_slot) (least_consistent v b (option_kept v b) (option_kept_out v b) (option_kept_in v b on) fine))

    pub least_is_worth_K : value_of s (just_the_kept (forced s d)) ≡ K v b
    unfolding value_of value K ordering_kept
    least_is_worth_K = ap (value v) least_by_slot

    -- ---- forcing again: the rules say nothing new
    kept_again : (i : ℕ) → OptionKept v b' i → OptionKept v b i
    kept_again i (OptionKept.given t) = option_kept_is_told i t
    kept_again i (OptionKept.first_of u k e) = OptionKept.first_of u (ordering_kept_is_told u k) e
    kept_again i (OptionKept.second_of u k e) = OptionKept.second_of u (ordering_kept_is_told u k) e

    known_again : {i j : ℕ} → KnownBefore v b' i j → KnownBefore v b i j
    known_again = weaken from_the_start kept_again
      where
        from_the_start : (i j : ℕ) → KnownFromTheStart v b' i j → KnownFromTheStart v b i j
        from_the_start i j (KnownFromTheStart.catalogue t) = KnownFromTheStart.catalogue t
        from_the_start i j (KnownFromTheStart.kept_ordering u k e f) = KnownFromTheStart.kept_ordering u (ordering_kept_is_told u k) e f

    dropped_again : (i : ℕ) → OptionDropped v b' i → OptionDropped v b i
    dropped_again i (OptionDropped.given t) = option_dropped_is_told i t
    dropped_again i (OptionDropped.before_itself p) = OptionDropped.before_itself (known_again p)
    dropped_again i (OptionDropped.before_and_after_a_kept_option j k p q) = OptionDropped.before_and_after_a_kept_option j (kept_again j k) (known_again p) (known_again q)

    ordering_dropped_again : (u : ℕ) → OrderingDropped v b' u → OrderingDropped v b u
    ordering_dropped_again u (OrderingDropped.given t) = ordering_dropped_is_told u t
    ordering_dropped_again u (OrderingDropped.first_dropped h) = OrderingDropped.first_dropped (dropped_again _ h)
    ordering_dropped_again u (OrderingDropped.second_dropped h) = OrderingDropped.second_dropped (dropped_again _ h)
    ordering_dropped_again u (OrderingDropped.known_the_other_way p) = OrderingDropped.known_the_other_way (known_again p)

    -- NO RULE OF 01 applies to the forced decisions any more.
    pub none_left : NoneLeft s (forced s d)
    none_left = record {
      kept = λ i k. told_option_is_kept i (kept_again i k);
      dropped = λ i l h. told_option_is_dropped i l (dropped_again i h);
      orderings_dropped = λ u l h. told_ordering_is_dropped u l (ordering_dropped_again u h);
    }

    on' : OnTheSheet v b'
    on' = on_the_sheet s (forced s d) forced_length ps

    option_kept_same : (i : ℕ) → option_kept v b' i ≡ option_kept v b i
    option_kept_same i = bool_ext (option_kept v b' i) (option_kept v b i) (λ t. option_kept_in v b on i (kept_again i (option_kept_out v b' i t)))
        (λ t. option_kept_in v b' on' i (OptionKept.given (told_option_is_kept i (option_kept_out v b i t))))

    option_dropped_same : (i : ℕ) → i < n → option_dropped v b' i ≡ option_dropped v b i
    option_dropped_same i l = bool_ext (option_dropped v b' i) (option_dropped v b i) (λ t. option_dropped_in v b on i (dropped_again i (option_dropped_out v b' i t)))
        (λ t. option_dropped_in v b' on' i (OptionDropped.given (told_option_is_dropped i l (option_dropped_out v b i t))))

    ordering_kept_same : (u : ℕ) → ordering_kept v b' u ≡ ordering_kept v b u
    unfolding ordering_kept
    ordering_kept_same u = bool_ext (ordering_kept v b' u) (ordering_kept v b u) (ordering_kept_is_told u) (told_ordering_is_kept u)

    ordering_dropped_same : (u : ℕ) → u < m → ordering_dropped v b' u ≡ ordering_dropped v b u
    ordering_dropped_same u l = bool_ext (ordering_dropped v b' u) (ordering_dropped v b u) (λ t. ordering_dropped_in v b on u (ordering_dropped_again u (ordering_dropped_out v b' u t)))
        (λ t. ordering_dropped_in v b' on' u (OrderingDropped.given (told_ordering_is_dropped u l (ordering_dropped_out v b u t))))

    -- Forced decisions are a FIXED POINT.
    pub forced_twice : forced s (forced s d) ≡ forced s d
    unfolding forced forced_option forced_ordering
    forced_twice =
        let p = list_of_same n (forced_option v b') (forced_option v b) (λ i l. same (option_kept_same i) (option_dropped_same i l)) in
        let q = list_of_same m (forced_ordering v b') (forced_ordering v b) (λ u l. same (ordering_kept_same u) (ordering_dropped_same u l)) in
        ap (λ x. x ++ list_of m (forced_ordering v b')) p ∙ ap (λ x. list_of n (forced_option v b) ++ x) q
      where
        same : {a a' c c' : Bool} → a ≡ a' → c ≡ c' → decision_of a c ≡ decision_of a' c'
        same e f = λ i. decision_of (e i) (f i)
