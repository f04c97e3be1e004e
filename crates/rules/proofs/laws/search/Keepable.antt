-- What charged conflicts and loose items say at one half-decided sheet: a limit, a cut, and the open items that may all be kept at once.
use Rattle.std.specs.Prelude.{◌≡◌, refl, Bool, false, not, ◌⊎◌, ℕ, zero, suc, ◌+◌, ◌≤◌, ◌<◌, length, get_or, set}
use Rattle.std.proofs.Math.Path.{sym, subst}
use Rattle.std.proofs.Common.{◌∙◌, inl, inr, eq-or-lt_of_le, le_of_suc-le-suc, arith, length-set, get_or-set_same, get_or-set_other, ext_get_or}
use Rattle.std.proofs.Math.Bool.{true}
use mathlib.Core.List.{List}
use Rattle.std.proofs.Math.Decide.{ℕ_discrete}
use Rattle.std.proofs.Math.Dec.{T, not_T}
use Rattle.rules.specs.Lines.{Lines}
use Rattle.rules.specs.Subscription.{Subscription, subscription, items, Proper}
use Rattle.rules.specs.Relaxation.{kept_by_slot, value, ConsistentRelaxation, value_of}
use Rattle.rules.specs.Decisions.{Decision, Open, Kept, is_open, DecidedBySlot, decided_by_slot, Agrees, open_items}
use Rattle.rules.specs.Forced.{contradiction, forced}
use Rattle.rules.specs.Limits.{M, D}
use Rattle.rules.specs.laws.Tests.{test}
use Rattle.rules.specs.laws.BySlot.{ConsistentBySlot}
use Rattle.rules.proofs.laws.Computed.{no_contradiction_out}
use Rattle.rules.specs.laws.Decisions.{agrees_length, open_items_fall, one_item_less, just_the_kept, just_the_kept_agrees}
use Rattle.rules.specs.laws.OnSlots.{agrees_by_slot, consistent_by_slot, consistent_from_slots, kept_on_the_sheet, on_the_sheet}
use Rattle.rules.proofs.laws.ForcedList.{forced_length, agrees_with_forced, forced_agrees, least_is_consistent}
use Rattle.rules.specs.laws.search.Reduces.{Reduces, reduces_forced, reduces_kept}
use Rattle.rules.proofs.laws.search.Reduces.{reduces_then, reduces_loose}
use Rattle.rules.specs.laws.search.Items.{Item, keeps}
use Rattle.rules.specs.laws.search.Residual.{Residual, held}
use Rattle.rules.specs.laws.search.Charged.{Charged}
use Rattle.rules.proofs.laws.search.Charged.{charged_upper, dropped_upper}
use Rattle.rules.proofs.laws.search.Loose.{ItemOnTheSheet, loose, adding_value, loose_may_be_added}
use Rattle.rules.proofs.laws.search.Places.{place_of, item_at, Standing, stands_at, keeps_at, set_adds}

module _ (s : Lines) (ps : Proper s) (tolerance : ℕ) (d : List Decision) (size : length d ≡ items s) where
  abbrev v : Subscription
  v = subscription s

  abbrev b : DecidedBySlot
  b = decided_by_slot s d

  -- What is charged is missing from every consistent relaxation that agrees, beside what is dropped.
  pub charged_limit_holds : (k : ℕ) (r : Residual) → Charged v b k r → (c : List Bool) → ConsistentRelaxation s c → Agrees d c → value_of s c + D v b + k ≤ M v b
  unfolding value_of
  charged_limit_holds k r h c ok ag = charged_upper v b k r h (kept_by_slot s c) (consistent_by_slot s c ok) (agrees_by_slot s d c ag)

  -- Where nothing contradicts, what is charged fits in what is not dropped.
  pub charged_fits : T (not (contradiction v b)) → (k : ℕ) (r : Residual) → Charged v b k r → D v b + k ≤ M v b
  charged_fits fine_test k r h =
      let fine = no_contradiction_out v b (on_the_sheet s d size ps) fine_test in
      let c = just_the_kept (forced s d) in
      let p = charged_limit_holds k r h c (least_is_consistent s ps d size fine) (forced_agrees s ps d size fine c (just_the_kept_agrees (forced s d))) in omega arith

  -- An open item may be kept if without it nothing reaches the goal, by what is charged and what its consequences still hold, or if it is loose.
  pub data Keepable (goal : ℕ) (x : Item) : Type 0 where
    needed : (k : ℕ) (r : Residual) → Charged v b k r → M v b < goal + tolerance + D v b + k + held v r x → Keepable goal x
    loose_item : T (loose v b x) → Keepable goal x

  -- At a place stands what forcing left there, or an open item is kept that may be.
  pub data AsForcedOrKept (goal : ℕ) (e : List Decision) (p : ℕ) : Type 0 where
    as_forced : get_or e p Open ≡ get_or (forced s d) p Open → AsForcedOrKept goal e p
    kept_too : get_or e p Open ≡ Kept → T (is_open (get_or (forced s d) p Open)) → Keepable goal (item_at s p) → AsForcedOrKept goal e p

  pub record KeepsKeepable (goal : ℕ) (e : List Decision) : Type 0 where
    pub long : length e ≡ items s
    pub places : (p : ℕ) → p < items s → AsForcedOrKept goal e p

  -- A relaxation that drops a loose item may be given it.
  loose_more : (x : Item) → ItemOnTheSheet v x → T (loose v b x) → (c : List Bool) → ConsistentRelaxation s c → Agrees d c → T (not (get_or c (place_of s x) false))
      → ConsistentRelaxation s (set c (place_of s x) true) × (value_of s c ≤ value_of s (set c (place_of s x) true))
  unfolding value_of
  loose_more x on t c ok ag m =
      let e = set_adds s c x ok.relaxation.size on in
      let drops = subst (λ z. T (not z)) (sym (keeps_at s c x on)) m in (
        consistent_from_slots s (set c (place_of s x) true) (length-set c (place_of s x) true ∙ ok.relaxation.size)
            (subst (λ z. ConsistentBySlot v z) (sym e) (loose_may_be_added v b (on_the_sheet s d size ps) (kept_by_slot s c) (consistent_by_slot s c ok) (agrees_by_slot s d c ag) (kept_on_the_sheet s c ok.relaxation.size) x on t drops)),
        subst (λ z. value v (kept_by_slot s c) ≤ value v z) (sym e) (adding_value v (kept_by_slot s c) x),
      )

  -- More may be decided meanwhile (`now`): forced decisions, and items kept by this law.
  keeping_reduces : (goal : ℕ) (now : List Decision) → ((c : List Bool) → Agrees now c → Agrees d c) → length now ≡ items s
      → (x : Item) → ItemOnTheSheet v x → place_of s x < items s → T (is_open (get_or now (place_of s x) Open)) → Keepable goal x → Reduces (value_of s) (ConsistentRelaxation s) tolerance goal now (set now (place_of s x) Kept)
  unfolding value_of
  keeping_reduces goal now from long x on l o (needed k r h few) =
      reduces_kept (value_of s) (ConsistentRelaxation s) tolerance goal now (place_of s x) o (λ c ok a w. go c ok (from c a) w (test (keeps (kept_by_slot s c) x)))
    where
      go : (c : List Bool) → ConsistentRelaxation s c → Agrees d c → goal + tolerance ≤ value v (kept_by_slot s c)
          → T (keeps (kept_by_slot s c) x) ⊎ (T (keeps (kept_by_slot s c) x) → ⊥) → T (get_or c (place_of s x) false)
      go c ok a w (inl t) = subst T (keeps_at s c x on) t
      go c ok a w (inr n) = let p = dropped_upper v b k r h x (kept_by_slot s c) (consistent_by_slot s c ok) (agrees_by_slot s d c a) (not_T (keeps (kept_by_slot s c) x) n) in absurd (omega arith)
  keeping_reduces goal now from long x on l o (loose_item t) =
      reduces_loose (value_of s) (ConsistentRelaxation s) tolerance goal now (place_of s x) (omega arith) o
      (λ c ok a. sym (agrees_length now c a)) (λ c ok a. loose_more x on t c ok (from c a))

  module _ (fine_test : T (not (contradiction v b))) (goal : ℕ) (e : List Decision) (keeps_them : KeepsKeepable goal e) where
    abbrev f : List Decision
    f = forced s d

    abbrev To : List Decision → Type 0
    To now = Reduces (value_of s) (ConsistentRelaxation s) tolerance goal d now

    forcing : To f
    forcing = let fine = no_contradiction_out v b (on_the_sheet s d size ps) fine_test in
        reduces_forced (value_of s) (ConsistentRelaxation s) tolerance goal d f (forced_agrees s ps d size fine) (agrees_with_forced s ps d size)

    -- `now` is e below place k, and what forcing left from there on.
    record Filled (k : ℕ) (now : List Decision) : Type 0 where
      full : length now ≡ items s
      reached : To now
      below : (p : ℕ) → p < k → get_or now p Open ≡ get_or e p Open
      ahead : (p : ℕ) → k ≤ p → get_or now p Open ≡ get_or f p Open

    extend : (k : ℕ) (now : List Decision) → ((p : ℕ) → p < k → get_or now p Open ≡ get_or e p Open) → get_or now k Open ≡ get_or e k Open → (p : ℕ) → p < suc k → get_or now p Open ≡ get_or e p Open
    extend k now h q p l = go (eq-or-lt_of_le (le_of_suc-le-suc l))
      where
        go : (p ≡ k) ⊎ (p < k) → get_or now p Open ≡ get_or e p Open
        go (inl z) = subst (λ j. get_or now j Open ≡ get_or e j Open) (sym z) q
        go (inr m) = h p m

    next : (k : ℕ) (now : List Decision) → k < items s → Filled k now → AsForcedOrKept goal e k → (now' : List Decision) × Filled (suc k) now'
    next k now l w (as_forced q) = (now, record { full = w.full; reached = w.reached; below = extend k now w.below (w.ahead k (omega arith) ∙ sym q); ahead = λ p m. w.ahead p (omega arith) })
    next k now l w (kept_too q o m) = (
      set now k Kept,
      record {
        full = length-set now k Kept ∙ w.full;
        reached = reduces_then (value_of s) (ConsistentRelaxation s) tolerance goal d now (set now k Kept) w.reached kept_here;
        below = extend k (set now k Kept) (λ p h. get_or-set_other now k p Kept Open (λ z. omega arith) ∙ w.below p h) (get_or-set_same now k Kept Open (let z = w.full in omega arith) ∙ sym q);
        ahead = λ p h. get_or-set_other now k p Kept Open (λ z. omega arith) ∙ w.ahead p (omega arith);
      },
    )
      where
        there : Standing s k (item_at s k)
        there = stands_at s k l

        kept_here : Reduces (value_of s) (ConsistentRelaxation s) tolerance goal now (set now k Kept)
        kept_here = subst (λ p. Reduces (value_of s) (ConsistentRelaxation s) tolerance goal now (set now p Kept)) there.place
            (keeping_reduces goal now w.reached.from w.full (item_at s k) there.on_the_sheet (subst (λ p. p < items s) (sym there.place) l)
            (subst (λ p. T (is_open (get_or now p Open))) (sym there.place) (subst (λ z. T (is_open z)) (sym (w.ahead k (omega arith))) o)) m)

    fill : (m k : ℕ) (now : List Decision) → k + m ≡ items s → Filled k now → To e
    fill zero k now h w = subst To (ext_get_or Open now e (w.full ∙ sym keeps_them.long) (λ p l. w.below p (let z = w.full in omega arith))) w.reached
    fill (suc m) k now h w = let (now', w') = next k now (omega arith) w (keeps_them.places k (omega arith)) in fill m (suc k) now' (omega arith) w'

    -- ALL KEEPABLE ITEMS MAY BE KEPT AT ONCE.
    pub reduces_keepable : To e
    reduces_keepable = fill (items s) 0 f (omega arith) (record { full = forced_length s ps d size; reached = forcing; below = λ p l. absurd (omega arith); ahead = λ p l. refl })

    open_before : (p : ℕ) → AsForcedOrKept goal e p → T (is_open (get_or e p Open)) → T (is_open (get_or f p Open))
    open_before p (as_forced q) t = subst (λ z. T (is_open z)) q t
    open_before p (kept_too q o m) t = o

    -- Where one place differs fewer items are open.
    pub keeping_closes_one : (p : ℕ) → p < items s → (get_or e p Open ≡ get_or f p Open → ⊥) → open_items e < open_items f
    keeping_closes_one p l differs = go (keeps_them.places p l)
      where
        full : length f ≡ items s
        full = forced_length s ps d size

        go : AsForcedOrKept goal e p → open_items e < open_items f
        go (as_forced q) = absurd (differs q)
        go (kept_too q o m) =
            let a = one_item_less Kept f p (λ z. z) (let z = full in omega arith) o in
            let c = open_items_fall e (set f p Kept) (keeps_them.long ∙ sym (length-set f p Kept ∙ full)) (λ i h t. at i (let z = length-set f p Kept ∙ full in omega arith) t (ℕ_discrete i p)) in omega arith
          where
            at : (i : ℕ) → i < items s → T (is_open (get_or e i Open)) → Dec (i ≡ p) → T (is_open (get_or (set f p Kept) i Open))
            at i h t (yes z) = absurd (subst (λ w. T (is_open w)) q (subst (λ j. T (is_open (get_or e j Open))) z t))
            at i h t (no z) = subst (λ w. T (is_open w)) (sym (get_or-set_other f p i Kept Open z)) (open_before i (keeps_them.places i h) t)
