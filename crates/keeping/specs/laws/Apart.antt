-- Sets that are apart stay so: forced decisions without a contradiction, and one open item more.
use Rattle.std.specs.Prelude.{◌≡◌, Bool, not, ◌&&◌, cond, ◌⊎◌, ℕ, ◌-◌, ◌<◌, T, eqb}
use Rattle.std.proofs.Math.Path.{refl, subst}
use Rattle.std.proofs.Common.{sym, ap, ◌∙◌, inl, inr, ltb-true, ltb-false, eqb→eq, ltb→lt}
use Rattle.std.proofs.Math.Bool.{true, false}
use Rattle.std.proofs.Math.Dec.{T_not, ltb}
use Rattle.std.proofs.Props.{props}
use mathlib.Core.Logic.{∥∥₁_elim}
use Rattle.chart.specs.Chart.{BySlot, ASheet}
use Rattle.rules.specs.Slots.{some_below}
use Rattle.rules.specs.Subscription.{Subscription, subscription}
use Rattle.rules.specs.Decisions.{DecidedBySlot, decided_by_slot}
use Rattle.rules.specs.KnownBefore.{ordering_kept, option_kept}
use Rattle.rules.specs.Forced.{option_dropped, contradiction}
use Rattle.rules.specs.laws.Tests.{and_l, and_r, and_i, or_l, or_r, or_e}
use Rattle.rules.specs.laws.Slots.{some_in}
use Rattle.rows.specs.Bits.{has, with}
use Rattle.rows.specs.Sets.{Holds}
use Rattle.rows.specs.laws.Bits.{has_none, has_with_slot}
use Rattle.forced.specs.Forced.{ForcedAs, ForcedBy}
use Rattle.given.specs.declared.sets.Given.{Given}
use Rattle.forced.specs.declared.forcing.Forced.{Forced}
use Rattle.keeping.specs.Sets.{decisions_of, Apart, OpenItem, sets_of, nothing_given, with_option_kept, with_option_dropped, with_ordering_kept, with_ordering_dropped, with_item_kept, with_item_dropped}
use Rattle.keeping.specs.laws.Shown.{forced_as}

holds_below : {row n : ℕ} {p : ℕ → Bool} → Holds row n p → (i : ℕ) → T (has row i) → (i < n) × T (p i)
holds_below {row} {n} {p} w i t = let k = subst T (w.at i) t in (ltb→lt i n (and_l (ltb i n) _ k), and_r (ltb i n) _ k)

-- A set with slot i in it: slot j is i, or was there.
with_cases : (row i j : ℕ) → T (has (with row i) j) → T (has row j) ⊎ (i ≡ j)
with_cases row i j t = go (or_e (has row j) _ (subst T (has_with_slot row i j) t))
  where
    go : T (has row j) ⊎ T (eqb i j) → T (has row j) ⊎ (i ≡ j)
    go (inl h) = inl h
    go (inr h) = inr (eqb→eq i j h)

module _ (chart : BySlot) (sheet : ASheet chart) (g : Given) (apart : Apart chart g) (f : Forced) (by : ForcedBy chart g f) (e : f.contradiction ≡ false) where
  abbrev v : Subscription
  v = subscription sheet.lines

  abbrev b : DecidedBySlot
  b = decided_by_slot sheet.lines (decisions_of chart g)

  fa : ForcedAs v b f
  fa = forced_as chart sheet.lines sheet.show g apart f by

  fine : T (not (contradiction v b))
  fine = subst (λ x. T (not x)) (sym (sym fa.contradicts ∙ e)) tt

  apart_on : Apart chart (sets_of f)
  unfolding contradiction subscription
  apart_on = record {
    options = λ i k h. let (l, x) = holds_below fa.kept i k in let (_, y) = holds_below fa.dropped i h in
        T_not (contradiction v b) fine (or_l (some_below v.option_count (λ i. option_kept v b i && option_dropped v b i)) _ (some_in v.option_count _ i l (and_i (option_kept v b i) _ x y)));
    orderings = λ u k h. let (l, x) = holds_below fa.kept_orderings u k in let (_, y) = holds_below fa.dropped_orderings u h in
        T_not (contradiction v b) fine (or_r (some_below v.option_count (λ i. option_kept v b i && option_dropped v b i)) _ (some_in v.ordering_count _ u l (and_i (ordering_kept v b u) _ x y)));
    kept = λ i k. subst (λ z. i < z) sheet.show.options (holds_below fa.kept i k).0;
    dropped = λ i k. subst (λ z. i < z) sheet.show.options (holds_below fa.dropped i k).0;
    kept_orderings = λ u k. subst (λ z. u < z) sheet.show.orderings (holds_below fa.kept_orderings u k).0;
    dropped_orderings = λ u k. subst (λ z. u < z) sheet.show.orderings (holds_below fa.dropped_orderings u k).0;
  }

pub forced_apart : (chart : BySlot) → ∥ ASheet chart ∥₁ → (g : Given) → Apart chart g → (f : Forced) → ForcedBy chart g f → f.contradiction ≡ false → Apart chart (sets_of f)
forced_apart chart of_a_sheet g apart f by e = ∥∥₁_elim of_a_sheet (hlevel props) (λ sheet. apart_on chart sheet g apart f by e)

nothing_has : (i : ℕ) → T (has 0 i) → ⊥
nothing_has i t = subst T (has_none i) t

pub nothing_apart : (chart : BySlot) → Apart chart nothing_given
nothing_apart chart = record {
  options = λ i t _. nothing_has i t;
  orderings = λ u t _. nothing_has u t;
  kept = λ i t. absurd (nothing_has i t);
  dropped = λ i t. absurd (nothing_has i t);
  kept_orderings = λ u t. absurd (nothing_has u t);
  dropped_orderings = λ u t. absurd (nothing_has u t);
}

-- ---- one slot more in a set
module _ (row other k i : ℕ) (l : i < k) (free : has other i ≡ false) (apart : (j : ℕ) → T (has row j) → T (has other j) → ⊥) (below : (j : ℕ) → T (has row j) → j < k) where
  still_apart : (j : ℕ) → T (has (with row i) j) → T (has other j) → ⊥
  still_apart j t h = go (with_cases row i j t)
    where
      go : T (has row j) ⊎ (i ≡ j) → ⊥
      go (inl w) = apart j w h
      go (inr e) = subst T (ap (has other) (sym e) ∙ free) h

  still_below : (j : ℕ) → T (has (with row i) j) → j < k
  still_below j t = go (with_cases row i j t)
    where
      go : T (has row j) ⊎ (i ≡ j) → j < k
      go (inl w) = below j w
      go (inr e) = subst (λ z. z < k) e l

module _ (chart : BySlot) (g : Given) (apart : Apart chart g) (x : ℕ) (o : OpenItem chart g x) where
  abbrev n : ℕ
  n = chart.option_count

  abbrev m : ℕ
  m = chart.ordering_count

  pub item_kept_apart : Apart chart (with_item_kept g x)
  unfolding with_item_kept
  item_kept_apart = go (ltb x 32) refl
    where
      go : (q : Bool) → ltb x 32 ≡ q → Apart chart (cond q (with_option_kept g x) (with_ordering_kept g (x - 32)))
      go true e = let w = o.option (ltb-true x 32 e) in record {
        options = still_apart g.kept g.dropped n x w.0 w.2 apart.options apart.kept;
        orderings = apart.orderings;
        kept = still_below g.kept g.dropped n x w.0 w.2 apart.options apart.kept;
        dropped = apart.dropped;
        kept_orderings = apart.kept_orderings;
        dropped_orderings = apart.dropped_orderings;
      }
      go false e = let w = o.ordering (ltb-false x 32 e) in record {
        options = apart.options;
        orderings = still_apart g.kept_orderings g.dropped_orderings m (x - 32) w.0 w.2 apart.orderings apart.kept_orderings;
        kept = apart.kept;
        dropped = apart.dropped;
        kept_orderings = still_below g.kept_orderings g.dropped_orderings m (x - 32) w.0 w.2 apart.orderings apart.kept_orderings;
        dropped_orderings = apart.dropped_orderings;
      }

  pub item_dropped_apart : Apart chart (with_item_dropped g x)
  unfolding with_item_dropped
  item_dropped_apart = go (ltb x 32) refl
    where
      go : (q : Bool) → ltb x 32 ≡ q → Apart chart (cond q (with_option_dropped g x) (with_ordering_dropped g (x - 32)))
      go true e = let w = o.option (ltb-true x 32 e) in record {
        options = λ j k h. still_apart g.dropped g.kept n x w.0 w.1 (λ j s t. apart.options j t s) apart.dropped j h k;
        orderings = apart.orderings;
        kept = apart.kept;
        dropped = still_below g.dropped g.kept n x w.0 w.1 (λ j s t. apart.options j t s) apart.dropped;
        kept_orderings = apart.kept_orderings;
        dropped_orderings = apart.dropped_orderings;
      }
      go false e = let w = o.ordering (ltb-false x 32 e) in record {
        options = apart.options;
        orderings = λ j k h. still_apart g.dropped_orderings g.kept_orderings m (x - 32) w.0 w.1 (λ j s t. apart.orderings j t s) apart.dropped_orderings j h k;
        kept = apart.kept;
        dropped = apart.dropped;
        kept_orderings = apart.kept_orderings;
        dropped_orderings = still_below g.dropped_orderings g.kept_orderings m (x - 32) w.0 w.1 (λ j s t. apart.orderings j t s) apart.dropped_orderings;
      }
