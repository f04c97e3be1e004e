-- Each way out of the dive and of the pass for the value keeps its promise; what they come to for the whole sheet.
use Rattle.std.specs.Prelude.{◌≡◌, Bool, true, false, not, List, ℕ, suc, ◌+◌, ◌≤◌, ◌<◌, max, T, leb, Some, None}
use Rattle.std.proofs.Common.{sym, subst, ap, ◌∙◌, arith, leb→le}
use Rattle.std.proofs.Math.Dec.{nleb→lt}
use Rattle.rules.specs.Lines.{Lines}
use Rattle.rules.specs.Relaxation.{ConsistentRelaxation, value_of}
use Rattle.rules.specs.Decisions.{Decision, open_items}
use Rattle.rules.specs.laws.Decisions.{just_the_kept}
use Rattle.rules.specs.laws.Best.{none_kept, dropping_all_is_consistent, dropping_all_is_worth_nothing}
use Rattle.rules.specs.laws.search.Reduces.{Reduces}
use Rattle.rules.specs.laws.search.Valued.{Valued, value_split, value_cut, value_leaf, value_worse, value_reduced}
use Rattle.rules.specs.Subscription.{items}
use Rattle.half.specs.Weights.{largest_sum}
use Rattle.given.specs.declared.sets.Given.{Given}
use Rattle.chart.specs.Chart.{BySlot, ShowsSheet}
use Rattle.keeping.specs.Sets.{decisions_of, place, with_item_kept, with_item_dropped}
use Rattle.settle.specs.Settled.{LeftOf, NothingWorth}
use Rattle.keeping.specs.laws.Shown.{item_kept_shown, item_dropped_shown}
use Rattle.settle.specs.declared.settling.Settled.{Settled}
use Rattle.picks.specs.Picked.{Picked}
use Rattle.value.specs.Value.{ValuedAs, Reached}
use Rattle.settle.specs.laws.Items.{open_item, is_open_there, none_open}

-- ---- the dive
module _ (chart : BySlot) where
  -- with everything dropped the value is 0
  pub reached_nought : Reached chart 0
  reached_nought = record { small = omega arith; reached = λ s sh. (none_kept (items s), dropping_all_is_consistent s, dropping_all_is_worth_nothing s) }

  pub reached_kept : (want : ℕ) (g : Given) (x : Settled) → LeftOf chart want g x → Reached chart x.lower
  reached_kept want g x left = record { small = left.small; reached = λ s sh. (just_the_kept (decisions_of chart x.given), left.consistent s sh, left.worth s sh) }

-- ---- the pass for the value
module _ (chart : BySlot) (floor : ℕ) (small : floor ≤ largest_sum) (g : Given) where
  abbrev n : ℕ
  n = chart.option_count

  abbrev m : ℕ
  m = chart.ordering_count

  abbrev d : List Decision
  d = decisions_of chart g

  abbrev Promise : ℕ → Given → ℕ → Type 0
  Promise = ValuedAs chart

  pub value_over : NothingWorth chart (floor + 1) g → Promise floor g floor
  value_over over = record { small = small; valued = λ s sh stop. value_cut (value_of s) (ConsistentRelaxation s) stop floor d floor (λ r o a. let h = over s sh r o a in omega arith) (omega arith) }

  module _ (x : Settled) (left : LeftOf chart (floor + 1) g x) where
    of_left : (s : Lines) → ShowsSheet s chart → (stop w : ℕ) → Valued (value_of s) (ConsistentRelaxation s) stop floor (decisions_of chart x.given) w → Valued (value_of s) (ConsistentRelaxation s) stop floor d w
    of_left s sh stop w v = value_reduced (value_of s) (ConsistentRelaxation s) stop floor w d (decisions_of chart x.given)
        (subst (λ k. Reduces (value_of s) (ConsistentRelaxation s) 0 k d (decisions_of chart x.given)) (let q : floor + 1 ≡ suc floor = omega arith in q) (left.reduces s sh)) v

    pub value_at_leaf : Picked x.open_options x.open_orderings n m None → (w : ℕ) → w ≡ max floor x.lower → Promise floor g w
    value_at_leaf picked w q = record { small = (let l = left.small in omega arith); valued = λ s sh stop. of_left s sh stop w (go s sh stop (leb floor x.lower) (leb→le floor x.lower) (nleb→lt floor x.lower)) }
      where
        z : open_items (decisions_of chart x.given) ≡ 0
        z = none_open x left picked

        go : (s : Lines) → (sh : ShowsSheet s chart) → (stop : ℕ) → (b : Bool) → (T b → floor ≤ x.lower) → (T (not b) → x.lower < floor) → Valued (value_of s) (ConsistentRelaxation s) stop floor (decisions_of chart x.given) w
        go s sh stop true p _ = let v = left.worth s sh in let l = p tt in
            subst (λ y. Valued (value_of s) (ConsistentRelaxation s) stop floor (decisions_of chart x.given) y) (let y : value_of s (just_the_kept (decisions_of chart x.given)) ≡ w = omega arith in y)
            (value_leaf (value_of s) (ConsistentRelaxation s) stop floor (decisions_of chart x.given) z (left.consistent s sh) (omega arith))
        go s sh stop false _ p = let v = left.worth s sh in let l = p tt in
            subst (λ y. Valued (value_of s) (ConsistentRelaxation s) stop floor (decisions_of chart x.given) y) (let y : floor ≡ w = omega arith in y)
            (value_worse (value_of s) (ConsistentRelaxation s) stop floor (decisions_of chart x.given) z (omega arith))

    -- any open item is kept (y), and after that dropped (z)
    pub value_at_split : (i : ℕ) → Picked x.open_options x.open_orderings n m (Some i) → (y z : Given) → y ≡ with_item_kept x.given i → z ≡ with_item_dropped x.given i → (b w : ℕ) → Promise floor y b → Promise b z w → Promise floor g w
    value_at_split i picked y z p q b w u v = record {
      small = v.small;
      valued = λ s sh stop. of_left s sh stop w (value_split (value_of s) (ConsistentRelaxation s) stop floor b w (decisions_of chart x.given) (place n i) (is_open_there x left i picked)
          (subst (λ k. Valued (value_of s) (ConsistentRelaxation s) stop floor k b) (ap (decisions_of chart) p ∙ sym (item_kept_shown chart x.given i (open_item x left i picked))) (u.valued s sh stop))
          (subst (λ k. Valued (value_of s) (ConsistentRelaxation s) stop b k w) (ap (decisions_of chart) q ∙ sym (item_dropped_shown chart x.given i (open_item x left i picked))) (v.valued s sh stop)));
    }
