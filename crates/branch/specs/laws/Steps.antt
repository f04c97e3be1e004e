-- Each way out of the recursive branch keeps its promise.
use Rattle.std.specs.Prelude.{◌≡◌, refl, Bool, true, false, cond, List, ℕ, suc, ◌+◌, ◌≤◌, ◌<◌, set, T, ltb, is_some, Some, None}
use Rattle.std.proofs.Common.{sym, ap, ◌∙◌, arith, ltb-true, ltb-false}
use Rattle.std.proofs.Math.Path.{subst}
use Rattle.std.proofs.Math.Option.{some}
use Rattle.rules.specs.Lines.{Lines}
use Rattle.rules.specs.Relaxation.{ConsistentRelaxation, value_of}
use Rattle.rules.specs.Decisions.{Decision, Kept, Dropped, open_items}
use Rattle.rules.specs.laws.Decisions.{just_the_kept}
use Rattle.rules.specs.laws.search.Branch.{decide_next, decide_next_sets}
use Rattle.rules.specs.laws.search.Finds as R
use Rattle.rules.specs.laws.search.Finds.{Finds, nothing, finds_leaf, finds_worse, finds_cut}
use Rattle.rules.proofs.laws.search.Finds.{finds_split}
use Rattle.rules.specs.laws.search.Reduces.{reduces_weaker}
use Rattle.rules.proofs.laws.search.Reduces.{finds_reduced}
use Rattle.half.specs.Weights.{largest_sum}
use Rattle.given.specs.declared.sets.Given.{Given}
use Rattle.chart.specs.Chart.{BySlot, ShowsSheet}
use Rattle.keeping.specs.Sets.{decisions_of, chosen_list, place, with_item_kept, with_item_dropped}
use Rattle.settle.specs.Settled.{LeftOf, NothingWorth}
use Rattle.keeping.specs.laws.Shown.{kept_shown, item_kept_shown, item_dropped_shown, place_below}
use Rattle.settle.specs.laws.Items.{open_item, is_open_there, some_open, none_open}
use Rattle.settle.specs.declared.settling.Settled.{Settled}
use Rattle.so_far.specs.State.{wanted, taken}
use Rattle.so_far.specs.laws.State.{wanted_below}
use Rattle.so_far.specs.declared.so_far.SoFar.{SoFar}
use Rattle.branch.specs.First.{FirstItem}
use Rattle.branch.specs.Shown.{shown}
use Rattle.branch.specs.Branch.{Branched}
use Rattle.branch.specs.laws.First.{first_in_the_list}

module _ (chart : BySlot) (tolerance ceiling : ℕ) (g : Given) (a : SoFar) (small : a.goal ≤ largest_sum + 1) (want : ℕ) (ew : want ≡ wanted a tolerance) where
  abbrev n : ℕ
  n = chart.option_count

  abbrev m : ℕ
  m = chart.ordering_count

  abbrev d : List Decision
  d = decisions_of chart g

  abbrev Promise : Given → SoFar → SoFar → Type 0
  Promise = Branched chart tolerance ceiling

  -- ---- nothing more is worth enough
  pub step_enough : ceiling < want → Promise g a a
  step_enough l = record {
    goal = small;
    unfound = λ _. refl;
    finds = λ s sh top. let k = wanted_below a tolerance in
        finds_cut (value_of s) (ConsistentRelaxation s) tolerance d (shown n m a) ceiling (λ r o _. top r o) (omega arith);
  }

  pub step_over : NothingWorth chart want g → Promise g a a
  step_over over = record {
    goal = small;
    unfound = λ _. refl;
    finds = λ s sh top. let k = wanted_below a tolerance in
        nothing refl (λ r o ag. let h = over s sh r o ag in omega arith);
  }

  module _ (x : Settled) (left : LeftOf chart want g x) where
    -- what is found among the decisions that are left is found
    found_left : (s : Lines) → ShowsSheet s chart → (now : R.SoFar)
        → Finds (value_of s) (ConsistentRelaxation s) tolerance (decisions_of chart x.given) (shown n m a) now → Finds (value_of s) (ConsistentRelaxation s) tolerance d (shown n m a) now
    found_left s sh now f = finds_reduced (value_of s) (ConsistentRelaxation s) tolerance d (decisions_of chart x.given) (shown n m a) now
        (reduces_weaker (value_of s) (ConsistentRelaxation s) a.goal tolerance want d (decisions_of chart x.given) (let k = wanted_below a tolerance in omega arith) (left.reduces s sh)) f

    -- ---- nothing is open: a leaf
    pub step_leaf : FirstItem x.open_options x.open_orderings n m None → (r : SoFar) → r ≡ taken a x.given x.lower → Promise g a r
    unfolding taken
    step_leaf first r q = subst (Promise g a) (sym q) (go (ltb x.lower a.goal) refl)
      where
        z : open_items (decisions_of chart x.given) ≡ 0
        z = none_open x left first.picked

        go : (b : Bool) → ltb x.lower a.goal ≡ b → Promise g a (cond b a (record { goal = x.lower + 1; find = Some (record { options = x.given.kept; orderings = x.given.kept_orderings }) }))
        go true f = record {
          goal = small;
          unfound = λ _. refl;
          finds = λ s sh top. let w = ltb-true x.lower a.goal f in let v = left.worth s sh in
              found_left s sh (shown n m a) (finds_worse (value_of s) (ConsistentRelaxation s) tolerance (decisions_of chart x.given) (shown n m a) z (omega arith));
        }
        go false f = record {
          goal = (let w = left.small in omega arith);
          unfound = λ w. absurd (subst (λ o. T (is_some o)) w tt);
          finds = λ s sh top. let w = ltb-false x.lower a.goal f in let v = left.worth s sh in
              found_left s sh _ (subst (λ y. Finds (value_of s) (ConsistentRelaxation s) tolerance (decisions_of chart x.given) (shown n m a) y) (found s sh)
              (finds_leaf (value_of s) (ConsistentRelaxation s) tolerance (decisions_of chart x.given) (shown n m a) z (left.consistent s sh) (omega arith)));
        }
          where
            found : (s : Lines) (sh : ShowsSheet s chart) → ◌≡◌ {A = R.SoFar} (record { goal = suc (value_of s (just_the_kept (decisions_of chart x.given))); find = some (just_the_kept (decisions_of chart x.given)) })
                (record { goal = x.lower + 1; find = some (chosen_list n m x.given.kept x.given.kept_orderings) })
            found s sh = let v = left.worth s sh in let goal : suc (value_of s (just_the_kept (decisions_of chart x.given))) ≡ x.lower + 1 = omega arith in
                let kept = kept_shown chart x.given in λ j. record { goal = goal j; find = some (kept j) }

    -- ---- the first open item is kept (y), and after that dropped (z)
    pub step_split : (i : ℕ) → FirstItem x.open_options x.open_orderings n m (Some i) → (y z : Given) → y ≡ with_item_kept x.given i → z ≡ with_item_dropped x.given i → (b r : SoFar) → Promise y a b → Promise z b r → Promise g a r
    step_split i first y z p q b r u w = record {
      goal = w.goal;
      unfound = λ k. w.unfound k ∙ u.unfound (sym (ap (λ c. c.find) (w.unfound k)) ∙ k);
      finds = λ s sh top. found_left s sh (shown n m r) (finds_split (value_of s) (ConsistentRelaxation s) tolerance e' (shown n m a) (shown n m b) (shown n m r) (some_open x left i first.picked)
          (subst (λ k. Finds (value_of s) (ConsistentRelaxation s) tolerance k (shown n m a) (shown n m b)) (kept_is y p) (u.finds s sh top))
          (subst (λ k. Finds (value_of s) (ConsistentRelaxation s) tolerance k (shown n m b) (shown n m r)) (dropped_is z q) (w.finds s sh top)));
    }
      where
        e' : List Decision
        e' = decisions_of chart x.given

        next : (c : Decision) → set e' (place n i) c ≡ decide_next c e'
        next c = sym (decide_next_sets c e' (place n i) (place_below chart x.given i (open_item x left i first.picked)) (is_open_there x left i first.picked) (first_in_the_list x left i first))

        kept_is : (y : Given) → y ≡ with_item_kept x.given i → decisions_of chart y ≡ decide_next Kept e'
        kept_is y p = ap (decisions_of chart) p ∙ sym (item_kept_shown chart x.given i (open_item x left i first.picked)) ∙ next Kept

        dropped_is : (z : Given) → z ≡ with_item_dropped x.given i → decisions_of chart z ≡ decide_next Dropped e'
        dropped_is z q = ap (decisions_of chart) q ∙ sym (item_dropped_shown chart x.given i (open_item x left i first.picked)) ∙ next Dropped
