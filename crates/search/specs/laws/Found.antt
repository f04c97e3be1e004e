-- What a whole search left is an answer to the tolerance, for whatever sheet the chart shows.
use Rattle.std.specs.Prelude.{◌≡◌, Bool, false, List, ◌∷◌, ◌++◌, ℕ, zero, suc, ◌+◌, ◌-◌, min, Option, Some, None}
use Rattle.std.proofs.Math.Path.{refl}
use Rattle.std.proofs.Common.{sym, subst, ap, ◌∙◌}
use native.Mathlib.Omega.{arith}
use Rattle.rules.specs.Slots.{list_of}
use Rattle.rules.specs.Lines.{Lines}
use Rattle.rules.specs.Subscription.{items}
use Rattle.rules.specs.Relaxation.{ConsistentRelaxation, value_of}
use Rattle.rules.specs.Decisions.{all_open}
use Rattle.rules.specs.Best as R
use Rattle.rules.specs.Best.{AnswerTo}
use Rattle.rules.specs.laws.Slots.{list_of_same}
use Rattle.rules.specs.laws.Best.{none_kept}
use Rattle.rules.specs.laws.search.Finds.{Finds}
use Rattle.rules.specs.laws.search.Passes.{from_floor, answer}
use Rattle.rules.specs.laws.search.Answers.{floor_pass_answers}
use Rattle.rows.specs.Bits.{has}
use Rattle.rows.specs.laws.Bits.{has_none}
use Rattle.given.specs.declared.sets.Given.{Given}
use Rattle.chart.specs.Chart.{BySlot, ShowsSheet}
use Rattle.keeping.specs.Sets.{decisions_of, chosen_list, nothing_given}
use Rattle.value.specs.Value.{BoundsAs}
use Rattle.value.specs.laws.Whole.{fresh}
use Rattle.value.specs.declared.bounds.Bounds.{Bounds}
use Rattle.branch.specs.Shown.{choice_of, shown}
use Rattle.branch.specs.Branch.{Branched}
use Rattle.so_far.specs.State.{nothing_found, kept_of, kept_in}
use Rattle.so_far.specs.declared.so_far.Kept.{Kept}
use Rattle.so_far.specs.declared.so_far.SoFar.{SoFar}
use Rattle.search.specs.Search.{FoundBy}

-- ---- nothing is kept
pub nothing_chosen : (n m : ℕ) → chosen_list n m 0 0 ≡ none_kept (n + m)
unfolding chosen_list list_of
nothing_chosen n m = ap (λ l. l ++ list_of m (has 0)) (alone n) ∙ ap (λ l. none_kept n ++ l) (alone m) ∙ together n
  where
    plain : (n : ℕ) → list_of n (λ _. false) ≡ none_kept n
    plain zero = refl
    plain (suc n) = ap (λ l. false ∷ l) (plain n)

    alone : (n : ℕ) → list_of n (has 0) ≡ none_kept n
    alone n = list_of_same n (has 0) (λ _. false) (λ i l. has_none i) ∙ plain n

    together : (n : ℕ) → none_kept n ++ none_kept m ≡ none_kept (n + m)
    together zero = let q : m ≡ 0 + m = omega arith in ap none_kept q
    together (suc n) = let q : suc (n + m) ≡ suc n + m = omega arith in ap (λ l. false ∷ l) (together n) ∙ ap none_kept q

-- ---- what the search left is an answer
module _ (chart : BySlot) (tolerance : ℕ) (bounds : Bounds) (bounded : BoundsAs chart tolerance bounds)
    (g : Given) (eg : g ≡ nothing_given) (a b : SoFar) (ea : a ≡ nothing_found bounds.floor) (done : Branched chart tolerance bounds.ceiling g a b) where
  abbrev n : ℕ
  n = chart.option_count

  abbrev m : ℕ
  m = chart.ordering_count

  module _ (s : Lines) (sh : ShowsSheet s chart) where
    finds : Finds (value_of s) (ConsistentRelaxation s) tolerance (all_open (items s)) (from_floor bounds.floor) (shown n m b)
    finds = subst (λ z. Finds (value_of s) (ConsistentRelaxation s) tolerance z (from_floor bounds.floor) (shown n m b)) (fresh chart g eg s sh)
        (subst (λ z. Finds (value_of s) (ConsistentRelaxation s) tolerance (decisions_of chart g) (shown n m z) (shown n m b)) ea (done.finds s sh (bounded.ceiling.above s sh)))

    -- the relaxation that is left, found or not
    left : List Bool
    left = answer (none_kept (items s)) (shown n m b).find

    left_is : chosen_list n m (kept_in b).options (kept_in b).orderings ≡ left
    unfolding left
    left_is = go b.find
      where
        count : n + m ≡ items s
        count = let x = sh.options in let y = sh.orderings in omega arith

        go : (x : Option Kept) → chosen_list n m (kept_of x).options (kept_of x).orderings ≡ answer (none_kept (items s)) (choice_of n m x)
        go (Some k) = refl
        go None = nothing_chosen n m ∙ ap none_kept count

    answers : (b.goal - 1 ≡ value_of s left) × AnswerTo s tolerance (record { relaxation = left; value = value_of s left; ceiling = min bounds.ceiling (value_of s left + tolerance) })
    unfolding left
    answers = floor_pass_answers s tolerance bounds.ceiling bounds.floor (shown n m b) (bounded.floor s sh) (bounded.ceiling.above s sh) finds

  pub found_answers : (kept : Kept) → kept ≡ kept_in b → (value ceiling : ℕ) → value ≡ b.goal - 1 → ceiling ≡ min bounds.ceiling (value + tolerance)
      → FoundBy chart tolerance (record { kept = kept; value = value; ceiling = ceiling })
  found_answers kept ek value ceiling ev ec s sh = subst (AnswerTo s tolerance) same (answers s sh).1
    where
      worth : value_of s (left s sh) ≡ value
      worth = sym (answers s sh).0 ∙ sym ev

      keeps : left s sh ≡ chosen_list n m kept.options kept.orderings
      keeps = sym (left_is s sh) ∙ ap (λ k. chosen_list n m k.options k.orderings) (sym ek)

      same : ◌≡◌ {A = R.Answer} (record { relaxation = left s sh; value = value_of s (left s sh); ceiling = min bounds.ceiling (value_of s (left s sh) + tolerance) })
          (record { relaxation = chosen_list n m kept.options kept.orderings; value = value; ceiling = ceiling })
      same = λ i. record { relaxation = keeps i; value = worth i; ceiling = (ap (λ z. min bounds.ceiling (z + tolerance)) worth ∙ sym ec) i }
