-- From the sets that the search leaves to what it returns, and from a chart to its record.
use Rattle.std.specs.Prelude.{◌≡◌, refl, Bool, true, not, ◌||◌, ◌++◌, ℕ, ◌+◌, ◌<◌}
use Rattle.std.proofs.Math.Path.{sym, ap, subst}
use Rattle.std.proofs.Common.{◌∙◌, arith, get_or-drop, drop_at}
use Rattle.std.proofs.Math.Bool.{false}
use Rattle.std.proofs.Math.ListN.{get_or, get_or-append}
use Rattle.rules.specs.Slots.{list_of}
use Rattle.rules.specs.Forced.{decision_of}
use Rattle.rules.specs.laws.Slots.{length_list_of, getD_list_of}
use Rattle.rows.specs.Bits.{has}
use Rattle.rows.specs.Sets.{Holds}
use Rattle.rows.specs.laws.Bits.{has_none}
use Rattle.rows.specs.laws.Sets.{holds_at}
use Rattle.given.specs.Given.{choice_of, undecided}
use Rattle.given.specs.Filled.{filled}
use Rattle.given.specs.laws.Filled.{filled_same}
use Rattle.sheet.specs.Lines.{lines_of}
use Rattle.chart.specs.Chart.{BySlot, ShowsSheet}
use Rattle.sheet.specs.declared.sheet.Sheet.{Sheet}
use Rattle.rules.specs.Best.{AnswerTo}
use Rattle.keeping.specs.Sets.{chosen_list}
use Rattle.search.specs.Search.{chosen, answered, Answers, accepted, answer_in, FoundBy}
use Rattle.search.specs.declared.found.Found.{Found}
use Rattle.search.specs.declared.sheet_search.Searched.{Searched}

-- ---- what is not kept is dropped
rest_dropped : (a b c : Bool) → b ≡ false → c ≡ not (a || b) → decision_of a c ≡ chosen a
rest_dropped true b c e f = refl
rest_dropped false b c e f = ap (λ x. decision_of false x) (f ∙ ap (λ x. not (false || x)) e)

pub chosen_filled : (k n row rest : ℕ) → Holds rest n (λ i. not (has row i || has 0 i))
    → filled k n (λ i. choice_of (decision_of (has row i) (has rest i))) undecided ≡ filled k n (λ i. choice_of (chosen (has row i))) undecided
chosen_filled k n row rest w = filled_same k n _ _ undecided (λ i l. ap choice_of (rest_dropped (has row i) (has 0 i) (has rest i) (has_none i) (holds_at w i l)))

-- ---- the sets against the list
module _ (n m kept kept_orderings : ℕ) where
  option_chosen : (i : ℕ) → i < n → get_or (chosen_list n m kept kept_orderings) i false ≡ has kept i
  unfolding chosen_list
  option_chosen i l = get_or-append (list_of n (has kept)) (list_of m (has kept_orderings)) false i (let e = length_list_of n (has kept) in omega arith) ∙ getD_list_of n (has kept) false i l

  ordering_chosen : (u : ℕ) → u < m → get_or (chosen_list n m kept kept_orderings) (n + u) false ≡ has kept_orderings u
  unfolding chosen_list
  ordering_chosen u l = sym (get_or-drop n (list_of n (has kept) ++ list_of m (has kept_orderings)) u false)
      ∙ ap (λ z. get_or z u false) (drop_at (list_of n (has kept)) (list_of m (has kept_orderings)) n (length_list_of n (has kept))) ∙ getD_list_of m (has kept_orderings) false u l

pub answered_is : (s : Sheet) (f : Found) → accepted f s.option_count s.ordering_count ≡ answered s (answer_in s.option_count s.ordering_count f)
unfolding accepted answered
answered_is s f =
    let n = s.option_count in let m = s.ordering_count in
    rw (
      filled_same 32 n (λ i. choice_of (chosen (has f.kept.options i))) (λ i. choice_of (chosen (get_or (chosen_list n m f.kept.options f.kept.orderings) i false))) undecided (λ i l. ap (λ x. choice_of (chosen x)) (sym (option_chosen n m f.kept.options f.kept.orderings i l))),
      filled_same 64 m (λ u. choice_of (chosen (has f.kept.orderings u))) (λ u. choice_of (chosen (get_or (chosen_list n m f.kept.options f.kept.orderings) (n + u) false))) undecided (λ u l. ap (λ x. choice_of (chosen x)) (sym (ordering_chosen n m f.kept.options f.kept.orderings u l))),
    ) refl

-- The chart's answer is the sheet's.
pub answers_of : (s : Sheet) (tolerance : ℕ) (chart : BySlot) → chart.option_count ≡ s.option_count → chart.ordering_count ≡ s.ordering_count → ShowsSheet (lines_of s) chart
    → (f : Found) → FoundBy chart tolerance f → {r : Searched} → r ≡ accepted f s.option_count s.ordering_count → Answers s tolerance r
answers_of s tolerance chart options orderings shows f by e = (
  answer_in s.option_count s.ordering_count f,
  subst (λ k. AnswerTo (lines_of s) tolerance (answer_in k s.ordering_count f)) options (subst (λ k. AnswerTo (lines_of s) tolerance (answer_in chart.option_count k f)) orderings (by (lines_of s) shows)),
  e ∙ answered_is s f,
)
