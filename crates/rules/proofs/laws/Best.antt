-- The best relaxation is the best, and the only one; so is the answer at tolerance 0.
use Rattle.std.specs.Prelude.{◌≡◌, Bool}
use Rattle.std.proofs.Math.Path.{refl, sym, ap}
use Rattle.std.proofs.Common.{◌∙◌}
use mathlib.Core.List.{List}
use Rattle.std.proofs.Math.Option.{Option, none, some}
use native.Mathlib.Omega.{arith}
use Rattle.rules.specs.Lines.{Lines}
use Rattle.rules.specs.Subscription.{items}
use Rattle.rules.specs.Relaxation.{ConsistentRelaxation, value_of}
use Rattle.rules.specs.Best.{BestOf, Answer, AnswerTo}
use Rattle.rules.specs.Results.{is_consistent, first_best, best_of, best_value, answer_at_nought}
use Rattle.rules.proofs.laws.Relaxation.{consistent_in, consistent_out}
use Rattle.rules.proofs.laws.Tie.{best_unique}
use Rattle.rules.specs.laws.Best.{Says, Passes, first_best_says, none_kept, dropping_all_is_consistent}

module _ (s : Lines) where
  -- THE BEST RELAXATION, of every sheet.
  pub best_of_is_best : BestOf s (best_of s)
  unfolding best_of
  best_of_is_best = go (first_best (items s) (is_consistent s) (value_of s)) refl (first_best_says (items s) (is_consistent s) (value_of s))
    where
      to : (r : List Bool) → ConsistentRelaxation s r → Passes (items s) (is_consistent s) r
      to r k = (k.relaxation.size, consistent_in s r k)

      go : (o : Option (List Bool)) → first_best (items s) (is_consistent s) (value_of s) ≡ o → Says (value_of s) (Passes (items s) (is_consistent s)) o → BestOf s (best_of s)
      go none e h = absurd (h (none_kept (items s)) (to (none_kept (items s)) (dropping_all_is_consistent s)))
      go (some r) e h = rw e (record {
        allowed = consistent_out s r h.allowed.1;
        top = λ q k. h.top q (to q k);
        tie = λ q k. h.tie q (to q k);
      })

  pub best_of_only : (r : List Bool) → BestOf s r → r ≡ best_of s
  best_of_only r b = best_unique (value_of s) r (best_of s) b best_of_is_best

  -- ---- the answer at tolerance 0
  pub answer_at_nought_is : AnswerTo s 0 (answer_at_nought s)
  unfolding answer_at_nought best_value
  answer_at_nought_is = record { allowed = best_of_is_best.allowed; worth = refl; top = best_of_is_best.top; near = omega arith; best = λ _. best_of_is_best }

  -- Two answers at tolerance 0 are EQUAL: relaxation, value and ceiling.
  pub answer_at_nought_only : (a : Answer) → AnswerTo s 0 a → a ≡ answer_at_nought s
  unfolding answer_at_nought best_value
  answer_at_nought_only a h =
      let e = best_of_only a.relaxation (h.best refl) in
      let w : a.value ≡ value_of s (best_of s) = sym h.worth ∙ ap (value_of s) e in
      let low = h.top a.relaxation h.allowed in let near = h.near in let worth = h.worth in
      let c : a.ceiling ≡ value_of s (best_of s) = omega arith in
      λ i. record { relaxation = e i; value = w i; ceiling = c i }
