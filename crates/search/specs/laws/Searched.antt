-- The three ways out of the search; and two results that the promise allows at tolerance 0 are equal.
use Rattle.std.specs.Prelude.{◌≡◌, refl, Bool, true, false, ℕ, ◌≤◌, ◌<◌, T}
use Rattle.std.proofs.Common.{sym, subst, ap, ◌∙◌, arith}
use Rattle.rules.specs.Results.{answer_at_nought}
use Rattle.rules.proofs.laws.Best.{answer_at_nought_only}
use Rattle.sheet.specs.IsRecorded.{is_recorded}
use Rattle.sheet.specs.Limits.{largest_value}
use Rattle.sheet.specs.Lines.{lines_of}
use Rattle.sheet.specs.declared.answer.Refusal.TheVariants.{NotRecorded, ToleranceTooLarge}
use Rattle.sheet.specs.declared.sheet.Sheet.{Sheet}
use Rattle.search.specs.Search.{refused, answered, Answers, SearchedAs}
use Rattle.search.specs.declared.sheet_search.Searched.{Searched}

not_both : {b : Bool} → b ≡ true → b ≡ false → ⊥
not_both e f = subst T (sym e ∙ f) tt

pub refused_recorded : (s : Sheet) (tolerance : ℕ) {r : Searched} → is_recorded s ≡ false → r ≡ refused NotRecorded → SearchedAs s tolerance r
refused_recorded s tolerance e q = record { not_recorded = λ _. q; too_large = λ f _. absurd (not_both f e); answer = λ f _. absurd (not_both f e) }

pub refused_tolerance : (s : Sheet) (tolerance : ℕ) {r : Searched} → is_recorded s ≡ true → largest_value < tolerance → r ≡ refused ToleranceTooLarge → SearchedAs s tolerance r
refused_tolerance s tolerance e l q = record { not_recorded = λ f. absurd (not_both e f); too_large = λ _ _. q; answer = λ _ k. absurd (omega arith) }

pub searched : (s : Sheet) (tolerance : ℕ) {r : Searched} → is_recorded s ≡ true → tolerance ≤ largest_value → Answers s tolerance r → SearchedAs s tolerance r
searched s tolerance e l q = record { not_recorded = λ f. absurd (not_both e f); too_large = λ _ k. absurd (omega arith); answer = λ _ _. q }

-- TOLERANCE 0: the result is the one that the rules name.
pub searched_at_nought : (s : Sheet) (r : Searched) → is_recorded s ≡ true → SearchedAs s 0 r → r ≡ answered s (answer_at_nought (lines_of s))
searched_at_nought s r e w = let (a, is, q) = w.answer e (omega arith) in q ∙ ap (answered s) (answer_at_nought_only (lines_of s) a is)

-- TWO RESULTS at tolerance 0 are equal, refused or not; so are two refusals at any tolerance.
pub one_result_at_nought : (s : Sheet) (r q : Searched) → SearchedAs s 0 r → SearchedAs s 0 q → r ≡ q
one_result_at_nought s r q w z = go (is_recorded s) refl
  where
    go : (b : Bool) → is_recorded s ≡ b → r ≡ q
    go true e = searched_at_nought s r e w ∙ sym (searched_at_nought s q e z)
    go false e = w.not_recorded e ∙ sym (z.not_recorded e)
