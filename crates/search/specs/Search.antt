-- What the search returns.
use Rattle.std.specs.Prelude.{◌≡◌, Bool, true, false, ℕ, ◌+◌, ◌≤◌, ◌<◌, get_or}
use Rattle.rules.specs.Lines.{Lines}
use Rattle.rules.specs.Decisions.{Decision, Kept, Dropped}
use Rattle.rules.specs.Best as R
use Rattle.rules.specs.Best.{AnswerTo}
use Rattle.rows.specs.Bits.{has}
use Rattle.given.specs.Given.{choice_of, undecided}
use Rattle.given.specs.Filled.{filled}
use Rattle.sheet.specs.Decisions.{all_open}
use Rattle.sheet.specs.IsRecorded.{is_recorded}
use Rattle.sheet.specs.Limits.{largest_value}
use Rattle.sheet.specs.Lines.{lines_of}
use Rattle.sheet.specs.declared.answer.Refusal.{Refusal}
use Rattle.sheet.specs.declared.answer.Refusal.TheVariants.{NotRecorded, ToleranceTooLarge}
use Rattle.sheet.specs.declared.answer.Answer.TheVariants.{Accepted, Refused}
use Rattle.sheet.specs.declared.sheet.Sheet.{Sheet}
use Rattle.chart.specs.Chart.{BySlot, ShowsSheet}
use Rattle.keeping.specs.Sets.{chosen_list}
use Rattle.search.specs.declared.found.Found.{Found}
use Rattle.search.specs.declared.sheet_search.Searched.{Searched}

-- A refusal "returns the number, the place and an all-zero result".
abbrev pub refused : Refusal → Searched
refused why = record { answer = Refused (record { line = 0; column = 0 }) why; decisions = all_open; value = 0; ceiling = 0 }

-- "Kept or dropped" for an item of a relaxation.
abbrev pub chosen : Bool → Decision
chosen true = Kept
chosen false = Dropped

-- An answer of the rules, as it is returned: entries past the record's counts are open.
unfoldable pub answered : Sheet → R.Answer → Searched
answered s a = record {
  answer = Accepted;
  decisions = record {
    options = filled 32 s.option_count (λ i. choice_of (chosen (get_or a.relaxation i false))) undecided;
    orderings = filled 64 s.ordering_count (λ u. choice_of (chosen (get_or a.relaxation (s.option_count + u) false))) undecided;
  };
  value = a.value;
  ceiling = a.ceiling;
}

-- An answer to the tolerance, as it is returned.
abbrev pub Answers : Sheet → ℕ → Searched → Type 0
Answers s tolerance r = (a : R.Answer) × AnswerTo (lines_of s) tolerance a × (r ≡ answered s a)

-- "Search: 12, 11", and otherwise an answer.
pub record SearchedAs (s : Sheet) (tolerance : ℕ) (r : Searched) : Type 0 where
  pub not_recorded : is_recorded s ≡ false → r ≡ refused NotRecorded
  pub too_large : is_recorded s ≡ true → largest_value < tolerance → r ≡ refused ToleranceTooLarge
  pub answer : is_recorded s ≡ true → tolerance ≤ largest_value → Answers s tolerance r

-- ---- the same with sets, for the functions inside
unfoldable pub accepted : Found → ℕ → ℕ → Searched
accepted f n m = record {
  answer = Accepted;
  decisions = record {
    options = filled 32 n (λ i. choice_of (chosen (has f.kept.options i))) undecided;
    orderings = filled 64 m (λ u. choice_of (chosen (has f.kept.orderings u))) undecided;
  };
  value = f.value;
  ceiling = f.ceiling;
}

abbrev pub answer_in : (n m : ℕ) → Found → R.Answer
answer_in n m r = record { relaxation = chosen_list n m r.kept.options r.kept.orderings; value = r.value; ceiling = r.ceiling }

-- Whatever sheet the chart shows.
abbrev pub FoundBy : (chart : BySlot) (tolerance : ℕ) → Found → Type 0
FoundBy chart tolerance r = (s : Lines) → ShowsSheet s chart → AnswerTo s tolerance (answer_in chart.option_count chart.ordering_count r)
