-- What `wharftoken_search` answers, and what it leaves in the lent decisions and totals.
use Rattle.std.specs.Prelude.{ℕ, ◌≡◌, ◌&&◌, List, [], ◌∷◌, leb, length}
use Rattle.sheet.specs.declared.answer.Answer.{Answer}
use Rattle.search.specs.Search.{SearchedAs}
use Rattle.search.specs.declared.sheet_search.Searched.{Searched}
use Rattle.wire.specs.Packed.{packed_answer}
use Rattle.fields.specs.Record.{record_in}
use Rattle.decisions.specs.Decisions.{decision_bytes}
use Rattle.wire.specs.Lent.{lent, written}

-- The value and the ceiling.
abbrev pub totals_of : Searched → List ℕ
totals_of x = x.value ∷ x.ceiling ∷ []

-- 12, 11; 13 last: both outputs must be long enough.
abbrev pub search_lent : Searched → (decisions totals : List ℕ) → Answer
search_lent x decisions totals = lent x.answer (leb 96 (length decisions) && leb 2 (length totals))

-- Some result that the promise of `search` allows is what is shown; at tolerance 0 there is one only.
pub record SearchShown (bytes : List ℕ) (tolerance : ℕ) (decisions totals : List ℕ) (r : ℕ) (decisions_after totals_after : List ℕ) : Type 0 where
  pub found : Searched
  pub allowed : SearchedAs (record_in bytes) tolerance found
  pub answer : r ≡ packed_answer (search_lent found decisions totals) 0
  pub shows : decisions_after ≡ written (search_lent found decisions totals) (decision_bytes found.decisions) decisions
  pub totals_shown : totals_after ≡ written (search_lent found decisions totals) (totals_of found) totals
