-- The text of the report.
use Rattle.std.specs.Prelude.{ℕ, ◌+◌, Bool, List, [], ◌∷◌, ◌++◌, length, get_or}
use Rattle.std.proofs.Math.Option.{Option, none, some}
use Rattle.rules.specs.Lines.{Lines, OrderingLine}
use Rattle.rules.specs.Subscription.{subscription}
use Rattle.rules.specs.Relaxation.{kept_by_slot}
use Rattle.rules.specs.Best as R
use Rattle.rules.specs.Results.{sequence_of_choice, answer_at_nought}
use Rattle.sheet.specs.Lines.{lines_of}
use Rattle.shape.specs.declared.scan.Place.{Place}
use Rattle.sheet.specs.Answer.{number_of}
use Rattle.sheet.specs.declared.answer.Refusal.{Refusal}
use Rattle.sheet.specs.declared.answer.Answer.{Answer}
use Rattle.sheet.specs.declared.answer.Answer.TheVariants.{Accepted, Refused}
use Rattle.sheet.specs.declared.sheet.Sheet.{Sheet}
use Rattle.reader.specs.Read.{read_sheet}
use Rattle.listing.specs.Listing.{each, unless}
use Rattle.shape.specs.LineText.{line_text}

-- "`V value ceiling`"
abbrev pub value_text : R.Answer → List ℕ
value_text a = line_text 86 (a.value ∷ a.ceiling ∷ [])

-- "`S place option` for each place": places begin at 1.
abbrev pub place_text : List ℕ → ℕ → List ℕ
place_text places i = line_text 83 ((i + 1) ∷ get_or places i 0 ∷ [])

abbrev pub sequence_text : Option (List ℕ) → List ℕ
sequence_text none = []
sequence_text (some places) = each (length places) (place_text places)

abbrev no_ordering : OrderingLine
no_ordering = record { first = 0; second = 0; weight = 0 }

abbrev pub ordering_line : Lines → ℕ → OrderingLine
ordering_line s u = get_or s.orderings u no_ordering

module _ (s : Lines) (r : List Bool) where
  -- "`D option` for each dropped option"
  abbrev pub dropped_option_text : ℕ → List ℕ
  dropped_option_text i = unless ((kept_by_slot s r).option i) (line_text 68 ((subscription s).number i ∷ []))

  -- "and `R a b` for each dropped ordering"
  abbrev pub dropped_ordering_text : ℕ → List ℕ
  dropped_ordering_text u = unless ((kept_by_slot s r).ordering u) (line_text 82 ((ordering_line s u).first ∷ (ordering_line s u).second ∷ []))

  -- "both in slot order".
  abbrev pub dropped_text : List ℕ
  dropped_text = each (length s.options) dropped_option_text ++ each (length s.orderings) dropped_ordering_text

-- What is printed of a sheet's answer.
unfoldable pub answer_text : Lines → R.Answer → List ℕ
answer_text s a = value_text a ++ (sequence_text (sequence_of_choice s a.relaxation) ++ dropped_text s a.relaxation)

-- "A refused sheet prints only `E number line column`."
abbrev pub refusal_text : Place → Refusal → List ℕ
refusal_text p why = line_text 69 (number_of why ∷ p.line ∷ p.column ∷ [])

-- It "searches at tolerance 0".
abbrev pub reading_text : Answer → Sheet → List ℕ
reading_text Accepted s = answer_text (lines_of s) (answer_at_nought (lines_of s))
reading_text (Refused p why) s = refusal_text p why

-- The whole text for one sheet.
unfoldable pub report_of : List ℕ → List ℕ
report_of text = reading_text (read_sheet text).answer (read_sheet text).sheet
