-- What is printed of a record, part by part, is the text that the rules give for its lines.
use Rattle.std.specs.Prelude.{ℕ, ◌+◌, ◌<◌, ◌≡◌, Bool, true, List, [], ◌∷◌, ◌++◌}
use Rattle.std.proofs.Math.Path.{refl, sym, ap}
use Rattle.std.proofs.Common.{◌∙◌, get_or-take, get_or-drop}
use Rattle.std.proofs.Math.Bool.{false, not}
use native.Mathlib.Omega.{arith}
use Rattle.std.proofs.Math.ListN.{length, get_or}
use Rattle.rules.specs.Lines.{Lines, OrderingLine}
use Rattle.rules.specs.Subscription.{subscription}
use Rattle.rules.specs.Relaxation.{kept_by_slot, ConsistentRelaxation}
use Rattle.rules.specs.Decisions.{is_dropped}
use Rattle.rules.specs.Results.{sequence_of_choice, answer_at_nought}
use Rattle.rules.specs.Best as R
use Rattle.rules.specs.laws.Slots.{getD_list_of}
use Rattle.rules.proofs.laws.Best.{answer_at_nought_is}
use Rattle.given.specs.Given.{decided_as}
use Rattle.search.specs.Search.{answered, SearchedAs}
use Rattle.search.specs.laws.Searched.{searched_at_nought}
use Rattle.search.specs.declared.sheet_search.Searched.{Searched}
use Rattle.sequence.specs.Answer.{sequence_answer}
use Rattle.sequence.specs.declared.answer.Sequenced.{Sequenced}
use Rattle.sheet.specs.IsRecorded.{is_recorded}
use Rattle.sheet.specs.Recorded.{Recorded}
use Rattle.sheet.specs.declared.sheet.Sheet.{Sheet}
use Rattle.sheet.specs.declared.decision.Decisions.{Decisions}
use Rattle.sheet.specs.Lines.{lines_of}
use Rattle.sheet.proofs.LinesLaws.{option_lines, ordering_lines, slot_number}
use Rattle.shape.specs.LineText.{line_text}
use Rattle.listing.specs.Listing.{each, unless, place_line, option_line, ordering_line}
use Rattle.report.specs.Report.{sequence_text, dropped_option_text, dropped_ordering_text, answer_text}
use Rattle.report.specs.Report as Told
use Rattle.listing.specs.laws.Each.{each_same}
use Rattle.report.specs.laws.Chosen.{option_chosen, ordering_chosen, not_dropped_if_chosen, sequence_is_accepted}
use Rattle.report.specs.laws.Places.{slots_are_few, places_are_few, places_hold_options, places_printed}

-- What is printed of a record, of what the search found and of its sequence.
abbrev pub printed_value : Searched → List ℕ
printed_value found = line_text 86 (found.value ∷ found.ceiling ∷ [])

abbrev pub printed_places : Sequenced → List ℕ
printed_places sequenced = each 32 (place_line sequenced.places)

abbrev pub printed_options : Sheet → Decisions → List ℕ
printed_options s d = each s.option_count (option_line d.options s.numbers)

abbrev pub printed_orderings : Sheet → Decisions → List ℕ
printed_orderings s d = each s.ordering_count (ordering_line d.orderings s.firsts s.seconds)

abbrev pub printed_text : Sheet → Searched → Sequenced → List ℕ
printed_text s found sequenced = printed_value found ++ (printed_places sequenced ++ (printed_options s found.decisions ++ printed_orderings s found.decisions))

-- The line of an ordering, as the record holds it.
pub ordering_line_is : (s : Sheet) (u : ℕ) → u < s.ordering_count → Told.ordering_line (lines_of s) u ≡ record { first = get_or s.firsts u 0; second = get_or s.seconds u 0; weight = get_or s.ordering_weights u 0 }
unfolding lines_of
ordering_line_is s u l = getD_list_of {A = OrderingLine} s.ordering_count (λ k. record { first = get_or s.firsts k 0; second = get_or s.seconds k 0; weight = get_or s.ordering_weights k 0 }) _ u l

module _ (s : Sheet) (recorded : is_recorded s ≡ true) (rule : Recorded s) where
  abbrev lines : Lines
  lines = lines_of s

  module _ (a : R.Answer) where
    abbrev r : List Bool
    r = a.relaxation

    abbrev d : Decisions
    d = (answered s a).decisions

    option_kept : (i : ℕ) → i < s.option_count → not (is_dropped ((decided_as d).option i)) ≡ (kept_by_slot lines r).option i
    unfolding kept_by_slot
    option_kept i l = ap (λ x. not (is_dropped x)) (option_chosen s a rule i l) ∙ not_dropped_if_chosen (get_or r i false) ∙ sym (get_or-take (length lines.options) r i false (let z = option_lines s in omega arith))

    ordering_kept : (u : ℕ) → u < s.ordering_count → not (is_dropped ((decided_as d).ordering u)) ≡ (kept_by_slot lines r).ordering u
    unfolding kept_by_slot
    ordering_kept u l = ap (λ x. not (is_dropped x)) (ordering_chosen s a rule u l) ∙ not_dropped_if_chosen (get_or r (s.option_count + u) false)
        ∙ sym (get_or-drop (length lines.options) r u false ∙ ap (λ k. get_or r (k + u) false) (option_lines s))

    options_told : printed_options s d ≡ each (length lines.options) (dropped_option_text lines r)
    options_told = each_same s.option_count (option_line d.options s.numbers) (dropped_option_text lines r) (λ i l.
        ap (λ b. unless b (line_text 68 (get_or s.numbers i 0 ∷ []))) (option_kept i l) ∙ ap (λ x. unless ((kept_by_slot lines r).option i) (line_text 68 (x ∷ []))) (sym (slot_number s i l)))
        ∙ ap (λ k. each k (dropped_option_text lines r)) (sym (option_lines s))

    abbrev line_of : OrderingLine → List ℕ
    line_of x = line_text 82 (x.first ∷ x.second ∷ [])

    orderings_told : printed_orderings s d ≡ each (length lines.orderings) (dropped_ordering_text lines r)
    orderings_told = each_same s.ordering_count (ordering_line d.orderings s.firsts s.seconds) (dropped_ordering_text lines r) (λ u l.
        ap (λ b. unless b (line_text 82 (get_or s.firsts u 0 ∷ get_or s.seconds u 0 ∷ []))) (ordering_kept u l)
        ∙ ap (λ x. unless ((kept_by_slot lines r).ordering u) (line_of x)) (sym (ordering_line_is s u l)))
        ∙ ap (λ k. each k (dropped_ordering_text lines r)) (sym (ordering_lines s))

    module _ (consistent : ConsistentRelaxation lines r) where
      places_told : printed_places (sequence_answer s d) ≡ sequence_text (sequence_of_choice lines r)
      unfolding subscription
      places_told =
          let long : length r ≡ s.option_count + s.ordering_count = let z = consistent.relaxation.size in let x = option_lines s in let y = ordering_lines s in omega arith in
          let (places, q, accepted, computed) = sequence_is_accepted s a rule long consistent in
          let few = places_are_few s rule r places q in
          let slots_few = slots_are_few (length lines.options) (kept_by_slot lines r).option in
          let x = option_lines s in let y = rule.few_options in
          ap printed_places accepted ∙ places_printed 32 places (omega arith) (places_hold_options s rule r places q) ∙ ap sequence_text (sym computed)

      text_told : printed_text s (answered s a) (sequence_answer s d) ≡ answer_text lines a
      unfolding answered answer_text
      text_told = rw (places_told, options_told, orderings_told) refl

  -- The best relaxation, as it was found and sequenced, is printed as the report has it.
  pub printed_is_best : (found : Searched) (sequenced : Sequenced) → SearchedAs s 0 found → sequenced ≡ sequence_answer s found.decisions → printed_text s found sequenced ≡ answer_text lines (answer_at_nought lines)
  printed_is_best found sequenced searched e =
      let best = answer_at_nought lines in
      let w = searched_at_nought s found recorded searched in
      ap (printed_text s found) e ∙ ap (λ x. printed_text s x (sequence_answer s x.decisions)) w ∙ text_told best (answer_at_nought_is lines).allowed
