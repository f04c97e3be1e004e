-- "At most 1,024 bytes."
use Rattle.std.specs.Prelude.{ℕ, zero, suc, ◌+◌, ◌*◌, ◌≤◌, ◌<◌, ◌≡◌, refl, Bool, true, false, List, [], ◌∷◌, ◌++◌, get_or}
use Rattle.std.proofs.Common.{sym}
use Rattle.std.proofs.Math.Path.{ap, subst}
use native.Mathlib.Omega.{arith}
use Rattle.std.proofs.Math.ListN.{length, length-append}
use Rattle.rules.specs.Slots.{pick, sum, over}
use Rattle.rules.specs.Lines.{Lines}
use Rattle.rules.specs.Subscription.{subscription}
use Rattle.rules.specs.Relaxation.{kept_by_slot, value, value_of}
use Rattle.rules.specs.Results.{sequence_of_choice, answer_at_nought}
use Rattle.rules.specs.Best as R
use Rattle.rules.specs.Best.{AnswerTo}
use Rattle.rules.proofs.laws.Best.{answer_at_nought_is}
use Rattle.rules.proofs.laws.Sequence.{sequence_of_choice_is, has_sequence_iff_consistent}
use Rattle.sheet.specs.Answer.{number_of}
use Rattle.sheet.specs.Limits.{largest_value}
use Rattle.sheet.specs.Recorded.{Recorded, Subscribed}
use Rattle.sheet.specs.declared.answer.Answer.{Answer}
use Rattle.sheet.specs.declared.answer.Answer.TheVariants.{Accepted, Refused}
use Rattle.sheet.specs.declared.sheet.Sheet.{Sheet}
use Rattle.sheet.specs.Lines.{lines_of}
use Rattle.sheet.proofs.AnswerLaws.{refusal_number}
use Rattle.sheet.proofs.LinesLaws.{option_lines, ordering_lines, slot_number, slot_weight, slot_ordering_weight, recorded_proper}
use Rattle.reader.specs.Read.{read_sheet}
use Rattle.listing.specs.Listing.{each}
use Rattle.report.specs.Report.{value_text, place_text, sequence_text, ordering_line, dropped_option_text, dropped_ordering_text, answer_text, report_of}
use Rattle.shape.specs.LineText.{line_text}
use Rattle.shape.proofs.LengthLaws.{six_digits, two_length, three_length}
use Rattle.report.specs.laws.Best.{ordering_line_is}
use Rattle.listing.specs.laws.Length.{place_line_short, option_line_short, ordering_line_short, unless_short, nine_each, ten_each, nine_kept_or_dropped}
use Rattle.report.specs.laws.Place.{line_of, column_of, place_is_short}
use Rattle.report.specs.laws.Places.{slots_are_few, places_are_few, places_hold_options}
use Rattle.report.specs.laws.Reading.{report_of_accepted, report_of_refused, accepted_is_recorded}

-- ---- lines
value_line_short : (a b : ℕ) → a < 1000000 → b < 1000000 → length (line_text 86 (a ∷ b ∷ [])) ≤ 16
value_line_short a b h k = let e = two_length 86 a b in let f = six_digits a h in let g = six_digits b k in omega arith

refusal_line_short : (a b c : ℕ) → a < 1000000 → b < 1000000 → c < 1000000 → length (line_text 69 (a ∷ b ∷ c ∷ [])) ≤ 23
refusal_line_short a b c h k l = let e = three_length 69 a b c in let f = six_digits a h in let g = six_digits b k in let d = six_digits c l in omega arith

-- ---- the value: "the largest possible value is 959,904"
picked_few : (b : Bool) (w : ℕ) → pick b w ≤ w
picked_few true w = omega arith
picked_few false w = omega arith

weights_few : (n : ℕ) (w : ℕ → ℕ) (p : ℕ → Bool) → ((i : ℕ) → i < n → w i ≤ 9999) → over n w p ≤ 9999 * n
unfolding sum
weights_few zero w p h = omega arith
weights_few (suc n) w p h = let a = weights_few n w p (λ i l. h i (omega arith)) in let b = picked_few (p n) (w n) in let c = h n (omega arith) in omega arith

module _ (s : Sheet) (rule : Recorded s) where
  abbrev lines : Lines
  lines = lines_of s

  value_is_few : (r : List Bool) → value_of lines r ≤ largest_value
  unfolding value_of value subscription
  value_is_few r =
      let v = subscription lines in
      let a = weights_few (length lines.options) v.weight (kept_by_slot lines r).option (λ i l. let k : i < s.option_count = subst (λ z. i < z) (option_lines s) l in subst (λ z. z ≤ 9999) (sym (slot_weight s i k)) (rule.options i k).1) in
      let b = weights_few (length lines.orderings) v.ordering_weight (kept_by_slot lines r).ordering (λ u l. let k : u < s.ordering_count = subst (λ z. u < z) (ordering_lines s) l in subst (λ z. z ≤ 9999) (sym (slot_ordering_weight s u k)) (rule.ordering_weights u k)) in
      let c = option_lines s in let d = ordering_lines s in let e = rule.few_options in let f = rule.few_orderings in omega arith

  -- ---- option numbers have three digits
  option_short : (i : ℕ) → i < length lines.options → (subscription lines).number i < 1000
  option_short i l = let k : i < s.option_count = subst (λ z. i < z) (option_lines s) l in let e = slot_number s i k in let h = (rule.options i k).0.1 in omega arith

  subscribed_short : (a : ℕ) → Subscribed s a → a < 1000
  subscribed_short a (i, (l, e)) = let h = (rule.options i l).0.1 in omega arith

  ordering_short : (u : ℕ) → u < length lines.orderings → ((ordering_line lines u).first < 1000) × ((ordering_line lines u).second < 1000)
  ordering_short u l =
      let k : u < s.ordering_count = subst (λ z. u < z) (ordering_lines s) l in
      let e = ordering_line_is s u k in
      (subst (λ x. x.first < 1000) (sym e) (subscribed_short _ (rule.subscribed u k).0), subst (λ x. x.second < 1000) (sym e) (subscribed_short _ (rule.subscribed u k).1))

  module _ (a : R.Answer) (answers : AnswerTo lines 0 a) where
    abbrev r : List Bool
    r = a.relaxation

    value_short : length (value_text a) ≤ 16
    value_short = let e = answers.worth in let f = answers.near in let g = value_is_few r in value_line_short a.value a.ceiling (omega arith) (omega arith)

    orderings_short : length (each (length lines.orderings) (dropped_ordering_text lines r)) ≤ 640
    orderings_short =
        let h = ten_each (length lines.orderings) (dropped_ordering_text lines r) (λ u l.
        let k = ordering_short u l in
        let e = unless_short ((kept_by_slot lines r).ordering u) (line_text 82 ((ordering_line lines u).first ∷ (ordering_line lines u).second ∷ [])) in
        let f = ordering_line_short (ordering_line lines u).first (ordering_line lines u).second k.0 k.1 in omega arith) in
        let c = ordering_lines s in let d = rule.few_orderings in omega arith

    options_and_places_short : length (sequence_text (sequence_of_choice lines r)) + length (each (length lines.options) (dropped_option_text lines r)) ≤ 288
    unfolding subscription
    options_and_places_short =
        let (places, q) = (has_sequence_iff_consistent lines r).1 answers.allowed in
        let computed = (sequence_of_choice_is lines r (recorded_proper s rule) places).1 q in
        let kept = (kept_by_slot lines r).option in
        let few = places_are_few s rule r places q in
        let fewer = slots_are_few (length lines.options) kept in
        let c = option_lines s in let d = rule.few_options in
        let b = nine_each (length places) (place_text places) (λ i l. place_line_short (i + 1) (get_or places i 0) (omega arith) (let z = (places_hold_options s rule r places q i l).1 in omega arith)) in
        let e = ap (λ x. length (sequence_text x)) computed in
        let g = nine_kept_or_dropped (length lines.options) kept (λ i. line_text 68 ((subscription lines).number i ∷ [])) (λ i l. option_line_short ((subscription lines).number i) (option_short i l)) in
        omega arith

    answer_short : length (answer_text lines a) ≤ 1024
    unfolding answer_text
    answer_short =
        let p = sequence_text (sequence_of_choice lines r) in
        let d = each (length lines.options) (dropped_option_text lines r) in
        let o = each (length lines.orderings) (dropped_ordering_text lines r) in
        let e = length-append (value_text a) (p ++ (d ++ o)) in let f = length-append p (d ++ o) in let g = length-append d o in
        let h = value_short in let k = options_and_places_short in let l = orderings_short in omega arith

-- THE REPORT HAS AT MOST 1,024 BYTES, whatever the text.
pub report_short : (text : List ℕ) → length (report_of text) ≤ 1024
report_short text = go (read_sheet text).answer refl
  where
    go : (answer : Answer) → (read_sheet text).answer ≡ answer → length (report_of text) ≤ 1024
    go Accepted e =
        let s = (read_sheet text).sheet in
        subst (λ z. length z ≤ 1024) (sym (report_of_accepted text (read_sheet text) refl e)) (answer_short s (accepted_is_recorded text (read_sheet text) refl e) (answer_at_nought (lines_of s)) (answer_at_nought_is (lines_of s)))
    go (Refused p why) e =
        let z = place_is_short text in
        let number = refusal_number why in
        let line = ap line_of e in let column = ap column_of e in
        let h = refusal_line_short (number_of why) p.line p.column (omega (arith, number.1)) (omega (arith, z.0, line)) (omega (arith, z.1, column)) in
        let f = ap length (report_of_refused text (read_sheet text) refl e) in
        omega (arith, h, f)
