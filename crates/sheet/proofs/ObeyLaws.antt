-- A record that the check passes obeys the rule.
use Prim.Native.Nat.{ℕ, zero, suc, ◌+◌, ◌-◌, ◌≤◌, ◌<◌}
use mathlib.Core.Logic.{⊎_elim}
use mathlib.Core.Path.{◌≡◌, refl, sym, ap, subst, ◌∙◌}
use mathlib.Core.Bool.{true}
use mathlib.Core.List.{List, [], ◌∷◌}
use native.Mathlib.Omega.{arith}
use native.Mathlib.Nat.{eq-or-lt_of_le}
use lib.Dec.{eqb}
use lib.ListN.{length, take, drop, get_or}
use lib.Seq.{get_or-drop}
use borrow.Author.Tests.{eqb-true}
use Rattle.std.proofs.lemmas.Bool.{and_parts}
use Rattle.std.proofs.lemmas.Bool.Decides.{nat_tests}
use Rattle.sheet.specs.IsRecorded.{is_fine, is_letter, entry_numbers, catalogue_fine, options_fine, orderings_fine, all_zero, within_limits, catalogue_recorded, options_recorded, orderings_recorded, is_recorded}
use Rattle.sheet.specs.Limits.{catalogue_limit, option_limit, ordering_limit}
use Rattle.sheet.specs.Judge.{judge_catalogue_line, judge_option, judge_ordering}
use Rattle.sheet.specs.Recorded.{CatalogueLetter, letter, before, after, number, weight, first, second, ordering_weight, Lengths, Recorded}
use Rattle.sheet.specs.declared.judged.Judged.{Judged}
use Rattle.sheet.specs.declared.judged.Judged.TheVariants.{Fine, Broken}
use Rattle.sheet.specs.declared.sheet.Sheet.{Sheet}
use Rattle.sheet.proofs.JudgeLaws.{CatalogueObeys, OptionObeys, OrderingObeys, catalogue_obeys, option_obeys, ordering_obeys}
use Rattle.sheet.proofs.SlotLaws.{in_slot_of, not_in_slots, pair_not_in_slots}

-- no section has too many lines
pub limits_kept : (c o r : ℕ) → within_limits c o r ≡ true → (c ≤ catalogue_limit) × ((o ≤ option_limit) × (r ≤ ordering_limit))
limits_kept c o r e = grind (arith, nat_tests)

pub recorded_limits : (s : Sheet) → is_recorded s ≡ true
    → (s.catalogue_lines ≤ catalogue_limit) × ((s.option_count ≤ option_limit) × (s.ordering_count ≤ ordering_limit))
unfolding is_recorded
recorded_limits s e = grind (arith, nat_tests)

fine_of : (v : Judged) → is_fine v ≡ true → v ≡ Fine
fine_of Fine e = refl
fine_of (Broken k c) e = cc

letter_good : (c : ℕ) → is_letter c ≡ true → CatalogueLetter c
letter_good c e = grind (arith, nat_tests)

-- each of k entries from entry i on
catalogue_each : (letters befores afters : List ℕ) (k i : ℕ) → catalogue_fine k i letters befores afters ≡ true → (j : ℕ) → i ≤ j → j < i + k
    → CatalogueLetter (get_or letters j 0) × CatalogueObeys (entry_numbers (get_or befores j 0) (get_or afters j 0) 0)
unfolding catalogue_fine
catalogue_each letters befores afters zero i e j p q = absurd (omega arith)
catalogue_each letters befores afters (suc k) i e j p q =
    let a = and_parts (is_letter (get_or letters i 0)) _ e in
    let h = entry_numbers (get_or befores i 0) (get_or afters i 0) 0 in
    let b = and_parts (is_fine (judge_catalogue_line h)) _ a.1 in
    ⊎_elim
    (λ w. subst (λ (x : ℕ). CatalogueLetter (get_or letters x 0) × CatalogueObeys (entry_numbers (get_or befores x 0) (get_or afters x 0) 0)) w
    (letter_good (get_or letters i 0) a.0, catalogue_obeys h (fine_of _ b.0)))
    (λ w. catalogue_each letters befores afters k (i + 1) b.1 j (omega arith) (omega arith))
    (eq-or-lt_of_le p)

options_each : (numbers weights : List ℕ) (k i : ℕ) → options_fine k i numbers weights ≡ true → (j : ℕ) → i ≤ j → j < i + k
    → OptionObeys (entry_numbers (get_or numbers j 0) (get_or weights j 0) 0) (take j numbers)
unfolding options_fine
options_each numbers weights zero i e j p q = absurd (omega arith)
options_each numbers weights (suc k) i e j p q =
    let h = entry_numbers (get_or numbers i 0) (get_or weights i 0) 0 in
    let b = and_parts (is_fine (judge_option h (take i numbers))) _ e in
    ⊎_elim
    (λ w. subst (λ (x : ℕ). OptionObeys (entry_numbers (get_or numbers x 0) (get_or weights x 0) 0) (take x numbers)) w (option_obeys h (take i numbers) (fine_of _ b.0)))
    (λ w. options_each numbers weights k (i + 1) b.1 j (omega arith) (omega arith))
    (eq-or-lt_of_le p)

orderings_each : (subscribed firsts seconds weights : List ℕ) (k i : ℕ) → orderings_fine k i subscribed firsts seconds weights ≡ true → (j : ℕ) → i ≤ j → j < i + k
    → OrderingObeys (entry_numbers (get_or firsts j 0) (get_or seconds j 0) (get_or weights j 0)) subscribed (take j firsts) (take j seconds)
unfolding orderings_fine
orderings_each subscribed firsts seconds weights zero i e j p q = absurd (omega arith)
orderings_each subscribed firsts seconds weights (suc k) i e j p q =
    let h = entry_numbers (get_or firsts i 0) (get_or seconds i 0) (get_or weights i 0) in
    let b = and_parts (is_fine (judge_ordering h subscribed (take i firsts) (take i seconds))) _ e in
    ⊎_elim
    (λ w. subst (λ (x : ℕ). OrderingObeys (entry_numbers (get_or firsts x 0) (get_or seconds x 0) (get_or weights x 0)) subscribed (take x firsts) (take x seconds)) w
    (ordering_obeys h subscribed (take i firsts) (take i seconds) (fine_of _ b.0)))
    (λ w. orderings_each subscribed firsts seconds weights k (i + 1) b.1 j (omega arith) (omega arith))
    (eq-or-lt_of_le p)

zero_in : (l : List ℕ) (i : ℕ) → all_zero l ≡ true → get_or l i 0 ≡ 0
unfolding all_zero
zero_in [] i e = refl
zero_in (x ∷ l) zero e = eqb-true x 0 (and_parts (eqb x 0) _ e).0
zero_in (x ∷ l) (suc i) e = zero_in l i (and_parts (eqb x 0) _ e).1

zero_from : (n : ℕ) (l : List ℕ) → all_zero (drop n l) ≡ true → (i : ℕ) → n ≤ i → get_or l i 0 ≡ 0
zero_from n l e i h =
    let z : i ≡ n + (i - n) = omega arith in
    ap (λ (j : ℕ). get_or l j 0) z ∙ sym (get_or-drop n l (i - n) 0) ∙ zero_in (drop n l) (i - n) e

neither_before : (i j : ℕ) → (i < j → ⊥) → (j < i → ⊥) → i ≡ j
neither_before i j p q = omega arith

-- what the check of each section says
module _ (n : ℕ) (letters befores afters : List ℕ) (e : catalogue_recorded n letters befores afters ≡ true) where
  catalogue_parts : (catalogue_fine n 0 letters befores afters ≡ true)
      × ((all_zero (drop n letters) ≡ true) × ((all_zero (drop n befores) ≡ true) × (all_zero (drop n afters) ≡ true)))
  unfolding catalogue_recorded
  catalogue_parts = grind (arith, nat_tests)

module _ (n : ℕ) (numbers weights : List ℕ) (e : options_recorded n numbers weights ≡ true) where
  options_parts : (options_fine n 0 numbers weights ≡ true) × ((all_zero (drop n numbers) ≡ true) × (all_zero (drop n weights) ≡ true))
  unfolding options_recorded
  options_parts = grind (arith, nat_tests)

module _ (n : ℕ) (subscribed firsts seconds weights : List ℕ) (e : orderings_recorded n subscribed firsts seconds weights ≡ true) where
  orderings_parts : (orderings_fine n 0 subscribed firsts seconds weights ≡ true)
      × ((all_zero (drop n firsts) ≡ true) × ((all_zero (drop n seconds) ≡ true) × (all_zero (drop n weights) ≡ true)))
  unfolding orderings_recorded
  orderings_parts = grind (arith, nat_tests)

module _ (s : Sheet) (L : Lengths s) (e : is_recorded s ≡ true) where
  few : (s.catalogue_lines ≤ 512) × ((s.option_count ≤ 32) × (s.ordering_count ≤ 64))
  few = recorded_limits s e

  all_options : s.option_count ≤ length s.numbers
  all_options = omega (arith, few, L.numbers)

  sections : (catalogue_recorded s.catalogue_lines s.letters s.befores s.afters ≡ true)
      × ((options_recorded s.option_count s.numbers s.weights ≡ true)
      × (orderings_recorded s.ordering_count (take s.option_count s.numbers) s.firsts s.seconds s.ordering_weights ≡ true))
  unfolding is_recorded
  sections = grind (arith, nat_tests)

  catalogue_entry : (i : ℕ) → i < s.catalogue_lines → CatalogueLetter (letter s i) × CatalogueObeys (entry_numbers (before s i) (after s i) 0)
  catalogue_entry i h =
      let c = catalogue_parts s.catalogue_lines s.letters s.befores s.afters sections.0 in
      catalogue_each s.letters s.befores s.afters s.catalogue_lines 0 c.0 i (omega arith) (omega arith)

  option_entry : (i : ℕ) → i < s.option_count → OptionObeys (entry_numbers (number s i) (weight s i) 0) (take i s.numbers)
  option_entry i h =
      let c = options_parts s.option_count s.numbers s.weights sections.1.0 in
      options_each s.numbers s.weights s.option_count 0 c.0 i (omega arith) (omega arith)

  ordering_entry : (k : ℕ) → k < s.ordering_count
      → OrderingObeys (entry_numbers (first s k) (second s k) (ordering_weight s k)) (take s.option_count s.numbers) (take k s.firsts) (take k s.seconds)
  ordering_entry k h =
      let c = orderings_parts s.ordering_count (take s.option_count s.numbers) s.firsts s.seconds s.ordering_weights sections.1.1 in
      orderings_each (take s.option_count s.numbers) s.firsts s.seconds s.ordering_weights s.ordering_count 0 c.0 k (omega arith) (omega arith)

  new_option : (i j : ℕ) → i < j → j < s.option_count → number s i ≡ number s j → ⊥
  new_option i j w h d = not_in_slots j s.numbers (omega (arith, few, L.numbers)) (number s j) (option_entry j h).1.1 i w d

  new_pair : (j k : ℕ) → j < k → k < s.ordering_count → first s j ≡ first s k → second s j ≡ second s k → ⊥
  new_pair j k w h d d' =
      pair_not_in_slots k s.firsts (omega (arith, few, L.firsts)) s.seconds (omega (arith, few, L.seconds)) (first s k) (second s k) (ordering_entry k h).1.1.1.1.1.1 j w d d'

  pub passes_recorded : Recorded s
  passes_recorded =
      let c = (catalogue_parts s.catalogue_lines s.letters s.befores s.afters sections.0).1 in
      let o = (options_parts s.option_count s.numbers s.weights sections.1.0).1 in
      let r = (orderings_parts s.ordering_count (take s.option_count s.numbers) s.firsts s.seconds s.ordering_weights sections.1.1).1 in
      record {
        few_catalogue = few.0;
        few_options = few.1.0;
        few_orderings = few.1.1;
        lengths = L;
        letters = λ i h. (catalogue_entry i h).0;
        catalogue = λ i h. (catalogue_entry i h).1;
        options = λ i h. ((option_entry i h).0, (option_entry i h).1.0);
        distinct = λ i j p q d. neither_before i j (λ w. new_option i j w q d) (λ w. new_option j i w p (sym d));
        subscribed = λ k h. (in_slot_of s.option_count s.numbers all_options (first s k) (ordering_entry k h).1.1.1.1.0, in_slot_of s.option_count s.numbers all_options (second s k) (ordering_entry k h).1.1.1.1.1.0);
        ends_differ = λ k h. (ordering_entry k h).1.1.1.0;
        ordering_weights = λ k h. (ordering_entry k h).1.1.0;
        pairs_once = λ j k p q d d'. neither_before j k (λ w. new_pair j k w q d d') (λ w. new_pair k j w p (sym d) (sym d'));
        unused = record {
          catalogue = λ i h. (zero_from s.catalogue_lines s.letters c.0 i h, (zero_from s.catalogue_lines s.befores c.1.0 i h, zero_from s.catalogue_lines s.afters c.1.1 i h));
          options = λ i h. (zero_from s.option_count s.numbers o.0 i h, zero_from s.option_count s.weights o.1 i h);
          orderings = λ i h. (zero_from s.ordering_count s.firsts r.0 i h, (zero_from s.ordering_count s.seconds r.1.0 i h, zero_from s.ordering_count s.ordering_weights r.1.1 i h));
        };
      }
