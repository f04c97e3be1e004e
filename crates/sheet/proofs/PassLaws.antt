-- A record that obeys the rule passes the check.
use Prim.Native.Nat.{ℕ, zero, suc, ◌+◌, ◌≤◌}
use mathlib.Core.Logic.{⊎_elim}
use mathlib.Core.Path.{◌≡◌, refl, ◌∙◌}
use mathlib.Core.Bool.{true}
use mathlib.Core.List.{List, [], ◌∷◌}
use native.Mathlib.Omega.{arith}
use lib.ListN.{length, take, drop, get_or}
use lib.Seq.{get_or-drop}
use borrow.Author.Tests.{eq-eqb, le-ltb}
use Rattle.sheet.specs.IsRecorded.{is_letter, entry_numbers, catalogue_fine, options_fine, orderings_fine, all_zero, catalogue_recorded, options_recorded, orderings_recorded, is_recorded}
use Rattle.sheet.specs.Recorded.{CatalogueLetter, letter, before, after, number, weight, first, second, ordering_weight, Recorded}
use Rattle.sheet.specs.declared.sheet.Sheet.{Sheet}
use Rattle.sheet.proofs.JudgeLaws.{catalogue_passes, option_passes, ordering_passes}
use Rattle.sheet.proofs.SlotLaws.{slot_is_in, no_slot_has, no_slot_has_pair}

zero_all : (l : List ℕ) → ((i : ℕ) → get_or l i 0 ≡ 0) → all_zero l ≡ true
unfolding all_zero
zero_all [] z = refl
zero_all (x ∷ l) z = rw (eq-eqb x 0 (z 0), zero_all l (λ i. z (suc i)))

zero_after : (n : ℕ) (l : List ℕ) → ((i : ℕ) → n ≤ i → get_or l i 0 ≡ 0) → all_zero (drop n l) ≡ true
zero_after n l z = zero_all (drop n l) (λ i. get_or-drop n l i 0 ∙ z (n + i) (omega arith))

letter_passes : (c : ℕ) → CatalogueLetter c → is_letter c ≡ true
letter_passes c g = ⊎_elim (λ e. rw e) (λ e. rw e) g

module _ (s : Sheet) (R : Recorded s) where
  catalogue_pass : (k i : ℕ) → i + k ≤ s.catalogue_lines → catalogue_fine k i s.letters s.befores s.afters ≡ true
  unfolding catalogue_fine
  catalogue_pass zero i h = refl
  catalogue_pass (suc k) i h =
      rw (
        letter_passes (letter s i) (R.letters i (omega arith)),
        catalogue_passes (entry_numbers (before s i) (after s i) 0) (R.catalogue i (omega arith)),
        catalogue_pass k (i + 1) (omega arith),
      )

  options_pass : (k i : ℕ) → i + k ≤ s.option_count → options_fine k i s.numbers s.weights ≡ true
  unfolding options_fine
  options_pass zero i h = refl
  options_pass (suc k) i h =
      let g = R.options i (omega arith) in
      let new = no_slot_has i s.numbers (omega (arith, R.few_options, R.lengths.numbers)) (number s i)
      (λ j p e. let z = R.distinct j i (omega arith) (omega arith) e in omega (arith, z)) in
      rw (option_passes (entry_numbers (number s i) (weight s i) 0) (take i s.numbers) (g.0, (g.1, new)), options_pass k (i + 1) (omega arith))

  orderings_pass : (k i : ℕ) → i + k ≤ s.ordering_count
      → orderings_fine k i (take s.option_count s.numbers) s.firsts s.seconds s.ordering_weights ≡ true
  unfolding orderings_fine
  orderings_pass zero i h = refl
  orderings_pass (suc k) i h =
      let g = R.subscribed i (omega arith) in
      let a = g.0 in
      let b = g.1 in
      let m : s.option_count ≤ length s.numbers = omega (arith, R.few_options, R.lengths.numbers) in
      let new = no_slot_has_pair i s.firsts (omega (arith, R.few_orderings, R.lengths.firsts)) s.seconds (omega (arith, R.few_orderings, R.lengths.seconds)) (first s i) (second s i)
      (λ j p e d. let z = R.pairs_once j i (omega arith) (omega arith) e d in omega (arith, z)) in
      let na = (R.options a.0 a.1.0).0 in
      let nb = (R.options b.0 b.1.0).0 in
      rw (
        ordering_passes (entry_numbers (first s i) (second s i) (ordering_weight s i)) (take s.option_count s.numbers) (take i s.firsts) (take i s.seconds) (
          rw a.1.1 at na,
          (
            rw b.1.1 at nb,
            (
              R.ordering_weights i (omega arith),
              (
                R.ends_differ i (omega arith),
                (
                  slot_is_in s.option_count s.numbers m (first s i) a.0 a.1.0 a.1.1,
                  (slot_is_in s.option_count s.numbers m (second s i) b.0 b.1.0 b.1.1, new),
                ),
              ),
            ),
          ),
        ),
        orderings_pass k (i + 1) (omega arith),
      )

  pub recorded_passes : is_recorded s ≡ true
  unfolding is_recorded catalogue_recorded options_recorded orderings_recorded
  recorded_passes =
      rw (
        le-ltb 512 s.catalogue_lines R.few_catalogue,
        le-ltb 32 s.option_count R.few_options,
        le-ltb 64 s.ordering_count R.few_orderings,
        catalogue_pass s.catalogue_lines 0 (omega arith),
        options_pass s.option_count 0 (omega arith),
        orderings_pass s.ordering_count 0 (omega arith),
        zero_after s.catalogue_lines s.letters (λ i h. (R.unused.catalogue i h).0),
        zero_after s.catalogue_lines s.befores (λ i h. (R.unused.catalogue i h).1.0),
        zero_after s.catalogue_lines s.afters (λ i h. (R.unused.catalogue i h).1.1),
        zero_after s.option_count s.numbers (λ i h. (R.unused.options i h).0),
        zero_after s.option_count s.weights (λ i h. (R.unused.options i h).1),
        zero_after s.ordering_count s.firsts (λ i h. (R.unused.orderings i h).0),
        zero_after s.ordering_count s.seconds (λ i h. (R.unused.orderings i h).1.0),
        zero_after s.ordering_count s.ordering_weights (λ i h. (R.unused.orderings i h).1.1),
      )
