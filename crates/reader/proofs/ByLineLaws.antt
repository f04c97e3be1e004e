-- The record's rule by slots and the rule by lines are one.
use Prim.Native.Nat.{ℕ, ◌+◌, ◌-◌, ◌≤◌, ◌<◌}
use mathlib.Core.Path.{◌≡◌, refl, sym}
use mathlib.Core.Bool.{Bool, true, false}
use native.Mathlib.Omega.{arith}
use lib.Dec.{ltb}
use lib.ListN.{length, take}
use borrow.Author.Tests.{ltb-true, ltb-false}
use Rattle.shape.specs.Scan.{section_of}
use Rattle.shape.specs.declared.shape.Section.{Section}
use Rattle.shape.specs.declared.shape.Section.TheVariants.{Catalogue, Options, Orderings, Trailer}
use Rattle.sheet.specs.Judge.{is_in, is_pair}
use Rattle.sheet.specs.Recorded.{OptionNumber, CatalogueLetter, letter, before, after, number, weight, first, second, ordering_weight, Recorded}
use Rattle.sheet.specs.declared.sheet.Sheet.{Sheet}
use Rattle.sheet.proofs.SlotLaws.{in_slot_of, slot_is_in, not_in_slots, no_slot_has, pair_not_in_slots, no_slot_has_pair}
use Rattle.lines.proofs.LineLaws.{in_catalogue, in_options, in_orderings}
use Rattle.reader.proofs.Rule.{Row, Rule}
use Rattle.reader.proofs.SizeLaws.{catalogue_row, option_row, ordering_row}
use Rattle.reader.proofs.StoredLaws.{no_trailer}

neither_before : (i j : ℕ) → (i < j → ⊥) → (j < i → ⊥) → i ≡ j
neither_before i j p q = go (ltb i j) refl (ltb j i) refl
  where
    go : (s : Bool) → ltb i j ≡ s → (t : Bool) → ltb j i ≡ t → i ≡ j
    go true e t d = absurd (p (ltb-true i j e))
    go false e true d = absurd (q (ltb-true j i d))
    go false e false d = omega (arith, ltb-false i j e, ltb-false j i d)

module _ (f u t : ℕ) (s : Sheet) (R : Rule f u t s) where
  catalogue_at : (i : ℕ) → i < s.catalogue_lines
      → CatalogueLetter (letter s i) × (OptionNumber (before s i) × (OptionNumber (after s i) × (before s i ≡ after s i → ⊥)))
  catalogue_at i h =
      let z : i + 1 - 1 ≡ i = omega arith in
      rw z at (catalogue_row f u t s R i h)

  option_at : (i : ℕ) → i < s.option_count → OptionNumber (number s i) × ((weight s i ≤ 9999) × (is_in (number s i) (take i s.numbers) ≡ false))
  option_at i h =
      let z : f + i - f ≡ i = omega arith in
      rw z at (option_row f u t s R i h)

  ordering_at : (i : ℕ) → i < s.ordering_count
      → OptionNumber (first s i) × (OptionNumber (second s i) × ((ordering_weight s i ≤ 9999) × ((first s i ≡ second s i → ⊥)
      × ((is_in (first s i) (take s.option_count s.numbers) ≡ true) × ((is_in (second s i) (take s.option_count s.numbers) ≡ true)
      × (is_pair (first s i) (second s i) (take i s.firsts) (take i s.seconds) ≡ false))))))
  ordering_at i h =
      let z : u + i - u ≡ i = omega arith in
      let y : u - f ≡ s.option_count = omega (arith, R.f_is, R.u_is) in
      rw (z, y) at (ordering_row f u t s R i h)

  all_options : s.option_count ≤ length s.numbers
  all_options = omega (arith, R.few_options, R.lengths.numbers)

  new_option : (i j : ℕ) → i < j → j < s.option_count → number s i ≡ number s j → ⊥
  new_option i j w h d = not_in_slots j s.numbers (omega (arith, all_options)) (number s j) (option_at j h).1.1 i w d

  new_pair : (j k : ℕ) → j < k → k < s.ordering_count → first s j ≡ first s k → second s j ≡ second s k → ⊥
  new_pair j k w h d d' =
      pair_not_in_slots k s.firsts (omega (arith, R.few_orderings, R.lengths.firsts)) s.seconds (omega (arith, R.few_orderings, R.lengths.seconds)) (first s k) (second s k)
      (ordering_at k h).1.1.1.1.1.1 j w d d'

  pub rule_recorded : Recorded s
  rule_recorded =
      let c : f - 1 ≡ s.catalogue_lines = omega (arith, R.f_is) in
      let o : u - f ≡ s.option_count = omega (arith, R.f_is, R.u_is) in
      let r : t - u ≡ s.ordering_count = omega (arith, R.u_is, R.t_is) in
      record {
        few_catalogue = R.few_catalogue;
        few_options = R.few_options;
        few_orderings = R.few_orderings;
        lengths = R.lengths;
        letters = λ i h. (catalogue_at i h).0;
        catalogue = λ i h. (catalogue_at i h).1;
        options = λ i h. ((option_at i h).0, (option_at i h).1.0);
        distinct = λ i j p q d. neither_before i j (λ w. new_option i j w q d) (λ w. new_option j i w p (sym d));
        subscribed = λ k h. (in_slot_of s.option_count s.numbers all_options (first s k) (ordering_at k h).1.1.1.1.0, in_slot_of s.option_count s.numbers all_options (second s k) (ordering_at k h).1.1.1.1.1.0);
        ends_differ = λ k h. (ordering_at k h).1.1.1.0;
        ordering_weights = λ k h. (ordering_at k h).1.1.0;
        pairs_once = λ j k p q d d'. neither_before j k (λ w. new_pair j k w q d d') (λ w. new_pair k j w p (sym d) (sym d'));
        unused = record {
          catalogue = λ i h. R.unused.catalogue i (omega (arith, c));
          options = λ i h. R.unused.options i (omega (arith, o));
          orderings = λ i h. R.unused.orderings i (omega (arith, r));
        };
      }

module _ (s : Sheet) (R : Recorded s) (f u t : ℕ) (ef : f ≡ s.catalogue_lines + 1) (eu : u ≡ s.catalogue_lines + 1 + s.option_count)
    (et : t ≡ s.catalogue_lines + 1 + s.option_count + s.ordering_count) where
  row : (m : ℕ) (sec : Section) → section_of f u m ≡ sec → 1 ≤ m → m < t → Row f u sec m s
  row m Catalogue es p q =
      let lt = in_catalogue f u m es in
      (R.letters (m - 1) (omega (arith, lt, ef)), R.catalogue (m - 1) (omega (arith, lt, ef)))
  row m Options es p q =
      let lt = in_options f u m es in
      let h : m - f < s.option_count = omega (arith, lt, ef, eu) in
      let g = R.options (m - f) h in (
        g.0,
        (
          g.1,
          no_slot_has (m - f) s.numbers (omega (arith, h, R.few_options, R.lengths.numbers)) (number s (m - f))
              (λ j w e. let z = R.distinct j (m - f) (omega (arith, w, h)) h e in omega (arith, w, z)),
        ),
      )
  row m Orderings es p q =
      let lt = in_orderings f u m es in
      let h : m - u < s.ordering_count = omega (arith, lt, eu, et) in
      let o : u - f ≡ s.option_count = omega (arith, ef, eu) in
      let len : u - f ≤ length s.numbers = omega (arith, o, R.few_options, R.lengths.numbers) in
      let a = (R.subscribed (m - u) h).0 in
      let b = (R.subscribed (m - u) h).1 in
      let na = (R.options a.0 a.1.0).0 in
      let nb = (R.options b.0 b.1.0).0 in (
        rw a.1.1 at na,
        (
          rw b.1.1 at nb,
          (
            R.ordering_weights (m - u) h,
            (
              R.ends_differ (m - u) h,
              (
                slot_is_in (u - f) s.numbers len (first s (m - u)) a.0 (omega (arith, a.1.0, o)) a.1.1,
                (
                  slot_is_in (u - f) s.numbers len (second s (m - u)) b.0 (omega (arith, b.1.0, o)) b.1.1,
                  no_slot_has_pair (m - u) s.firsts (omega (arith, h, R.few_orderings, R.lengths.firsts)) s.seconds (omega (arith, h, R.few_orderings, R.lengths.seconds)) (first s (m - u)) (second s (m - u))
                      (λ j w e d. let z = R.pairs_once j (m - u) (omega (arith, w, h)) h e d in omega (arith, w, z)),
                ),
              ),
            ),
          ),
        ),
      )
  row m Trailer es p q = no_trailer f u m es

  pub recorded_rule : Rule f u t s
  recorded_rule = record {
    f_is = ef;
    u_is = eu;
    t_is = et;
    few_catalogue = R.few_catalogue;
    few_options = R.few_options;
    few_orderings = R.few_orderings;
    lengths = R.lengths;
    lines = λ m p q. row m (section_of f u m) refl p q;
    unused = record {
      catalogue = λ i h. R.unused.catalogue i (omega (arith, ef));
      options = λ i h. R.unused.options i (omega (arith, ef, eu));
      orderings = λ i h. R.unused.orderings i (omega (arith, eu, et));
    };
  }
