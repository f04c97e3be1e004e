-- The lines of a record that obeys the rule are as the rules want them: what refusals 5, 6, 7, 8 and 9 leave.
use Prim.Native.Nat.{ℕ, zero, suc, ◌≤◌, ◌<◌}
use mathlib.Core.Path.{◌≡◌, sym, ap, ◌∙◌}
use native.Mathlib.Omega.{arith}
use lib.ListN.{length, get_or}
use borrow.Author.Tests.{eq-eqb, ne_eqb}
use Rattle.rules.specs.Lines.{OptionLine, OrderingLine, slot_of}
use Rattle.rules.specs.Slots.{list_of}
use Rattle.rules.specs.Subscription.{subscription, Proper}
use Rattle.rules.specs.laws.Slots.{length_list_of, getD_list_of}
use Rattle.sheet.specs.Lines.{option_line, ordering_line, lines_of}
use Rattle.sheet.specs.Recorded.{number, weight, first, second, ordering_weight, Recorded}
use Rattle.sheet.specs.declared.sheet.Sheet.{Sheet}

-- the slot of a number that stands nowhere earlier
slot_found : (n : ℕ) (g : ℕ → OptionLine) (a i : ℕ) → i < n → (g i).number ≡ a → ((j : ℕ) → j < i → (g j).number ≡ a → ⊥) → slot_of a (list_of n g) ≡ i
unfolding list_of
slot_found zero g a i h e d = absurd (omega arith)
slot_found (suc n) g a zero h e d = rw (slot_of, eq-eqb (g 0).number a e)
slot_found (suc n) g a (suc i) h e d =
    rw (slot_of, ne_eqb (g 0).number a (d 0 (omega arith))) (ap suc (slot_found n (λ j. g (suc j)) a i (omega arith) e (λ j p q. d (suc j) (omega arith) q)))

module _ (s : Sheet) where
  pub option_lines : length (lines_of s).options ≡ s.option_count
  unfolding lines_of
  option_lines = length_list_of s.option_count (option_line s)

  pub ordering_lines : length (lines_of s).orderings ≡ s.ordering_count
  unfolding lines_of
  ordering_lines = length_list_of s.ordering_count (ordering_line s)

  -- what the rules call an option's number and weight, and an ordering's weight, is what the record holds
  pub slot_number : (i : ℕ) → i < s.option_count → (subscription (lines_of s)).number i ≡ number s i
  unfolding lines_of subscription
  slot_number i h = ap (λ (l : OptionLine). l.number) (getD_list_of s.option_count (option_line s) _ i h)

  pub slot_weight : (i : ℕ) → i < s.option_count → (subscription (lines_of s)).weight i ≡ weight s i
  unfolding lines_of subscription
  slot_weight i h = ap (λ (l : OptionLine). l.weight) (getD_list_of s.option_count (option_line s) _ i h)

  pub slot_ordering_weight : (k : ℕ) → k < s.ordering_count → (subscription (lines_of s)).ordering_weight k ≡ ordering_weight s k
  unfolding lines_of subscription
  slot_ordering_weight k h = ap (λ (l : OrderingLine). l.weight) (getD_list_of s.ordering_count (ordering_line s) _ k h)

  ordering_at : (k : ℕ) → k < s.ordering_count → get_or (lines_of s).orderings k (record { first = 0; second = 0; weight = 0 }) ≡ ordering_line s k
  unfolding lines_of
  ordering_at k h = getD_list_of s.ordering_count (ordering_line s) _ k h

  module _ (R : Recorded s) where
    slot_is : (a i : ℕ) → i < s.option_count → number s i ≡ a → slot_of a (lines_of s).options ≡ i
    unfolding lines_of
    slot_is a i h e =
        slot_found s.option_count (option_line s) a i h e
        (λ j p q. let z = R.distinct j i (omega arith) h (q ∙ sym e) in omega (arith, p, z))

    -- an ordering's ends are the slots where the record has its options
    pub slot_first : (k i : ℕ) → k < s.ordering_count → i < s.option_count → number s i ≡ first s k → (subscription (lines_of s)).first k ≡ i
    unfolding subscription
    slot_first k i h p e = ap (λ (l : OrderingLine). slot_of l.first (lines_of s).options) (ordering_at k h) ∙ slot_is (first s k) i p e

    pub slot_second : (k i : ℕ) → k < s.ordering_count → i < s.option_count → number s i ≡ second s k → (subscription (lines_of s)).second k ≡ i
    unfolding subscription
    slot_second k i h p e = ap (λ (l : OrderingLine). slot_of l.second (lines_of s).options) (ordering_at k h) ∙ slot_is (second s k) i p e

    pub recorded_proper : Proper (lines_of s)
    recorded_proper = record {
      numbers_differ = λ i j p q e.
          let a : i < s.option_count = omega (arith, p, option_lines) in
          let b : j < s.option_count = omega (arith, q, option_lines) in
          R.distinct i j a b (sym (slot_number i a) ∙ e ∙ slot_number j b);
      ends_differ = λ k p e.
          let h : k < s.ordering_count = omega (arith, p, ordering_lines) in
          let a = (R.subscribed k h).0 in
          let b = (R.subscribed k h).1 in
          let z : a.0 ≡ b.0 = sym (slot_first k a.0 h a.1.0 a.1.1) ∙ e ∙ slot_second k b.0 h b.1.0 b.1.1 in
          R.ends_differ k h (sym a.1.1 ∙ ap (λ (i : ℕ). number s i) z ∙ b.1.1);
      first_subscribed = λ k p.
          let h : k < s.ordering_count = omega (arith, p, ordering_lines) in
          let a = (R.subscribed k h).0 in
          let z = slot_first k a.0 h a.1.0 a.1.1 in
          omega (arith, z, a.1.0, option_lines);
      second_subscribed = λ k p.
          let h : k < s.ordering_count = omega (arith, p, ordering_lines) in
          let b = (R.subscribed k h).1 in
          let z = slot_second k b.0 h b.1.0 b.1.1 in
          omega (arith, z, b.1.0, option_lines);
    }

    -- counts and weights are within the sheet's limits
    pub few_option_lines : length (lines_of s).options ≤ 32
    few_option_lines = omega (arith, option_lines, R.few_options)

    pub few_ordering_lines : length (lines_of s).orderings ≤ 64
    few_ordering_lines = omega (arith, ordering_lines, R.few_orderings)

    pub small_weight : (i : ℕ) → i < s.option_count → (subscription (lines_of s)).weight i ≤ 9999
    small_weight i h =
        let g = (R.options i h).1 in
        omega (arith, slot_weight i h, g)

    pub small_ordering_weight : (k : ℕ) → k < s.ordering_count → (subscription (lines_of s)).ordering_weight k ≤ 9999
    small_ordering_weight k h =
        let g = R.ordering_weights k h in
        omega (arith, slot_ordering_weight k h, g)
