-- The computation tells the first rule that a line breaks, and there is one such answer only.
use Prim.Native.Nat.{ℕ, ◌≤◌, ◌<◌}
use mathlib.Core.Logic.{inl, inr}
use mathlib.Core.Path.{◌≡◌, refl, ap}
use mathlib.Core.Bool.{Bool, true, false, cond}
use mathlib.Core.List.{List}
use native.Mathlib.Omega.{arith}
use lib.Dec.{eqb, ltb}
use borrow.Author.Tests.{eqb-true, eq-eqb, ltb-true, lt-ltb}
use Rattle.std.proofs.lemmas.Bool.Decides.{nat_tests}
use Rattle.shape.specs.Number.{numbers_of}
use Rattle.shape.specs.declared.number.Numbers.{Numbers}
use Rattle.sheet.specs.Answer.{number_of}
use Rattle.sheet.specs.Breaks.{CatalogueBreaks, one_outside, other_outside, names_one_twice, OptionBreaks, number_outside, weight_outside, subscribed_twice, OrderingBreaks, first_outside, second_outside, ordering_weight_outside, one_option_twice, first_not_subscribed, second_not_subscribed, same_pair_again, NoLater, FirstBroken, none, one}
use Rattle.sheet.specs.Judge.{is_in, is_pair, no_option, judge_catalogue_line, judge_option, judge_pair, judge_ordering}
use Rattle.sheet.specs.Limits.{largest_weight}
use Rattle.sheet.specs.Recorded.{OptionNumber}
use Rattle.sheet.specs.declared.answer.Refusal.{Refusal}
use Rattle.sheet.specs.declared.judged.Judged.{Judged}
use Rattle.sheet.specs.declared.judged.Judged.TheVariants.{Fine, Broken}
use Rattle.sheet.proofs.JudgeLaws.{outside}

is_outside : (x : ℕ) → no_option x ≡ true → OptionNumber x → ⊥
is_outside x e g = grind (arith, nat_tests)

-- the columns of a line's numbers, from left to right
abbrev pub LeftToRight : Numbers → Type 0
LeftToRight h = (3 ≤ h.second_column) × (h.second_column ≤ h.third_column)

pub left_to_right : (l : List ℕ) → LeftToRight (numbers_of l)
left_to_right l = (omega arith, omega arith)

-- what is told, if anything, is broken
data Holds (B : Refusal → ℕ → Type 0) : Judged → Type 0 where
  nothing : Holds B Fine
  told : {k : Refusal} {c : ℕ} → B k c → Holds B (Broken k c)

-- what is told is no later than rule k at column c
data ToldBy (k : Refusal) (c : ℕ) : Judged → Type 0 where
  by : {k' : Refusal} {c' : ℕ} → NoLater k' c' k c → ToldBy k c (Broken k' c')

not_fine : {k : Refusal} {c : ℕ} {j : Judged} → ToldBy k c j → j ≡ Fine → ⊥
not_fine (by p) e = cc

no_later : {k k' : Refusal} {c c' : ℕ} → ToldBy k c (Broken k' c') → NoLater k' c' k c
no_later (by p) = p

first_broken : {B : Refusal → ℕ → Type 0} {j : Judged} → Holds B j → ((k : Refusal) (c : ℕ) → B k c → ToldBy k c j) → FirstBroken B j
first_broken nothing f = none (λ k c b. not_fine (f k c b) refl)
first_broken (told b) f = one b (λ k c b'. no_later (f k c b'))

-- one test of the computation: what is told when it holds, and when it does not
test : (B : Refusal → ℕ → Type 0) (t : Bool) (k : Refusal) (c : ℕ) (j : Judged) → (t ≡ true → B k c) → Holds B j → Holds B (cond t (Broken k c) j)
test B true k c j f g = told (f refl)
test B false k c j f g = g

test_not : (B : Refusal → ℕ → Type 0) (t : Bool) (k : Refusal) (c : ℕ) (j : Judged) → (t ≡ false → B k c) → Holds B j → Holds B (cond t j (Broken k c))
test_not B true k c j f g = g
test_not B false k c j f g = told (f refl)

now : (t : Bool) (k : Refusal) (c : ℕ) (j : Judged) → t ≡ true → ToldBy k c (cond t (Broken k c) j)
now t k c j e = rw e (by {c' = c} (inr (refl, omega arith)))

now_not : (t : Bool) (k : Refusal) (c : ℕ) (j : Judged) → t ≡ false → ToldBy k c (cond t j (Broken k c))
now_not t k c j e = rw e (by {c' = c} (inr (refl, omega arith)))

or_then : (t : Bool) (k k' : Refusal) (c c' : ℕ) (j : Judged) → NoLater k c k' c' → ToldBy k' c' j → ToldBy k' c' (cond t (Broken k c) j)
or_then true k k' c c' j p q = by p
or_then false k k' c c' j p q = q

or_then_not : (t : Bool) (k k' : Refusal) (c c' : ℕ) (j : Judged) → NoLater k c k' c' → ToldBy k' c' j → ToldBy k' c' (cond t j (Broken k c))
or_then_not true k k' c c' j p q = q
or_then_not false k k' c c' j p q = by p

module _ (h : Numbers) (o : LeftToRight h) where
  catalogue_by : (k : Refusal) (c : ℕ) → CatalogueBreaks h k c → ToldBy k c (judge_catalogue_line h)
  catalogue_by k c (one_outside b) = now (no_option h.first) _ _ _ (outside h.first b)
  catalogue_by k c (other_outside b) = or_then (no_option h.first) _ _ _ _ _ (inr (refl, o.0)) (now (no_option h.second) _ _ _ (outside h.second b))
  catalogue_by k c (names_one_twice b) =
      or_then (no_option h.first) _ _ _ _ _ (inl (omega arith))
      (or_then (no_option h.second) _ _ _ _ _ (inl (omega arith)) (now (eqb h.first h.second) _ _ _ (eq-eqb h.first h.second b)))

  pub catalogue_first : FirstBroken (CatalogueBreaks h) (judge_catalogue_line h)
  catalogue_first =
      first_broken
      (test (CatalogueBreaks h) (no_option h.first) _ _ _ (λ e. one_outside (is_outside h.first e))
      (test (CatalogueBreaks h) (no_option h.second) _ _ _ (λ e. other_outside (is_outside h.second e))
      (test (CatalogueBreaks h) (eqb h.first h.second) _ _ _ (λ e. names_one_twice (eqb-true h.first h.second e)) nothing)))
      catalogue_by

  option_by : (l : List ℕ) (k : Refusal) (c : ℕ) → OptionBreaks h l k c → ToldBy k c (judge_option h l)
  option_by l k c (number_outside b) = now (no_option h.first) _ _ _ (outside h.first b)
  option_by l k c (weight_outside b) = or_then (no_option h.first) _ _ _ _ _ (inr (refl, o.0)) (now (ltb largest_weight h.second) _ _ _ (lt-ltb largest_weight h.second b))
  option_by l k c (subscribed_twice b) =
      or_then (no_option h.first) _ _ _ _ _ (inl (omega arith))
      (or_then (ltb largest_weight h.second) _ _ _ _ _ (inl (omega arith)) (now (is_in h.first l) _ _ _ b))

  pub option_first : (l : List ℕ) → FirstBroken (OptionBreaks h l) (judge_option h l)
  option_first l =
      first_broken
      (test (OptionBreaks h l) (no_option h.first) _ _ _ (λ e. number_outside (is_outside h.first e))
      (test (OptionBreaks h l) (ltb largest_weight h.second) _ _ _ (λ e. weight_outside (ltb-true largest_weight h.second e))
      (test (OptionBreaks h l) (is_in h.first l) _ _ _ (λ e. subscribed_twice e) nothing)))
      (option_by l)

  module _ (l m n : List ℕ) where
    abbrev B : Refusal → ℕ → Type 0
    B = OrderingBreaks h l m n

    -- a rule that is told after 5 and 8
    after_eight : (k : Refusal) (c : ℕ) → 8 < number_of k → ToldBy k c (judge_pair h l m n) → ToldBy k c (judge_ordering h l m n)
    after_eight k c p q =
        or_then (no_option h.first) _ _ _ _ _ (inl (omega arith))
        (or_then (no_option h.second) _ _ _ _ _ (inl (omega arith))
        (or_then (ltb largest_weight h.third) _ _ _ _ _ (inl (omega arith))
        (or_then (eqb h.first h.second) _ _ _ _ _ (inl p) q)))

    ordering_by : (k : Refusal) (c : ℕ) → B k c → ToldBy k c (judge_ordering h l m n)
    ordering_by k c (first_outside b) = now (no_option h.first) _ _ _ (outside h.first b)
    ordering_by k c (second_outside b) = or_then (no_option h.first) _ _ _ _ _ (inr (refl, o.0)) (now (no_option h.second) _ _ _ (outside h.second b))
    ordering_by k c (ordering_weight_outside b) =
        or_then (no_option h.first) _ _ _ _ _ (inr (refl, omega (arith, o)))
        (or_then (no_option h.second) _ _ _ _ _ (inr (refl, o.1)) (now (ltb largest_weight h.third) _ _ _ (lt-ltb largest_weight h.third b)))
    ordering_by k c (one_option_twice b) =
        or_then (no_option h.first) _ _ _ _ _ (inl (omega arith))
        (or_then (no_option h.second) _ _ _ _ _ (inl (omega arith))
        (or_then (ltb largest_weight h.third) _ _ _ _ _ (inl (omega arith)) (now (eqb h.first h.second) _ _ _ (eq-eqb h.first h.second b))))
    ordering_by k c (first_not_subscribed b) = after_eight _ _ (omega arith) (now_not (is_in h.first l) _ _ _ b)
    ordering_by k c (second_not_subscribed b) =
        after_eight _ _ (omega arith) (or_then_not (is_in h.first l) _ _ _ _ _ (inr (refl, o.0)) (now_not (is_in h.second l) _ _ _ b))
    ordering_by k c (same_pair_again b) =
        after_eight _ _ (omega arith)
        (or_then_not (is_in h.first l) _ _ _ _ _ (inl (omega arith))
        (or_then_not (is_in h.second l) _ _ _ _ _ (inl (omega arith)) (now (is_pair h.first h.second m n) _ _ _ b)))

    pub ordering_first : FirstBroken (OrderingBreaks h l m n) (judge_ordering h l m n)
    ordering_first =
        first_broken
        (test B (no_option h.first) _ _ _ (λ e. first_outside (is_outside h.first e))
        (test B (no_option h.second) _ _ _ (λ e. second_outside (is_outside h.second e))
        (test B (ltb largest_weight h.third) _ _ _ (λ e. ordering_weight_outside (ltb-true largest_weight h.third e))
        (test B (eqb h.first h.second) _ _ _ (λ e. one_option_twice (eqb-true h.first h.second e))
        (test_not B (is_in h.first l) _ _ _ (λ e. first_not_subscribed e)
        (test_not B (is_in h.second l) _ _ _ (λ e. second_not_subscribed e)
        (test B (is_pair h.first h.second m n) _ _ _ (λ e. same_pair_again e) nothing)))))))
        ordering_by

-- two first rules are one
pub one_first : {B : Refusal → ℕ → Type 0} {j j' : Judged} → FirstBroken B j → FirstBroken B j' → j ≡ j'
one_first (none f) (none g) = refl
one_first (none f) (one b g) = absurd (f _ _ b)
one_first (one b f) (none g) = absurd (g _ _ b)
one_first (one {k = k} {c = c} b f) (one {k = k'} {c = c'} b' g) = same (f k' c' b') (g k c b)
  where
    same : NoLater k c k' c' → NoLater k' c' k c → Broken k c ≡ Broken k' c'
    same (inl p) (inl q) = absurd (omega arith)
    same (inl p) (inr q) = let z = ap number_of q.0 in absurd (omega arith)
    same (inr p) (inl q) = let z = ap number_of p.0 in absurd (omega arith)
    same (inr p) (inr q) =
        let z : c ≡ c' = omega (arith, p.1, q.1) in
        rw (p.0, z)
