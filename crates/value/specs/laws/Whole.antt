-- From nothing decided: the best value, the limit of the whole sheet, and what a search starts from, for whatever sheet the chart shows.
use Rattle.std.specs.Prelude.{◌≡◌, refl, Bool, List, ◌∷◌, ◌++◌, ◌⊎◌, ℕ, zero, suc, ◌+◌}
use Rattle.std.proofs.Common.{sym, subst, ap, ◌∙◌, inl, inr, arith}
use Rattle.rules.specs.Slots.{list_of}
use Rattle.rules.specs.Lines.{Lines}
use Rattle.rules.specs.Subscription.{items}
use Rattle.rules.specs.Relaxation.{ConsistentRelaxation, value_of}
use Rattle.rules.specs.Decisions.{Open, Agrees, all_open}
use Rattle.rules.specs.Forced.{decision_of}
use Rattle.rules.specs.laws.Slots.{list_of_same}
use Rattle.rules.specs.laws.Decisions.{agrees_all_open}
use Rattle.rules.specs.laws.search.Valued.{Worth}
use Rattle.rules.specs.laws.search.Answers.{nought, reached}
use Rattle.rows.specs.Bits.{has}
use Rattle.rows.specs.laws.Bits.{has_none}
use Rattle.forced.specs.Forced.{ForcedBy}
use Rattle.half.specs.Half.{HalfDecidedAs}
use Rattle.given.specs.declared.sets.Given.{Given}
use Rattle.forced.specs.declared.forcing.Forced.{Forced}
use Rattle.half.specs.declared.opened.Half.{Half}
use Rattle.chart.specs.Chart.{BySlot, ShowsSheet}
use Rattle.keeping.specs.Sets.{decisions_of, Apart, nothing_given}
use Rattle.keeping.specs.laws.Apart.{nothing_apart}
use Rattle.settle.specs.laws.Forcing.{upper_holds}
use Rattle.value.specs.Value.{ValuedAs, Reached, Above, BoundsAs}

-- ---- nothing is decided
pub nothing_decided : (chart : BySlot) → decisions_of chart nothing_given ≡ all_open (chart.option_count + chart.ordering_count)
unfolding decisions_of list_of
nothing_decided chart = let n = chart.option_count in let m = chart.ordering_count in
    ap (λ l. l ++ list_of m (λ u. decision_of (has 0 u) (has 0 u))) (alone n) ∙ ap (λ l. all_open n ++ l) (alone m) ∙ together n m
  where
    plain : (n : ℕ) → list_of n (λ _. Open) ≡ all_open n
    plain zero = refl
    plain (suc n) = ap (λ l. Open ∷ l) (plain n)

    alone : (n : ℕ) → list_of n (λ i. decision_of (has 0 i) (has 0 i)) ≡ all_open n
    alone n = list_of_same n (λ i. decision_of (has 0 i) (has 0 i)) (λ _. Open) (λ i l. ap (λ b. decision_of b b) (has_none i)) ∙ plain n

    together : (n m : ℕ) → all_open n ++ all_open m ≡ all_open (n + m)
    together zero m = let q : m ≡ 0 + m = omega arith in ap all_open q
    together (suc n) m = let q : suc (n + m) ≡ suc n + m = omega arith in ap (λ l. Open ∷ l) (together n m) ∙ ap all_open q

module _ (chart : BySlot) (g : Given) (eg : g ≡ nothing_given) where
  abbrev n : ℕ
  n = chart.option_count

  abbrev m : ℕ
  m = chart.ordering_count

  pub fresh : (s : Lines) → ShowsSheet s chart → decisions_of chart g ≡ all_open (items s)
  fresh s sh = ap (decisions_of chart) eg ∙ nothing_decided chart ∙ ap all_open (let x = sh.options in let y = sh.orderings in let q : n + m ≡ items s = omega arith in q)

  all_agree : (s : Lines) → ShowsSheet s chart → (q : List Bool) → ConsistentRelaxation s q → Agrees (decisions_of chart g) q
  all_agree s sh q ok = subst (λ z. Agrees z q) (sym (fresh s sh)) (agrees_all_open q (items s) ok.relaxation.size)

  -- ---- the best value, from one that is reached
  pub best_is_reached : (floor w : ℕ) → Reached chart floor → ValuedAs chart floor g w → Reached chart w
  best_is_reached floor w first v = record { small = v.small; reached = λ s sh. from s sh (v.valued s sh 0).reached }
    where
      from : (s : Lines) → ShowsSheet s chart → (w ≡ floor) ⊎ Worth (value_of s) (ConsistentRelaxation s) (decisions_of chart g) w → (q : List Bool) × ConsistentRelaxation s q × (value_of s q ≡ w)
      from s sh (inl e) = subst (λ z. (q : List Bool) × ConsistentRelaxation s q × (value_of s q ≡ z)) (sym e) (first.reached s sh)
      from s sh (inr y) = (y.which, y.allowed, y.is)

  pub best_is_above : (floor w : ℕ) → ValuedAs chart floor g w → Above chart w
  best_is_above floor w v = record { small = v.small; above = λ s sh q ok. (v.valued s sh (suc w)).top (omega arith) q ok (all_agree s sh q ok) }

  -- ---- the limit of the whole sheet
  pub limit_is_above : (f : Forced) → ForcedBy chart g f → (h : Half) → HalfDecidedAs chart f h → Above chart h.upper
  limit_is_above f by h half = record {
    small = half.roomy.upper;
    above = λ s sh q ok. upper_holds chart 0 g (subst (Apart chart) (sym eg) (nothing_apart chart)) f by s sh h half q ok (all_agree s sh q ok);
  }

-- ---- what a search starts from
module _ (chart : BySlot) (tolerance : ℕ) where
  pub bounds_at_nought : tolerance ≡ 0 → (w : ℕ) → Reached chart w → Above chart w → BoundsAs chart tolerance (record { floor = w; ceiling = w })
  bounds_at_nought z w r a = record { ceiling = a; small = a.small; floor = λ s sh. let (q, ok, e) = r.reached s sh in reached z q ok (omega arith) }

  pub bounds_within : (w : ℕ) → Above chart w → BoundsAs chart tolerance (record { floor = 0; ceiling = w })
  bounds_within w a = record { ceiling = a; small = omega arith; floor = λ s sh. nought refl }
