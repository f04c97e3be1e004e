-- What forced decisions come to: an end, or decisions that are left.
use Rattle.std.specs.Prelude.{◌≡◌, Bool, true, false, not, List, ℕ, ◌-◌, ◌≤◌, ◌<◌, length, T}
use Rattle.std.proofs.Common.{sym, subst, ap, ◌∙◌, T_not}
use native.Mathlib.Omega.{arith}
use Rattle.std.proofs.Props.{props}
use mathlib.Core.Logic.{∥∥₁_elim}
use Rattle.rules.specs.Lines.{Lines}
use Rattle.rules.specs.Subscription.{Subscription, subscription, items}
use Rattle.rules.specs.Relaxation.{kept_by_slot, ConsistentRelaxation, value_of}
use Rattle.rules.specs.Decisions.{Decision, DecidedBySlot, decided_by_slot, Agrees, open_items}
use Rattle.rules.specs.Forced.{NoContradiction, contradiction, decision_of, forced}
use Rattle.rules.specs.Limits.{M, K, D}
use Rattle.rules.specs.laws.Forced.{no_contradiction}
use Rattle.rules.proofs.laws.Computed.{no_contradiction_in, no_contradiction_out}
use Rattle.rules.proofs.laws.Limits.{whole_upper_holds}
use Rattle.rules.specs.laws.OnSlots.{agrees_by_slot, consistent_by_slot, on_the_sheet}
use Rattle.rules.proofs.laws.ForcedList.{agrees_with_forced, forced_agrees, forcing_opens_nothing, least_is_consistent, least_is_worth_K}
use Rattle.rules.specs.laws.Decisions.{just_the_kept}
use Rattle.rules.specs.laws.search.Reduces.{Reduces, reduces_forced}
use Rattle.rows.specs.Bits.{has}
use Rattle.graph.specs.Shown.{counted}
use Rattle.forced.specs.Forced.{ForcedAs, ForcedBy}
use Rattle.half.specs.Half.{HalfDecidedAs}
use Rattle.half.specs.laws.Shown.{K_is, M_less_D_is}
use Rattle.given.specs.declared.sets.Given.{Given}
use Rattle.forced.specs.declared.forcing.Forced.{Forced}
use Rattle.half.specs.declared.opened.Half.{Half}
use Rattle.chart.specs.Chart.{BySlot, ShowsSheet, ASheet}
use Rattle.keeping.specs.Sets.{decisions_of, Apart, sets_of}
use Rattle.settle.specs.Settled.{LeftOf, NothingWorth, left_with}
use Rattle.keeping.specs.laws.Shown.{size_of, counted_is, forced_as, forced_shown}
use Rattle.keeping.specs.laws.Apart.{forced_apart}
use Rattle.settle.specs.declared.settling.Settled.{Settled}

module _ (chart : BySlot) (want : ℕ) (g : Given) (apart : Apart chart g) (f : Forced) (by : ForcedBy chart g f) where
  abbrev n : ℕ
  n = chart.option_count

  abbrev m : ℕ
  m = chart.ordering_count

  abbrev d : List Decision
  d = decisions_of chart g

  module _ (s : Lines) (sh : ShowsSheet s chart) where
    abbrev v : Subscription
    v = subscription s

    abbrev b : DecidedBySlot
    b = decided_by_slot s d

    pub size : length d ≡ items s
    unfolding decisions_of
    size = size_of s n m sh.options sh.orderings (λ i. decision_of (has g.kept i) (has g.dropped i)) (λ u. decision_of (has g.kept_orderings u) (has g.dropped_orderings u))

    fa : ForcedAs v b f
    fa = forced_as chart s sh g apart f by

    counted_forced : ForcedAs (counted n m v) b f
    counted_forced = subst (λ z. ForcedAs z b f) (sym (counted_is s n m sh.options sh.orderings)) fa

    pub fine : f.contradiction ≡ false → NoContradiction v b
    fine e = no_contradiction_out v b (on_the_sheet s d size sh.proper) (subst (λ x. T (not x)) (sym (sym fa.contradicts ∙ e)) tt)

    module _ (h : Half) (half : HalfDecidedAs chart f h) where
      pub lower_is : h.lower ≡ K v b
      lower_is = K_is v b chart sh.weighs f h counted_forced half ∙ ap (λ z. K z b) (counted_is s n m sh.options sh.orderings)

      pub upper_is : h.upper ≡ M v b - D v b
      upper_is = M_less_D_is v b chart sh.weighs f h counted_forced half ∙ ap (λ z. M z b - D z b) (counted_is s n m sh.options sh.orderings)

      -- no consistent relaxation that agrees is worth more than the upper limit
      pub upper_holds : (r : List Bool) → ConsistentRelaxation s r → Agrees d r → value_of s r ≤ h.upper
      unfolding value_of
      upper_holds r ok ag = let k = whole_upper_holds v b (kept_by_slot s r) (consistent_by_slot s r ok) (agrees_by_slot s d r ag) in let q = upper_is in omega arith

  -- ---- an end
  pub contradiction_settles : f.contradiction ≡ true → NothingWorth chart want g
  contradiction_settles e = λ s sh r ok ag.
      absurd (T_not (contradiction (v s sh) (b s sh)) (no_contradiction_in (v s sh) (b s sh) (no_contradiction (v s sh) (b s sh) (kept_by_slot s r) (consistent_by_slot s r ok) (agrees_by_slot s d r ag))) (subst T (sym (sym (fa s sh).contradicts ∙ e)) tt))

  module _ (h : Half) (half : HalfDecidedAs chart f h) (e : f.contradiction ≡ false) where
    pub limit_settles : h.upper < want → NothingWorth chart want g
    limit_settles l = λ s sh r ok ag. let k = upper_holds s sh h half r ok ag in omega arith

    -- ---- the forced decisions are left
    pub forced_settles : ∥ ASheet chart ∥₁ → LeftOf chart want g (left_with (sets_of f) h)
    forced_settles of_a_sheet = record {
      apart = forced_apart chart of_a_sheet g apart f by e;
      options = half.options;
      orderings = half.orderings;
      no_more_open = ∥∥₁_elim of_a_sheet (hlevel props) (λ a. let s = a.lines in let sh = a.show in subst (λ z. open_items z ≤ open_items d) (forced_shown chart s sh g apart f by) (forcing_opens_nothing s sh.proper d (size s sh) (fine s sh e)));
      small = half.roomy.lower;
      reduces = λ s sh. subst (Reduces (value_of s) (ConsistentRelaxation s) 0 want d) (forced_shown chart s sh g apart f by)
          (reduces_forced (value_of s) (ConsistentRelaxation s) 0 want d (forced s d) (forced_agrees s sh.proper d (size s sh) (fine s sh e)) (agrees_with_forced s sh.proper d (size s sh)));
      consistent = λ s sh. subst (λ z. ConsistentRelaxation s (just_the_kept z)) (forced_shown chart s sh g apart f by) (least_is_consistent s sh.proper d (size s sh) (fine s sh e));
      worth = λ s sh. ap (λ z. value_of s (just_the_kept z)) (sym (forced_shown chart s sh g apart f by)) ∙ least_is_worth_K s sh.proper d (size s sh) (fine s sh e) ∙ sym (lower_is s sh h half);
    }

    pub forced_are_left : ∥ ASheet chart ∥₁ → (left : Given) → left ≡ sets_of f → (x : Settled) → x ≡ left_with left h → LeftOf chart want g x
    forced_are_left of_a_sheet left sets x is = subst (LeftOf chart want g) (sym (is ∙ ap (λ z. left_with z h) sets)) (forced_settles of_a_sheet)
