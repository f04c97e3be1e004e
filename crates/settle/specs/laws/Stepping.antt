-- One round of settling keeps its promise, and round after round does.
use Rattle.std.specs.Prelude.{◌≡◌, ◌≢◌, refl, Bool, true, false, not, ◌||◌, ◌⊎◌, List, ℕ, ◌+◌, ◌-◌, ◌≤◌, ◌<◌, get_or, T, Option, Some, None}
use Rattle.std.proofs.Common.{sym, subst, ap, ◌∙◌, inl, inr, arith}
use Rattle.std.proofs.Props.{props}
use mathlib.Core.Logic.{∥∥₁_elim}
use Rattle.rules.specs.Lines.{Lines}
use Rattle.rules.specs.Subscription.{items}
use Rattle.rules.specs.Relaxation.{ConsistentRelaxation, value_of}
use Rattle.rules.specs.Decisions.{Decision, Open, Kept, is_open, open_items}
use Rattle.rules.specs.Forced.{decision_of}
use Rattle.rules.proofs.laws.ForcedList.{forcing_opens_nothing}
use Rattle.rules.specs.laws.search.Reduces.{Reduces, Above}
use Rattle.rules.proofs.laws.search.Reduces.{reduces_then}
use Rattle.rules.proofs.laws.search.Keepable.{reduces_keepable, keeping_closes_one}
use Rattle.rows.specs.Bits.{has}
use Rattle.rows.specs.laws.Sets.{holds_at}
use Rattle.forced.specs.Forced.{ForcedBy}
use Rattle.half.specs.Half.{HalfDecidedAs}
use Rattle.graph.specs.Transposed as C
use Rattle.residual.specs.Left.{Rest, rest}
use Rattle.bound.specs.Bound.{BoundedAs}
use Rattle.given.specs.declared.sets.Given.{Given}
use Rattle.forced.specs.declared.forcing.Forced.{Forced}
use Rattle.half.specs.declared.opened.Half.{Half}
use Rattle.bound.specs.declared.charging.Charged.{Charged}
use Rattle.chart.specs.Chart.{BySlot, Known, ShowsSheet, ASheet}
use Rattle.keeping.specs.Sets.{decisions_of, Apart, sets_of}
use Rattle.keeping.specs.Keeping.{MayKeep, needed, loose, KeptMore}
use Rattle.keeping.specs.laws.Keeping.{added_weaker}
use Rattle.settle.specs.Settled.{left_with, NothingWorth, SettledAs, GoesOn, with_rows, AfterForcing}
use Rattle.keeping.specs.laws.Shown.{forced_shown, option_stands, ordering_stands}
use Rattle.keeping.specs.laws.Apart.{forced_apart}
use Rattle.settle.specs.laws.Forcing.{size, fine, forced_are_left}
use Rattle.settle.specs.laws.Keepable.{no_contradiction_here, charged_limit, keeps_keepable}
use Rattle.settle.specs.declared.settling.Settled.{Settled}
use Rattle.settle.specs.declared.settling.Step.TheVariants.{Over, Done, Again}

-- ---- after the forced decisions
module _ (chart : BySlot) (known : Known chart) (want : ℕ) (g : Given) (apart : Apart chart g) (f : Forced) (by : ForcedBy chart g f)
    (h : Half) (half : HalfDecidedAs chart f h) (e : f.contradiction ≡ false) (after : List ℕ) (turn : C.Transposed h.known chart.option_count chart.option_count after)
    (c : Charged) (bounded : BoundedAs chart h.known h.open_options h.open_orderings c) where
  abbrev d : List Decision
  d = decisions_of chart g

  -- what is charged brings the limit below what is wanted
  pub charged_settles : h.upper < want + c.charged → NothingWorth chart want g
  charged_settles l = λ s sh r ok ag. let p = charged_limit chart known want g apart f by h half e c bounded s sh r ok ag in omega arith

  -- ---- items are kept besides
  module _ (spare : ℕ) (k : Given) (kept : KeptMore chart h after (rest c.left) spare (sets_of f) k)
      (low : want + c.charged ≤ h.upper) (es : spare ≡ h.upper - want - c.charged) where
    abbrev Kept_here : (s : Lines) → ShowsSheet s chart → Type 0
    Kept_here s sh = Reduces (value_of s) (ConsistentRelaxation s) 0 want d (decisions_of chart k)

    kept_reduces : (s : Lines) (sh : ShowsSheet s chart) → Kept_here s sh
    kept_reduces s sh = reduces_keepable s sh.proper 0 d (size chart want g apart f by s sh)
        (no_contradiction_here chart known want g apart f by h half e c bounded s sh) want (decisions_of chart k)
        (keeps_keepable chart known want g apart f by h half e c bounded after turn low spare es k kept s sh)

    -- an open slot is neither kept nor dropped
    not_dropped : (a b o : Bool) → o ≡ not (a || b) → T o → T b → ⊥
    not_dropped true true o q t u = subst T q t
    not_dropped false true o q t u = subst T q t
    not_dropped true false o q t u = u
    not_dropped false false o q t u = u

    kept_apart : Apart chart k
    kept_apart = let was = forced_apart chart known.of_a_sheet g apart f by e in record {
      options = λ j t u. option j (kept.option.only j t) (subst (λ z. T (has z j)) kept.dropped u);
      orderings = λ j t u. ordering j (kept.ordering.only j t) (subst (λ z. T (has z j)) kept.dropped_orderings u);
      kept = λ j t. below (kept.option.only j t) (was.kept j);
      dropped = λ j t. was.dropped j (subst (λ z. T (has z j)) kept.dropped t);
      kept_orderings = λ j t. below (kept.ordering.only j t) (was.kept_orderings j);
      dropped_orderings = λ j t. was.dropped_orderings j (subst (λ z. T (has z j)) kept.dropped_orderings t);
    }
      where
        below : {A B C : Type 0} {j q : ℕ} → A ⊎ ((j < q) × B × C) → (A → j < q) → j < q
        below (inl t) p = p t
        below (inr (l, _, _)) p = l

        option : {A : Type 0} (j : ℕ) → T (has f.kept j) ⊎ ((j < chart.option_count) × T (has h.open_options j) × A) → T (has f.dropped j) → ⊥
        option j (inl t) u = (forced_apart chart known.of_a_sheet g apart f by e).options j t u
        option j (inr (l, t, _)) u = not_dropped (has f.kept j) (has f.dropped j) (has h.open_options j) (holds_at half.options j l) t u

        ordering : {A : Type 0} (j : ℕ) → T (has f.kept_orderings j) ⊎ ((j < chart.ordering_count) × T (has h.open_orderings j) × A) → T (has f.dropped_orderings j) → ⊥
        ordering j (inl t) u = (forced_apart chart known.of_a_sheet g apart f by e).orderings j t u
        ordering j (inr (l, t, _)) u = not_dropped (has f.kept_orderings j) (has f.dropped_orderings j) (has h.open_orderings j) (holds_at half.orderings j l) t u

    -- where one is, fewer are open
    fewer_on : ASheet chart → open_items (decisions_of chart k) < open_items d
    fewer_on a = go kept.more
      where
        s : Lines
        s = a.lines

        sh : ShowsSheet a.lines chart
        sh = a.show

        -- at a place where the list keeps what was open
        closes : (p : ℕ) → p < items a.lines → get_or (decisions_of chart k) p Open ≡ Kept → T (is_open (get_or (decisions_of chart (sets_of f)) p Open)) → open_items (decisions_of chart k) < open_items d
        closes p l x o =
            let a = size chart want g apart f by s sh in
            let z = keeping_closes_one s sh.proper 0 d a (no_contradiction_here chart known want g apart f by h half e c bounded s sh) want (decisions_of chart k)
            (keeps_keepable chart known want g apart f by h half e c bounded after turn low spare es k kept s sh) p l
            (λ y. subst (λ z. T (is_open z)) (ap (λ z. get_or z p Open) (sym (forced_shown chart s sh g apart f by)) ∙ sym y ∙ x) o) in
            let y = forcing_opens_nothing s sh.proper d a (fine chart want g apart f by s sh e) in omega arith

        kept_two : (a b : Bool) → T a → decision_of a b ≡ Kept
        kept_two true b t = refl
        kept_two false b t = absurd t

        open_two : (a b o : Bool) → o ≡ not (a || b) → T o → T (is_open (decision_of a b))
        open_two true b o x t = absurd (subst T x t)
        open_two false true o x t = absurd (subst T x t)
        open_two false false o x t = tt

        option : (j : ℕ) × (j < chart.option_count) × T (has h.open_options j) × T (has k.kept j) → open_items (decisions_of chart k) < open_items d
        option (j, l, t, u) = closes j (let a = sh.options in omega arith) (option_stands chart k j l ∙ kept_two (has k.kept j) (has k.dropped j) u)
            (subst (λ z. T (is_open z)) (sym (option_stands chart (sets_of f) j l)) (open_two (has f.kept j) (has f.dropped j) (has h.open_options j) (holds_at half.options j l) t))

        ordering : (j : ℕ) × (j < chart.ordering_count) × T (has h.open_orderings j) × T (has k.kept_orderings j) → open_items (decisions_of chart k) < open_items d
        ordering (j, l, t, u) = closes (chart.option_count + j) (let a = sh.options in let z = sh.orderings in omega arith) (ordering_stands chart k j l ∙ kept_two (has k.kept_orderings j) (has k.dropped_orderings j) u)
            (subst (λ z. T (is_open z)) (sym (ordering_stands chart (sets_of f) j l)) (open_two (has f.kept_orderings j) (has f.dropped_orderings j) (has h.open_orderings j) (holds_at half.orderings j l) t))

        go : (k.kept ≢ f.kept) ⊎ (k.kept_orderings ≢ f.kept_orderings) → open_items (decisions_of chart k) < open_items d
        go (inl q) = option (kept.option.one q)
        go (inr q) = ordering (kept.ordering.one q)

    pub kept_goes_on : GoesOn chart want g k
    kept_goes_on = record { apart = kept_apart; fewer = ∥∥₁_elim known.of_a_sheet (hlevel props) fewer_on; reduces = kept_reduces }

-- ---- whatever rows and decisions these are forced by
-- The rows say nothing of what is charged, nor of what may be kept.
charged_with_rows : {chart : BySlot} (rows : List ℕ) {known : List ℕ} {options orderings : ℕ} {c : Charged} → BoundedAs chart known options orderings c → BoundedAs (with_rows chart rows) known options orderings c
charged_with_rows rows bounded = record { few = bounded.few; left_in = bounded.left_in; charged = bounded.charged }

may_keep_with_rows : {chart : BySlot} (rows : List ℕ) {known after : List ℕ} {opens begins ends spare x : ℕ} {left : Rest} → MayKeep chart known after opens begins ends left spare x → MayKeep (with_rows chart rows) known after opens begins ends left spare x
may_keep_with_rows rows (needed l) = needed l
may_keep_with_rows rows (loose y) = loose y

kept_with_rows : {chart : BySlot} (rows : List ℕ) {h : Half} {after : List ℕ} {left : Rest} {spare : ℕ} {g k : Given} → KeptMore chart h after left spare g k → KeptMore (with_rows chart rows) h after left spare g k
kept_with_rows rows kept = record {
  begins = kept.begins;
  ends = kept.ends;
  begin = kept.begin;
  end = kept.end;
  option = added_weaker (λ j l. may_keep_with_rows rows) kept.option;
  ordering = added_weaker (λ u l. may_keep_with_rows rows) kept.ordering;
  dropped = kept.dropped;
  dropped_orderings = kept.dropped_orderings;
  more = kept.more;
}

module _ (chart : BySlot) (after : List ℕ) (want : ℕ) (f : Forced) (h : Half) (c : Charged) (turn : C.Transposed h.known chart.option_count chart.option_count after)
    (bounded : BoundedAs chart h.known h.open_options h.open_orderings c) where
  pub over_after_forcing : h.upper < want + c.charged → AfterForcing chart want f h Over
  over_after_forcing l = record { step = λ rows known g apart by half e. charged_settles (with_rows chart rows) known want g apart f by h half e after turn c (charged_with_rows rows bounded) l }

  pub kept_after_forcing : (spare : ℕ) (g : Given) → g ≡ sets_of f → (k : Given) → KeptMore chart h after (rest c.left) spare g k → want + c.charged ≤ h.upper → spare ≡ h.upper - want - c.charged → AfterForcing chart want f h (Again k)
  kept_after_forcing spare g sets k kept low es = record {
    step = λ rows known g' apart by half e. kept_goes_on (with_rows chart rows) known want g' apart f by h half e after turn c (charged_with_rows rows bounded) spare k (kept_with_rows rows (subst (λ z. KeptMore chart h after (rest c.left) spare z k) sets kept)) low es;
  }

pub left_after_forcing : {chart : BySlot} {want : ℕ} {f : Forced} {h : Half} (g : Given) → g ≡ sets_of f → (x : Settled) → x ≡ left_with g h → AfterForcing chart want f h (Done x)
left_after_forcing {chart} {want} {f} {h} g sets x is = record { step = λ rows known g' apart by half e. forced_are_left (with_rows chart rows) want g' apart f by h half e known.of_a_sheet g sets x is }

-- ---- round after round
pub settles_then : {chart : BySlot} {want : ℕ} {g more : Given} → GoesOn chart want g more → (x : Option Settled) → SettledAs chart want more x → SettledAs chart want g x
settles_then {chart} {want} {g} {more} step None w = record { over = λ s sh c ok ag. over s sh c ((step.reduces s sh).to c ok ag); left = tt }
  where
    over : (s : Lines) → ShowsSheet s chart → (c : List Bool) → (value_of s c < want + 0) ⊎ Above (value_of s) (ConsistentRelaxation s) 0 (decisions_of chart more) c → value_of s c < want
    over s sh c (inl l) = omega arith
    over s sh c (inr a) = let p = w.over s sh a.other a.allowed a.agrees in let z = a.value_of in omega arith
settles_then {chart} {want} {g} {more} step (Some x) w = let l = w.left in record {
  over = tt;
  left = record {
    apart = l.apart;
    options = l.options;
    orderings = l.orderings;
    no_more_open = (let a = l.no_more_open in let b = step.fewer in omega arith);
    small = l.small;
    reduces = λ s sh. reduces_then (value_of s) (ConsistentRelaxation s) 0 want (decisions_of chart g) (decisions_of chart more) (decisions_of chart x.given) (step.reduces s sh) (l.reduces s sh);
    consistent = l.consistent;
    worth = l.worth;
  };
}
