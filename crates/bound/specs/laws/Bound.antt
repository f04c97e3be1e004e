-- Charging nothing, and one charge after another, keeps what is charged; from the start on it is a bound.
use Rattle.std.specs.Prelude.{◌≡◌, List, ℕ, ◌+◌, ◌≤◌, ◌<◌}
use Rattle.std.proofs.Common.{sym, subst, arith}
use Rattle.half.specs.Weights.{largest_sum}
use Rattle.residual.specs.Left.{Rest, rest, LeftFor}
use Rattle.residual.specs.Started.{StartsAs}
use Rattle.charge.specs.Charges.{ChargedAs}
use Rattle.charge.specs.laws.Shown.{charge_charged}
use Rattle.residual.specs.laws.Shown.{start_charged}
use Rattle.chart.specs.Chart.{BySlot}
use Rattle.bound.specs.declared.charging.Charged.{Charged}
use Rattle.bound.specs.Bound.{ChargesMore, ChargedOn, KeepsCharged, BoundedAs}

module _ {chart : BySlot} {known : List ℕ} where
  pub charged_nothing : {before : ℕ} {left : Rest} → before ≤ 10551136 → LeftFor chart left → KeepsCharged chart known before before left left
  charged_nothing l h = record { few = l; left_in = h; keeps = λ v d sh c. c }

  -- no charge
  pub no_charge : {left : Rest} → LeftFor chart left → ChargesMore chart known 0 left left
  no_charge {left} h = record { few = omega arith; left_in = h; keeps = λ before v d sh c. subst (λ z. ChargedOn chart v d z left) (let q : before ≡ before + 0 = omega arith in q) c }

  -- one charge
  pub charged_one : {e : ℕ} {left left' : Rest} {chain : List ℕ} {k : ℕ} → ChargedAs known chart.firsts chart.seconds chart.option_count chart.ordering_count chain k e left.options left.orderings left'.options left'.orderings → ChargesMore chart known e left left'
  charged_one {e} {left} {left'} {chain} {k} done = record {
    few = done.few;
    left_in = done.left_in;
    keeps = λ before v d sh c. charge_charged v d chart.option_count chart.ordering_count known chart.firsts chart.seconds sh chain k e before left.options left.orderings left'.options left'.orderings done c;
  }

  -- one charge more
  pub charged_once_more : {start before after e : ℕ} {left left' left'' : Rest} → KeepsCharged chart known start before left left' → ChargesMore chart known e left' left'' → before < largest_sum + 1 → after ≡ before + e
      → KeepsCharged chart known start after left left''
  charged_once_more {start} {before} {after} {e} {left} {left'} {left''} w more l q = record {
    few = (let f = more.few in omega arith);
    left_in = more.left_in;
    keeps = λ v d sh c. subst (λ z. ChargedOn chart v d z left'') (sym q) (more.keeps before v d sh (w.keeps v d sh c));
  }

  -- one after another
  pub charged_then : {start before after : ℕ} {left left' left'' : Rest} → KeepsCharged chart known start before left left' → KeepsCharged chart known before after left' left'' → KeepsCharged chart known start after left left''
  charged_then w z = record { few = z.few; left_in = z.left_in; keeps = λ v d sh c. z.keeps v d sh (w.keeps v d sh c) }

  -- what the charges began with is nothing
  pub charged_from_nothing : {start after : ℕ} {left left' : Rest} → start ≡ 0 → KeepsCharged chart known start after left left' → KeepsCharged chart known 0 after left left'
  charged_from_nothing {start} {after} {left} {left'} e w = subst (λ z. KeepsCharged chart known z after left left') e w

-- What is charged from the start on is a bound.
pub bounded : {chart : BySlot} {known : List ℕ} {left : Rest} {open_options open_orderings : ℕ} (c : Charged) → StartsAs open_options chart.weights 32 chart.option_count left.options → StartsAs open_orderings chart.ordering_weights 64 chart.ordering_count left.orderings
    → KeepsCharged chart known 0 c.charged left (rest c.left) → BoundedAs chart known open_options open_orderings c
bounded {chart} {known} {left} {open_options} {open_orderings} c s u w = record {
  few = w.few;
  left_in = w.left_in;
  charged = λ v d sh weighs ho hu. w.keeps v d sh (start_charged v d chart.option_count chart.ordering_count chart.weights chart.ordering_weights weighs open_options open_orderings ho hu left.options left.orderings s u);
}
