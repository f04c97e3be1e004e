-- The item that is taken up next is open; with it kept or dropped fewer items are open, and the sets stay apart.
use Rattle.std.specs.Prelude.{◌≡◌, refl, Bool, true, false, not, ◌||◌, List, ℕ, ◌-◌, ◌<◌, get_or, T, Some, None}
use Rattle.chart.specs.Chart.{BySlot}
use Rattle.std.proofs.Common.{sym, subst, ap, ◌∙◌, arith}
use Rattle.rules.specs.Decisions.{Decision, Open, Kept, Dropped, is_open, open_items}
use Rattle.rules.specs.laws.Decisions.{one_item_less}
use Rattle.rows.specs.Bits.{has}
use Rattle.rows.specs.laws.Sets.{holds_at}
use Rattle.given.specs.declared.sets.Given.{Given}
use Rattle.keeping.specs.Sets.{decisions_of, Apart, OpenItem, place, with_item_kept, with_item_dropped}
use Rattle.settle.specs.Settled.{LeftOf}
use Rattle.keeping.specs.laws.Shown.{item_open, item_kept_shown, item_dropped_shown, place_below, nothing_open}
use Rattle.keeping.specs.laws.Apart.{item_kept_apart, item_dropped_apart}
use Rattle.settle.specs.declared.settling.Settled.{Settled}
use Rattle.picks.specs.Picked.{Picked}

-- not kept, and not dropped
neither : (a b : Bool) → not (a || b) ≡ true → (a ≡ false) × (b ≡ false)
neither true b e = absurd (subst T (sym e) tt)
neither false true e = absurd (subst T (sym e) tt)
neither false false e = (refl, refl)

module _ {chart : BySlot} {want : ℕ} {g : Given} (x : Settled) (left : LeftOf chart want g x) where
  abbrev n : ℕ
  n = chart.option_count

  abbrev e : List Decision
  e = decisions_of chart x.given

  -- ---- an item is left
  module _ (i : ℕ) (picked : Picked x.open_options x.open_orderings chart.option_count chart.ordering_count (Some i)) where
    pub open_item : OpenItem chart x.given i
    open_item = record {
      option = λ k. let (b, h) = picked.option k in let (p, q) = neither (has x.given.kept i) (has x.given.dropped i) (sym (holds_at left.options i b) ∙ h) in (b, p, q);
      ordering = λ k. let (b, h) = picked.ordering (i - 32) (omega arith) in let (p, q) = neither (has x.given.kept_orderings (i - 32)) (has x.given.dropped_orderings (i - 32)) (sym (holds_at left.orderings (i - 32) b) ∙ h) in (b, p, q);
    }

    pub is_open_there : T (is_open (get_or e (place n i) Open))
    is_open_there = item_open chart x.given i open_item

    pub some_open : 0 < open_items e
    some_open = let k = one_item_less Kept e (place n i) (λ z. z) (place_below chart x.given i open_item) is_open_there in omega arith

    -- y keeps it
    pub kept_falls : (y : Given) → y ≡ with_item_kept x.given i → (t : ℕ) → open_items (decisions_of chart g) ≡ t → open_items (decisions_of chart y) < t
    kept_falls y q t w =
        let k = one_item_less Kept e (place n i) (λ z. z) (place_below chart x.given i open_item) is_open_there in
        let h = ap open_items (item_kept_shown chart x.given i open_item) in
        let p = ap (λ z. open_items (decisions_of chart z)) q in
        let f = left.no_more_open in omega arith

    pub kept_apart : (y : Given) → y ≡ with_item_kept x.given i → Apart chart y
    kept_apart y q = subst (Apart chart) (sym q) (item_kept_apart chart x.given left.apart i open_item)

    -- y drops it
    pub dropped_falls : (y : Given) → y ≡ with_item_dropped x.given i → (t : ℕ) → open_items (decisions_of chart g) ≡ t → open_items (decisions_of chart y) < t
    dropped_falls y q t w =
        let k = one_item_less Dropped e (place n i) (λ z. z) (place_below chart x.given i open_item) is_open_there in
        let h = ap open_items (item_dropped_shown chart x.given i open_item) in
        let p = ap (λ z. open_items (decisions_of chart z)) q in
        let f = left.no_more_open in omega arith

    pub dropped_apart : (y : Given) → y ≡ with_item_dropped x.given i → Apart chart y
    dropped_apart y q = subst (Apart chart) (sym q) (item_dropped_apart chart x.given left.apart i open_item)

  -- ---- nothing is left open
  pub none_open : Picked x.open_options x.open_orderings chart.option_count chart.ordering_count None → open_items e ≡ 0
  none_open picked = nothing_open chart x.given
      (λ j l. sym (holds_at left.options j l) ∙ picked.no_option j l) (λ u l. sym (holds_at left.orderings u l) ∙ picked.no_ordering u l)
