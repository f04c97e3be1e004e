-- Item numbers against items.
use Rattle.std.specs.Prelude.{◌≡◌, refl, Bool, true, false, List, ℕ, ◌-◌, ◌≤◌, ◌<◌, ltb}
use Rattle.std.proofs.Common.{sym, subst, ap, lt-ltb, le-ltb, ltb-true, ltb-false}
use Rattle.rules.specs.Subscription.{Subscription}
use Rattle.rules.specs.Decisions.{DecidedBySlot}
use Rattle.rules.specs.KnownBefore.{known_before}
use Rattle.rules.specs.laws.search.Items.{option, ordering}
use Rattle.rules.proofs.laws.search.Loose.{ItemOnTheSheet}
use Rattle.rows.specs.Sets.{Table}
use Rattle.graph.specs.Graph.{EndsAreSlots}
use Rattle.graph.specs.Shown.{counted, Shows}
use Rattle.numbered.specs.Items.{item_of, numbered, Named}
use Rattle.numbered.specs.Shown.{ShowsKnown}

pub numbered_option : (x : ℕ) → x < 32 → numbered x ≡ option x
unfolding numbered
numbered_option x h = ap (λ b. item_of b x) (lt-ltb x 32 h)

pub numbered_ordering : (x : ℕ) → 32 ≤ x → numbered x ≡ ordering (x - 32)
unfolding numbered
numbered_ordering x h = ap (λ b. item_of b x) (le-ltb x 32 h)

-- A number that names an item of the sheet stands for one.
pub named_on_the_sheet : (v : Subscription) (n m x : ℕ) → Named n m x → ItemOnTheSheet (counted n m v) (numbered x)
named_on_the_sheet v n m x k = go (ltb x 32) refl
  where
    go : (q : Bool) → ltb x 32 ≡ q → ItemOnTheSheet (counted n m v) (numbered x)
    go true e = let h = ltb-true x 32 e in subst (ItemOnTheSheet (counted n m v)) (sym (numbered_option x h)) (k.option h)
    go false e = let h = ltb-false x 32 e in subst (ItemOnTheSheet (counted n m v)) (sym (numbered_ordering x h)) (k.ordering h)

-- Arrays and table show a half-decided sheet if the arrays show the sheet and the table is the forced decisions' own.
pub shows_known : {v : Subscription} {d : DecidedBySlot} {n m : ℕ} {known firsts seconds rows : List ℕ} → EndsAreSlots n m firsts seconds → Shows v n m firsts seconds rows
    → Table known n (known_before (counted n m v) d) → ShowsKnown v d n m known firsts seconds
shows_known ends shows knows = record { ends = ends; first = shows.first; second = shows.second; knows = knows }
