-- Links and chains by the arrays are links and conflicts of every half-decided sheet that the arrays show.
use Rattle.std.specs.Prelude.{◌≡◌, ◌||◌, ℕ, ◌<◌, get_or}
use Rattle.std.proofs.Math.Path.{refl, sym, subst, ap}
use Rattle.std.proofs.Common.{◌∙◌}
use mathlib.Core.List.{List, [], ◌∷◌, Memᴰ}
use Rattle.std.proofs.Math.Dec.{T, eqb}
use Rattle.rules.specs.Subscription.{Subscription}
use Rattle.rules.specs.Decisions.{DecidedBySlot}
use Rattle.rules.specs.KnownBefore.{known_before}
use Rattle.rules.specs.laws.Tests.{and_l, and_r, and_i}
use Rattle.rules.specs.laws.search.Items.{Item, option, ordering, begins_at, ends_at, meets, linked, chained, closes, conflict}
use Rattle.rules.proofs.laws.search.Loose.{ItemOnTheSheet}
use Rattle.rows.specs.Sets.{cell}
use Rattle.graph.specs.Shown.{counted}
use Rattle.numbered.specs.Items.{ends_only}
use Rattle.numbered.specs.Shown.{ShowsKnown}

module _ (v : Subscription) (d : DecidedBySlot) (n m : ℕ) (known firsts seconds : List ℕ) (sh : ShowsKnown v d n m known firsts seconds) where
  -- the sheet with the arrays' counts, and what the arrays alone say of it
  abbrev s : Subscription
  s = counted n m v

  abbrev w : Subscription
  w = ends_only n m firsts seconds

  begins_same : (x : Item) → ItemOnTheSheet s x → (begins_at w x ≡ begins_at s x) × (begins_at w x < n)
  unfolding ends_only
  begins_same (option i) o = (refl, o)
  begins_same (ordering u) o = (sym (sh.first u o), sh.ends.first u o)

  ends_same : (x : Item) → ItemOnTheSheet s x → (ends_at w x ≡ ends_at s x) × (ends_at w x < n)
  unfolding ends_only
  ends_same (option i) o = (refl, o)
  ends_same (ordering u) o = (sym (sh.second u o), sh.ends.second u o)

  meets_same : (x y : Item) → ItemOnTheSheet s x → ItemOnTheSheet s y → meets w x y ≡ meets s x y
  unfolding ends_only
  meets_same (option i) y o p = refl
  meets_same (ordering u) (option j) o p = refl
  meets_same (ordering u) (ordering z) o p = sym (ap (λ q. eqb q (v.first z)) (sh.second u o) ∙ ap (λ q. eqb (get_or seconds u 0) q) (sh.first z p))

  pub linked_same : (x y : Item) → ItemOnTheSheet s x → ItemOnTheSheet s y → linked w (cell known) x y ≡ linked s (known_before s d) x y
  unfolding linked
  linked_same x y o p = let (e, l) = ends_same x o in let (f, k) = begins_same y p in
      ap (λ q. q || meets w x y) (sh.knows.at (ends_at w x) (begins_at w y) l k) ∙ ap (λ q. known_before s d q (begins_at w y) || meets w x y) e
      ∙ ap (λ q. known_before s d (ends_at s x) q || meets w x y) f ∙ ap (λ q. known_before s d (ends_at s x) (begins_at s y) || q) (meets_same x y o p)

  chained_same : (x : Item) (l : List Item) (z : Item) → ItemOnTheSheet s x → ((y : Item) → Memᴰ y l → ItemOnTheSheet s y) → ItemOnTheSheet s z → T (chained w (cell known) x l z) → T (chained s (known_before s d) x l z)
  unfolding chained
  chained_same x [] z o h p c = subst T (linked_same x z o p) c
  chained_same x (y ∷ l) z o h p c = let q = h y (Memᴰ.head refl) in
      and_i (linked s (known_before s d) x y) _ (subst T (linked_same x y o q) (and_l (linked w (cell known) x y) _ c))
      (chained_same y l z q (λ z r. h z (Memᴰ.tail r)) p (and_r (linked w (cell known) x y) _ c))

  pub closes_same : (l : List Item) → ((y : Item) → Memᴰ y l → ItemOnTheSheet s y) → T (closes w (cell known) l) → T (conflict s d l)
  unfolding closes
  closes_same [] h c = c
  closes_same (x ∷ l) h c = chained_same x l x (h x (Memᴰ.head refl)) (λ q r. h q (Memᴰ.tail r)) (h x (Memᴰ.head refl)) c
