-- Where an item stands in a sheet's lists of decisions and choices; a choice with one item more, as a list.
use Rattle.std.specs.Prelude.{◌≡◌, refl, true, ◌||◌, List, get_or, set, take, drop, eqb, ltb}
use Rattle.std.proofs.Common.{sym, ap, ◌∙◌, arith, length-take, length-drop, drop-set-lt, get_or-set_same, get_or-set_other, eq-eqb, ne_eqb, ltb-true, ltb-false}
use Rattle.std.proofs.Math.Path.{fun_ext}
use Rattle.std.proofs.Math.Bool.{Bool, false, cond}
use Prim.Native.Nat.{ℕ, ◌+◌, ◌-◌, ◌≤◌, ◌<◌}
use Rattle.std.proofs.Math.Decide.{ℕ_discrete}
use Rattle.std.proofs.Math.ListN.{length}
use Rattle.std.proofs.Math.Seq.{get_or-take, get_or-drop, take-set-lt}
use Rattle.std.proofs.lemmas.List.{take-set-le, drop-set-add}
use Rattle.rules.specs.Lines.{Lines}
use Rattle.rules.specs.Subscription.{subscription, items}
use Rattle.rules.specs.Relaxation.{kept_by_slot}
use Rattle.rules.specs.laws.search.Items.{Item, option, ordering, keeps}
use Rattle.rules.proofs.laws.search.Loose.{ItemOnTheSheet, adding}

or_false : (a : Bool) → a ≡ (a || false)
or_false true = refl
or_false false = refl

or_true : (a : Bool) → true ≡ (a || true)
or_true true = refl
or_true false = refl

set_true : (l : List Bool) (i : ℕ) → i < length l → (j : ℕ) → get_or (set l i true) j false ≡ (get_or l j false || eqb i j)
set_true l i h j = go (ℕ_discrete j i)
  where
    go : Dec (j ≡ i) → get_or (set l i true) j false ≡ (get_or l j false || eqb i j)
    go (yes e) = rw (e, get_or-set_same l i true false h, eq-eqb i i refl) (or_true (get_or l i false))
    go (no n) = rw (get_or-set_other l i j true false n, ne_eqb i j (λ e. n (sym e))) (or_false (get_or l j false))

module _ (s : Lines) where
  -- An option stands at its slot, an ordering after all options.
  abbrev pub place_of : Item → ℕ
  place_of (option i) = i
  place_of (ordering u) = length s.options + u

  -- The item that stands at a place.
  unfoldable pub item_at : ℕ → Item
  item_at p = cond (ltb p (length s.options)) (option p) (ordering (p - length s.options))

  pub record Standing (p : ℕ) (x : Item) : Type 0 where
    pub on_the_sheet : ItemOnTheSheet (subscription s) x
    pub place : place_of x ≡ p

  pub stands_at : (p : ℕ) → p < items s → Standing p (item_at p)
  unfolding item_at subscription
  stands_at p h = go (ltb p (length s.options)) (ltb-true p (length s.options)) (ltb-false p (length s.options))
    where
      item : Bool → Item
      item b = cond b (option p) (ordering (p - length s.options))

      go : (b : Bool) → (b ≡ true → p < length s.options) → (b ≡ false → length s.options ≤ p) → Standing p (item b)
      go true f g = record { on_the_sheet = f refl; place = refl }
      go false f g = let k = g refl in record { on_the_sheet = omega arith; place = omega arith }

  pub keeps_at : (r : List Bool) (x : Item) → ItemOnTheSheet (subscription s) x → keeps (kept_by_slot s r) x ≡ get_or r (place_of x) false
  unfolding subscription kept_by_slot
  keeps_at r (option i) h = get_or-take (length s.options) r i false h
  keeps_at r (ordering u) h = get_or-drop (length s.options) r u false

  -- A list with one item more set is the choice with that item added.
  pub set_adds : (r : List Bool) (x : Item) → length r ≡ items s → ItemOnTheSheet (subscription s) x → kept_by_slot s (set r (place_of x) true) ≡ adding (kept_by_slot s r) x
  unfolding subscription kept_by_slot adding
  set_adds r (option i) e h = λ z. record { option = fun_ext opt z; ordering = fun_ext ord z }
    where
      n : ℕ
      n = length s.options

      opt : (j : ℕ) → get_or (take n (set r i true)) j false ≡ (get_or (take n r) j false || eqb i j)
      opt j = ap (λ l. get_or l j false) (take-set-lt n r i true h) ∙ set_true (take n r) i (let k = length-take n r in omega arith) j

      ord : (u : ℕ) → get_or (drop n (set r i true)) u false ≡ (get_or (drop n r) u false || false)
      ord u = ap (λ l. get_or l u false) (drop-set-lt n r i true h) ∙ or_false (get_or (drop n r) u false)
  set_adds r (ordering w) e h = λ z. record { option = fun_ext opt z; ordering = fun_ext ord z }
    where
      n : ℕ
      n = length s.options

      opt : (j : ℕ) → get_or (take n (set r (n + w) true)) j false ≡ (get_or (take n r) j false || false)
      opt j = ap (λ l. get_or l j false) (take-set-le n r (n + w) true (omega arith)) ∙ or_false (get_or (take n r) j false)

      ord : (u : ℕ) → get_or (drop n (set r (n + w) true)) u false ≡ (get_or (drop n r) u false || eqb w u)
      ord u = ap (λ l. get_or l u false) (drop-set-add n r w true) ∙ set_true (drop n r) w (let k = length-drop n r in omega arith) u
