-- Where items begin and end by their numbers, and what links them.
use Rattle.std.specs.Prelude.{◌≡◌, Bool, true, false, ◌||◌, List, ℕ, ◌-◌, ◌≤◌, ◌<◌, eqb, ltb}
use Rattle.std.proofs.Math.Path.{refl, sym, ap}
use Rattle.std.proofs.Common.{◌∙◌, ltb-true, ltb-false}
use Rattle.std.proofs.Math.ListN.{get_or}
use Rattle.rules.specs.Subscription.{Subscription}
use Rattle.rules.specs.laws.search.Items.{Item, option, ordering, begins_at, ends_at, meets, linked}
use Rattle.rows.specs.Sets.{cell}
use Rattle.graph.specs.Graph.{EndsAreSlots}
use Rattle.numbered.specs.Items.{numbered, Named, ends_only}
use Rattle.numbered.specs.laws.Items.{numbered_option, numbered_ordering}
use Rattle.links.specs.Links.{AreSlots, end_of, OptionAt}

module _ (ends : List ℕ) (n m x : ℕ) (slots : AreSlots n m ends) (named : Named n m x) where
  pub at_option : x < 32 → OptionAt ends n x x
  at_option h = record { is = sym (ap (end_of ends) (numbered_option x h)); small = named.option h }

  pub at_ordering : 32 ≤ x → OptionAt ends n x (get_or ends (x - 32) 0)
  at_ordering h = record { is = sym (ap (end_of ends) (numbered_ordering x h)); small = slots.each (x - 32) (named.ordering h) }

module _ (n m : ℕ) (firsts seconds : List ℕ) (ends : EndsAreSlots n m firsts seconds) where
  pub first_slots : AreSlots n m firsts
  first_slots = record { few_options = ends.few_options; size = ends.first_size; each = ends.first }

  pub second_slots : AreSlots n m seconds
  second_slots = record { few_options = ends.few_options; size = ends.second_size; each = ends.second }

module _ (known firsts seconds : List ℕ) (n m x y o i : ℕ) (e : OptionAt seconds n x o) (f : OptionAt firsts n y i) where
  abbrev v : Subscription
  v = ends_only n m firsts seconds

  abbrev Linked : Bool
  Linked = linked v (cell known) (numbered x) (numbered y)

  begins_is : (z : Item) → begins_at v z ≡ end_of firsts z
  unfolding ends_only
  begins_is (option j) = refl
  begins_is (ordering u) = refl

  ends_is : (z : Item) → ends_at v z ≡ end_of seconds z
  unfolding ends_only
  ends_is (option j) = refl
  ends_is (ordering u) = refl

  linked_is : Linked ≡ (cell known o i || meets v (numbered x) (numbered y))
  unfolding linked
  linked_is = ap (λ k. cell known k (begins_at v (numbered y)) || meets v (numbered x) (numbered y)) (ends_is (numbered x) ∙ sym e.is)
      ∙ ap (λ k. cell known o k || meets v (numbered x) (numbered y)) (begins_is (numbered y) ∙ sym f.is)

  -- known by the table
  pub linked_known : cell known o i ≡ true → true ≡ Linked
  linked_known h = sym (linked_is ∙ ap (λ k. k || meets v (numbered x) (numbered y)) h)

  -- not known, and not two orderings
  pub linked_from_option : cell known o i ≡ false → x < 32 → false ≡ Linked
  linked_from_option h l = sym (linked_is ∙ ap (λ k. k || meets v (numbered x) (numbered y)) h ∙ ap (λ z. meets v z (numbered y)) (numbered_option x l))

  pub linked_to_option : cell known o i ≡ false → 32 ≤ x → y < 32 → false ≡ Linked
  linked_to_option h l k = sym (linked_is ∙ ap (λ z. z || meets v (numbered x) (numbered y)) h ∙ ap (λ z. meets v z (numbered y)) (numbered_ordering x l) ∙ ap (λ z. meets v (ordering (x - 32)) z) (numbered_option y k))

  pub linked_apart : cell known o i ≡ false → (32 ≤ x → 32 ≤ y → ⊥) → false ≡ Linked
  linked_apart h apart = go (ltb x 32) refl (ltb y 32) refl
    where
      go : (p : Bool) → ltb x 32 ≡ p → (q : Bool) → ltb y 32 ≡ q → false ≡ Linked
      go true e q f = linked_from_option h (ltb-true x 32 e)
      go false e true f = linked_to_option h (ltb-false x 32 e) (ltb-true y 32 f)
      go false e false f = absurd (apart (ltb-false x 32 e) (ltb-false y 32 f))

  -- two orderings
  pub linked_orderings : cell known o i ≡ false → 32 ≤ x → 32 ≤ y → eqb o i ≡ Linked
  unfolding ends_only
  linked_orderings h l k = sym (linked_is ∙ ap (λ z. z || meets v (numbered x) (numbered y)) h ∙ two)
    where
      oe : o ≡ get_or seconds (x - 32) 0
      oe = e.is ∙ ap (end_of seconds) (numbered_ordering x l)

      ie : i ≡ get_or firsts (y - 32) 0
      ie = f.is ∙ ap (end_of firsts) (numbered_ordering y k)

      two : meets v (numbered x) (numbered y) ≡ eqb o i
      two = ap (λ z. meets v z (numbered y)) (numbered_ordering x l) ∙ ap (λ z. meets v (ordering (x - 32)) z) (numbered_ordering y k)
          ∙ sym (ap (λ z. eqb z i) oe ∙ ap (λ z. eqb (get_or seconds (x - 32) 0) z) ie)
