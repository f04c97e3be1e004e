-- No consistent relaxation keeps a conflict whole.
use Rattle.std.specs.Prelude.{refl, not, ◌⊎◌, ℕ}
use Rattle.std.proofs.Common.{inl, inr, eqb→eq}
use mathlib.Core.List.{List, [], ◌∷◌, Memᴰ}
use Rattle.std.proofs.Math.Dec.{T, not_T}
use Rattle.rules.specs.Slots.{every_of}
use Rattle.rules.specs.Subscription.{Subscription}
use Rattle.rules.specs.Relaxation.{KeptBySlot, by_ordering, Path, one, more}
use Rattle.rules.specs.Decisions.{DecidedBySlot}
use Rattle.rules.specs.KnownBefore.{known_before}
use Rattle.rules.specs.laws.Tests.{and_l, and_r, and_i, or_e, test}
use Rattle.rules.specs.laws.BySlot.{ConsistentBySlot, AgreesBySlot, append}
use Rattle.rules.specs.laws.Forced.{known_path}
use Rattle.rules.proofs.laws.Computed.{known_before_out}
use Rattle.rules.specs.laws.search.Items.{Item, option, ordering, keeps, begins_at, ends_at, meets, begins_at_kept, ends_at_kept, linked, chained, closes, link, conflict}

module _ (v : Subscription) (d : DecidedBySlot) (c : KeptBySlot) (ok : ConsistentBySlot v c) (ag : AgreesBySlot d c) where
  pub link_path : (x y : Item) → T (keeps c x) → T (keeps c y) → T (link v d x y) → Path v c (begins_at v x) (begins_at v y)
  unfolding linked
  link_path x y a b t = go x a (or_e (known_before v d (ends_at v x) (begins_at v y)) _ t)
    where
      from : (x : Item) → T (keeps c x) → T (known_before v d (ends_at v x) (begins_at v y)) → Path v c (ends_at v x) (begins_at v y)
      from x a k = known_path v d c ok ag (known_before_out v d (ends_at v x) (begins_at v y) k) (ends_at_kept v c ok x a) (begins_at_kept v c ok y b)

      meet : (u : ℕ) (y : Item) → T (c.ordering u) → T (meets v (ordering u) y) → Path v c (v.first u) (begins_at v y)
      meet u (option j) a m = absurd m
      meet u (ordering w) a m = one (by_ordering u a refl (eqb→eq (v.second u) (v.first w) m))

      go : (x : Item) → T (keeps c x) → T (known_before v d (ends_at v x) (begins_at v y)) ⊎ T (meets v x y) → Path v c (begins_at v x) (begins_at v y)
      go (option i) a (inl k) = from (option i) a k
      go (option i) a (inr m) = absurd m
      go (ordering u) a (inl k) = more (by_ordering u a refl refl) (from (ordering u) a k)
      go (ordering u) a (inr m) = meet u y a m

  pub chain_path : (x : Item) (l : List Item) (z : Item) → T (keeps c x) → T (every_of (keeps c) l) → T (keeps c z) → T (chained v (known_before v d) x l z) → Path v c (begins_at v x) (begins_at v z)
  unfolding chained
  chain_path x [] z a h b t = link_path x z a b t
  chain_path x (y ∷ l) z a h b t = append (link_path x y a (and_l (keeps c y) _ h) (and_l (link v d x y) _ t))
      (chain_path y l z (and_l (keeps c y) _ h) (and_r (keeps c y) _ h) b (and_r (link v d x y) _ t))

  -- No consistent relaxation that agrees keeps a conflict whole.
  pub not_whole : (l : List Item) → T (conflict v d l) → T (every_of (keeps c) l) → ⊥
  unfolding closes
  not_whole [] t h = t
  not_whole (x ∷ l) t h = ok.acyclic (begins_at v x) (chain_path x l x (and_l (keeps c x) _ h) (and_r (keeps c x) _ h) (and_l (keeps c x) _ h) t)

  -- So it drops a member.
  pub drops_one : (l : List Item) → T (conflict v d l) → (x : Item) × Memᴰ x l × T (not (keeps c x))
  drops_one l t = go l (not_whole l t)
    where
      go : (l : List Item) → (T (every_of (keeps c) l) → ⊥) → (x : Item) × Memᴰ x l × T (not (keeps c x))
      go [] n = absurd (n tt)
      go (y ∷ l) n = at (test (keeps c y)) (go l)
        where
          at : T (keeps c y) ⊎ (T (keeps c y) → ⊥) → ((T (every_of (keeps c) l) → ⊥) → (x : Item) × Memᴰ x l × T (not (keeps c x))) → (x : Item) × Memᴰ x (y ∷ l) × T (not (keeps c x))
          at (inl k) f = let (x, m, w) = f (λ h. n (and_i (keeps c y) _ k h)) in (x, Memᴰ.tail m, w)
          at (inr k) f = (y, Memᴰ.head refl, not_T (keeps c y) k)
