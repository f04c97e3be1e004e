-- Items (options and orderings), when one of them puts itself before another, and conflicts: closed chains of items.
-- That no consistent relaxation keeps a conflict whole is in `proofs/laws`.
use Rattle.std.specs.Prelude.{Bool, false, ◌&&◌, ◌||◌, ℕ, eqb}
use mathlib.Core.List.{List, [], ◌∷◌}
use Rattle.std.proofs.Math.Dec.{T}
use Rattle.rules.specs.Subscription.{Subscription}
use Rattle.rules.specs.Relaxation.{KeptBySlot}
use Rattle.rules.specs.Decisions.{DecidedBySlot}
use Rattle.rules.specs.KnownBefore.{known_before}
use Rattle.rules.specs.laws.BySlot.{ConsistentBySlot}

-- An item is an option or an ordering, by its slot.
pub data Item : Type 0 where
  option ordering : ℕ → Item

-- Does a choice keep an item?
abbrev pub keeps : KeptBySlot → Item → Bool
keeps c (option i) = c.option i
keeps c (ordering u) = c.ordering u

module _ (v : Subscription) where
  -- The option at which an item begins: an option itself, an ordering's first.
  abbrev pub begins_at : Item → ℕ
  begins_at (option i) = i
  begins_at (ordering u) = v.first u

  -- The option at which an item ends: an option itself, an ordering's second.
  abbrev pub ends_at : Item → ℕ
  ends_at (option i) = i
  ends_at (ordering u) = v.second u

  -- Two orderings meet if the second begins where the first ends.
  abbrev pub meets : Item → Item → Bool
  meets (option i) y = false
  meets (ordering u) (option j) = false
  meets (ordering u) (ordering w) = eqb (v.second u) (v.first w)

  -- A kept ordering keeps both ends, so a kept item keeps the options at which it begins and ends.
  pub begins_at_kept : (c : KeptBySlot) → ConsistentBySlot v c → (x : Item) → T (keeps c x) → T (c.option (begins_at x))
  begins_at_kept c ok (option i) t = t
  begins_at_kept c ok (ordering u) t = (ok.ends u t).0

  pub ends_at_kept : (c : KeptBySlot) → ConsistentBySlot v c → (x : Item) → T (keeps c x) → T (c.option (ends_at x))
  ends_at_kept c ok (option i) t = t
  ends_at_kept c ok (ordering u) t = (ok.ends u t).1

module _ (v : Subscription) (k : ℕ → ℕ → Bool) where
  -- Over any table of what comes before what: item x is linked to y if where x ends comes before where y begins, or if they are two orderings that meet.
  unfoldable pub linked : Item → Item → Bool
  linked x y = k (ends_at v x) (begins_at v y) || meets v x y

  -- Each item is linked to the next, and the last to z.
  unfoldable pub chained : Item → List Item → Item → Bool
  chained x [] z = linked x z
  chained x (y ∷ l) z = linked x y && chained y l z

  -- The chain closes: the last item is linked to the first.
  unfoldable pub closes : List Item → Bool
  closes [] = false
  closes (x ∷ l) = chained x l x

module _ (v : Subscription) (d : DecidedBySlot) where
  -- Linked by what is known before what.
  abbrev pub link : Item → Item → Bool
  link = linked v (known_before v d)

  -- A conflict is a closed chain of items, linked by what is known.
  abbrev pub conflict : List Item → Bool
  conflict = closes v (known_before v d)
