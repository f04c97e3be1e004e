-- The sequence of a relaxation.
use Rattle.std.specs.Prelude.{◌≡◌, Bool, true, false, not, ◌&&◌, ◌||◌, ℕ, ◌≤◌, ◌<◌, T, eqb}
use mathlib.Core.List.{List, [], ◌∷◌, ◌++◌, Memᴰ, map}
use Rattle.rules.specs.Slots.{some_of, some_below, slots}
use Rattle.rules.specs.Lines.{Lines}
use Rattle.rules.specs.Subscription.{Subscription, subscription}
use Rattle.rules.specs.KnownBefore.{puts_first}
use Rattle.rules.specs.Relaxation.{KeptBySlot, kept_by_slot, Relaxation}

-- Is there an edge from i to j in the graph? (`Edge`, computed.)
unfoldable pub precedes : Subscription → KeptBySlot → ℕ → ℕ → Bool
precedes v c i j = (v.before i j && (c.option i && c.option j)) || some_below v.ordering_count (λ u. c.ordering u && puts_first v u i j)

abbrev pub cons_unless : Bool → ℕ → List ℕ → List ℕ
cons_unless true y l = l
cons_unless false y l = y ∷ l

-- The list without x.
unfoldable pub without : ℕ → List ℕ → List ℕ
without x [] = []
without x (y ∷ ys) = cons_unless (eqb x y) y (without x ys)

-- No predecessor of x is among what is not yet placed.
abbrev pub ready : (ℕ → ℕ → Bool) → List ℕ → ℕ → Bool
ready e left x = not (some_of (λ y. e y x) left)

-- "At each place stands the smallest catalogue number not yet placed whose predecessors are all placed."
module _ (number : ℕ → ℕ) (e : ℕ → ℕ → Bool) where
  pub data Sequence : List ℕ → List ℕ → Type 0 where
    done : Sequence [] []
    place : {left rest : List ℕ} (x : ℕ) → Memᴰ x left → T (ready e left x)
        → ((y : ℕ) → Memᴰ y left → T (ready e left y) → number x ≤ number y)
        → Sequence (without x left) rest → Sequence left (x ∷ rest)

abbrev pub kept_slots : Subscription → KeptBySlot → List ℕ
kept_slots v c = slots v.option_count c.option

-- `places` are the catalogue numbers of r's sequence. A decision that is no relaxation has none.
pub record SequenceOf (s : Lines) (r : List Bool) (places : List ℕ) : Type 0 where
  pub relaxation : Relaxation s r
  pub by_slot : List ℕ
  pub sequence : Sequence (subscription s).number (precedes (subscription s) (kept_by_slot s r)) (kept_slots (subscription s) (kept_by_slot s r)) by_slot
  pub numbers : places ≡ map (subscription s).number by_slot

-- An order of a graph: each of its nodes once, and every edge forward.
pub record Ordered (e : ℕ → ℕ → Bool) (nodes order : List ℕ) : Type 0 where
  pub all : (x : ℕ) → Memᴰ x nodes → Memᴰ x order
  pub only : (x : ℕ) → Memᴰ x order → Memᴰ x nodes
  pub once : (front back : List ℕ) (x : ℕ) → order ≡ front ++ (x ∷ back) → Memᴰ x back → ⊥
  pub forward : (front back : List ℕ) (x : ℕ) → order ≡ front ++ (x ∷ back) → (y : ℕ) → Memᴰ y (x ∷ back) → T (e y x) → ⊥

-- `places` stands no later than `others` if, at the first place where they differ, it has the smaller catalogue number.
pub data NoLater : List ℕ → List ℕ → Type 0 where
  end : NoLater [] []
  smaller : {a b : ℕ} {l m : List ℕ} → a < b → NoLater (a ∷ l) (b ∷ m)
  same : {a : ℕ} {l m : List ℕ} → NoLater l m → NoLater (a ∷ l) (a ∷ m)
