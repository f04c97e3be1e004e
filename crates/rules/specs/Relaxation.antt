-- What a relaxation is, when it is consistent, and what it is worth.
use Rattle.std.specs.Prelude.{◌≡◌, Bool, false, List, ℕ, ◌+◌, length, get_or, take, drop, T}
use Rattle.rules.specs.Slots.{over}
use Rattle.rules.specs.Lines.{Lines}
use Rattle.rules.specs.Subscription.{Subscription, subscription, items}

-- "It keeps some subscribed options and some orderings."
pub record KeptBySlot : Type 0 where
  pub option : ℕ → Bool
  pub ordering : ℕ → Bool

-- A choice is one list, true for what is kept: the options in slot order, then the orderings in slot order.
unfoldable pub kept_by_slot : Lines → List Bool → KeptBySlot
kept_by_slot s r = record {
  option = λ i. get_or (take (length s.options) r) i false;
  ordering = λ u. get_or (drop (length s.options) r) u false;
}

module _ (v : Subscription) (c : KeptBySlot) where
  -- "Its graph has the kept options, the catalogue precedences between kept options (each X line as two), and the kept orderings."
  pub data Edge (i j : ℕ) : Type 0 where
    by_catalogue : T (v.before i j) → T (c.option i) → T (c.option j) → Edge i j
    by_ordering : (u : ℕ) → T (c.ordering u) → v.first u ≡ i → v.second u ≡ j → Edge i j

  -- A walk of one edge or more.
  pub data Path : ℕ → ℕ → Type 0 where
    one : {i j : ℕ} → Edge i j → Path i j
    more : {i j k : ℕ} → Edge i j → Path j k → Path i k

  -- "A kept ordering needs both its options kept."
  abbrev pub HasBothOptions : Type 0
  HasBothOptions = (u : ℕ) → T (c.ordering u) → T (c.option (v.first u)) × T (c.option (v.second u))

  -- "It is consistent if that graph has no cycle."
  abbrev pub NoCycle : Type 0
  NoCycle = (i : ℕ) → Path i i → ⊥

  -- "Its value is the sum of the kept weights."
  unfoldable pub value : ℕ
  value = over v.option_count v.weight c.option + over v.ordering_count v.ordering_weight c.ordering

module _ (s : Lines) (r : List Bool) where
  pub record Relaxation : Type 0 where
    pub size : length r ≡ items s
    pub ends : HasBothOptions (subscription s) (kept_by_slot s r)

  abbrev pub Consistent : Type 0
  Consistent = NoCycle (subscription s) (kept_by_slot s r)

  pub record ConsistentRelaxation : Type 0 where
    pub relaxation : Relaxation
    pub consistent : Consistent

  unfoldable pub value_of : ℕ
  value_of = value (subscription s) (kept_by_slot s r)
