-- What the arrays of the code say of items by number: where they begin and end, which are linked, which chain they form.
use Rattle.std.specs.Prelude.{◌≡◌, Bool, true, List, ℕ, ◌≤◌, ◌<◌, length, get_or}
use Rattle.rules.specs.Slots.{list_of}
use Rattle.rules.specs.laws.search.Items.{Item, option, ordering, linked}
use Rattle.rows.specs.Sets.{cell}
use Rattle.numbered.specs.Items.{numbered, Named, ends_only}

-- The first k numbers of an array name items of the sheet.
pub record AllNamed (chain : List ℕ) (k n m : ℕ) : Type 0 where
  pub each : (p : ℕ) → p < k → Named n m (get_or chain p 0)

-- The items that they name.
unfoldable pub members : List ℕ → ℕ → List Item
members chain k = list_of k (λ p. numbered (get_or chain p 0))

-- One item is linked to another, by the arrays and a table of what is known before what.
abbrev pub linked_in : (n m : ℕ) (known firsts seconds : List ℕ) → ℕ → ℕ → Bool
linked_in n m known firsts seconds x y = linked (ends_only n m firsts seconds) (cell known) (numbered x) (numbered y)

-- One end of each ordering is an option of the sheet.
pub record AreSlots (n m : ℕ) (ends : List ℕ) : Type 0 where
  pub few_options : n ≤ 32
  pub size : m ≤ length ends
  pub each : (u : ℕ) → u < m → get_or ends u 0 < n

abbrev pub end_of : List ℕ → Item → ℕ
end_of ends (option i) = i
end_of ends (ordering u) = get_or ends u 0

-- The option of the sheet at which an item begins or ends.
pub record OptionAt (ends : List ℕ) (n x r : ℕ) : Type 0 where
  pub is : r ≡ end_of ends (numbered x)
  pub small : r < n

-- A test that is passed only if P holds.
pub record OnlyIf (r : Bool) (P : Type 0) : Type 0 where
  pub told : r ≡ true → P
