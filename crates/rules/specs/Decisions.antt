-- Half-decided sheets: decision lists, and what agrees with them.
use Rattle.std.specs.Prelude.{Bool, true, false, not, List, [], ◌∷◌, ℕ, zero, suc, length, get_or, take, drop, T}
use Rattle.std.proofs.Math.Option.{Option, none, some}
use Rattle.rules.specs.Lines.{Lines}

-- "Each option and each ordering is kept, dropped or open."
pub data Decision : Type 0 where
  Open Kept Dropped : Decision

abbrev pub is_open : Decision → Bool
is_open Open = true
is_open Kept = false
is_open Dropped = false

abbrev pub is_kept : Decision → Bool
is_kept Open = false
is_kept Kept = true
is_kept Dropped = false

abbrev pub is_dropped : Decision → Bool
is_dropped Open = false
is_dropped Kept = false
is_dropped Dropped = true

-- A decision list, as a choice: the options in slot order, then the orderings in slot order.
pub record DecidedBySlot : Type 0 where
  pub option : ℕ → Decision
  pub ordering : ℕ → Decision

unfoldable pub decided_by_slot : Lines → List Decision → DecidedBySlot
decided_by_slot s d = record {
  option = λ i. get_or (take (length s.options) d) i Open;
  ordering = λ u. get_or (drop (length s.options) d) u Open;
}

-- A decision allows an item to be kept (true) or dropped (false).
abbrev pub fits : Decision → Bool → Type 0
fits Open b = Unit {0}
fits Kept b = T b
fits Dropped b = T (not b)

-- A choice agrees with a decision list of its length: it keeps what is kept there and drops what is dropped there.
abbrev pub Agrees : List Decision → List Bool → Type 0
Agrees [] [] = Unit {0}
Agrees [] (b ∷ r) = ⊥
Agrees (m ∷ d) [] = ⊥
Agrees (m ∷ d) (b ∷ r) = fits m b × Agrees d r

abbrev pub all_open : ℕ → List Decision
all_open zero = []
all_open (suc k) = Open ∷ all_open k

-- How many items are open.
abbrev pub open_items : List Decision → ℕ
open_items [] = 0
open_items (Open ∷ d) = suc (open_items d)
open_items (Kept ∷ d) = open_items d
open_items (Dropped ∷ d) = open_items d

abbrev put_before : Bool → Option (List Bool) → Option (List Bool)
put_before b none = none
put_before b (some r) = some (b ∷ r)

-- The choice that a list makes in which everything is decided; none where something is open.
abbrev pub full_choice : List Decision → Option (List Bool)
full_choice [] = some []
full_choice (Open ∷ d) = none
full_choice (Kept ∷ d) = put_before true (full_choice d)
full_choice (Dropped ∷ d) = put_before false (full_choice d)
