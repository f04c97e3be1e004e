-- The next option of a sequence, and the sequence as it is written.
use Rattle.std.specs.Prelude.{Bool, ◌&&◌, cond, Option, Some, None, List, [], ◌∷◌, map, ℕ, ◌+◌, get_or, set, ltb}
use Rattle.std.proofs.Math.Option as R
use Rattle.rules.specs.Slots.{slots}
use Rattle.rows.specs.Bits.{has}
use Rattle.rows.specs.Sets.{cell}
use Rattle.rules.specs.Results.{placed, smallest_ready}
use Rattle.rules.specs.Sequence.{ready}
use Rattle.sheet.specs.declared.count.Number.{Number}

-- A slot or none, as the code holds it.
abbrev pub found_slot : R.Option ℕ → Option ℕ
found_slot R.none = None
found_slot (R.some x) = Some x

abbrev pub number_at : List ℕ → ℕ → ℕ
number_at numbers x = get_or numbers x 0

module _ (t : List ℕ) (n left : ℕ) where
  abbrev pub left_over : List ℕ
  left_over = slots n (has left)

  abbrev pub is_ready : ℕ → Bool
  is_ready x = has left x && ready (cell t) left_over x

-- Of the first i slots, the one that is ready and has the smallest number.
unfoldable pub smallest_below : (t numbers : List ℕ) (n left : ℕ) → ℕ → R.Option ℕ
smallest_below t numbers n left i = smallest_ready (number_at numbers) (cell t) (left_over t n left) (slots i (has left))

-- The one with the smaller number of a best so far, if there is one, and slot i.
unfoldable pub smaller_slot : List ℕ → Option ℕ → ℕ → ℕ
smaller_slot numbers None i = i
smaller_slot numbers (Some best) i = cond (ltb (number_at numbers best) (number_at numbers i)) best i

-- The numbers of the slots that can be placed one after another.
unfoldable pub numbers_placed : (t numbers : List ℕ) (n k left : ℕ) → List ℕ
numbers_placed t numbers n k left = map (number_at numbers) (placed (number_at numbers) (cell t) k (slots n (has left)))

abbrev pub number : ℕ → Number
number a = record { 0 = a }

-- Numbers written from a place on.
unfoldable pub written : List Number → ℕ → List ℕ → List Number
written s at [] = s
written s at (a ∷ l) = written (set s at (number a)) (at + 1) l
