-- A sequence as 32 bytes: the catalogue number at each place.
use Rattle.std.specs.Prelude.{ℕ, Bool, not, List, eqb, get_or}
use Rattle.rules.specs.Slots.{list_of, over}
use Rattle.sheet.specs.declared.count.Number.{Number}

-- The catalogue number at the place after i others.
abbrev pub number_at : List Number → ℕ → ℕ
number_at places i = (get_or places i (record { 0 = 0 })).0

abbrev pub place_numbers : List Number → List ℕ
place_numbers places = list_of 32 (number_at places)

-- "Places past the last kept option hold 0": how many do not.
abbrev pub is_used : ℕ → Bool
is_used number = not (eqb number 0)

abbrev pub places_in_use : List Number → ℕ
places_in_use places = over 32 (λ i. 1) (λ i. is_used (number_at places i))
