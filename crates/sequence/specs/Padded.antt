-- Numbers place by place, zeros past the last.
use Rattle.std.specs.Prelude.{List, [], ◌∷◌, ℕ, zero, suc}
use Rattle.placing.specs.Next.{number}
use Rattle.sheet.specs.declared.count.Number.{Number}

-- The first k places: the numbers of a list, then zeros.
unfoldable pub places_of : ℕ → List ℕ → List Number
places_of zero l = []
places_of (suc k) [] = number 0 ∷ places_of k []
places_of (suc k) (a ∷ l) = number a ∷ places_of k l
