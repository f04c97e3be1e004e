-- What printing leaves in a buffer.
use Rattle.std.specs.Prelude.{ℕ, ◌+◌, List, [], ◌∷◌, set}

-- the buffer after the bytes l were stored from index `at` on
unfoldable pub put : ℕ → List ℕ → List ℕ → List ℕ
put at [] out = out
put at (b ∷ l) out = put (at + 1) l (set out at b)
