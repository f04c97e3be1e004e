-- The slots of a set, in order.
use Rattle.std.specs.Prelude.{ℕ, zero, suc, ◌+◌, List, [], ◌∷◌, cond}
use Rattle.rows.specs.Bits.{has}

-- Those among the k from i on.
unfoldable pub slots_from : ℕ → ℕ → ℕ → List ℕ
slots_from zero i set = []
slots_from (suc k) i set = cond (has set i) (i ∷ slots_from k (i + 1) set) (slots_from k (i + 1) set)

-- Those of a set of options.
abbrev pub slots : ℕ → List ℕ
slots set = slots_from 32 0 set
