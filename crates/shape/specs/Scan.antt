-- The first byte that, after the bytes before it, no well-shaped line of that section could have there.
use Rattle.std.specs.Prelude.{ℕ, ◌+◌, cond, List, [], ◌∷◌, ltb}
use Rattle.shape.specs.Shape.{next_state}
use Rattle.shape.specs.declared.shape.Section.{Section}
use Rattle.shape.specs.declared.shape.Section.TheVariants.{Catalogue, Options, Orderings}
use Rattle.shape.specs.declared.shape.State.{State}
use Rattle.shape.specs.declared.shape.State.TheVariants.{Start, Gap, First, Digit, Done, Dead}
use Rattle.shape.specs.declared.scan.Scanned.{Scanned}
use Rattle.shape.specs.declared.scan.Scanned.TheVariants.{Clean, At}

-- f is the line where the F section begins, u where the U section begins
abbrev pub section_of : ℕ → ℕ → ℕ → Section
section_of f u n = cond (ltb n f) Catalogue (cond (ltb n u) Options Orderings)

-- what a line's step by the byte b leads to: the place and the byte, or the answer on the next line, or on this one
abbrev pub step_to : ℕ → ℕ → ℕ → State → (ℕ → ℕ → State → Scanned) → Scanned
step_to n k b Start go = go n (k + 1) Start
step_to n k b (Gap x) go = go n (k + 1) (Gap x)
step_to n k b (First x) go = go n (k + 1) (First x)
step_to n k b (Digit x y) go = go n (k + 1) (Digit x y)
step_to n k b Done go = go (n + 1) 1 Start
step_to n k b Dead go = At (record { line = n; column = k }) b

-- line n, column k, state st: what is left of the text
abbrev pub misshapen_from : ℕ → ℕ → List ℕ → ℕ → ℕ → State → Scanned
misshapen_from f u [] n k st = Clean
misshapen_from f u (b ∷ r) n k st = step_to n k b (next_state (section_of f u n) st b) (misshapen_from f u r)

-- lines and columns begin at 1
abbrev pub first_misshapen : ℕ → ℕ → List ℕ → Scanned
first_misshapen f u text = misshapen_from f u text 1 1 Start
