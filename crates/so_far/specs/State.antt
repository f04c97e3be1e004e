-- What is wanted of another relaxation, and what is found once it is there.
use Rattle.std.specs.Prelude.{cond, ℕ, ◌+◌, ltb, is_some, Option, Some, None}
use Rattle.given.specs.declared.sets.Given.{Given}
use Rattle.so_far.specs.declared.so_far.Kept.{Kept}
use Rattle.so_far.specs.declared.so_far.SoFar.{SoFar}

-- What another must be worth to be wanted: the tolerance counts only once something is found.
unfoldable pub wanted : SoFar → ℕ → ℕ
wanted a tolerance = cond (is_some a.find) (a.goal + tolerance) a.goal

-- A relaxation worth `value` is taken if it reaches the goal.
unfoldable pub taken : SoFar → Given → ℕ → SoFar
taken a g value = cond (ltb value a.goal) a (record { goal = value + 1; find = Some (record { options = g.kept; orderings = g.kept_orderings }) })

-- The items kept; with no find all is dropped.
abbrev pub kept_of : Option Kept → Kept
kept_of (Some k) = k
kept_of None = record { options = 0; orderings = 0 }

abbrev pub kept_in : SoFar → Kept
kept_in a = kept_of a.find

abbrev pub nothing_found : ℕ → SoFar
nothing_found floor = record { goal = floor; find = None }
