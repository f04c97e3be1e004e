-- What the passes come to: the best by the tie rule at tolerance 0, and an answer with its ceiling at any tolerance.
use Rattle.std.specs.Prelude.{◌≡◌, Bool, List, ℕ, ◌+◌, ◌≤◌, min}
use Rattle.std.proofs.Common.{sym, subst, arith}
use Rattle.std.proofs.Math.Option.{Option, none, some}
use Rattle.rules.specs.Decisions.{Decision, Agrees}
use Rattle.rules.specs.Best.{Best}
use Rattle.rules.specs.laws.search.Finds.{within_0_is_best, SoFar, holds, Finds, nothing, better}

-- Nothing found yet, and a choice counts from the value g on.
abbrev pub from_floor : ℕ → SoFar
from_floor g = record { goal = g; find = none }

-- What was found, or else z.
abbrev pub answer : List Bool → Option (List Bool) → List Bool
answer z none = z
answer z (some b) = b

module _ (worth : List Bool → ℕ) (Allowed : List Bool → Type 0) where
  -- What the search gives at tolerance 0: b is found, and is the best of what agrees.
  pub record FoundBest (d : List Decision) (now : SoFar) : Type 0 where
    pub which : List Bool
    pub found : now ≡ holds worth which
    pub best : Best worth (λ r. Allowed r × Agrees d r) which

  -- A SEARCH FROM A FLOOR that some choice reaches gives the best by the tie rule.
  pub floor_best : (d : List Decision) (so_far now : SoFar) (r : List Bool) → Allowed r → Agrees d r → so_far.goal ≤ worth r → Finds worth Allowed 0 d so_far now → FoundBest d now
  floor_best d so_far now r o a l (nothing e h) = let k = h r o a in absurd (omega arith)
  floor_best d so_far now r o a l (better b e w n) = record { which = b; found = e; best = within_0_is_best worth b n }

  -- ---- any tolerance
  -- b is a choice, none is worth more than the ceiling, and the ceiling is within the tolerance of b.
  pub record Within (tolerance : ℕ) (d : List Decision) (b : List Bool) (ceiling : ℕ) : Type 0 where
    pub allowed : Allowed b
    pub agrees : Agrees d b
    pub top : (r : List Bool) → Allowed r → Agrees d r → worth r ≤ ceiling
    pub near : ceiling ≤ worth b + tolerance

  -- The ceiling: the lesser of a limit that holds for all and the answer's value with the tolerance.
  pub ceiling_holds : (tolerance root : ℕ) (d : List Decision) (b : List Bool) → Allowed b → Agrees d b → ((r : List Bool) → Allowed r → Agrees d r → worth r ≤ root)
      → ((r : List Bool) → Allowed r → Agrees d r → worth r ≤ worth b + tolerance) → Within tolerance d b (min root (worth b + tolerance))
  ceiling_holds tolerance root d b o a h k = record { allowed = o; agrees = a; top = λ r x y. (let p = h r x y in let q = k r x y in omega arith); near = omega arith }

  -- ONE PASS FROM NOTHING, at any tolerance: what was found, or z where all was cut before a leaf.
  pub tolerance_pass : (tolerance root : ℕ) (d : List Decision) (z : List Bool) (now : SoFar) → Allowed z → Agrees d z → ((r : List Bool) → Allowed r → Agrees d r → worth r ≤ root)
      → Finds worth Allowed tolerance d (from_floor 0) now → Within tolerance d (answer z now.find) (min root (worth (answer z now.find) + tolerance))
  tolerance_pass tolerance root d z now o a h (nothing e k) = subst (λ i. Within tolerance d (answer z i.find) (min root (worth (answer z i.find) + tolerance))) (sym e)
      (ceiling_holds tolerance root d z o a h (λ r x y. let l = k r x y in omega arith))
  tolerance_pass tolerance root d z now o a h (better b e w n) = subst (λ i. Within tolerance d (answer z i.find) (min root (worth (answer z i.find) + tolerance))) (sym e)
      (ceiling_holds tolerance root d b n.allowed.0 n.allowed.1 h (λ r x y. n.top r (x, y)))

  -- The same from a first find (a dive's end), which is then the answer where nothing better comes.
  pub tolerance_pass_from : (tolerance root : ℕ) (d : List Decision) (z b : List Bool) (now : SoFar) → Allowed b → Agrees d b → ((r : List Bool) → Allowed r → Agrees d r → worth r ≤ root)
      → Finds worth Allowed tolerance d (holds worth b) now → Within tolerance d (answer z now.find) (min root (worth (answer z now.find) + tolerance))
  tolerance_pass_from tolerance root d z b now o a h (nothing e k) = subst (λ i. Within tolerance d (answer z i.find) (min root (worth (answer z i.find) + tolerance))) (sym e)
      (ceiling_holds tolerance root d b o a h (λ r x y. let l = k r x y in omega arith))
  tolerance_pass_from tolerance root d z b now o a h (better c e w n) = subst (λ i. Within tolerance d (answer z i.find) (min root (worth (answer z i.find) + tolerance))) (sym e)
      (ceiling_holds tolerance root d c n.allowed.0 n.allowed.1 h (λ r x y. n.top r (x, y)))
