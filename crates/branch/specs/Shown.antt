-- What is found so far, in the words of the rules.
use Rattle.std.specs.Prelude.{Bool, List, ℕ, Option, Some, None}
use Rattle.std.proofs.Math.Option as maybe
use Rattle.rules.specs.laws.search.Finds as R
use Rattle.keeping.specs.Sets.{chosen_list}
use Rattle.so_far.specs.declared.so_far.Kept.{Kept}
use Rattle.so_far.specs.declared.so_far.SoFar.{SoFar}

abbrev pub choice_of : (n m : ℕ) → Option Kept → maybe.Option (List Bool)
choice_of n m (Some k) = maybe.some (chosen_list n m k.options k.orderings)
choice_of n m None = maybe.none

abbrev pub shown : (n m : ℕ) → SoFar → R.SoFar
shown n m a = record { goal = a.goal; find = choice_of n m a.find }
