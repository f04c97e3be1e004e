-- A line that stops in another state is no trailer.
use mathlib.Core.Path.{◌≡◌, refl}
use mathlib.Core.Bool.{false}
use mathlib.Core.List.{[], ◌∷◌}
use types.Run.{OneOf, miss}
use denote.Enum.Declared.{tag_of}
use Rattle.shape.specs.contracts.shape.State.{the_type}
use Rattle.shape.specs.declared.shape.State.TheVariants.{Start, Gap, First, Digit, Done, Dead}
use Rattle.shape.specs.Trailer.{is_done}
use Rattle.shape.specs.declared.shape.State.{State}

pub not_done : (st : State) → OneOf (0 ∷ 1 ∷ 2 ∷ 3 ∷ 5 ∷ []) (tag_of the_type st) → is_done st ≡ false
not_done Start h = refl
not_done (Gap k) h = refl
not_done (First k) h = refl
not_done (Digit k m) h = refl
not_done Done h = absurd (miss (0 ∷ 1 ∷ 2 ∷ 3 ∷ 5 ∷ []) 4 tt h)
not_done Dead h = refl
