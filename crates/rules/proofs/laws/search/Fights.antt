-- Worked examples of conflicts and loose items: small sheets, by computing.
use Rattle.std.specs.Prelude.{◌≡◌, refl, not, ◌&&◌, [], ◌∷◌, ℕ, T}
use Rattle.rules.specs.Slots.{some_below, slots, sum}
use Rattle.rules.specs.Lines.{Lines, OptionLine, OrderingLine, C}
use Rattle.rules.specs.Subscription.{subscription, items}
use Rattle.rules.specs.Decisions.{DecidedBySlot, decided_by_slot, all_open}
use Rattle.rules.specs.Joined.{through}
use Rattle.rules.specs.KnownBefore.{ordering_kept, option_kept, known_from_the_start, known_before}
use Rattle.rules.specs.Forced.{option_dropped, ordering_dropped}
use Rattle.rules.specs.laws.search.Items.{option, ordering, linked, chained, closes, conflict}
use Rattle.rules.specs.laws.search.Residual.{held, open_weights}
use Rattle.rules.proofs.laws.search.Loose.{open_item_after, open_item_before, loose}

abbrev option_line : ℕ → ℕ → OptionLine
option_line a w = record { number = a; weight = w }

abbrev ordering_line : ℕ → ℕ → ℕ → OrderingLine
ordering_line a b w = record { first = a; second = b; weight = w }

-- Two orderings against each other, and a third option that nothing touches.
abbrev pub fight : Lines
fight = record { catalogue = []; options = option_line 1 1 ∷ option_line 2 1 ∷ option_line 3 1 ∷ []; orderings = ordering_line 1 2 9 ∷ ordering_line 2 1 9 ∷ [] }

abbrev undecided : Lines → DecidedBySlot
undecided s = decided_by_slot s (all_open (items s))

-- The two orderings are a conflict; an option and an ordering are none.
pub fight_conflict : T (conflict (subscription fight) (undecided fight) (ordering 0 ∷ ordering 1 ∷ []) && not (conflict (subscription fight) (undecided fight) (option 0 ∷ ordering 0 ∷ [])))
unfolding subscription decided_by_slot closes chained linked known_before through slots option_kept ordering_kept known_from_the_start some_below
fight_conflict = tt

-- An ordering's consequences hold its weight, an option's hold its own and its orderings'.
pub fight_held : held (subscription fight) (open_weights (subscription fight) (undecided fight)) (ordering 0) ≡ 9
unfolding subscription decided_by_slot held open_weights sum known_before through slots option_kept ordering_kept known_from_the_start some_below option_dropped ordering_dropped
fight_held = refl

pub fight_held_option : held (subscription fight) (open_weights (subscription fight) (undecided fight)) (option 0) ≡ 19
unfolding subscription decided_by_slot held open_weights sum known_before through slots option_kept ordering_kept known_from_the_start some_below option_dropped ordering_dropped
fight_held_option = refl

-- Every option is loose, with nothing known before anything; an ordering is not while its options are open.
pub fight_loose : T (loose (subscription fight) (undecided fight) (option 0) && (loose (subscription fight) (undecided fight) (option 2) && not (loose (subscription fight) (undecided fight) (ordering 0))))
unfolding subscription decided_by_slot loose open_item_after open_item_before linked known_before through slots option_kept ordering_kept known_from_the_start some_below option_dropped ordering_dropped
fight_loose = tt

-- A catalogue ring of three options is a conflict, and no two of them are.
abbrev pub ring : Lines
ring = record { catalogue = C 1 2 ∷ C 2 3 ∷ C 3 1 ∷ []; options = option_line 1 5 ∷ option_line 2 4 ∷ option_line 3 3 ∷ []; orderings = [] }

pub ring_conflict : T (conflict (subscription ring) (undecided ring) (option 0 ∷ option 1 ∷ option 2 ∷ []) && not (conflict (subscription ring) (undecided ring) (option 0 ∷ option 1 ∷ [])))
unfolding subscription decided_by_slot closes chained linked known_before through slots option_kept ordering_kept known_from_the_start some_below
ring_conflict = tt
