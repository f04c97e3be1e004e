-- Whether a record is one that an accepted sheet gives, as a computation: what the contract of `is_recorded` cites.
-- `Recorded` says the same as a rule.
use Rattle.std.specs.Prelude.{ℕ, zero, suc, ◌+◌, Bool, true, false, ◌&&◌, ◌||◌, not, List, [], ◌∷◌, eqb, ltb, take, drop, get_or}
use Rattle.shape.specs.declared.number.Numbers.{Numbers}
use Rattle.sheet.specs.Judge.{judge_catalogue_line, judge_option, judge_ordering}
use Rattle.sheet.specs.Limits.{catalogue_limit, option_limit, ordering_limit}
use Rattle.sheet.specs.declared.judged.Judged.{Judged}
use Rattle.sheet.specs.declared.judged.Judged.TheVariants.{Fine, Broken}
use Rattle.sheet.specs.declared.sheet.Sheet.{Sheet}

abbrev pub is_fine : Judged → Bool
is_fine Fine = true
is_fine (Broken k c) = false

-- the numbers of an entry, as those of a line; columns do not matter here
abbrev pub entry_numbers : ℕ → ℕ → ℕ → Numbers
entry_numbers a b w = record { first = a; second = b; third = w; second_column = 0; third_column = 0 }

-- C or X
abbrev pub is_letter : ℕ → Bool
is_letter c = eqb c 67 || eqb c 88

-- k catalogue entries from entry i on
unfoldable pub catalogue_fine : ℕ → ℕ → List ℕ → List ℕ → List ℕ → Bool
catalogue_fine zero i letters befores afters = true
catalogue_fine (suc k) i letters befores afters =
    is_letter (get_or letters i 0) && (is_fine (judge_catalogue_line (entry_numbers (get_or befores i 0) (get_or afters i 0) 0)) && catalogue_fine k (i + 1) letters befores afters)

-- k options from entry i on
unfoldable pub options_fine : ℕ → ℕ → List ℕ → List ℕ → Bool
options_fine zero i numbers weights = true
options_fine (suc k) i numbers weights =
    is_fine (judge_option (entry_numbers (get_or numbers i 0) (get_or weights i 0) 0) (take i numbers)) && options_fine k (i + 1) numbers weights

-- k orderings from entry i on, where subscribed are the options
unfoldable pub orderings_fine : ℕ → ℕ → List ℕ → List ℕ → List ℕ → List ℕ → Bool
orderings_fine zero i subscribed firsts seconds ordering_weights = true
orderings_fine (suc k) i subscribed firsts seconds ordering_weights =
    is_fine (judge_ordering (entry_numbers (get_or firsts i 0) (get_or seconds i 0) (get_or ordering_weights i 0)) subscribed (take i firsts) (take i seconds))
    && orderings_fine k (i + 1) subscribed firsts seconds ordering_weights

unfoldable pub all_zero : List ℕ → Bool
all_zero [] = true
all_zero (x ∷ l) = eqb x 0 && all_zero l

-- no section has too many lines
abbrev pub within_limits : ℕ → ℕ → ℕ → Bool
within_limits catalogue options orderings =
    not (ltb catalogue_limit catalogue) && (not (ltb option_limit options) && not (ltb ordering_limit orderings))

-- each used entry obeys the rules of its line, and unused entries are zero: of the catalogue, of the options, of the orderings
unfoldable pub catalogue_recorded : ℕ → List ℕ → List ℕ → List ℕ → Bool
catalogue_recorded n letters befores afters =
    catalogue_fine n 0 letters befores afters && (all_zero (drop n letters) && (all_zero (drop n befores) && all_zero (drop n afters)))

unfoldable pub options_recorded : ℕ → List ℕ → List ℕ → Bool
options_recorded n numbers weights = options_fine n 0 numbers weights && (all_zero (drop n numbers) && all_zero (drop n weights))

unfoldable pub orderings_recorded : ℕ → List ℕ → List ℕ → List ℕ → List ℕ → Bool
orderings_recorded n subscribed firsts seconds weights =
    orderings_fine n 0 subscribed firsts seconds weights && (all_zero (drop n firsts) && (all_zero (drop n seconds) && all_zero (drop n weights)))

unfoldable pub is_recorded : Sheet → Bool
is_recorded s =
    within_limits s.catalogue_lines s.option_count s.ordering_count
    && (catalogue_recorded s.catalogue_lines s.letters s.befores s.afters
    && (options_recorded s.option_count s.numbers s.weights
    && orderings_recorded s.ordering_count (take s.option_count s.numbers) s.firsts s.seconds s.ordering_weights))
