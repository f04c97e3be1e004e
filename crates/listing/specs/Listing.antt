-- The lines of places, dropped options and dropped orderings, as a record's arrays hold them.
use Rattle.std.specs.Prelude.{ℕ, zero, suc, ◌+◌, Bool, true, false, not, List, [], ◌∷◌, ◌++◌, eqb, get_or}
use Rattle.rules.specs.Decisions.{is_dropped}
use Rattle.given.specs.Given.{decided, undecided}
use Rattle.sheet.specs.declared.count.Number.{Number}
use Rattle.sheet.specs.declared.decision.Decision.{Decision}
use Rattle.shape.specs.LineText.{line_text}

-- The lines of n places or slots, one after the other.
unfoldable pub each : ℕ → (ℕ → List ℕ) → List ℕ
each zero line = []
each (suc n) line = each n line ++ line n

-- A line, unless a test passes.
abbrev pub unless : Bool → List ℕ → List ℕ
unless true line = []
unless false line = line

abbrev no_number : Number
no_number = record { 0 = 0 }

-- A place that holds 0 is past the last.
abbrev pub place_line : List Number → ℕ → List ℕ
place_line places i = unless (eqb (get_or places i no_number).0 0) (line_text 83 ((i + 1) ∷ (get_or places i no_number).0 ∷ []))

abbrev pub option_line : List Decision → List ℕ → ℕ → List ℕ
option_line options numbers i = unless (not (is_dropped (decided (get_or options i undecided)))) (line_text 68 (get_or numbers i 0 ∷ []))

abbrev pub ordering_line : List Decision → List ℕ → List ℕ → ℕ → List ℕ
ordering_line orderings firsts seconds u = unless (not (is_dropped (decided (get_or orderings u undecided)))) (line_text 82 (get_or firsts u 0 ∷ get_or seconds u 0 ∷ []))
