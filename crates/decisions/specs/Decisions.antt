-- A decision list as 96 bytes: 32 options, then 64 orderings; 0 is open, 1 kept, 2 dropped.
use Rattle.std.specs.Prelude.{ℕ, ◌+◌, Bool, cond, ◌&&◌, List, ◌++◌, eqb, ltb, length, get_or}
use Rattle.rules.specs.Slots.{every_of, list_of}
use Rattle.given.specs.Given.{undecided}
use Rattle.sheet.specs.declared.decision.Decision.{Decision}
use Rattle.sheet.specs.declared.decision.Decision.TheVariants.{Open, Kept, Dropped}
use Rattle.sheet.specs.declared.decision.Decisions.{Decisions}

abbrev pub choice_of : ℕ → Decision
choice_of b = cond (eqb b 1) Kept (cond (eqb b 2) Dropped Open)

-- The list that the bytes spell.
abbrev pub decisions_of : List ℕ → Decisions
decisions_of bytes = record { options = list_of 32 (λ i. choice_of (get_or bytes i 0)); orderings = list_of 64 (λ u. choice_of (get_or bytes (32 + u) 0)) }

abbrev pub is_decision : ℕ → Bool
is_decision b = ltb b 3

-- The bytes spell a list: they are 96, and none is any other byte.
unfoldable pub are_decisions : List ℕ → Bool
are_decisions bytes = eqb (length bytes) 96 && every_of is_decision bytes

-- And back.
abbrev pub byte_of : Decision → ℕ
byte_of Open = 0
byte_of Kept = 1
byte_of Dropped = 2

abbrev pub option_bytes : Decisions → List ℕ
option_bytes d = list_of 32 (λ i. byte_of (get_or d.options i undecided))

abbrev pub ordering_bytes : Decisions → List ℕ
ordering_bytes d = list_of 64 (λ u. byte_of (get_or d.orderings u undecided))

abbrev pub decision_bytes : Decisions → List ℕ
decision_bytes d = option_bytes d ++ ordering_bytes d
