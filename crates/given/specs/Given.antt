-- A decision list in the words of the rules.
use Rattle.std.specs.Prelude.{Bool, not, ◌&&◌, ◌||◌, List, ◌++◌, ℕ, get_or, leb}
use Rattle.rules.specs.Slots.{some_below, list_of}
use Rattle.rules.specs.Decisions.{is_open, is_kept, is_dropped, DecidedBySlot}
use Rattle.rows.specs.Sets.{Holds}
use Rattle.rules.specs.Decisions as R
use Rattle.sheet.specs.declared.decision.Decision.{Decision}
use Rattle.sheet.specs.declared.decision.Decision.TheVariants as X
use Rattle.sheet.specs.declared.decision.Decisions.{Decisions}
use Rattle.given.specs.declared.sets.Given.{Given}

abbrev pub decided : Decision → R.Decision
decided X.Open = R.Open
decided X.Kept = R.Kept
decided X.Dropped = R.Dropped

-- And back.
abbrev pub choice_of : R.Decision → Decision
choice_of R.Open = X.Open
choice_of R.Kept = X.Kept
choice_of R.Dropped = X.Dropped

abbrev pub undecided : Decision
undecided = X.Open

abbrev pub decided_as : Decisions → DecidedBySlot
decided_as d = record { option = λ i. decided (get_or d.options i undecided); ordering = λ u. decided (get_or d.orderings u undecided) }

-- The list of the rules: the options in slot order, then the orderings in slot order.
unfoldable pub decision_list : ℕ → ℕ → Decisions → List R.Decision
decision_list n m d = list_of n (decided_as d).option ++ list_of m (decided_as d).ordering

-- The sets of what is kept and dropped by choice, among n options and m orderings.
pub record Gives (b : DecidedBySlot) (n m : ℕ) (g : Given) : Type 0 where
  pub kept : Holds g.kept n (λ i. is_kept (b.option i))
  pub dropped : Holds g.dropped n (λ i. is_dropped (b.option i))
  pub kept_orderings : Holds g.kept_orderings m (λ u. is_kept (b.ordering u))
  pub dropped_orderings : Holds g.dropped_orderings m (λ u. is_dropped (b.ordering u))

-- Of k entries, one that is not among the first n is not open.
unfoldable pub some_past : ℕ → ℕ → (ℕ → R.Decision) → Bool
some_past k n f = some_below k (λ i. leb n i && not (is_open (f i)))

unfoldable pub some_open : ℕ → (ℕ → R.Decision) → Bool
some_open n f = some_below n (λ i. is_open (f i))

-- 14: "decision list not open at an entry past the record's counts,"
unfoldable pub decided_past : Decisions → ℕ → ℕ → Bool
decided_past d n m = some_past 32 n (decided_as d).option || some_past 64 m (decided_as d).ordering

-- "or open where all must be decided".
unfoldable pub open_within : Decisions → ℕ → ℕ → Bool
open_within d n m = some_open n (decided_as d).option || some_open m (decided_as d).ordering
