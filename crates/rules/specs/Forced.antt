-- Forced decisions and contradiction: 01's rules, then the same computed.
use Rattle.std.specs.Prelude.{Bool, true, false, ◌&&◌, ◌||◌, List, ◌++◌, ℕ, ◌<◌, length, T}
use Rattle.rules.specs.Slots.{some_below, list_of}
use Rattle.rules.specs.Lines.{Lines}
use Rattle.rules.specs.Subscription.{Subscription, subscription}
use Rattle.rules.specs.Decisions.{Decision, Open, Kept, Dropped, is_kept, is_dropped, DecidedBySlot, decided_by_slot}
use Rattle.rules.specs.KnownBefore.{OrderingKept, OptionKept, KnownBefore, ordering_kept, option_kept, known_before}

module _ (v : Subscription) (d : DecidedBySlot) where
  -- "An option known before itself, or both before and after a kept option, is dropped."
  pub data OptionDropped (i : ℕ) : Type 0 where
    given : T (is_dropped (d.option i)) → OptionDropped i
    before_itself : KnownBefore v d i i → OptionDropped i
    before_and_after_a_kept_option : (j : ℕ) → OptionKept v d j → KnownBefore v d i j → KnownBefore v d j i → OptionDropped i

  -- "A dropped option drops its orderings"; "an ordering a before b is dropped if b is known before a."
  pub data OrderingDropped (u : ℕ) : Type 0 where
    given : T (is_dropped (d.ordering u)) → OrderingDropped u
    first_dropped : OptionDropped (v.first u) → OrderingDropped u
    second_dropped : OptionDropped (v.second u) → OrderingDropped u
    known_the_other_way : KnownBefore v d (v.second u) (v.first u) → OrderingDropped u

  -- "An item that would be both kept and dropped is a contradiction."
  pub record NoContradiction : Type 0 where
    pub option : (i : ℕ) → OptionKept v d i → OptionDropped i → ⊥
    pub ordering : (u : ℕ) → OrderingKept v d u → OrderingDropped u → ⊥

  unfoldable pub option_dropped : ℕ → Bool
  option_dropped i = is_dropped (d.option i) || (known_before v d i i || some_below v.option_count (λ j. option_kept v d j && (known_before v d i j && known_before v d j i)))

  unfoldable pub ordering_dropped : ℕ → Bool
  ordering_dropped u = is_dropped (d.ordering u) || (option_dropped (v.first u) || (option_dropped (v.second u) || known_before v d (v.second u) (v.first u)))

  unfoldable pub contradiction : Bool
  contradiction = some_below v.option_count (λ i. option_kept v d i && option_dropped i) || some_below v.ordering_count (λ u. ordering_kept v d u && ordering_dropped u)

abbrev pub decision_of : Bool → Bool → Decision
decision_of true b = Kept
decision_of false true = Dropped
decision_of false false = Open

module _ (v : Subscription) (d : DecidedBySlot) where
  unfoldable pub forced_option : ℕ → Decision
  forced_option i = decision_of (option_kept v d i) (option_dropped v d i)

  unfoldable pub forced_ordering : ℕ → Decision
  forced_ordering u = decision_of (ordering_kept v d u) (ordering_dropped v d u)

-- The decision list after forcing.
unfoldable pub forced : Lines → List Decision → List Decision
forced s d =
    list_of (length s.options) (forced_option (subscription s) (decided_by_slot s d))
    ++ list_of (length s.orderings) (forced_ordering (subscription s) (decided_by_slot s d))

-- "Forced decisions are made until none is left": no rule says more than what the list holds.
pub record NoneLeft (s : Lines) (d : List Decision) : Type 0 where
  pub kept : (i : ℕ) → OptionKept (subscription s) (decided_by_slot s d) i → T (is_kept ((decided_by_slot s d).option i))
  pub dropped : (i : ℕ) → i < length s.options → OptionDropped (subscription s) (decided_by_slot s d) i → T (is_dropped ((decided_by_slot s d).option i))
  pub orderings_dropped : (u : ℕ) → u < length s.orderings → OrderingDropped (subscription s) (decided_by_slot s d) u → T (is_dropped ((decided_by_slot s d).ordering u))
