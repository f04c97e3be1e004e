-- What each public function returns, as a function of the sheet's lines: nothing here searches.
use Rattle.std.specs.Prelude.{Bool, true, false, not, ◌&&◌, cond, List, [], ◌∷◌, map, ℕ, zero, suc, length, replicate, eqb, leb, ltb}
use Rattle.std.proofs.Math.Option.{Option, none, some}
use Rattle.rules.specs.Slots.{some_below, list_of}
use Rattle.rules.specs.Joined.{through}
use Rattle.rules.specs.Lines.{Lines}
use Rattle.rules.specs.Subscription.{Subscription, subscription, items}
use Rattle.rules.specs.Relaxation.{KeptBySlot, kept_by_slot, value_of}
use Rattle.rules.specs.Decisions.{Decision, DecidedBySlot, decided_by_slot, all_open, full_choice}
use Rattle.rules.specs.Forced.{contradiction, forced}
use Rattle.rules.specs.Limits.{option_open, ordering_open, whole_lower, whole_upper, option_kept_lower, option_kept_upper, option_dropped_lower, option_dropped_upper, ordering_kept_lower, ordering_kept_upper, ordering_dropped_lower, ordering_dropped_upper}
use Rattle.rules.specs.Sequence.{precedes, without, ready, kept_slots}
use Rattle.rules.specs.Best.{Answer}

-- ---- limits
pub record Limit : Type 0 where
  pub kept_lower : ℕ
  pub kept_upper : ℕ
  pub dropped_lower : ℕ
  pub dropped_upper : ℕ

-- "An item that is decided, by choice or by force, has four zeros in place of limits."
abbrev pub no_limit : Limit
no_limit = record { kept_lower = 0; kept_upper = 0; dropped_lower = 0; dropped_upper = 0 }

pub record Limits : Type 0 where
  pub contradiction : Bool
  pub decisions : List Decision
  pub lower : ℕ
  pub upper : ℕ
  pub options : List Limit
  pub orderings : List Limit

module _ (v : Subscription) (d : DecidedBySlot) where
  unfoldable pub option_limit : ℕ → Limit
  option_limit i = cond (option_open v d i)
      (record { kept_lower = option_kept_lower v d i; kept_upper = option_kept_upper v d i; dropped_lower = option_dropped_lower v d i; dropped_upper = option_dropped_upper v d i })
      no_limit

  unfoldable pub ordering_limit : ℕ → Limit
  ordering_limit u = cond (ordering_open v d u)
      (record { kept_lower = ordering_kept_lower v d u; kept_upper = ordering_kept_upper v d u; dropped_lower = ordering_dropped_lower v d u; dropped_upper = ordering_dropped_upper v d u })
      no_limit

-- A contradiction: "its decisions are then all open and its limits all zero."
abbrev pub contradictory : Lines → Limits
contradictory s = record {
  contradiction = true;
  decisions = all_open (items s);
  lower = 0;
  upper = 0;
  options = replicate (length s.options) no_limit;
  orderings = replicate (length s.orderings) no_limit;
}

abbrev pub limited : Lines → List Decision → Limits
limited s d = record {
  contradiction = false;
  decisions = forced s d;
  lower = whole_lower (subscription s) (decided_by_slot s d);
  upper = whole_upper (subscription s) (decided_by_slot s d);
  options = list_of (length s.options) (option_limit (subscription s) (decided_by_slot s d));
  orderings = list_of (length s.orderings) (ordering_limit (subscription s) (decided_by_slot s d));
}

unfoldable pub limits_of : Lines → List Decision → Limits
limits_of s d = cond (contradiction (subscription s) (decided_by_slot s d)) (contradictory s) (limited s d)

-- ---- sequence
module _ (v : Subscription) (c : KeptBySlot) where
  unfoldable pub lacks_an_option : ℕ → Bool
  lacks_an_option u = c.ordering u && not (c.option (v.first u) && c.option (v.second u))

  -- No option stands before itself.
  unfoldable pub acyclic : Bool
  acyclic = not (some_below v.option_count (λ i. through (precedes v c) (kept_slots v c) i i))

module _ (s : Lines) (r : List Bool) where
  unfoldable pub is_relaxation : Bool
  is_relaxation = eqb (length r) (items s) && not (some_below (length s.orderings) (lacks_an_option (subscription s) (kept_by_slot s r)))

  -- The test for 15: is r a consistent relaxation?
  unfoldable pub is_consistent : Bool
  is_consistent = is_relaxation && acyclic (subscription s) (kept_by_slot s r)

module _ (number : ℕ → ℕ) (e : ℕ → ℕ → Bool) where
  abbrev pub smaller_of : ℕ → Option ℕ → Option ℕ
  smaller_of x none = some x
  smaller_of x (some y) = some (cond (ltb (number y) (number x)) y x)

  abbrev pub if_ready : Bool → ℕ → Option ℕ → Option ℕ
  if_ready true x best = smaller_of x best
  if_ready false x best = best

  -- Of those in l that are ready, the one with the smallest number.
  unfoldable pub smallest_ready : List ℕ → List ℕ → Option ℕ
  smallest_ready left [] = none
  smallest_ready left (x ∷ l) = if_ready (ready e left x) x (smallest_ready left l)

  abbrev pub placed_first : Option ℕ → (ℕ → List ℕ) → List ℕ
  placed_first none rest = []
  placed_first (some x) rest = x ∷ rest x

  -- What can be placed of `left`, one after another; at most k places.
  unfoldable pub placed : ℕ → List ℕ → List ℕ
  placed zero left = []
  placed (suc k) left = placed_first (smallest_ready left left) (λ x. placed k (without x left))

-- The sequence as catalogue numbers.
unfoldable pub numbers_in_sequence : Lines → List Bool → List ℕ
numbers_in_sequence s r = map (subscription s).number (placed (subscription s).number (precedes (subscription s) (kept_by_slot s r)) (length s.options) (kept_slots (subscription s) (kept_by_slot s r)))

unfoldable pub sequence_of_choice : Lines → List Bool → Option (List ℕ)
sequence_of_choice s r = cond (is_consistent s r) (some (numbers_in_sequence s r)) none

abbrev pub sequence_if_full : Lines → Option (List Bool) → Option (List ℕ)
sequence_if_full s none = none
sequence_if_full s (some r) = sequence_of_choice s r

-- A sequence exactly for a full decision that is a consistent relaxation.
unfoldable pub sequence_of : Lines → List Decision → Option (List ℕ)
sequence_of s d = sequence_if_full s (full_choice d)

-- ---- the answer at tolerance 0
abbrev pub with_item : Bool → Option (List Bool) → Option (List Bool)
with_item b none = none
with_item b (some r) = some (b ∷ r)

-- The first of two if the second is not worth more.
abbrev pub better_of : (List Bool → ℕ) → Option (List Bool) → Option (List Bool) → Option (List Bool)
better_of worth none y = y
better_of worth (some a) none = some a
better_of worth (some a) (some b) = cond (leb (worth b) (worth a)) (some a) (some b)

-- Of all choices on n items that pass a test, in tie order, the first that is worth most.
unfoldable pub first_best : ℕ → (List Bool → Bool) → (List Bool → ℕ) → Option (List Bool)
first_best zero ok worth = cond (ok []) (some []) none
first_best (suc n) ok worth = better_of worth
    (with_item true (first_best n (λ r. ok (true ∷ r)) (λ r. worth (true ∷ r))))
    (with_item false (first_best n (λ r. ok (false ∷ r)) (λ r. worth (false ∷ r))))

abbrev or_nothing : Option (List Bool) → List Bool
or_nothing none = []
or_nothing (some r) = r

-- The best relaxation. (There always is one: dropping everything is consistent.)
unfoldable pub best_of : Lines → List Bool
best_of s = or_nothing (first_best (items s) (is_consistent s) (value_of s))

unfoldable pub best_value : Lines → ℕ
best_value s = value_of s (best_of s)

unfoldable pub answer_at_nought : Lines → Answer
answer_at_nought s = record { relaxation = best_of s; value = best_value s; ceiling = best_value s }
