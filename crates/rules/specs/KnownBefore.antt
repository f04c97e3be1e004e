-- The kept items and what is known before what, on a half-decided sheet: 01's rules, then the same computed.
use Rattle.std.specs.Prelude.{◌≡◌, Bool, ◌&&◌, ◌||◌, ℕ, T, eqb}
use Rattle.rules.specs.Slots.{some_below, slots}
use Rattle.rules.specs.Joined.{Joined, through}
use Rattle.rules.specs.Subscription.{Subscription}
use Rattle.rules.specs.Decisions.{DecidedBySlot, is_kept}

module _ (v : Subscription) (d : DecidedBySlot) where
  -- No rule keeps an ordering: it is kept by choice.
  abbrev pub OrderingKept : ℕ → Type 0
  OrderingKept u = T (is_kept (d.ordering u))

  -- "A kept ordering keeps both its options."
  pub data OptionKept (i : ℕ) : Type 0 where
    given : T (is_kept (d.option i)) → OptionKept i
    first_of : (u : ℕ) → OrderingKept u → v.first u ≡ i → OptionKept i
    second_of : (u : ℕ) → OrderingKept u → v.second u ≡ i → OptionKept i

  -- "'known before' holds the catalogue precedences between subscribed options and the kept orderings;"
  pub data KnownFromTheStart (i j : ℕ) : Type 0 where
    catalogue : T (v.before i j) → KnownFromTheStart i j
    kept_ordering : (u : ℕ) → OrderingKept u → v.first u ≡ i → v.second u ≡ j → KnownFromTheStart i j

  -- "if a is known before b, b before c, and b is kept, then a is known before c."
  abbrev pub KnownBefore : ℕ → ℕ → Type 0
  KnownBefore = Joined KnownFromTheStart OptionKept

module _ (v : Subscription) where
  abbrev pub puts_first : ℕ → ℕ → ℕ → Bool
  puts_first u i j = eqb (v.first u) i && eqb (v.second u) j

  abbrev pub touches : ℕ → ℕ → Bool
  touches u i = eqb (v.first u) i || eqb (v.second u) i

module _ (v : Subscription) (d : DecidedBySlot) where
  unfoldable pub ordering_kept : ℕ → Bool
  ordering_kept u = is_kept (d.ordering u)

  unfoldable pub option_kept : ℕ → Bool
  option_kept i = is_kept (d.option i) || some_below v.ordering_count (λ u. ordering_kept u && touches v u i)

  unfoldable pub known_from_the_start : ℕ → ℕ → Bool
  known_from_the_start i j = v.before i j || some_below v.ordering_count (λ u. ordering_kept u && puts_first v u i j)

  unfoldable pub known_before : ℕ → ℕ → Bool
  known_before = through known_from_the_start (slots v.option_count option_kept)
