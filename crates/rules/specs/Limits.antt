-- The limits of a half-decided sheet: the letters of 01 and its table, cell by cell.
use Rattle.std.specs.Prelude.{Bool, not, ◌&&◌, ◌||◌, ℕ, ◌+◌, ◌-◌, eqb}
use Rattle.rules.specs.Slots.{sum, over}
use Rattle.rules.specs.Subscription.{Subscription}
use Rattle.rules.specs.Decisions.{DecidedBySlot}
use Rattle.rules.specs.KnownBefore.{touches, ordering_kept, option_kept, known_before}
use Rattle.rules.specs.Forced.{option_dropped, ordering_dropped}

module _ (v : Subscription) where
  -- The weight of the options that pass one test and of the orderings that pass another: "all sums over distinct items".
  abbrev pub weight_of : (ℕ → Bool) → (ℕ → Bool) → ℕ
  weight_of p q = over v.option_count v.weight p + over v.ordering_count v.ordering_weight q

module _ (v : Subscription) (d : DecidedBySlot) where
  abbrev pub option_open : ℕ → Bool
  option_open i = not (option_kept v d i || option_dropped v d i)

  abbrev pub ordering_open : ℕ → Bool
  ordering_open u = not (ordering_kept v d u || ordering_dropped v d u)

  -- "M is the weight of everything,"
  unfoldable pub M : ℕ
  M = sum v.option_count v.weight + sum v.ordering_count v.ordering_weight

  -- "K of what is kept,"
  unfoldable pub K : ℕ
  K = weight_of v (option_kept v d) (ordering_kept v d)

  -- "D of what is dropped."
  unfoldable pub D : ℕ
  D = weight_of v (option_dropped v d) (ordering_dropped v d)

  -- "Two different options clash if each is known before the other."
  unfoldable pub clash : ℕ → ℕ → Bool
  clash i j = not (eqb i j) && (known_before v d i j && known_before v d j i)

  -- The open options among some, and the open orderings touching one of these.
  abbrev pub open_option_of : (ℕ → Bool) → ℕ → Bool
  open_option_of p j = option_open j && p j

  abbrev pub open_ordering_touching : (ℕ → Bool) → ℕ → Bool
  open_ordering_touching p u = ordering_open u && (open_option_of p (v.first u) || open_option_of p (v.second u))

  abbrev pub weight_with_orderings : (ℕ → Bool) → ℕ
  weight_with_orderings p = weight_of v (open_option_of p) (open_ordering_touching p)

  -- "A is the weight of the open options that clash with i and of the open orderings touching one of these."
  unfoldable pub A : ℕ → ℕ
  A i = weight_with_orderings (λ j. clash i j)

  -- "B is the weight of i and of the open orderings touching i."
  unfoldable pub B : ℕ → ℕ
  B i = weight_of v (λ j. eqb i j) (λ u. ordering_open u && touches v u i)

  -- "E is like A, for the options that clash with either end."
  unfoldable pub E : ℕ → ℕ
  E u = weight_with_orderings (λ j. clash (v.first u) j || clash (v.second u) j)

  -- "For the whole sheet the limits are K and M − D."
  unfoldable pub whole_lower : ℕ
  whole_lower = K

  unfoldable pub whole_upper : ℕ
  whole_upper = M - D

  -- | open option i | K + weight of i | M − D − A | K | M − D − B |
  unfoldable pub option_kept_lower : ℕ → ℕ
  option_kept_lower i = K + v.weight i

  unfoldable pub option_kept_upper : ℕ → ℕ
  option_kept_upper i = M - D - A i

  unfoldable pub option_dropped_lower : ℕ → ℕ
  option_dropped_lower i = K

  unfoldable pub option_dropped_upper : ℕ → ℕ
  option_dropped_upper i = M - D - B i

  -- | open ordering | K + its weight + weights of its open options | M − D − E | K | M − D − its weight |
  unfoldable pub ordering_kept_lower : ℕ → ℕ
  ordering_kept_lower u = K + v.ordering_weight u + over v.option_count v.weight (λ j. option_open j && touches v u j)

  unfoldable pub ordering_kept_upper : ℕ → ℕ
  ordering_kept_upper u = M - D - E u

  unfoldable pub ordering_dropped_lower : ℕ → ℕ
  ordering_dropped_lower u = K

  unfoldable pub ordering_dropped_upper : ℕ → ℕ
  ordering_dropped_upper u = M - D - v.ordering_weight u
