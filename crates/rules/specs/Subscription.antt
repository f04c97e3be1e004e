-- A sheet by slots: what is said of each option and each ordering.
use Rattle.std.specs.Prelude.{◌≡◌, Bool, ℕ, ◌+◌, ◌<◌, length, get_or}
use Rattle.rules.specs.Lines.{Lines, OptionLine, OrderingLine, catalogue_puts_before, slot_of}

-- "A catalogue number, a slot on the sheet and a place in the sequence are three separate counts."
pub record Subscription : Type 0 where
  pub option_count : ℕ
  pub ordering_count : ℕ
  pub number : ℕ → ℕ  -- an option's catalogue number
  pub weight : ℕ → ℕ  -- an option's weight
  pub first : ℕ → ℕ  -- the slot of the option that an ordering puts first
  pub second : ℕ → ℕ  -- the slot of its second option
  pub ordering_weight : ℕ → ℕ
  pub before : ℕ → ℕ → Bool  -- the catalogue puts one slot's option before another's

abbrev no_option : OptionLine
no_option = record { number = 0; weight = 0 }

abbrev no_ordering : OrderingLine
no_ordering = record { first = 0; second = 0; weight = 0 }

unfoldable pub subscription : Lines → Subscription
subscription s = record {
  option_count = length s.options;
  ordering_count = length s.orderings;
  number = λ i. (get_or s.options i no_option).number;
  weight = λ i. (get_or s.options i no_option).weight;
  first = λ u. slot_of (get_or s.orderings u no_ordering).first s.options;
  second = λ u. slot_of (get_or s.orderings u no_ordering).second s.options;
  ordering_weight = λ u. (get_or s.orderings u no_ordering).weight;
  before = λ i j. catalogue_puts_before s.catalogue (get_or s.options i no_option).number (get_or s.options j no_option).number;
}

-- Options and orderings together.
abbrev pub items : Lines → ℕ
items s = length s.options + length s.orderings

-- What refusals 7, 8 and 9 leave: no option subscribed twice, an ordering names two different options, both subscribed.
pub record Proper (s : Lines) : Type 0 where
  pub numbers_differ : (i j : ℕ) → i < length s.options → j < length s.options → (subscription s).number i ≡ (subscription s).number j → i ≡ j
  pub ends_differ : (u : ℕ) → u < length s.orderings → (subscription s).first u ≡ (subscription s).second u → ⊥
  pub first_subscribed : (u : ℕ) → u < length s.orderings → (subscription s).first u < length s.options
  pub second_subscribed : (u : ℕ) → u < length s.orderings → (subscription s).second u < length s.options
