-- The record's rule: what is true of a record exactly if some accepted sheet gives it. Entries count from 0, so that entry i
-- is slot i + 1.
use Rattle.std.specs.Prelude.{ℕ, ◌≤◌, ◌<◌, ◌⊎◌, ◌≡◌, length, get_or}
use Rattle.sheet.specs.Limits.{catalogue_limit, option_limit, ordering_limit, largest_option, largest_weight}
use Rattle.sheet.specs.declared.sheet.Sheet.{Sheet}

-- option numbers 1 to 250
abbrev pub OptionNumber : ℕ → Type 0
OptionNumber a = (1 ≤ a) × (a ≤ largest_option)

-- C or X
abbrev pub CatalogueLetter : ℕ → Type 0
CatalogueLetter c = (c ≡ 67) ⊎ (c ≡ 88)

-- what a record holds for its lines
module _ (s : Sheet) where
  abbrev pub letter : ℕ → ℕ
  letter i = get_or s.letters i 0

  abbrev pub before : ℕ → ℕ
  before i = get_or s.befores i 0

  abbrev pub after : ℕ → ℕ
  after i = get_or s.afters i 0

  abbrev pub number : ℕ → ℕ
  number i = get_or s.numbers i 0

  abbrev pub weight : ℕ → ℕ
  weight i = get_or s.weights i 0

  abbrev pub first : ℕ → ℕ
  first i = get_or s.firsts i 0

  abbrev pub second : ℕ → ℕ
  second i = get_or s.seconds i 0

  abbrev pub ordering_weight : ℕ → ℕ
  ordering_weight i = get_or s.ordering_weights i 0

-- option a is subscribed
abbrev pub Subscribed : Sheet → ℕ → Type 0
Subscribed s a = (i : ℕ) × ((i < s.option_count) × (number s i ≡ a))

-- the lengths of a record's arrays
pub record Lengths (s : Sheet) : Type 0 where
  pub letters : length s.letters ≡ catalogue_limit
  pub befores : length s.befores ≡ catalogue_limit
  pub afters : length s.afters ≡ catalogue_limit
  pub numbers : length s.numbers ≡ option_limit
  pub weights : length s.weights ≡ option_limit
  pub firsts : length s.firsts ≡ ordering_limit
  pub seconds : length s.seconds ≡ ordering_limit
  pub ordering_weights : length s.ordering_weights ≡ ordering_limit

-- unused entries are zero
pub record UnusedZero (s : Sheet) : Type 0 where
  pub catalogue : (i : ℕ) → s.catalogue_lines ≤ i → (letter s i ≡ 0) × ((before s i ≡ 0) × (after s i ≡ 0))
  pub options : (i : ℕ) → s.option_count ≤ i → (number s i ≡ 0) × (weight s i ≡ 0)
  pub orderings : (i : ℕ) → s.ordering_count ≤ i → (first s i ≡ 0) × ((second s i ≡ 0) × (ordering_weight s i ≡ 0))

pub record Recorded (s : Sheet) : Type 0 where
  pub few_catalogue : s.catalogue_lines ≤ catalogue_limit
  pub few_options : s.option_count ≤ option_limit
  pub few_orderings : s.ordering_count ≤ ordering_limit
  pub lengths : Lengths s
  pub letters : (i : ℕ) → i < s.catalogue_lines → CatalogueLetter (letter s i)
  pub catalogue : (i : ℕ) → i < s.catalogue_lines → OptionNumber (before s i) × (OptionNumber (after s i) × (before s i ≡ after s i → ⊥))
  pub options : (i : ℕ) → i < s.option_count → OptionNumber (number s i) × (weight s i ≤ largest_weight)
  pub distinct : (i j : ℕ) → i < s.option_count → j < s.option_count → number s i ≡ number s j → i ≡ j
  pub subscribed : (k : ℕ) → k < s.ordering_count → Subscribed s (first s k) × Subscribed s (second s k)
  pub ends_differ : (k : ℕ) → k < s.ordering_count → first s k ≡ second s k → ⊥
  pub ordering_weights : (k : ℕ) → k < s.ordering_count → ordering_weight s k ≤ largest_weight
  pub pairs_once : (j k : ℕ) → j < s.ordering_count → k < s.ordering_count → first s j ≡ first s k → second s j ≡ second s k → j ≡ k
  pub unused : UnusedZero s
