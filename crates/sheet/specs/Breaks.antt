-- The rules of a well-shaped line's numbers as the requirements' table has them: what breaks each, and the place. `Judge` says
-- the same as a computation.
use Rattle.std.specs.Prelude.{ℕ, ◌≤◌, ◌<◌, ◌⊎◌, ◌≡◌, true, false, List}
use Rattle.shape.specs.declared.number.Numbers.{Numbers}
use Rattle.sheet.specs.Answer.{number_of}
use Rattle.sheet.specs.Judge.{is_in, is_pair}
use Rattle.sheet.specs.Limits.{largest_weight}
use Rattle.sheet.specs.Recorded.{OptionNumber}
use Rattle.sheet.specs.declared.judged.Judged.{Judged}
use Rattle.sheet.specs.declared.judged.Judged.TheVariants.{Fine, Broken}
use Rattle.sheet.specs.declared.answer.Refusal.{Refusal}
use Rattle.sheet.specs.declared.answer.Refusal.TheVariants.{OutsideRange, SubscribedTwice, OneOptionTwice, NotSubscribed, SamePairAgain}

-- `C a b` and `X a b`
pub data CatalogueBreaks (h : Numbers) : Refusal → ℕ → Type 0 where
  -- 5: option number outside its range; the number's first digit
  one_outside : (OptionNumber h.first → ⊥) → CatalogueBreaks h OutsideRange 3
  other_outside : (OptionNumber h.second → ⊥) → CatalogueBreaks h OutsideRange h.second_column
  -- 8: C or X names one option twice; second number
  names_one_twice : h.first ≡ h.second → CatalogueBreaks h OneOptionTwice h.second_column

-- `F a w`, after the options of the F lines before it
pub data OptionBreaks (h : Numbers) (subscribed : List ℕ) : Refusal → ℕ → Type 0 where
  -- 5: option number or weight outside its range; the number's first digit
  number_outside : (OptionNumber h.first → ⊥) → OptionBreaks h subscribed OutsideRange 3
  weight_outside : largest_weight < h.second → OptionBreaks h subscribed OutsideRange h.second_column
  -- 7: option subscribed twice; number on the later line
  subscribed_twice : is_in h.first subscribed ≡ true → OptionBreaks h subscribed SubscribedTwice 3

-- `U a b w`, with all subscribed options, after the pairs of the U lines before it
pub data OrderingBreaks (h : Numbers) (subscribed firsts seconds : List ℕ) : Refusal → ℕ → Type 0 where
  -- 5: option number or weight outside its range; the number's first digit
  first_outside : (OptionNumber h.first → ⊥) → OrderingBreaks h subscribed firsts seconds OutsideRange 3
  second_outside : (OptionNumber h.second → ⊥) → OrderingBreaks h subscribed firsts seconds OutsideRange h.second_column
  ordering_weight_outside : largest_weight < h.third → OrderingBreaks h subscribed firsts seconds OutsideRange h.third_column
  -- 8: U names one option twice; second number
  one_option_twice : h.first ≡ h.second → OrderingBreaks h subscribed firsts seconds OneOptionTwice h.second_column
  -- 9: U names an option not subscribed; first such number
  first_not_subscribed : is_in h.first subscribed ≡ false → OrderingBreaks h subscribed firsts seconds NotSubscribed 3
  second_not_subscribed : is_in h.second subscribed ≡ false → OrderingBreaks h subscribed firsts seconds NotSubscribed h.second_column
  -- 10: the same U pair again; later line, 1
  same_pair_again : is_pair h.first h.second firsts seconds ≡ true → OrderingBreaks h subscribed firsts seconds SamePairAgain 1

-- in one line the order is 5, 8, 7, 9, 10: that of the numbers, since no line has both 7 and 8; and the place is the first byte that
-- breaks a rule of that rank
abbrev pub NoLater : Refusal → ℕ → Refusal → ℕ → Type 0
NoLater k c k' c' = (number_of k < number_of k') ⊎ ((k ≡ k') × (c ≤ c'))

pub data FirstBroken (Breaks : Refusal → ℕ → Type 0) : Judged → Type 0 where
  none : ((k : Refusal) (c : ℕ) → Breaks k c → ⊥) → FirstBroken Breaks Fine
  one : {k : Refusal} {c : ℕ} → Breaks k c → ((k' : Refusal) (c' : ℕ) → Breaks k' c' → NoLater k c k' c') → FirstBroken Breaks (Broken k c)
