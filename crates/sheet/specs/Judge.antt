-- The rules of a well-shaped line's numbers, computed: in one line the order is 5, 8, 7, 9, 10 (4, its shape, comes before), and the
-- place is the first byte that breaks a rule of that rank. `Breaks` has the same rules one by one. A line's first number stands in
-- column 3, after the letter and a space; where the others begin, `Numbers` says.
use Rattle.std.specs.Prelude.{ℕ, Bool, false, cond, ◌&&◌, ◌||◌, List, [], ◌∷◌, eqb, ltb}
use Rattle.shape.specs.declared.number.Numbers.{Numbers}
use Rattle.sheet.specs.Limits.{largest_option, largest_weight}
use Rattle.sheet.specs.declared.judged.Judged.{Judged}
use Rattle.sheet.specs.declared.judged.Judged.TheVariants.{Fine, Broken}
use Rattle.sheet.specs.declared.answer.Refusal.TheVariants.{OutsideRange, SubscribedTwice, OneOptionTwice, NotSubscribed, SamePairAgain}

-- x is one of the entries
abbrev pub is_in : ℕ → List ℕ → Bool
is_in x [] = false
is_in x (y ∷ l) = eqb y x || is_in x l

-- x and y stand at one place of the two lists
abbrev pub is_pair : ℕ → ℕ → List ℕ → List ℕ → Bool
is_pair x y [] m = false
is_pair x y (a ∷ l) [] = false
is_pair x y (a ∷ l) (b ∷ m) = (eqb a x && eqb b y) || is_pair x y l m

-- 5, of an option number: outside its range, 1 to 250; weights have 0 to 9,999
abbrev pub no_option : ℕ → Bool
no_option x = eqb x 0 || ltb largest_option x

-- `C a b` and `X a b`. 5: a, then b, outside its range; the number's first digit. 8: C or X names one option twice; second number
abbrev pub judge_catalogue_line : Numbers → Judged
judge_catalogue_line h =
    cond (no_option h.first) (Broken OutsideRange 3)
    (cond (no_option h.second) (Broken OutsideRange h.second_column)
    (cond (eqb h.first h.second) (Broken OneOptionTwice h.second_column)
    Fine))

-- `F a w`, after the options of the F lines before it. 5: a, then w, outside its range; the number's first digit. 7: option
-- subscribed twice; number on the later line, which is this one
abbrev pub judge_option : Numbers → List ℕ → Judged
judge_option h subscribed =
    cond (no_option h.first) (Broken OutsideRange 3)
    (cond (ltb largest_weight h.second) (Broken OutsideRange h.second_column)
    (cond (is_in h.first subscribed) (Broken SubscribedTwice 3)
    Fine))

-- `U a b w`, with all subscribed options, after the pairs of the U lines before it. 9: U names an option not subscribed; first such
-- number. 10: the same U pair again; later line, which is this one, 1
abbrev pub judge_pair : Numbers → List ℕ → List ℕ → List ℕ → Judged
judge_pair h subscribed firsts seconds =
    cond (is_in h.first subscribed)
    (cond (is_in h.second subscribed)
    (cond (is_pair h.first h.second firsts seconds) (Broken SamePairAgain 1) Fine)
    (Broken NotSubscribed h.second_column))
    (Broken NotSubscribed 3)

-- the same line from its first rule on. 5: a, then b, then w, outside its range; the number's first digit. 8: U names one option
-- twice; second number. Then 9 and 10
abbrev pub judge_ordering : Numbers → List ℕ → List ℕ → List ℕ → Judged
judge_ordering h subscribed firsts seconds =
    cond (no_option h.first) (Broken OutsideRange 3)
    (cond (no_option h.second) (Broken OutsideRange h.second_column)
    (cond (ltb largest_weight h.third) (Broken OutsideRange h.third_column)
    (cond (eqb h.first h.second) (Broken OneOptionTwice h.second_column)
    (judge_pair h subscribed firsts seconds))))
