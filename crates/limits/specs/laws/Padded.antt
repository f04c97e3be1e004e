-- Lists of the rules, padded, are the lists that the code fills.
use Rattle.std.specs.Prelude.{◌≡◌, refl, List, [], ◌∷◌, map, ℕ, zero, suc, ◌<◌, ◌≤◌, length, get_or, replicate, take, drop}
use Rattle.std.proofs.Common.{sym, ap, ◌∙◌, arith}
use Rattle.rules.specs.Slots.{list_of}
use Rattle.rules.specs.Decisions.{all_open}
use Rattle.given.specs.Given.{undecided, choice_of}
use Rattle.given.specs.Filled.{filled}
use Rattle.limits.specs.Answer.{padded}
use Rattle.rules.specs.Decisions as R

-- What a list of k entries is, entry by entry.
pub filled_by : {A : Type 0} (k n : ℕ) (f : ℕ → A) (z : A) (l : List A) → length l ≡ k → ((i : ℕ) → i < n → get_or l i z ≡ f i) → ((i : ℕ) → n ≤ i → get_or l i z ≡ z) → n ≤ k → l ≡ filled k n f z
unfolding filled
filled_by zero n f z [] e below above h = refl
filled_by zero n f z (x ∷ l) e below above h = absurd (omega arith)
filled_by (suc k) n f z [] e below above h = absurd (omega arith)
filled_by (suc k) zero f z (x ∷ l) e below above h =
    rw (above 0 (omega arith)) (ap (λ w. z ∷ w) (filled_by k zero f z l (omega arith) (λ i b. absurd (omega arith)) (λ i b. above (suc i) (omega arith)) (omega arith)))
filled_by (suc k) (suc n) f z (x ∷ l) e below above h =
    rw (below 0 (omega arith)) (ap (λ w. f 0 ∷ w) (filled_by k n (λ i. f (suc i)) z l (omega arith) (λ i b. below (suc i) (omega arith)) (λ i b. above (suc i) (omega arith)) (omega arith)))

pub filled_padded : {A : Type 0} (k n : ℕ) (f : ℕ → A) (z : A) → filled k n f z ≡ padded k (list_of n f) z
unfolding filled padded list_of
filled_padded zero n f z = refl
filled_padded (suc k) zero f z = ap (λ l. z ∷ l) (filled_padded k zero f z)
filled_padded (suc k) (suc n) f z = ap (λ l. f 0 ∷ l) (filled_padded k n (λ i. f (suc i)) z)

pub map_list_of : {A B : Type 0} (g : A → B) (n : ℕ) (f : ℕ → A) → map g (list_of n f) ≡ list_of n (λ i. g (f i))
unfolding list_of
map_list_of g zero f = refl
map_list_of g (suc n) f = ap (λ l. g (f 0) ∷ l) (map_list_of g n (λ i. f (suc i)))

-- Every entry the same.
padded_none : {A : Type 0} (k : ℕ) (z : A) → replicate k z ≡ padded k [] z
unfolding padded
padded_none zero z = refl
padded_none (suc k) z = ap (λ l. z ∷ l) (padded_none k z)

pub padded_same : {A B : Type 0} (g : A → B) (k n : ℕ) (x : A) → replicate k (g x) ≡ padded k (map g (replicate n x)) (g x)
unfolding padded
padded_same g zero n x = refl
padded_same g (suc k) zero x = ap (λ l. g x ∷ l) (padded_none k (g x))
padded_same g (suc k) (suc n) x = ap (λ l. g x ∷ l) (padded_same g k n x)

-- ---- what is all open
open_list : (k j : ℕ) → replicate k undecided ≡ padded k (map choice_of (all_open j)) undecided
unfolding padded
open_list zero j = refl
open_list (suc k) zero = ap (λ l. undecided ∷ l) (padded_none k undecided)
open_list (suc k) (suc j) = ap (λ l. undecided ∷ l) (open_list k j)

take_open : (n j : ℕ) → (i : ℕ) × (take n (all_open j) ≡ all_open i)
take_open zero j = (0, refl)
take_open (suc n) zero = (0, refl)
take_open (suc n) (suc j) = let (i, e) = take_open n j in (suc i, ap (λ l. R.Open ∷ l) e)

drop_open : (n j : ℕ) → (i : ℕ) × (drop n (all_open j) ≡ all_open i)
drop_open zero j = (j, refl)
drop_open (suc n) zero = (0, refl)
drop_open (suc n) (suc j) = drop_open n j

pub taken_open : (k n j : ℕ) → replicate k undecided ≡ padded k (map choice_of (take n (all_open j))) undecided
taken_open k n j = let (i, e) = take_open n j in open_list k i ∙ ap (λ l. padded k (map choice_of l) undecided) (sym e)

pub dropped_open : (k n j : ℕ) → replicate k undecided ≡ padded k (map choice_of (drop n (all_open j))) undecided
dropped_open k n j = let (i, e) = drop_open n j in open_list k i ∙ ap (λ l. padded k (map choice_of l) undecided) (sym e)
