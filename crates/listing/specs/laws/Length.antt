-- How many bytes the S, D and R lines have.
use Rattle.std.specs.Prelude.{ℕ, zero, suc, ◌+◌, ◌*◌, ◌≤◌, ◌<◌, Bool, true, false, List, [], ◌∷◌, ◌++◌, length}
use Rattle.std.proofs.Common.{arith, length-append}
use Rattle.rules.specs.Slots.{slots, keep_if}
use Rattle.shape.specs.LineText.{line_text}
use Rattle.listing.specs.Listing.{each, unless}
use Rattle.shape.proofs.LengthLaws.{two_digits, three_digits, one_length, two_length}

-- ---- the longest line of each kind
pub place_line_short : (a b : ℕ) → a < 100 → b < 1000 → length (line_text 83 (a ∷ b ∷ [])) ≤ 9
place_line_short a b h k = let e = two_length 83 a b in let f = two_digits a h in let g = three_digits b k in omega arith

pub option_line_short : (a : ℕ) → a < 1000 → length (line_text 68 (a ∷ [])) ≤ 9
option_line_short a h = let e = one_length 68 a in let f = three_digits a h in omega arith

pub ordering_line_short : (a b : ℕ) → a < 1000 → b < 1000 → length (line_text 82 (a ∷ b ∷ [])) ≤ 10
ordering_line_short a b h k = let e = two_length 82 a b in let f = three_digits a h in let g = three_digits b k in omega arith

-- ---- many lines
pub unless_short : (b : Bool) (l : List ℕ) → length (unless b l) ≤ length l
unless_short true l = omega arith
unless_short false l = omega arith

pub nine_each : (n : ℕ) (f : ℕ → List ℕ) → ((i : ℕ) → i < n → length (f i) ≤ 9) → length (each n f) ≤ 9 * n
unfolding each
nine_each zero f h = omega arith
nine_each (suc n) f h = let e = length-append (each n f) (f n) in let g = nine_each n f (λ i l. h i (omega arith)) in let k = h n (omega arith) in omega arith

pub ten_each : (n : ℕ) (f : ℕ → List ℕ) → ((i : ℕ) → i < n → length (f i) ≤ 10) → length (each n f) ≤ 10 * n
unfolding each
ten_each zero f h = omega arith
ten_each (suc n) f h = let e = length-append (each n f) (f n) in let g = ten_each n f (λ i l. h i (omega arith)) in let k = h n (omega arith) in omega arith

-- An option has a line of a place or one of its own, and no option has both.
pub nine_kept_or_dropped : (n : ℕ) (kept : ℕ → Bool) (f : ℕ → List ℕ) → ((i : ℕ) → i < n → length (f i) ≤ 9) → 9 * length (slots n kept) + length (each n (λ i. unless (kept i) (f i))) ≤ 9 * n
unfolding each slots
nine_kept_or_dropped zero kept f h = omega arith
nine_kept_or_dropped (suc n) kept f h = go (kept n) (nine_kept_or_dropped n kept f (λ i l. h i (omega arith))) (h n (omega arith))
  where
    go : (b : Bool) → 9 * length (slots n kept) + length (each n (λ i. unless (kept i) (f i))) ≤ 9 * n → length (f n) ≤ 9
        → 9 * length (keep_if b n (slots n kept)) + length (each n (λ i. unless (kept i) (f i)) ++ unless b (f n)) ≤ 9 * suc n
    go true a k = let e = length-append (each n (λ i. unless (kept i) (f i))) [] in omega arith
    go false a k = let e = length-append (each n (λ i. unless (kept i) (f i))) (f n) in omega arith
