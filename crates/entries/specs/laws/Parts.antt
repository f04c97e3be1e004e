-- One entry more, and how many numbers there are.
use Rattle.std.specs.Prelude.{ℕ, zero, suc, ◌+◌, ◌*◌, ◌≡◌, refl, length}
use Rattle.std.proofs.Common.{sym, ap, ◌∙◌, arith, mul-suc, add-one, length-append}
use mathlib.Core.List.{List, [], flatten, ◌++◌, append_assoc, append-nil}
use Rattle.rules.specs.Slots.{list_of}
use Rattle.entries.specs.Parts.{parts}

pub parts_none : (g : ℕ → List ℕ) → parts 0 g ≡ []
unfolding list_of flatten
parts_none g = refl

pub parts_more : (n : ℕ) (g : ℕ → List ℕ) → parts (suc n) g ≡ parts n g ++ g n
unfolding list_of flatten
parts_more zero g = append-nil (g 0)
parts_more (suc n) g = ap (λ l. g 0 ++ l) (parts_more n (λ i. g (suc i))) ∙ sym (append_assoc (g 0) (parts n (λ i. g (suc i))) (g (suc n)))

pub parts_next : (n : ℕ) (g : ℕ → List ℕ) → parts (n + 1) g ≡ parts n g ++ g n
parts_next n g = rw (add-one n) (parts_more n g)

-- w numbers for each entry.
pub parts_length : (w n : ℕ) (g : ℕ → List ℕ) → ((i : ℕ) → length (g i) ≡ w) → length (parts n g) ≡ w * n
parts_length w zero g h = ap length (parts_none g) ∙ omega arith
parts_length w (suc n) g h =
    let d = ap length (parts_more n g) in
    let e = length-append (parts n g) (g n) in
    let k = parts_length w n g h in
    let l = h n in
    let m : w * suc n ≡ w * n + w = mul-suc w n in
    omega arith
