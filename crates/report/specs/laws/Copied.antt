-- A copy, byte by byte.
use Rattle.std.specs.Prelude.{ℕ, suc, ◌+◌, ◌≤◌, ◌<◌, ◌≡◌, List, [], ◌∷◌, ◌++◌, length, get_or, take, drop, set}
use Rattle.std.proofs.Common.{sym, ap, subst, ◌∙◌, append_assoc, arith, le_antisymm, add-one, length-set, length-take-le, take-suc, drop-cons}
use Rattle.std.proofs.lemmas.List.{set_at}

-- The first i bytes are copied, and the others are as they were.
abbrev pub Copied : List ℕ → List ℕ → ℕ → ℕ → List ℕ → Type 0
Copied page before n i out = (i ≤ n) × ((length out ≡ length before) × (out ≡ take i page ++ drop i before))

pub copied_next : (page before : List ℕ) (n i : ℕ) (out : List ℕ) → i < n → n ≤ length page → n ≤ length before → Copied page before n i out → Copied page before n (i + 1) (set out i (get_or page i 0))
copied_next page before n i out l h k (a, (b, e)) = (
  omega arith,
  (
    length-set out i (get_or page i 0) ∙ b,
    rw (add-one i)
        (ap (λ z. set z i (get_or page i 0)) (e ∙ ap (λ z. take i page ++ z) (drop-cons before i 0 (omega arith)))
        ∙ set_at (take i page) (get_or before i 0) (drop (suc i) before) (get_or page i 0) i (length-take-le i page (omega arith))
        ∙ sym (ap (λ z. z ++ drop (suc i) before) (take-suc page i 0 (omega arith)) ∙ append_assoc (take i page) (get_or page i 0 ∷ []) (drop (suc i) before))),
  ),
)

pub copied_all : (page before : List ℕ) (n i : ℕ) (out : List ℕ) → Copied page before n i out → n ≤ i → out ≡ take n page ++ drop n before
copied_all page before n i out (a, (b, e)) h = subst (λ z. out ≡ take z page ++ drop z before) (le_antisymm a h) e
