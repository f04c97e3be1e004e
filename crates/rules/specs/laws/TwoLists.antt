-- A list made slot by slot in two parts, as a decision list is: options first, then orderings.
use Rattle.std.specs.Prelude.{◌≡◌, refl, cond, List, [], ◌∷◌, ◌++◌, ℕ, zero, suc, ◌+◌, ◌<◌, get_or, set, eqb}
use Rattle.std.proofs.Common.{sym, ap, ◌∙◌, le_of_suc-le-suc, arith, ne_eqb}
use Rattle.std.proofs.Math.Dec.{eqb-suc-suc}
use Rattle.rules.specs.Slots.{list_of}
use Rattle.rules.specs.laws.Slots.{getD_list_of, list_of_same}

-- f with w at slot i.
abbrev pub changed_at : {A : Type 0} → ℕ → A → (ℕ → A) → ℕ → A
changed_at i w f j = cond (eqb i j) w (f j)

-- ---- what stands at a slot
pub getD_first : {A : Type 0} (n : ℕ) (f : ℕ → A) (rest : List A) (z : A) (i : ℕ) → i < n → get_or (list_of n f ++ rest) i z ≡ f i
unfolding list_of
getD_first zero f rest z i l = absurd (omega arith)
getD_first (suc n) f rest z zero l = refl
getD_first (suc n) f rest z (suc i) l = getD_first n (λ j. f (suc j)) rest z i (le_of_suc-le-suc l)

pub getD_past : {A : Type 0} (n : ℕ) (f : ℕ → A) (rest : List A) (z : A) (u : ℕ) → get_or (list_of n f ++ rest) (n + u) z ≡ get_or rest u z
unfolding list_of
getD_past zero f rest z u = let q : 0 + u ≡ u = omega arith in ap (λ k. get_or rest k z) q
getD_past (suc n) f rest z u = let q : suc n + u ≡ suc (n + u) = omega arith in ap (λ k. get_or (f 0 ∷ (list_of n (λ j. f (suc j)) ++ rest)) k z) q ∙ getD_past n (λ j. f (suc j)) rest z u

pub getD_second : {A : Type 0} (n m : ℕ) (f h : ℕ → A) (z : A) (u : ℕ) → u < m → get_or (list_of n f ++ list_of m h) (n + u) z ≡ h u
getD_second n m f h z u l = getD_past n f (list_of m h) z u ∙ getD_list_of m h z u l

-- ---- a change at a slot
pub set_first : {A : Type 0} (n : ℕ) (f : ℕ → A) (rest : List A) (w : A) (i : ℕ) → i < n → set (list_of n f ++ rest) i w ≡ list_of n (changed_at i w f) ++ rest
unfolding list_of
set_first zero f rest w i l = absurd (omega arith)
set_first (suc n) f rest w zero l = ap (λ t. w ∷ (t ++ rest)) (list_of_same n (λ j. f (suc j)) (λ j. changed_at 0 w f (suc j)) (λ j k. ap (λ b. cond b w (f (suc j))) (sym (ne_eqb 0 (suc j) (λ e. absurd (omega arith))))))
set_first (suc n) f rest w (suc i) l =
    ap (λ t. f 0 ∷ t) (set_first n (λ j. f (suc j)) rest w i (le_of_suc-le-suc l) ∙ ap (λ t. t ++ rest) (list_of_same n _ _ (λ j k. ap (λ b. cond b w (f (suc j))) (sym (eqb-suc-suc i j)))))
    ∙ ap (λ b. cond b w (f 0) ∷ (list_of n (λ j. changed_at (suc i) w f (suc j)) ++ rest)) (sym (ne_eqb (suc i) 0 (λ e. absurd (omega arith))))

set_past : {A : Type 0} (n : ℕ) (f : ℕ → A) (rest : List A) (w : A) (u : ℕ) → set (list_of n f ++ rest) (n + u) w ≡ list_of n f ++ set rest u w
unfolding list_of
set_past zero f rest w u = let q : 0 + u ≡ u = omega arith in ap (λ k. set rest k w) q
set_past (suc n) f rest w u = let q : suc n + u ≡ suc (n + u) = omega arith in ap (λ k. set (f 0 ∷ (list_of n (λ j. f (suc j)) ++ rest)) k w) q ∙ ap (λ t. f 0 ∷ t) (set_past n (λ j. f (suc j)) rest w u)

append_nothing : {A : Type 0} (l : List A) → l ++ [] ≡ l
append_nothing [] = refl
append_nothing (x ∷ l) = ap (λ z. x ∷ z) (append_nothing l)

pub set_second : {A : Type 0} (n m : ℕ) (f h : ℕ → A) (w : A) (u : ℕ) → u < m → set (list_of n f ++ list_of m h) (n + u) w ≡ list_of n f ++ list_of m (changed_at u w h)
set_second n m f h w u l = set_past n f (list_of m h) w u
    ∙ ap (λ t. list_of n f ++ t) (ap (λ t. set t u w) (sym (append_nothing (list_of m h))) ∙ set_first m h [] w u l ∙ append_nothing (list_of m (changed_at u w h)))
