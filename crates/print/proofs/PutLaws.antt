-- Bytes one after the other into a buffer.
use Prim.Native.Nat.{ℕ, zero, suc, ◌+◌, ◌-◌, ◌/◌, ◌%◌, ◌≤◌, ◌<◌}
use mathlib.Core.Path.{◌≡◌, refl, sym, ap, ◌∙◌}
use mathlib.Core.List.{List, [], ◌∷◌, ◌++◌, append_assoc}
use native.Mathlib.Omega.{arith}
use lib.ListN.{length, drop, set, length-set, length-append}
use lib.Seq.{set_comm, set-append_seam}
use Rattle.shape.specs.LineText.{decimal, line_text}
use Rattle.print.specs.Put.{put}
use Rattle.shape.proofs.DigitLaws.{last_digits, digits_length}
use Rattle.shape.proofs.LengthLaws.{one_length, two_length, three_length}

pub put_none : (at : ℕ) (out : List ℕ) → put at [] out ≡ out
unfolding put
put_none at out = refl

pub put_more : (at b : ℕ) (l out : List ℕ) → put at (b ∷ l) out ≡ put (at + 1) l (set out at b)
unfolding put
put_more at b l out = refl

pub put_append : (at : ℕ) (l m out : List ℕ) → put at (l ++ m) out ≡ put (at + length l) m (put at l out)
unfolding put
put_append at [] m out =
    let e : at + 0 ≡ at = omega arith in
    rw e
put_append at (b ∷ l) m out =
    let e : at + suc (length l) ≡ at + 1 + length l = omega arith in
    rw e (put_append (at + 1) l m (set out at b))

pub put_length : (at : ℕ) (l out : List ℕ) → length (put at l out) ≡ length out
unfolding put
put_length at [] out = refl
put_length at (b ∷ l) out = put_length (at + 1) l (set out at b) ∙ length-set out at b

-- a store behind the bytes may come first
pub put_set : (at : ℕ) (l out : List ℕ) (j b : ℕ) → at + length l ≤ j → put at l (set out j b) ≡ set (put at l out) j b
unfolding put
put_set at [] out j b h = refl
put_set at (x ∷ l) out j b h =
    let n : j ≡ at → ⊥ = λ e. omega arith in
    ap (λ (o : List ℕ). put (at + 1) l o) (set_comm out j at b x n) ∙ put_set (at + 1) l (set out at x) j b (omega arith)

put_after : (before l after : List ℕ) (at : ℕ) → at ≡ length before → length l ≤ length after → put at l (before ++ after) ≡ before ++ (l ++ drop (length l) after)
unfolding put
put_after before [] after at e h = refl
put_after before (b ∷ l) [] at e h = absurd (omega arith)
put_after before (b ∷ l) (x ∷ after) at e h =
    let s : set (before ++ x ∷ after) at b ≡ (before ++ (b ∷ [])) ++ after
    = ap (λ (k : ℕ). set (before ++ x ∷ after) k b) e ∙ set-append_seam before x after b ∙ sym (append_assoc before (b ∷ []) after) in
    let k : at + 1 ≡ length (before ++ (b ∷ [])) = rw (length-append before (b ∷ [])) (omega arith) in
    ap (λ (o : List ℕ). put (at + 1) l o) s ∙ put_after (before ++ (b ∷ [])) l after (at + 1) k (omega arith) ∙ append_assoc before (b ∷ []) (l ++ drop (length l) after)

-- bytes at the start of a buffer, and every byte past them unchanged
pub put_whole : (l out : List ℕ) → length l ≤ length out → put 0 l out ≡ l ++ drop (length l) out
put_whole l out h = put_after [] l out 0 refl h

pub digits_done : (at n : ℕ) (out : List ℕ) (k : ℕ) → k ≤ 0 → put at (last_digits k n) out ≡ out
digits_done at n out zero h = put_none at out
digits_done at n out (suc k) h = absurd (omega arith)

-- the last of k digits first
pub digits_step : (at n : ℕ) (out : List ℕ) (k : ℕ) → 0 < k
    → put at (last_digits k n) out ≡ put at (last_digits (k - 1) (n / 10)) (set out (at + (k - 1)) (48 + n % 10))
unfolding put
digits_step at n out zero h = absurd (omega arith)
digits_step at n out (suc k) h =
    let z : suc k - 1 ≡ k = omega arith in
    let e : length (last_digits k (n / 10)) ≡ k = digits_length k (n / 10) in
    rw z (put_append at (last_digits k (n / 10)) ((48 + n % 10) ∷ []) out
    ∙ ap (λ (j : ℕ). set (put at (last_digits k (n / 10)) out) (at + j) (48 + n % 10)) e
    ∙ sym (put_set at (last_digits k (n / 10)) out (at + k) (48 + n % 10) (omega arith)))

-- a line of one, two or three numbers: how long it is, and field by field
pub one_put : (at c a p : ℕ) (o₀ o₂ : List ℕ) → o₂ ≡ put (at + 1) (32 ∷ decimal a) (set o₀ at c) → p ≡ at + 1 + 1 + length (decimal a)
    → (set o₂ p 10 ≡ put at (line_text c (a ∷ [])) o₀) × (p + 1 ≡ at + length (line_text c (a ∷ [])))
one_put at c a p o₀ o₂ e₂ ep =
    let k : at + 1 + suc (length (decimal a)) ≡ p = omega arith in (
      sym (put_more at c (32 ∷ decimal a ++ (10 ∷ [])) o₀
          ∙ put_append (at + 1) (32 ∷ decimal a) (10 ∷ []) (set o₀ at c)
          ∙ rw (k, ← e₂) (put_more p 10 [] o₂ ∙ put_none (p + 1) (set o₂ p 10))),
      omega (arith, one_length c a),
    )

module _ (at c a b p q : ℕ) (o₀ o₂ o₃ : List ℕ) (e₂ : o₂ ≡ put (at + 1) (32 ∷ decimal a) (set o₀ at c)) (ep : p ≡ at + 1 + 1 + length (decimal a))
    (e₃ : o₃ ≡ put p (32 ∷ decimal b) o₂) (eq : q ≡ p + 1 + length (decimal b)) where
  put_fields : (l : List ℕ) → put at (c ∷ 32 ∷ decimal a ++ (32 ∷ decimal b ++ l)) o₀ ≡ put q l o₃
  put_fields l =
      let k : at + 1 + suc (length (decimal a)) ≡ p = omega arith in
      let j : p + suc (length (decimal b)) ≡ q = omega arith in
      put_more at c (32 ∷ decimal a ++ (32 ∷ decimal b ++ l)) o₀
      ∙ put_append (at + 1) (32 ∷ decimal a) (32 ∷ decimal b ++ l) (set o₀ at c)
      ∙ rw (k, ← e₂) (put_append p (32 ∷ decimal b) l o₂ ∙ rw (j, ← e₃))

pub two_put : (at c a b p q : ℕ) (o₀ o₂ o₃ : List ℕ) → o₂ ≡ put (at + 1) (32 ∷ decimal a) (set o₀ at c) → p ≡ at + 1 + 1 + length (decimal a)
    → o₃ ≡ put p (32 ∷ decimal b) o₂ → q ≡ p + 1 + length (decimal b)
    → (set o₃ q 10 ≡ put at (line_text c (a ∷ b ∷ [])) o₀) × (q + 1 ≡ at + length (line_text c (a ∷ b ∷ [])))
two_put at c a b p q o₀ o₂ o₃ e₂ ep e₃ eq =
    (sym (put_fields at c a b p q o₀ o₂ o₃ e₂ ep e₃ eq (10 ∷ []) ∙ put_more q 10 [] o₃ ∙ put_none (q + 1) (set o₃ q 10)), omega (arith, two_length c a b))

pub three_put : (at c a b w p q r : ℕ) (o₀ o₂ o₃ o₄ : List ℕ) → o₂ ≡ put (at + 1) (32 ∷ decimal a) (set o₀ at c) → p ≡ at + 1 + 1 + length (decimal a)
    → o₃ ≡ put p (32 ∷ decimal b) o₂ → q ≡ p + 1 + length (decimal b)
    → o₄ ≡ put q (32 ∷ decimal w) o₃ → r ≡ q + 1 + length (decimal w)
    → (set o₄ r 10 ≡ put at (line_text c (a ∷ b ∷ w ∷ [])) o₀) × (r + 1 ≡ at + length (line_text c (a ∷ b ∷ w ∷ [])))
three_put at c a b w p q r o₀ o₂ o₃ o₄ e₂ ep e₃ eq e₄ er =
    let j : q + suc (length (decimal w)) ≡ r = omega arith in (
      sym (put_fields at c a b p q o₀ o₂ o₃ e₂ ep e₃ eq (32 ∷ decimal w ++ (10 ∷ []))
          ∙ put_append q (32 ∷ decimal w) (10 ∷ []) o₃
          ∙ rw (j, ← e₄) (put_more r 10 [] o₄ ∙ put_none (r + 1) (set o₄ r 10))),
      omega (arith, three_length c a b w),
    )
