-- What is written into zeros, place by place, is the list with zeros past its end.
use Rattle.std.specs.Prelude.{◌≡◌, refl, List, [], ◌∷◌, ◌++◌, ℕ, zero, suc, ◌+◌, ◌≤◌, length, set, replicate}
use Rattle.std.proofs.Common.{sym, ap, ◌∙◌, le_of_suc-le-suc, arith}
use Rattle.placing.specs.Next.{number, written}
use Rattle.sequence.specs.Padded.{places_of}
use Rattle.sheet.specs.declared.count.Number.{Number}

zeros_padded : (k : ℕ) → replicate k (number 0) ≡ places_of k []
unfolding places_of
zeros_padded zero = refl
zeros_padded (suc k) = ap (λ l. number 0 ∷ l) (zeros_padded k)

set_past : (front : List Number) (k : ℕ) (x : Number) → set (front ++ (number 0 ∷ replicate k (number 0))) (length front) x ≡ (front ++ (x ∷ [])) ++ replicate k (number 0)
set_past [] k x = refl
set_past (y ∷ front) k x = ap (λ l. y ∷ l) (set_past front k x)

length_more : (front : List Number) (x : Number) → length (front ++ (x ∷ [])) ≡ length front + 1
length_more [] x = refl
length_more (y ∷ front) x = let h = length_more front x in omega arith

append_more : (front : List Number) (x : Number) (l : List Number) → (front ++ (x ∷ [])) ++ l ≡ front ++ (x ∷ l)
append_more [] x l = refl
append_more (y ∷ front) x l = ap (λ z. y ∷ z) (append_more front x l)

written_after : (front : List Number) (k : ℕ) (l : List ℕ) → length l ≤ k → written (front ++ replicate k (number 0)) (length front) l ≡ front ++ places_of k l
unfolding written places_of
written_after front k [] h = ap (λ z. front ++ z) (zeros_padded k)
written_after front zero (a ∷ l) h = absurd (omega arith)
written_after front (suc k) (a ∷ l) h =
    ap (λ z. written z (length front + 1) l) (set_past front k (number a)) ∙ ap (λ z. written ((front ++ (number a ∷ [])) ++ replicate k (number 0)) z l) (sym (length_more front (number a)))
    ∙ written_after (front ++ (number a ∷ [])) k l (le_of_suc-le-suc h) ∙ append_more front (number a) (places_of k l)

pub written_padded : (k : ℕ) (l : List ℕ) → length l ≤ k → written (replicate k (number 0)) 0 l ≡ places_of k l
written_padded k l h = written_after [] k l h

pub zeros_are_padded : (k : ℕ) → replicate k (number 0) ≡ places_of k []
zeros_are_padded k = zeros_padded k
