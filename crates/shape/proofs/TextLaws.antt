-- A well-shaped line is the text of its letter and its numbers.
use Prim.Native.Nat.{ℕ, ◌+◌, ◌<◌}
use mathlib.Core.Path.{◌≡◌, sym, ap, ◌∙◌}
use mathlib.Core.List.{List, [], ◌∷◌, ◌++◌, append_assoc}
use native.Mathlib.Omega.{arith}
use lib.ListN.{length, drop}
use lib.Seq.{drop-drop, drop-append-add}
use Rattle.shape.specs.Number.{number_value, number_width, numbers_of}
use Rattle.shape.specs.LineText.{decimal, line_text}
use Rattle.shape.specs.Grammar.{Numeral, Fields, Fields.end, Fields.field}
use Rattle.shape.proofs.DecimalLaws.{number_text}

field_step : (pre : ℕ) (text a : List ℕ) (c : ℕ) (y : List ℕ) → drop pre text ≡ a ++ c ∷ y → Numeral a → c < 48
    → (a ≡ decimal (number_value 5 0 (drop pre text))) × (drop (pre + number_width 5 (drop pre text) + 1) text ≡ y)
field_step pre text a c y e n lo =
    let t = number_text a c y n lo in
    let w : number_width 5 (drop pre text) ≡ length a = ap (λ (l : List ℕ). number_width 5 l) e ∙ t.1 in
    let k : pre + number_width 5 (drop pre text) + 1 ≡ pre + (length a + 1) = omega arith in (
      t.0 ∙ ap (λ (l : List ℕ). decimal (number_value 5 0 l)) (sym e),
      ap (λ (i : ℕ). drop i text) k ∙ sym (drop-drop (length a + 1) pre text) ∙ ap (λ (l : List ℕ). drop (length a + 1) l) e ∙ drop-append-add a (c ∷ y) 1,
    )

two_same : (c : ℕ) {a a' b b' : List ℕ} → a ≡ a' → b ≡ b' → ◌≡◌ {A = List ℕ} (c ∷ 32 ∷ a ++ (32 ∷ b ++ (10 ∷ []))) (c ∷ 32 ∷ a' ++ (32 ∷ b' ++ (10 ∷ [])))
two_same c p q = λ i. c ∷ 32 ∷ p i ++ (32 ∷ q i ++ (10 ∷ []))

three_same : (c : ℕ) {a a' b b' d d' : List ℕ} → a ≡ a' → b ≡ b' → d ≡ d'
    → ◌≡◌ {A = List ℕ} (c ∷ 32 ∷ a ++ (32 ∷ b ++ (32 ∷ d ++ (10 ∷ [])))) (c ∷ 32 ∷ a' ++ (32 ∷ b' ++ (32 ∷ d' ++ (10 ∷ []))))
three_same c p q r = λ i. c ∷ 32 ∷ p i ++ (32 ∷ q i ++ (32 ∷ r i ++ (10 ∷ [])))

pub two : (c : ℕ) (l r : List ℕ) → Fields 2 l → (c ∷ l) ≡ line_text c ((numbers_of ((c ∷ l) ++ r)).first ∷ (numbers_of ((c ∷ l) ++ r)).second ∷ [])
two c l r (field {a = a} {l = l₁} na (field {a = b} {l = l₃} nb end e₂) e₁) =
    let text : List ℕ = (c ∷ 32 ∷ l₁) ++ r in
    let x₁ : drop 2 text ≡ a ++ 32 ∷ (l₃ ++ r) = ap (λ (z : List ℕ). z ++ r) e₁ ∙ append_assoc a (32 ∷ l₃) r in
    let f₁ = field_step 2 text a 32 (l₃ ++ r) x₁ na (omega arith) in
    let x₂ = f₁.1 ∙ ap (λ (z : List ℕ). z ++ r) e₂ ∙ append_assoc b (10 ∷ []) r in
    let f₂ = field_step (2 + number_width 5 (drop 2 text) + 1) text b 10 r x₂ nb (omega arith) in
    ap (λ (z : List ℕ). c ∷ 32 ∷ z) e₁ ∙ ap (λ (z : List ℕ). c ∷ 32 ∷ a ++ (32 ∷ z)) e₂ ∙ two_same c f₁.0 f₂.0

pub three : (c : ℕ) (l r : List ℕ) → Fields 3 l
    → (c ∷ l) ≡ line_text c ((numbers_of ((c ∷ l) ++ r)).first ∷ (numbers_of ((c ∷ l) ++ r)).second ∷ (numbers_of ((c ∷ l) ++ r)).third ∷ [])
three c l r (field {a = a} {l = l₁} na (field {a = b} {l = l₃} nb (field {a = d} {l = l₅} nd end e₃) e₂) e₁) =
    let text : List ℕ = (c ∷ 32 ∷ l₁) ++ r in
    let x₁ : drop 2 text ≡ a ++ 32 ∷ (l₃ ++ r) = ap (λ (z : List ℕ). z ++ r) e₁ ∙ append_assoc a (32 ∷ l₃) r in
    let f₁ = field_step 2 text a 32 (l₃ ++ r) x₁ na (omega arith) in
    let p : ℕ = 2 + number_width 5 (drop 2 text) + 1 in
    let x₂ = f₁.1 ∙ ap (λ (z : List ℕ). z ++ r) e₂ ∙ append_assoc b (32 ∷ l₅) r in
    let f₂ = field_step p text b 32 (l₅ ++ r) x₂ nb (omega arith) in
    let x₃ = f₂.1 ∙ ap (λ (z : List ℕ). z ++ r) e₃ ∙ append_assoc d (10 ∷ []) r in
    let f₃ = field_step (p + number_width 5 (drop p text) + 1) text d 10 r x₃ nd (omega arith) in
    ap (λ (z : List ℕ). c ∷ 32 ∷ z) e₁ ∙ ap (λ (z : List ℕ). c ∷ 32 ∷ a ++ (32 ∷ z)) e₂ ∙ ap (λ (z : List ℕ). c ∷ 32 ∷ a ++ (32 ∷ b ++ (32 ∷ z))) e₃
    ∙ three_same c f₁.0 f₂.0 f₃.0
