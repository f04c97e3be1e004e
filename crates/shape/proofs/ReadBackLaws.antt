-- A printed number and a printed line, read back.
use Prim.Native.Nat.{ℕ, zero, suc, ◌+◌, ◌-◌, ◌*◌, ◌/◌, ◌%◌, ◌≤◌, ◌<◌}
use mathlib.Core.Path.{◌≡◌, refl, sym, ap, subst, ◌∙◌}
use mathlib.Core.Bool.{Bool, true, false}
use mathlib.Core.List.{List, [], ◌∷◌, ◌++◌, append_assoc}
use native.Mathlib.Omega.{arith}
use lib.Dec.{ltb}
use lib.ListN.{length, drop, length-append}
use lib.Seq.{drop-drop, drop-append-add}
use borrow.Author.Tests.{ltb-true, ltb-false}
use Rattle.shape.specs.Grammar.{Digits, Numeral, Fields, Digits.none, Digits.more, Numeral.nought, Numeral.long, Fields.end, Fields.field}
use Rattle.shape.specs.Number.{number_value, number_width, numbers_of}
use Rattle.shape.specs.LineText.{digits, decimal, fields_text, line_text}
use Rattle.shape.proofs.DecimalLaws.{val, num_val, number_digits}
use Rattle.shape.proofs.NumberLaws.{cap}
use Rattle.shape.proofs.DigitLaws.{last_digits, decimal_digits}
use Rattle.shape.proofs.LengthLaws.{w1, w2, w3, w4, w5}

digits_more : (a : List ℕ) (b : ℕ) → Digits a → 48 ≤ b → b ≤ 57 → Digits (a ++ (b ∷ []))
digits_more [] b none p q = more p q none
digits_more (x ∷ a) b (more i j d) p q = more i j (digits_more a b d p q)

val_more : (v : ℕ) (a : List ℕ) (b : ℕ) → val v (a ++ (b ∷ [])) ≡ val v a * 10 + (b - 48)
unfolding val
val_more v [] b = refl
val_more v (x ∷ a) b = val_more (v * 10 + (x - 48)) a b

-- the digits of a number that is not too large have its value
val_digits : (k n : ℕ) → n ≤ cap k → val 0 (last_digits k n) ≡ n
unfolding val cap
val_digits zero n h = omega arith
val_digits (suc k) n h =
    let i = val_digits k (n / 10) (omega arith) in
    val_more 0 (last_digits k (n / 10)) (48 + n % 10) ∙ (omega arith)

-- the first digit is not 0
record Begun (k : ℕ) (l : List ℕ) : Type 0 where
  pub first : ℕ
  pub rest : List ℕ
  pub whole : l ≡ first ∷ rest
  pub low : 49 ≤ first
  pub high : first ≤ 57
  pub digits : Digits rest
  pub size : length rest ≡ k

begun : (k n : ℕ) → cap k < n → n ≤ cap (suc k) → Begun k (last_digits (suc k) n)
unfolding cap
begun zero n g h = record { first = 48 + n % 10; rest = []; whole = refl; low = omega arith; high = omega arith; digits = none; size = refl }
begun (suc k) n g h =
    let b = begun k (n / 10) (omega arith) (omega arith) in
    let d = 48 + n % 10 in
    record {
      first = b.first;
      rest = b.rest ++ (d ∷ []);
      whole = ap (λ (l : List ℕ). l ++ (d ∷ [])) b.whole;
      low = b.low;
      high = b.high;
      digits = digits_more b.rest d b.digits (omega arith) (omega arith);
      size = length-append b.rest (d ∷ []) ∙ (omega (arith, b.size));
    }

begun_number : (k : ℕ) (l : List ℕ) → k ≤ 4 → Begun k l → Numeral l
begun_number k l h b =
    let s : length b.rest ≤ 4 = omega (arith, b.size) in
    subst (λ (x : List ℕ). Numeral x) (sym b.whole) (long b.low b.high b.digits s)

abbrev Printed : ℕ → List ℕ → Type 0
Printed n l = Numeral l × (val 0 l ≡ n)

by_width : (k n : ℕ) → length (decimal n) ≡ suc k → k ≤ 4 → cap k < n → n ≤ cap (suc k) → Printed n (decimal n)
by_width k n w j g h =
    subst (Printed n) (sym (decimal_digits n ∙ ap (λ (i : ℕ). last_digits i n) w)) (begun_number k (last_digits (suc k) n) j (begun k n g h), val_digits (suc k) n h)

-- a printed number is a number of the grammar with its own value
pub printed : (n : ℕ) → n ≤ 99999 → Printed n (decimal n)
unfolding cap digits decimal val
printed n h = one (ltb n 10) refl
  where
    four : (t : Bool) → ltb n 10000 ≡ t → 1000 ≤ n → Printed n (decimal n)
    four true e g =
        let l = ltb-true n 10000 e in
        by_width 3 n (w4 n g l) (omega arith) (omega arith) (omega arith)
    four false e g =
        let l = ltb-false n 10000 e in
        by_width 4 n (w5 n l (omega arith)) (omega arith) (omega arith) (omega arith)

    three : (t : Bool) → ltb n 1000 ≡ t → 100 ≤ n → Printed n (decimal n)
    three true e g =
        let l = ltb-true n 1000 e in
        by_width 2 n (w3 n g l) (omega arith) (omega arith) (omega arith)
    three false e g = four (ltb n 10000) refl (ltb-false n 1000 e)

    two : (t : Bool) → ltb n 100 ≡ t → 10 ≤ n → Printed n (decimal n)
    two true e g =
        let l = ltb-true n 100 e in
        by_width 1 n (w2 n g l) (omega arith) (omega arith) (omega arith)
    two false e g = three (ltb n 1000) refl (ltb-false n 100 e)

    small : (m : ℕ) → n ≡ m → n < 10 → Printed n (decimal n)
    small zero e l = rw e (nought, refl)
    small (suc m) e l = by_width 0 n (w1 n l) (omega arith) (omega arith) (omega arith)

    one : (t : Bool) → ltb n 10 ≡ t → Printed n (decimal n)
    one true e = small n refl (ltb-true n 10 e)
    one false e = two (ltb n 100) refl (ltb-false n 10 e)

-- a number that stands at a place of a text, and what follows it
number_back : (before : ℕ) (text : List ℕ) (n c : ℕ) (y : List ℕ) → drop before text ≡ decimal n ++ c ∷ y → n ≤ 99999 → c < 48
    → (number_value 5 0 (drop before text) ≡ n) × (drop (before + number_width 5 (drop before text) + 1) text ≡ y)
number_back before text n c y e h lo =
    let p = printed n h in
    let d = number_digits p.0 in
    let v = num_val 5 0 c (decimal n) y d.1 d.0 lo in
    let w : number_width 5 (drop before text) ≡ length (decimal n) = ap (λ (l : List ℕ). number_width 5 l) e ∙ v.1 in
    let k : before + number_width 5 (drop before text) + 1 ≡ before + (length (decimal n) + 1) = omega arith in (
      ap (λ (l : List ℕ). number_value 5 0 l) e ∙ v.0 ∙ p.1,
      ap (λ (i : ℕ). drop i text) k ∙ sym (drop-drop (length (decimal n) + 1) before text) ∙ ap (λ (l : List ℕ). drop (length (decimal n) + 1) l) e ∙ drop-append-add (decimal n) (c ∷ y) 1,
    )

-- the numbers of a printed line
pub two_back : (c a b : ℕ) (r : List ℕ) → a ≤ 99999 → b ≤ 99999
    → ((numbers_of (line_text c (a ∷ b ∷ []) ++ r)).first ≡ a) × ((numbers_of (line_text c (a ∷ b ∷ []) ++ r)).second ≡ b)
two_back c a b r ha hb =
    let text : List ℕ = line_text c (a ∷ b ∷ []) ++ r in
    let x₁ : drop 2 text ≡ decimal a ++ 32 ∷ (decimal b ++ (10 ∷ r)) = simp append_assoc in
    let f₁ = number_back 2 text a 32 (decimal b ++ (10 ∷ r)) x₁ ha (omega arith) in
    let f₂ = number_back (2 + number_width 5 (drop 2 text) + 1) text b 10 r f₁.1 hb (omega arith) in
    (f₁.0, f₂.0)

pub three_back : (c a b w : ℕ) (r : List ℕ) → a ≤ 99999 → b ≤ 99999 → w ≤ 99999
    → ((numbers_of (line_text c (a ∷ b ∷ w ∷ []) ++ r)).first ≡ a) × (((numbers_of (line_text c (a ∷ b ∷ w ∷ []) ++ r)).second ≡ b) × ((numbers_of (line_text c (a ∷ b ∷ w ∷ []) ++ r)).third ≡ w))
three_back c a b w r ha hb hw =
    let text : List ℕ = line_text c (a ∷ b ∷ w ∷ []) ++ r in
    let x₁ : drop 2 text ≡ decimal a ++ 32 ∷ (decimal b ++ (32 ∷ (decimal w ++ (10 ∷ r)))) = simp append_assoc in
    let f₁ = number_back 2 text a 32 (decimal b ++ (32 ∷ (decimal w ++ (10 ∷ r)))) x₁ ha (omega arith) in
    let p : ℕ = 2 + number_width 5 (drop 2 text) + 1 in
    let f₂ = number_back p text b 32 (decimal w ++ (10 ∷ r)) f₁.1 hb (omega arith) in
    let f₃ = number_back (p + number_width 5 (drop p text) + 1) text w 10 r f₂.1 hw (omega arith) in
    (f₁.0, (f₂.0, f₃.0))

-- a printed line is well shaped
pub two_shaped : (a b : ℕ) → a ≤ 99999 → b ≤ 99999 → Fields 2 (fields_text (a ∷ b ∷ []))
two_shaped a b ha hb = field (printed a ha).0 (field (printed b hb).0 end refl) refl

pub three_shaped : (a b w : ℕ) → a ≤ 99999 → b ≤ 99999 → w ≤ 99999 → Fields 3 (fields_text (a ∷ b ∷ w ∷ []))
three_shaped a b w ha hb hw = field (printed a ha).0 (field (printed b hb).0 (field (printed w hw).0 end refl) refl) refl
