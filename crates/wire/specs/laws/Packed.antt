-- The four numbers of a packed answer can be told apart.
use Rattle.std.specs.Prelude.{ℕ, ◌<◌, ◌≡◌}
use Rattle.std.proofs.Common.{ap, subst, sym, ◌∙◌, arith}
use Rattle.sheet.specs.Answer.{number_of}
use Rattle.sheet.specs.declared.answer.Answer.{Answer}
use Rattle.sheet.specs.declared.answer.Answer.TheVariants.{Accepted, Refused}
use Rattle.sheet.specs.declared.answer.Refusal.{Refusal}
use Rattle.sheet.proofs.AnswerLaws.{refusal_number}
use Rattle.shape.specs.declared.scan.Place.{Place}
use Rattle.wire.specs.Packed.{packed, packed_answer, Placed, Fits}

-- Equal packed answers have equal parts.
pub packed_once : (n l c k n' l' c' k' : ℕ) → l < 65536 → c < 65536 → k < 65536 → l' < 65536 → c' < 65536 → k' < 65536
    → packed n l c k ≡ packed n' l' c' k' → (n ≡ n') × ((l ≡ l') × ((c ≡ c') × (k ≡ k')))
packed_once n l c k n' l' c' k' a b d a' b' d' e = (omega arith, (omega arith, (omega arith, omega arith)))

-- ---- the two ways out of `pack_answer`
module _ (answer : Answer) (count : ℕ) where
  pub pack_accepted : {r : ℕ} → answer ≡ Accepted → r ≡ packed 0 0 0 count → r ≡ packed_answer answer count
  pack_accepted e q = q ∙ sym (ap (λ x. packed_answer x count) e)

  module _ {place : Place} {why : Refusal} (e : answer ≡ Refused place why) where
    pub refusal_fits : {n : ℕ} → Fits answer count → n ≡ number_of why → (n < 65536) × ((place.line < 65536) × ((place.column < 65536) × (0 < 65536)))
    refusal_fits fits q = let h = refusal_number why in let p = subst Placed e fits.placed in (omega arith, (p.0, (p.1, omega arith)))

    pub pack_refused : {n r : ℕ} → n ≡ number_of why → r ≡ packed n place.line place.column 0 → r ≡ packed_answer answer count
    pack_refused {n} q g = g ∙ ap (λ x. packed x place.line place.column 0) q ∙ sym (ap (λ x. packed_answer x count) e)
