-- The bytes of a decision list, one by one and all together.
use Rattle.std.specs.Prelude.{ℕ, ◌+◌, ◌-◌, ◌≤◌, ◌<◌, ◌≡◌, Bool, true, false, ◌&&◌, List, [], ◌∷◌, length, get_or, drop}
use Rattle.std.specs.List.{list_all}
use Rattle.std.proofs.Math.Path.{refl, sym}
use Rattle.std.proofs.Common.{ap, ◌∙◌, arith, add-one, eq-eqb, ne_eqb, lt-ltb, le-ltb, drop_of_length-le, drop-cons}
use Rattle.rules.specs.Slots.{every_of}
use Rattle.decisions.specs.Decisions.{choice_of, is_decision, are_decisions}
use Rattle.sheet.specs.declared.decision.Decision.{Decision}

-- std's word for a test that every element passes
every_is_all : (p : ℕ → Bool) (l : List ℕ) → list_all p l ≡ every_of p l
every_is_all p [] = refl
every_is_all p (x ∷ l) = ap (λ b. p x && b) (every_is_all p l)

module _ (bytes : List ℕ) where
  pub decision_there : (at i k : ℕ) {c : Decision} → c ≡ choice_of (get_or bytes (at + (i + 1 - 1)) 0) → k ≡ at + i → c ≡ choice_of (get_or bytes k 0)
  decision_there at i k e h = let g : at + (i + 1 - 1) ≡ k = omega arith in e ∙ ap (λ j. choice_of (get_or bytes j 0)) g

  pub wrong_number : (length bytes ≡ 96 → ⊥) → false ≡ are_decisions bytes
  unfolding are_decisions
  wrong_number h = rw (ne_eqb (length bytes) 96 h) refl

  pub right_number : length bytes ≡ 96 → are_decisions bytes ≡ every_of is_decision (drop 0 bytes)
  unfolding are_decisions
  right_number h = rw (eq-eqb (length bytes) 96 h) refl

  pub other_byte : (i : ℕ) → i < length bytes → 3 ≤ get_or bytes i 0 → every_of is_decision (drop i bytes) ≡ false
  other_byte i h b = rw (drop-cons bytes i 0 h, le-ltb (get_or bytes i 0) 3 b) refl

  pub one_more : (i : ℕ) → i < length bytes → get_or bytes i 0 < 3 → every_of is_decision (drop i bytes) ≡ every_of is_decision (drop (i + 1) bytes)
  one_more i h b = rw (add-one i, drop-cons bytes i 0 h, lt-ltb (get_or bytes i 0) 3 b) refl

  pub no_more : (i : ℕ) → length bytes ≤ i → every_of is_decision (drop i bytes) ≡ true
  no_more i h = ap (every_of is_decision) (drop_of_length-le bytes h)

  pub all_spelled : length bytes ≡ 96 → list_all is_decision bytes ≡ are_decisions bytes
  all_spelled h = every_is_all is_decision bytes ∙ sym (right_number h)
