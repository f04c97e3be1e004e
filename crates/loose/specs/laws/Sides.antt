-- What the tests of a side say.
use Rattle.std.specs.Prelude.{◌≡◌, refl, Bool, true, false, not, ◌&&◌, ◌||◌, List, ℕ, ◌≤◌, ◌<◌, get_or}
use Rattle.std.proofs.Common.{sym, ap, ◌∙◌, inl, inr, arith}
use Rattle.rows.specs.Bits.{has, joined, met}
use Rattle.rows.specs.laws.Bits.{has_none, has_joined, has_met}
use Rattle.links.specs.Links.{OptionAt, OnlyIf}
use Rattle.loose.specs.Loose.{ClosedEnds, FreeSide, LooseBy}

pub never : true ≡ false → ⊥
never e = let z : ◌≡◌ {A = ℕ} 0 1 = cc in omega arith

pub told_not : {P : Type 0} → OnlyIf false P
told_not = record { told = λ e. absurd (never (sym e)) }

not_true : (b : Bool) → not b ≡ true → b ≡ false
not_true true e = sym e
not_true false e = refl

or_true : (a : Bool) → (a || true) ≡ true
or_true true = refl
or_true false = refl

-- Two rows with nothing in common: what is in one is in neither part of the other.
module _ (row opens ends both common : ℕ) (e : both ≡ joined opens ends) (f : common ≡ met row both) (z : common ≡ 0) where
  apart : (j : ℕ) → has row j ≡ true → (has opens j || has ends j) ≡ true → ⊥
  apart j p q = never (sym (rw (p, q) refl) ∙ sym (has_met row (joined opens ends) j ∙ ap (λ b. has row j && b) (has_joined opens ends j)) ∙ ap (λ k. has k j) (ap (met row) (sym e) ∙ sym f ∙ z) ∙ has_none j)

  free : (o x : ℕ) → (32 ≤ x → has ends o ≡ false) → FreeSide row opens ends o x
  free o x own = record {
    option = λ j p q. apart j p (ap (λ b. b || has ends j) q);
    ordering = λ j p q. apart j p (ap (λ b. has opens j || b) q ∙ or_true (has opens j));
    own = own;
  }

  pub free_option : (o x : ℕ) → x < 32 → OnlyIf true (FreeSide row opens ends o x)
  free_option o x l = record { told = λ _. free o x (λ k. absurd (omega arith)) }

  pub free_ordering : (o x : ℕ) (b : Bool) → b ≡ has ends o → OnlyIf (not b) (FreeSide row opens ends o x)
  free_ordering o x b g = record { told = λ q. free o x (λ _. sym g ∙ not_true b q) }

pub closed_option : (opens a b x : ℕ) → x < 32 → OnlyIf true (ClosedEnds opens a b x)
closed_option opens a b x l = record { told = λ _. record { first = λ k. absurd (omega arith); second = λ k. absurd (omega arith) } }

pub closed_ordering : (opens a b x : ℕ) (p q r : Bool) → p ≡ has opens a → q ≡ has opens b → r ≡ not (p || q) → OnlyIf r (ClosedEnds opens a b x)
closed_ordering opens a b x p q r e f g = record { told = λ h. let (y, z) = both p q (sym g ∙ h) in record { first = λ _. sym e ∙ y; second = λ _. sym f ∙ z } }
  where
    both : (p q : Bool) → not (p || q) ≡ true → (p ≡ false) × (q ≡ false)
    both true q h = absurd (never (sym h))
    both false true h = absurd (never (sym h))
    both false false h = (refl, refl)

module _ (known after firsts seconds : List ℕ) (n opens begins ends x a b : ℕ) (p : OptionAt firsts n x a) (q : OptionAt seconds n x b) (c : ClosedEnds opens a b x) where
  pub free_after : FreeSide (get_or known b 0) opens begins b x → LooseBy known after firsts seconds n opens begins ends x
  free_after f = record { from = a; to = b; begins_at = p; ends_at = q; closed_ends = c; free = inl f }

  pub free_before : FreeSide (get_or after a 0) opens ends a x → LooseBy known after firsts seconds n opens begins ends x
  free_before f = record { from = a; to = b; begins_at = p; ends_at = q; closed_ends = c; free = inr f }
