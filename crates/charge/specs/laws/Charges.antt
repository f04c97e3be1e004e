-- One charge: what the members hold, member by member, and what it comes to once each has given as much.
use Rattle.std.specs.Prelude.{◌≡◌, refl, ◌⊎◌, List, ℕ, zero, suc, ◌+◌, ◌≤◌, ◌<◌, length, get_or, set, T}
use Rattle.std.proofs.Common.{sym, subst, ◌∙◌, inl, inr, arith, eq-or-lt_of_le, le_of_suc-le-suc, length-set, get_or-set_same, get_or-set_other}
use Rattle.rules.specs.laws.search.Items.{closes}
use Rattle.rules.specs.laws.search.Residual.{held}
use Rattle.rules.specs.laws.search.Charged.{Charge}
use Rattle.rows.specs.Sets.{cell}
use Rattle.numbered.specs.Items.{ends_only}
use Rattle.links.specs.Links.{AllNamed, members}
use Rattle.links.specs.laws.Chain.{member_is}
use Rattle.residual.specs.Taken.{residual_in, LeftIn, held_in}
use Rattle.residual.specs.TakenAll.{Measured, Gave}
use Rattle.residual.specs.laws.Taken.{left_lower}
use Rattle.charge.specs.Charges.{idle, charged, ChargedAs}

module _ (firsts seconds : List ℕ) (n m : ℕ) (options orderings chain : List ℕ) where
  pub measured_none : (least : ℕ) (was : List ℕ) → length was ≡ 64 → Measured firsts seconds n m options orderings chain 0 least was
  measured_none least was e = record { size = e; each = λ p h. absurd (omega arith); under = λ p h. absurd (omega arith) }

  pub measured_more : (k least least' h : ℕ) (was : List ℕ) → k < 64 → Measured firsts seconds n m options orderings chain k least was → h ≡ held_in n m firsts seconds options orderings (get_or chain k 0) → least' ≤ least → least' ≤ h
      → Measured firsts seconds n m options orderings chain (k + 1) least' (set was k h)
  measured_more k least least' h was l r e p q = record {
    size = length-set was k h ∙ r.size;
    each = λ j z. at j (eq-or-lt_of_le (le_of_suc-le-suc (let y : suc j ≤ suc k = omega arith in y)));
    under = λ j z. un j (eq-or-lt_of_le (le_of_suc-le-suc (let y : suc j ≤ suc k = omega arith in y)));
  }
    where
      here : get_or (set was k h) k 0 ≡ h
      here = get_or-set_same was k h 0 (let z = r.size in omega arith)

      at : (j : ℕ) → (j ≡ k) ⊎ (j < k) → get_or (set was k h) j 0 ≡ held_in n m firsts seconds options orderings (get_or chain j 0)
      at j (inl g) = subst (λ z. get_or (set was k h) z 0 ≡ held_in n m firsts seconds options orderings (get_or chain z 0)) (sym g) (here ∙ e)
      at j (inr g) = get_or-set_other was k j h 0 (λ z. omega arith) ∙ r.each j g

      un : (j : ℕ) → (j ≡ k) ⊎ (j < k) → least' ≤ get_or (set was k h) j 0
      un j (inl g) = subst (λ z. least' ≤ get_or (set was k h) z 0) (sym g) (let z = here in omega arith)
      un j (inr g) = let z = get_or-set_other was k j h 0 (λ z. omega arith) in let y = r.under j g in omega arith

pub measured_at : (firsts seconds : List ℕ) (n m : ℕ) (options orderings chain : List ℕ) (k l least : ℕ) (was : List ℕ) → k ≡ l → Measured firsts seconds n m options orderings chain k least was
    → Measured firsts seconds n m options orderings chain l least was
measured_at firsts seconds n m options orderings chain k l least was e x = subst (λ z. Measured firsts seconds n m options orderings chain z least was) e x

-- ALL HAVE GIVEN: that is one charge.
pub gave_charge : (firsts seconds : List ℕ) (n m : ℕ) (chain : List ℕ) (e : ℕ) (options orderings : List ℕ) (k : ℕ) (options' orderings' : List ℕ) → Gave firsts seconds n m chain e k options orderings options' orderings'
    → Charge (ends_only n m firsts seconds) (members chain k) e (residual_in options orderings) (residual_in options' orderings')
gave_charge firsts seconds n m chain e options orderings k options' orderings' g = record {
  lower = g.lower;
  taken = λ x h. (let (p, l, y) = member_is chain k x h in
      subst (λ z. e + held (ends_only n m firsts seconds) (residual_in options' orderings') z ≤ held (ends_only n m firsts seconds) (residual_in options orderings) z) (sym y) (g.each p l));
}

pub positive : (k : ℕ) → (k ≡ 0 → ⊥) → 0 < k
positive zero h = absurd (h refl)
positive (suc k) h = omega arith

module _ (known firsts seconds : List ℕ) (n m : ℕ) (chain : List ℕ) (k : ℕ) (options orderings : List ℕ) (left : LeftIn n m options orderings) where
  -- The chain does not close, or names something off the sheet.
  pub nothing_charged : ChargedAs known firsts seconds n m chain k 0 options orderings options orderings
  nothing_charged = record { charges = idle refl refl refl; few = omega arith; left_in = left }

  pub all_charged : (e : ℕ) (options' orderings' : List ℕ) → AllNamed chain k n m → T (closes (ends_only n m firsts seconds) (cell known) (members chain k)) → e ≤ 4259775
      → Gave firsts seconds n m chain e k options orderings options' orderings' → ChargedAs known firsts seconds n m chain k e options orderings options' orderings'
  all_charged e options' orderings' named closes few g = record {
    charges = charged named closes (gave_charge firsts seconds n m chain e options orderings k options' orderings' g);
    few = few;
    left_in = left_lower n m options orderings options' orderings' g.option_size g.ordering_size g.lower left;
  }
