-- The options at which orderings begin or end, one ordering more at a time.
use Rattle.std.specs.Prelude.{◌≡◌, refl, Bool, true, ◌&&◌, List, ℕ, ◌+◌, ◌<◌, get_or, T, eqb}
use Rattle.std.proofs.Common.{subst, ◌∙◌}
use Rattle.std.proofs.Math.Dec.{eqb_refl}
use Rattle.rules.specs.Slots.{some_below}
use Rattle.rules.specs.laws.Tests.{T_true, and_i}
use Rattle.rules.specs.laws.Slots.{some_in}
use Rattle.rows.specs.Bits.{has, with_if}
use Rattle.rows.specs.laws.Bits.{has_none, has_with_if}
use Rattle.rows.specs.laws.Slots.{some_more}
use Rattle.loose.specs.Loose.{EndsOf}

pub ends_none : (orderings : ℕ) (ends : List ℕ) → EndsOf orderings ends 0 0
unfolding some_below
ends_none orderings ends = record { at = λ j. has_none j }

pub ends_step : (orderings : ℕ) (ends : List ℕ) {m r s : ℕ} {y : Bool} → EndsOf orderings ends m r → y ≡ has orderings m → s ≡ with_if r (get_or ends m 0) y → EndsOf orderings ends (m + 1) s
ends_step orderings ends {m} {r} {s} {y} w e f = record { at = λ j. rw (f, has_with_if r (get_or ends m 0) y j, w.at j, e, some_more m (λ u. has orderings u && eqb (get_or ends u 0) j)) refl }

pub ends_end : {orderings m k r : ℕ} {ends : List ℕ} → EndsOf orderings ends m r → m ≡ k → EndsOf orderings ends k r
ends_end {orderings} {m} {k} {r} {ends} w e = subst (λ z. EndsOf orderings ends z r) e w

-- An ordering of the set has its end among them.
pub end_in : {orderings m r : ℕ} {ends : List ℕ} → EndsOf orderings ends m r → (u : ℕ) → u < m → T (has orderings u) → has r (get_or ends u 0) ≡ true
end_in {orderings} {m} {r} {ends} w u l t = w.at (get_or ends u 0) ∙ T_true _ (some_in m _ u l (and_i (has orderings u) _ t (eqb_refl (get_or ends u 0))))
