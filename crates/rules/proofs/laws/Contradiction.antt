-- A contradiction is reported exactly if no consistent relaxation agrees with the decisions.
use Rattle.std.specs.Prelude.{◌≡◌, Bool, not, ◌⊎◌, ◌↔◌, List, length}
use Rattle.std.proofs.Math.Path.{refl}
use Rattle.std.proofs.Common.{sym, subst, inl, inr, T_not}
use Rattle.std.proofs.Math.Bool.{true, false, cond}
use Rattle.std.proofs.Math.Dec.{T, not_T}
use Rattle.rules.specs.Lines.{Lines}
use Rattle.rules.specs.Subscription.{subscription, items, Proper}
use Rattle.rules.specs.Relaxation.{kept_by_slot, ConsistentRelaxation}
use Rattle.rules.specs.Decisions.{Decision, decided_by_slot, Agrees}
use Rattle.rules.specs.Forced.{NoContradiction, contradiction, forced}
use Rattle.rules.specs.Results.{contradictory, limited, limits_of}
use Rattle.rules.specs.laws.Tests.{test}
use Rattle.rules.specs.laws.Forced.{no_contradiction}
use Rattle.rules.proofs.laws.Computed.{no_contradiction_in, no_contradiction_out}
use Rattle.rules.specs.laws.Decisions.{just_the_kept, just_the_kept_agrees}
use Rattle.rules.specs.laws.OnSlots.{agrees_by_slot, consistent_by_slot, on_the_sheet}
use Rattle.rules.proofs.laws.ForcedList.{forced_agrees, least_is_consistent}

module _ (s : Lines) (d : List Decision) where
  pub contradiction_told : (limits_of s d).contradiction ≡ contradiction (subscription s) (decided_by_slot s d)
  unfolding limits_of
  contradiction_told = go (contradiction (subscription s) (decided_by_slot s d))
    where
      go : (b : Bool) → (cond b (contradictory s) (limited s d)).contradiction ≡ b
      go true = refl
      go false = refl

  pub no_contradiction_told : T (not (limits_of s d).contradiction) → limits_of s d ≡ limited s d
  unfolding limits_of
  no_contradiction_told t = go (contradiction (subscription s) (decided_by_slot s d)) (subst (λ b. T (not b)) contradiction_told t)
    where
      go : (b : Bool) → T (not b) → cond b (contradictory s) (limited s d) ≡ limited s d
      go true t = absurd t
      go false t = refl

module _ (s : Lines) (d : List Decision) where
  -- Where something consistent agrees, nothing contradicts.
  pub agreeing_no_contradiction : (r : List Bool) → ConsistentRelaxation s r → Agrees d r → T (not (limits_of s d).contradiction)
  agreeing_no_contradiction r ok a = subst (λ b. T (not b)) (sym (contradiction_told s d))
      (no_contradiction_in (subscription s) (decided_by_slot s d) (no_contradiction (subscription s) (decided_by_slot s d) (kept_by_slot s r) (consistent_by_slot s r ok) (agrees_by_slot s d r a)))

module _ (s : Lines) (ps : Proper s) (d : List Decision) (size : length d ≡ items s) where
  pub fine_from : T (not (limits_of s d).contradiction) → NoContradiction (subscription s) (decided_by_slot s d)
  fine_from t = no_contradiction_out (subscription s) (decided_by_slot s d) (on_the_sheet s d size ps) (subst (λ b. T (not b)) (contradiction_told s d) t)

  -- CONTRADICTION: "reported exactly if no consistent relaxation agrees with the decisions".
  pub contradiction_iff_none_agrees : T (limits_of s d).contradiction ↔ ((r : List Bool) → ConsistentRelaxation s r → Agrees d r → ⊥)
  contradiction_iff_none_agrees = (λ t r ok a. T_not (limits_of s d).contradiction (agreeing_no_contradiction s d r ok a) t, λ none. go none (test (limits_of s d).contradiction))
    where
      go : ((r : List Bool) → ConsistentRelaxation s r → Agrees d r → ⊥) → T (limits_of s d).contradiction ⊎ (T (limits_of s d).contradiction → ⊥) → T (limits_of s d).contradiction
      go none (inl t) = t
      go none (inr n) = let fine = fine_from (not_T (limits_of s d).contradiction n) in
          absurd (none (just_the_kept (forced s d)) (least_is_consistent s ps d size fine) (forced_agrees s ps d size fine (just_the_kept (forced s d)) (just_the_kept_agrees (forced s d))))
