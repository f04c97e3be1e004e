-- What a relaxation loses of the open weights makes up the whole.
use Rattle.std.specs.Prelude.{◌&&◌, ◌+◌, ◌≤◌}
use Rattle.std.proofs.Math.Bool.{not}
use native.Mathlib.Omega.{arith}
use Rattle.std.proofs.Math.Dec.{T_not}
use Rattle.rules.specs.Subscription.{Subscription}
use Rattle.rules.specs.Relaxation.{KeptBySlot, value}
use Rattle.rules.specs.Decisions.{DecidedBySlot}
use Rattle.rules.specs.Limits.{option_open, ordering_open, M, D}
use Rattle.rules.specs.laws.Tests.{and_l, and_r}
use Rattle.rules.specs.laws.BySlot.{ConsistentBySlot, AgreesBySlot}
use Rattle.rules.proofs.laws.Limits.{taken_off}
use Rattle.rules.specs.laws.search.Residual.{lost, open_weights, over_both}

module _ (v : Subscription) (d : DecidedBySlot) where
  -- THE BRIDGE TO THE LIMITS: value, what is dropped, and the weight of the open items not kept, make up the whole.
  pub value_lost : (c : KeptBySlot) → ConsistentBySlot v c → AgreesBySlot d c → value v c + D v d + lost v (open_weights v d) c ≤ M v d
  unfolding open_weights lost
  value_lost c ok ag =
      let h = taken_off v d c ok ag (λ i. option_open v d i && not (c.option i)) (λ u. ordering_open v d u && not (c.ordering u))
      (λ i t n. T_not (c.option i) (and_r (option_open v d i) _ n) t) (λ u t n. T_not (c.ordering u) (and_r (ordering_open v d u) _ n) t)
      (λ i n. and_l (option_open v d i) _ n) (λ u n. and_l (ordering_open v d u) _ n) in
      let a = over_both v.option_count v.weight (option_open v d) (λ i. not (c.option i)) in
      let b = over_both v.ordering_count v.ordering_weight (ordering_open v d) (λ u. not (c.ordering u)) in
      omega arith
