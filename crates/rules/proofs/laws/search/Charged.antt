-- Each charge of a conflict keeps the invariant, and the charges give an upper limit.
use Rattle.std.specs.Prelude.{not, ℕ, ◌+◌, ◌≤◌, T}
use mathlib.Core.List.{List}
use Rattle.std.proofs.Common.{arith}
use Rattle.rules.specs.Subscription.{Subscription}
use Rattle.rules.specs.Relaxation.{KeptBySlot, value}
use Rattle.rules.specs.Decisions.{DecidedBySlot}
use Rattle.rules.specs.Limits.{M, D}
use Rattle.rules.specs.laws.BySlot.{ConsistentBySlot, AgreesBySlot}
use Rattle.rules.specs.laws.search.Items.{Item, keeps, conflict}
use Rattle.rules.proofs.laws.search.Items.{drops_one}
use Rattle.rules.specs.laws.search.Residual.{Residual, held, held_lost, held_falls}
use Rattle.rules.proofs.laws.search.Residual.{value_lost}
use Rattle.rules.specs.laws.search.Charged.{Charge, Charged}

module _ (v : Subscription) (d : DecidedBySlot) where
  -- Each charge of a conflict keeps it.
  pub charged_more : (l : List Item) (e k : ℕ) (r s : Residual) → T (conflict v d l) → Charge v l e r s → Charged v d k r → Charged v d (k + e) s
  charged_more l e k r s t ch h = record {
    covers = λ c ok ag.
        let (x, m, n) = drops_one v d c ok ag l t in
        let a = h.covers c ok ag in
        let b = ch.taken x m in
        let f = held_falls v c ok r s ch.lower x n in omega arith;
  }

  -- THE UPPER LIMIT: value + dropped + charged is at most the whole.
  pub charged_upper : (k : ℕ) (r : Residual) → Charged v d k r → (c : KeptBySlot) → ConsistentBySlot v c → AgreesBySlot d c → value v c + D v d + k ≤ M v d
  charged_upper k r h c ok ag = let a = h.covers c ok ag in let b = value_lost v d c ok ag in omega arith

  -- What drops an item loses what its consequences hold on top of it.
  pub dropped_upper : (k : ℕ) (r : Residual) → Charged v d k r → (x : Item) (c : KeptBySlot) → ConsistentBySlot v c → AgreesBySlot d c → T (not (keeps c x)) → value v c + D v d + k + held v r x ≤ M v d
  dropped_upper k r h x c ok ag n = let a = h.covers c ok ag in let b = value_lost v d c ok ag in let f = held_lost v c ok r x n in omega arith
