-- Charged conflicts: the invariant of the charges. That each charge keeps it, and the upper limit that it gives, are in `proofs/laws`.
use Rattle.std.specs.Prelude.{ℕ, ◌+◌, ◌≤◌}
use mathlib.Core.List.{List, Memᴰ}
use Rattle.std.proofs.Common.{arith}
use Rattle.rules.specs.Subscription.{Subscription}
use Rattle.rules.specs.Relaxation.{KeptBySlot}
use Rattle.rules.specs.Decisions.{DecidedBySlot}
use Rattle.rules.specs.laws.BySlot.{ConsistentBySlot, AgreesBySlot}
use Rattle.rules.specs.laws.search.Items.{Item}
use Rattle.rules.specs.laws.search.Residual.{Residual, Lower, held, lost, open_weights}

-- One charge of e on a list of items: residuals only fall, and each member's consequences fall by at least e together.
pub record Charge (v : Subscription) (l : List Item) (e : ℕ) (r s : Residual) : Type 0 where
  pub lower : Lower s r
  pub taken : (x : Item) → Memᴰ x l → e + held v s x ≤ held v r x

module _ (v : Subscription) (d : DecidedBySlot) where
  -- THE INVARIANT: every consistent relaxation that agrees loses, by weight, at least what is charged and what it loses by residual.
  pub record Charged (charged : ℕ) (r : Residual) : Type 0 where
    pub covers : (c : KeptBySlot) → ConsistentBySlot v c → AgreesBySlot d c → charged + lost v r c ≤ lost v (open_weights v d) c

  pub charged_none : Charged 0 (open_weights v d)
  charged_none = record { covers = λ c ok ag. omega arith }
