-- Relaxations and decisions slot by slot: what the laws about graphs and sums speak of.
use Rattle.std.specs.Prelude.{not, ℕ, ◌<◌, T}
use Rattle.rules.specs.Subscription.{Subscription}
use Rattle.rules.specs.Relaxation.{KeptBySlot, Path, one, more, HasBothOptions, NoCycle}
use Rattle.rules.specs.Decisions.{DecidedBySlot, is_kept, is_dropped}

pub record ConsistentBySlot (v : Subscription) (c : KeptBySlot) : Type 0 where
  pub ends : HasBothOptions v c
  pub acyclic : NoCycle v c

pub record AgreesBySlot (d : DecidedBySlot) (c : KeptBySlot) : Type 0 where
  pub keeps_option : (i : ℕ) → T (is_kept (d.option i)) → T (c.option i)
  pub drops_option : (i : ℕ) → T (is_dropped (d.option i)) → T (not (c.option i))
  pub keeps_ordering : (u : ℕ) → T (is_kept (d.ordering u)) → T (c.ordering u)
  pub drops_ordering : (u : ℕ) → T (is_dropped (d.ordering u)) → T (not (c.ordering u))

-- Only the sheet's own items are kept, and orderings name its own options.
pub record OnTheSheet (v : Subscription) (d : DecidedBySlot) : Type 0 where
  pub option : (i : ℕ) → T (is_kept (d.option i)) → i < v.option_count
  pub ordering : (u : ℕ) → T (is_kept (d.ordering u)) → u < v.ordering_count
  pub first : (u : ℕ) → u < v.ordering_count → v.first u < v.option_count
  pub second : (u : ℕ) → u < v.ordering_count → v.second u < v.option_count

pub record KeptOnTheSheet (v : Subscription) (c : KeptBySlot) : Type 0 where
  pub option : (i : ℕ) → T (c.option i) → i < v.option_count
  pub ordering : (u : ℕ) → T (c.ordering u) → u < v.ordering_count

module _ {v : Subscription} {c : KeptBySlot} where
  pub append : {i j k : ℕ} → Path v c i j → Path v c j k → Path v c i k
  append (one e) q = more e q
  append (more e p) q = more e (append p q)
