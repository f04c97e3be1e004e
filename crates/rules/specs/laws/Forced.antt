-- Forced decisions are sound, and where nothing contradicts, keeping exactly the kept items is a consistent relaxation.
use Rattle.std.specs.Prelude.{refl, Bool, ℕ, T}
use Rattle.std.proofs.Common.{subst, T_not}
use Rattle.std.proofs.Math.Dec.{not_T}
use Rattle.rules.specs.Joined.{base, join}
use Rattle.rules.specs.Subscription.{Subscription}
use Rattle.rules.specs.Relaxation.{KeptBySlot, by_catalogue, by_ordering, Path, one, more}
use Rattle.rules.specs.Decisions.{DecidedBySlot, is_kept}
use Rattle.rules.specs.KnownBefore.{OptionKept, KnownFromTheStart, KnownBefore}
use Rattle.rules.specs.Forced.{OptionDropped, OrderingDropped, NoContradiction}
use Rattle.rules.specs.laws.BySlot.{ConsistentBySlot, AgreesBySlot, append}

module _ (v : Subscription) (d : DecidedBySlot) where
  -- ---- whatever is consistent and agrees with the decisions agrees with the forced ones
  module _ (c : KeptBySlot) (ok : ConsistentBySlot v c) (ag : AgreesBySlot d c) where
    pub keeps_kept : (i : ℕ) → OptionKept v d i → T (c.option i)
    keeps_kept i (OptionKept.given t) = ag.keeps_option i t
    keeps_kept i (OptionKept.first_of u t e) = subst (λ x. T (c.option x)) e (ok.ends u (ag.keeps_ordering u t)).0
    keeps_kept i (OptionKept.second_of u t e) = subst (λ x. T (c.option x)) e (ok.ends u (ag.keeps_ordering u t)).1

    -- Between two options that are kept, known before is a path: every middle is kept.
    pub known_path : {i j : ℕ} → KnownBefore v d i j → T (c.option i) → T (c.option j) → Path v c i j
    known_path (base (KnownFromTheStart.catalogue t)) a b = one (by_catalogue t a b)
    known_path (base (KnownFromTheStart.kept_ordering u t e f)) a b = one (by_ordering u (ag.keeps_ordering u t) e f)
    known_path (join {j = j} p m q) a b = append (known_path p a (keeps_kept j m)) (known_path q (keeps_kept j m) b)

    pub drops_dropped : (i : ℕ) → OptionDropped v d i → T (c.option i) → ⊥
    drops_dropped i (OptionDropped.given t) k = T_not (c.option i) (ag.drops_option i t) k
    drops_dropped i (OptionDropped.before_itself p) k = ok.acyclic i (known_path p k k)
    drops_dropped i (OptionDropped.before_and_after_a_kept_option j m p q) k = ok.acyclic i (known_path (join p m q) k k)

    pub drops_dropped_ordering : (u : ℕ) → OrderingDropped v d u → T (c.ordering u) → ⊥
    drops_dropped_ordering u (OrderingDropped.given t) k = T_not (c.ordering u) (ag.drops_ordering u t) k
    drops_dropped_ordering u (OrderingDropped.first_dropped h) k = drops_dropped (v.first u) h (ok.ends u k).0
    drops_dropped_ordering u (OrderingDropped.second_dropped h) k = drops_dropped (v.second u) h (ok.ends u k).1
    drops_dropped_ordering u (OrderingDropped.known_the_other_way p) k =
        ok.acyclic (v.second u) (append (known_path p (ok.ends u k).1 (ok.ends u k).0) (one (by_ordering u k refl refl)))

    pub no_contradiction : NoContradiction v d
    no_contradiction = record {
      option = λ i k h. drops_dropped i h (keeps_kept i k);
      ordering = λ u k h. drops_dropped_ordering u h (ag.keeps_ordering u k);
    }

  -- ---- the least relaxation: `keeps` tells exactly which options are kept
  module _ (keeps : ℕ → Bool) (keeps_out : (i : ℕ) → T (keeps i) → OptionKept v d i) (keeps_in : (i : ℕ) → OptionKept v d i → T (keeps i))
      (fine : NoContradiction v d) where
    abbrev pub least : KeptBySlot
    least = record { option = keeps; ordering = λ u. is_kept (d.ordering u) }

    -- A path of it is known before, so a cycle would drop a kept option.
    path_known : {i j : ℕ} → Path v least i j → KnownBefore v d i j × T (keeps i)
    path_known (one (by_catalogue t a b)) = (base (KnownFromTheStart.catalogue t), a)
    path_known (one {i = i} (by_ordering u t e f)) = (base (KnownFromTheStart.kept_ordering u t e f), keeps_in i (OptionKept.first_of u t e))
    path_known (more {j = j} (by_catalogue t a b) p) = (join (base (KnownFromTheStart.catalogue t)) (keeps_out j b) (path_known p).0, a)
    path_known (more {i = i} (by_ordering u t e f) p) =
        (join (base (KnownFromTheStart.kept_ordering u t e f)) (OptionKept.second_of u t f) (path_known p).0, keeps_in i (OptionKept.first_of u t e))

    pub least_consistent : ConsistentBySlot v least
    least_consistent = record {
      ends = λ u t. (keeps_in (v.first u) (OptionKept.first_of u t refl), keeps_in (v.second u) (OptionKept.second_of u t refl));
      acyclic = λ i p. let (k, t) = path_known p in fine.option i (keeps_out i t) (OptionDropped.before_itself k);
    }

    pub least_agrees : AgreesBySlot d least
    least_agrees = record {
      keeps_option = λ i t. keeps_in i (OptionKept.given t);
      drops_option = λ i t. not_T (keeps i) (λ k. fine.option i (keeps_out i k) (OptionDropped.given t));
      keeps_ordering = λ u t. t;
      drops_ordering = λ u t. not_T (is_kept (d.ordering u)) (λ k. fine.ordering u k (OrderingDropped.given t));
    }
