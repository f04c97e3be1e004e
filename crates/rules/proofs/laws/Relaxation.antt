-- The tests of a relaxation and of its consistency decide what they name.
use Rattle.std.specs.Prelude.{◌≡◌, Bool, true, false, not, ◌&&◌, ◌⊎◌, ◌↔◌, ℕ, eqb}
use Rattle.std.proofs.Common.{subst, inl, inr}
use mathlib.Core.List.{List, Memᴰ}
use Rattle.std.proofs.Math.ListN.{length}
use Rattle.std.proofs.Math.Dec.{T, T_not, not_T, eqb→eq, eqb_refl}
use Rattle.rules.specs.Slots.{some_below}
use Rattle.rules.specs.Joined.{Joined, base, join, through}
use Rattle.rules.specs.Lines.{Lines}
use Rattle.rules.specs.Subscription.{Subscription, subscription, items}
use Rattle.rules.specs.Relaxation.{KeptBySlot, kept_by_slot, Edge, by_catalogue, by_ordering, Path, one, more, HasBothOptions, NoCycle, Relaxation, ConsistentRelaxation}
use Rattle.rules.specs.KnownBefore.{puts_first}
use Rattle.rules.specs.Sequence.{precedes, kept_slots}
use Rattle.rules.specs.Results.{lacks_an_option, acyclic, is_relaxation, is_consistent}
use Rattle.rules.specs.laws.Tests.{and_l, and_r, and_i, or_l, or_r, or_e}
use Rattle.rules.specs.laws.Slots.{some_in, some_out, slots_in}
use Rattle.rules.specs.laws.Joined.{through_sound, through_complete}
use Rattle.rules.specs.laws.BySlot.{KeptOnTheSheet, append}
use Rattle.rules.specs.laws.OnSlots.{kept_on_the_sheet}

-- ---- by slot
module _ (v : Subscription) (c : KeptBySlot) where
  pub precedes_out : (i j : ℕ) → T (precedes v c i j) → Edge v c i j
  unfolding precedes
  precedes_out i j t = go (or_e (v.before i j && (c.option i && c.option j)) _ t)
    where
      go : T (v.before i j && (c.option i && c.option j)) ⊎ T (some_below v.ordering_count (λ u. c.ordering u && puts_first v u i j)) → Edge v c i j
      go (inl h) = let k = and_r (v.before i j) _ h in by_catalogue (and_l (v.before i j) _ h) (and_l (c.option i) _ k) (and_r (c.option i) _ k)
      go (inr h) = let (u, l, w) = some_out v.ordering_count _ h in let k = and_r (c.ordering u) _ w in
          by_ordering u (and_l (c.ordering u) _ w) (eqb→eq _ _ (and_l (eqb (v.first u) i) _ k)) (eqb→eq _ _ (and_r (eqb (v.first u) i) _ k))

  module _ (on : KeptOnTheSheet v c) where
    pub precedes_in : (i j : ℕ) → Edge v c i j → T (precedes v c i j)
    unfolding precedes
    precedes_in i j (by_catalogue t a b) = or_l (v.before i j && (c.option i && c.option j)) _ (and_i (v.before i j) _ t (and_i (c.option i) _ a b))
    precedes_in i j (by_ordering u t p q) = or_r (v.before i j && (c.option i && c.option j)) _ (some_in v.ordering_count _ u (on.ordering u t)
        (and_i (c.ordering u) _ t (and_i (eqb (v.first u) i) _ (subst (λ z. T (eqb (v.first u) z)) p (eqb_refl (v.first u))) (subst (λ z. T (eqb (v.second u) z)) q (eqb_refl (v.second u))))))

    abbrev J : ℕ → ℕ → Type 0
    J = Joined (λ i j. T (precedes v c i j)) (λ z. Memᴰ z (kept_slots v c))

    path_out : {i j : ℕ} → J i j → Path v c i j
    path_out (base {i = i} {j = j} t) = one (precedes_out i j t)
    path_out (join p m q) = append (path_out p) (path_out q)

    -- A graph whose orderings have both options: both ends of an edge are kept.
    module _ (ends : HasBothOptions v c) where
      pub edge_to : (i j : ℕ) → Edge v c i j → T (c.option j)
      edge_to i j (by_catalogue t a b) = b
      edge_to i j (by_ordering u t p q) = subst (λ z. T (c.option z)) q (ends u t).1

      pub edge_from : (i j : ℕ) → Edge v c i j → T (c.option i)
      edge_from i j (by_catalogue t a b) = a
      edge_from i j (by_ordering u t p q) = subst (λ z. T (c.option z)) p (ends u t).0

      path_in : {i j : ℕ} → Path v c i j → J i j
      path_in (one {i = i} {j = j} e) = base (precedes_in i j e)
      path_in (more {i = i} {j = j} e p) = let k = edge_to i j e in join (base (precedes_in i j e)) (slots_in v.option_count c.option j (on.option j k) k) (path_in p)

      path_from : {i j : ℕ} → Path v c i j → T (c.option i)
      path_from (one {i = i} {j = j} e) = edge_from i j e
      path_from (more {i = i} {j = j} e p) = edge_from i j e

      pub acyclic_out : T (acyclic v c) → NoCycle v c
      unfolding acyclic
      acyclic_out t i p = T_not (some_below v.option_count (λ i. through (precedes v c) (kept_slots v c) i i)) t
          (some_in v.option_count _ i (on.option i (path_from p)) (through_complete (precedes v c) (kept_slots v c) (path_in p)))

    pub acyclic_in : NoCycle v c → T (acyclic v c)
    unfolding acyclic
    acyclic_in k = not_T (some_below v.option_count (λ i. through (precedes v c) (kept_slots v c) i i))
        (λ h. let (i, l, w) = some_out v.option_count _ h in k i (path_out (through_sound (precedes v c) (kept_slots v c) i i w)))

both : (a b : Bool) → (T (not (a && b)) → ⊥) → T a × T b
both true true n = (tt, tt)
both true false n = absurd (n tt)
both false b n = absurd (n tt)

-- ---- of a sheet
module _ (s : Lines) (r : List Bool) where
  abbrev v : Subscription
  v = subscription s

  abbrev c : KeptBySlot
  c = kept_by_slot s r

  pub relaxation_in : Relaxation s r → T (is_relaxation s r)
  unfolding is_relaxation lacks_an_option
  relaxation_in k = and_i (eqb (length r) (items s)) _ (subst (λ z. T (eqb (length r) z)) k.size (eqb_refl (length r)))
      (not_T (some_below (length s.orderings) (lacks_an_option v c)) (λ h. let (u, l, w) = some_out (length s.orderings) _ h in let (a, b) = k.ends u (and_l (c.ordering u) _ w) in
      T_not (c.option (v.first u) && c.option (v.second u)) (and_r (c.ordering u) _ w) (and_i (c.option (v.first u)) _ a b)))

  pub relaxation_out : T (is_relaxation s r) → Relaxation s r
  unfolding is_relaxation lacks_an_option subscription
  relaxation_out t = record {
    size = size;
    ends = λ u k. both (c.option (v.first u)) (c.option (v.second u)) (λ n.
        T_not (some_below (length s.orderings) (lacks_an_option v c)) (and_r (eqb (length r) (items s)) _ t)
        (some_in (length s.orderings) _ u ((kept_on_the_sheet s r size).ordering u k) (and_i (c.ordering u) _ k n)));
  }
    where
      size : length r ≡ items s
      size = eqb→eq _ _ (and_l (eqb (length r) (items s)) _ t)

  -- THE TEST FOR 15 passes exactly for the consistent relaxations.
  pub consistent_in : ConsistentRelaxation s r → T (is_consistent s r)
  unfolding is_consistent
  consistent_in k = and_i (is_relaxation s r) _ (relaxation_in k.relaxation) (acyclic_in v c (kept_on_the_sheet s r k.relaxation.size) k.consistent)

  pub consistent_out : T (is_consistent s r) → ConsistentRelaxation s r
  unfolding is_consistent
  consistent_out t = let q = relaxation_out (and_l (is_relaxation s r) _ t) in
      record { relaxation = q; consistent = acyclic_out v c (kept_on_the_sheet s r q.size) q.ends (and_r (is_relaxation s r) _ t) }

  pub consistent_iff : T (is_consistent s r) ↔ ConsistentRelaxation s r
  consistent_iff = (consistent_out, consistent_in)
