-- A sheet's lists against their reading by slot.
use Rattle.std.specs.Prelude.{◌≡◌, Bool, List, [], ◌∷◌, get_or, take, drop, T}
use Rattle.std.proofs.Math.Path.{sym, ap}
use Rattle.std.proofs.Common.{◌∙◌}
use Rattle.std.proofs.Math.Bool.{false}
use Prim.Native.Nat.{ℕ, zero, suc, ◌-◌, ◌<◌, min}
use native.Mathlib.Omega.{arith}
use Rattle.std.proofs.Math.ListN.{length, length-take, length-drop}
use Rattle.rules.specs.Lines.{Lines}
use Rattle.rules.specs.Subscription.{subscription, items, Proper}
use Rattle.rules.specs.Relaxation.{kept_by_slot, ConsistentRelaxation}
use Rattle.rules.specs.Decisions.{Decision, Open, is_kept, decided_by_slot, Agrees}
use Rattle.rules.specs.laws.BySlot.{ConsistentBySlot, AgreesBySlot, OnTheSheet, KeptOnTheSheet}
use Rattle.rules.specs.laws.Decisions.{agrees_kept, agrees_dropped, agrees_from, agrees_take, agrees_drop, agrees_join}

-- What passes a test that the default fails stands in the list.
pub inside {ℓ} : {A : Type ℓ} (q : A → Bool) (z : A) → (T (q z) → ⊥) → (l : List A) (i : ℕ) → T (q (get_or l i z)) → i < length l
inside q z k [] i t = absurd (k t)
inside q z k (m ∷ l) zero t = omega arith
inside q z k (m ∷ l) (suc i) t = let h = inside q z k l i t in omega arith

module _ (s : Lines) where
  pub agrees_by_slot : (d : List Decision) (r : List Bool) → Agrees d r → AgreesBySlot (decided_by_slot s d) (kept_by_slot s r)
  unfolding decided_by_slot kept_by_slot
  agrees_by_slot d r a = record {
    keeps_option = agrees_kept (take n d) (take n r) (agrees_take n d r a);
    drops_option = agrees_dropped (take n d) (take n r) (agrees_take n d r a);
    keeps_ordering = agrees_kept (drop n d) (drop n r) (agrees_drop n d r a);
    drops_ordering = agrees_dropped (drop n d) (drop n r) (agrees_drop n d r a);
  }
    where
      n : ℕ
      n = length s.options

  pub agrees_from_slots : (d : List Decision) (r : List Bool) → length d ≡ length r → AgreesBySlot (decided_by_slot s d) (kept_by_slot s r) → Agrees d r
  unfolding decided_by_slot kept_by_slot
  agrees_from_slots d r e a = agrees_join n d r
      (agrees_from (take n d) (take n r) (length-take n d ∙ ap (λ k. min n k) e ∙ sym (length-take n r)) a.keeps_option a.drops_option)
      (agrees_from (drop n d) (drop n r) (length-drop n d ∙ ap (λ k. k - n) e ∙ sym (length-drop n r)) a.keeps_ordering a.drops_ordering)
    where
      n : ℕ
      n = length s.options

  pub consistent_by_slot : (r : List Bool) → ConsistentRelaxation s r → ConsistentBySlot (subscription s) (kept_by_slot s r)
  consistent_by_slot r c = record { ends = c.relaxation.ends; acyclic = c.consistent }

  pub consistent_from_slots : (r : List Bool) → length r ≡ items s → ConsistentBySlot (subscription s) (kept_by_slot s r) → ConsistentRelaxation s r
  consistent_from_slots r e c = record { relaxation = record { size = e; ends = c.ends }; consistent = c.acyclic }

  pub kept_on_the_sheet : (r : List Bool) → length r ≡ items s → KeptOnTheSheet (subscription s) (kept_by_slot s r)
  unfolding subscription kept_by_slot
  kept_on_the_sheet r e = record {
    option = λ i t. let h = inside (λ b. b) false (λ z. z) (take n r) i t in let k = length-take n r in omega arith;
    ordering = λ u t. let h = inside (λ b. b) false (λ z. z) (drop n r) u t in let k = length-drop n r in omega arith;
  }
    where
      n : ℕ
      n = length s.options

  module _ (d : List Decision) (size : length d ≡ items s) where
    -- A decision that passes a test which `Open` fails is about an item of the sheet.
    pub option_on_the_sheet : (q : Decision → Bool) → (T (q Open) → ⊥) → (i : ℕ) → T (q ((decided_by_slot s d).option i)) → i < length s.options
    unfolding decided_by_slot
    option_on_the_sheet q k i t = let h = inside q Open k (take (length s.options) d) i t in let e = length-take (length s.options) d in omega arith

    pub ordering_on_the_sheet : (q : Decision → Bool) → (T (q Open) → ⊥) → (u : ℕ) → T (q ((decided_by_slot s d).ordering u)) → u < length s.orderings
    unfolding decided_by_slot
    ordering_on_the_sheet q k u t = let h = inside q Open k (drop (length s.options) d) u t in let e = length-drop (length s.options) d in omega arith

    pub on_the_sheet : Proper s → OnTheSheet (subscription s) (decided_by_slot s d)
    unfolding subscription
    on_the_sheet ps = record {
      option = option_on_the_sheet is_kept (λ z. z);
      ordering = ordering_on_the_sheet is_kept (λ z. z);
      first = ps.first_subscribed;
      second = ps.second_subscribed;
    }
