-- A decision list entry by entry: what it gives to the rules, and when nothing in it is open.
use Rattle.std.specs.Prelude.{◌≡◌, refl, Bool, true, false, ◌||◌, List, [], ◌∷◌, ◌++◌, ℕ, zero, suc, ◌+◌, ◌<◌, length, take, drop, T}
use Rattle.std.proofs.Common.{sym, subst, ap, ◌∙◌, arith, length-append}
use Rattle.std.proofs.Math.Seq.{take-append_seam, drop-append_seam}
use Rattle.rules.specs.Slots.{some_below, list_of}
use Rattle.rules.specs.Lines.{Lines}
use Rattle.rules.specs.Decisions.{is_open, is_kept, is_dropped, DecidedBySlot, decided_by_slot}
use Rattle.rules.specs.laws.Slots.{some_in, length_list_of, getD_list_of}
use Rattle.rows.specs.laws.Sets.{holds_same}
use Rattle.given.specs.Given.{decided_as, Gives, some_open, open_within, decision_list}
use Rattle.rules.specs.Decisions as R
use Rattle.sheet.specs.declared.decision.Decisions.{Decisions}
use Rattle.given.specs.declared.sets.Given.{Given}

pub take_list_of : {A : Type 0} (n : ℕ) (f : ℕ → A) (r : List A) → take n (list_of n f ++ r) ≡ list_of n f
take_list_of n f r = ap (λ k. take k (list_of n f ++ r)) (sym (length_list_of n f)) ∙ take-append_seam (list_of n f) r

pub drop_list_of : {A : Type 0} (n : ℕ) (f : ℕ → A) (r : List A) → drop n (list_of n f ++ r) ≡ r
drop_list_of n f r = ap (λ k. drop k (list_of n f ++ r)) (sym (length_list_of n f)) ∙ drop-append_seam (list_of n f) r

module _ (s : Lines) (d : Decisions) (n m : ℕ) (options : length s.options ≡ n) (orderings : length s.orderings ≡ m) where
  abbrev b : DecidedBySlot
  b = decided_by_slot s (decision_list n m d)

  pub option_told : (i : ℕ) → i < n → b.option i ≡ (decided_as d).option i
  unfolding decided_by_slot decision_list
  option_told i l = rw (options, take_list_of n (decided_as d).option (list_of m (decided_as d).ordering)) (getD_list_of n (decided_as d).option R.Open i l)

  pub ordering_told : (u : ℕ) → u < m → b.ordering u ≡ (decided_as d).ordering u
  unfolding decided_by_slot decision_list
  ordering_told u l = rw (options, drop_list_of n (decided_as d).option (list_of m (decided_as d).ordering)) (getD_list_of m (decided_as d).ordering R.Open u l)

  -- The sets that a list gives are those of its entries as the rules read them.
  pub gives_list : {g : Given} → Gives (decided_as d) n m g → Gives b n m g
  gives_list g = record {
    kept = holds_same g.kept (λ i l. ap is_kept (sym (option_told i l)));
    dropped = holds_same g.dropped (λ i l. ap is_dropped (sym (option_told i l)));
    kept_orderings = holds_same g.kept_orderings (λ u l. ap is_kept (sym (ordering_told u l)));
    dropped_orderings = holds_same g.dropped_orderings (λ u l. ap is_dropped (sym (ordering_told u l)));
  }

pub length_decision_list : (n m : ℕ) (d : Decisions) → length (decision_list n m d) ≡ n + m
unfolding decision_list
length_decision_list n m d = let a = length-append (list_of n (decided_as d).option) (list_of m (decided_as d).ordering) in let x = length_list_of n (decided_as d).option in let y = length_list_of m (decided_as d).ordering in omega arith

-- ---- nothing open
open_append : (l r : List R.Decision) → R.open_items (l ++ r) ≡ R.open_items l + R.open_items r
open_append [] r = omega arith
open_append (R.Open ∷ l) r = let h = open_append l r in omega arith
open_append (R.Kept ∷ l) r = open_append l r
open_append (R.Dropped ∷ l) r = open_append l r

none_open : (n : ℕ) (f : ℕ → R.Decision) → ((i : ℕ) → i < n → is_open (f i) ≡ false) → R.open_items (list_of n f) ≡ 0
unfolding list_of
none_open zero f h = refl
none_open (suc n) f h = go (f 0) (h 0 (omega arith)) (none_open n (λ i. f (suc i)) (λ i l. h (suc i) (omega arith)))
  where
    go : (x : R.Decision) → is_open x ≡ false → R.open_items (list_of n (λ i. f (suc i))) ≡ 0 → R.open_items (x ∷ list_of n (λ i. f (suc i))) ≡ 0
    go R.Open e k = let z : ◌≡◌ {A = ℕ} 0 1 = cc in absurd (omega arith)
    go R.Kept e k = k
    go R.Dropped e k = k

none_of : (n : ℕ) (p : ℕ → Bool) → some_below n p ≡ false → (i : ℕ) → i < n → p i ≡ false
none_of n p e i l = go (p i) refl
  where
    go : (x : Bool) → p i ≡ x → p i ≡ false
    go true q = absurd (subst T e (some_in n p i l (subst T (sym q) tt)))
    go false q = q

pub no_open_item : (n m : ℕ) (d : Decisions) → open_within d n m ≡ false → R.open_items (decision_list n m d) ≡ 0
unfolding open_within some_open decision_list
no_open_item n m d e = go (some_below n (λ i. is_open ((decided_as d).option i))) (some_below m (λ u. is_open ((decided_as d).ordering u))) refl refl e
  where
    go : (x y : Bool) → some_below n (λ i. is_open ((decided_as d).option i)) ≡ x → some_below m (λ u. is_open ((decided_as d).ordering u)) ≡ y → (x || y) ≡ false → R.open_items (list_of n (decided_as d).option ++ list_of m (decided_as d).ordering) ≡ 0
    go true y ex ey e = let z : ◌≡◌ {A = ℕ} 0 1 = cc in absurd (omega arith)
    go false true ex ey e = let z : ◌≡◌ {A = ℕ} 0 1 = cc in absurd (omega arith)
    go false false ex ey e =
        let a = none_open n (decided_as d).option (none_of n _ ex) in let b = none_open m (decided_as d).ordering (none_of m _ ey) in
        let c = open_append (list_of n (decided_as d).option) (list_of m (decided_as d).ordering) in omega arith
