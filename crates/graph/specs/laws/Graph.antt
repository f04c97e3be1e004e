-- One ordering, one row, one middle more: how the loops fill a table.
use Rattle.std.specs.Prelude.{◌≡◌, refl, Bool, true, false, ◌&&◌, ◌||◌, List, ℕ, suc, ◌+◌, ◌≤◌, ◌<◌, length, get_or, set, eqb, ltb}
use Rattle.std.proofs.Common.{sym, subst, ◌∙◌, arith, add-one, eq-eqb, ne_eqb, lt-ltb, le-ltb, length-set, get_or-set_same, get_or-set_other}
use Rattle.std.proofs.Math.Bool.{or-false}
use Rattle.std.proofs.Math.Decide.{ℕ_discrete}
use Rattle.rules.specs.Slots.{some_below, slots}
use Rattle.rules.specs.Joined.{through}
use Rattle.rows.specs.Bits.{has, with_if, joined_if}
use Rattle.rows.specs.Sets.{cell}
use Rattle.rows.specs.laws.Bits.{has_with_if, has_joined_if}
use Rattle.rows.specs.laws.Sets.{ltb_suc_ne}
use Rattle.rows.specs.laws.Slots.{some_more}
use Rattle.graph.specs.Graph.{kept_putting_first, WithOrderings, JoinedThrough, JoinedThroughAll}

pub with_orderings_none : (t : List ℕ) (kept_orderings : ℕ) (firsts seconds : List ℕ) → length t ≡ 32 → WithOrderings t kept_orderings firsts seconds 0 t
unfolding some_below
with_orderings_none t kept_orderings firsts seconds h = record { size = h; at = λ p q _. sym (or-false (cell t p q)) }

pub with_orderings_step : (t : List ℕ) (kept_orderings : ℕ) (firsts seconds : List ℕ) {u x : ℕ} {r : List ℕ} {y : Bool} → WithOrderings t kept_orderings firsts seconds u r → y ≡ has kept_orderings u
    → get_or firsts u 0 < 32 → x ≡ with_if (get_or r (get_or firsts u 0) 0) (get_or seconds u 0) y → WithOrderings t kept_orderings firsts seconds (u + 1) (set r (get_or firsts u 0) x)
with_orderings_step t kept_orderings firsts seconds {u} {x} {r} {y} w e h f = record { size = length-set r (get_or firsts u 0) x ∙ w.size; at = λ p q l. rw (some_more u (kept_putting_first kept_orderings firsts seconds p q)) (go p q l (ℕ_discrete p (get_or firsts u 0))) }
  where
    a : ℕ
    a = get_or firsts u 0

    b : ℕ
    b = get_or seconds u 0

    same : (o s c d : Bool) → ((o || s) || (c && d)) ≡ (o || (s || (c && (true && d))))
    same true s c d = refl
    same false true c d = refl
    same false false c d = refl

    other : (o s c d : Bool) → (o || s) ≡ (o || (s || (c && (false && d))))
    other true s c d = refl
    other false true c d = refl
    other false false true d = refl
    other false false false d = refl

    go : (p q : ℕ) → p < 32 → Dec (p ≡ a) → cell (set r a x) p q ≡ (cell t p q || (some_below u (kept_putting_first kept_orderings firsts seconds p q) || (has kept_orderings u && (eqb a p && eqb b q))))
    go p q l (yes k) = rw (k, get_or-set_same r a x 0 (let z = w.size in omega arith), f, has_with_if (get_or r a 0) b y q, w.at a q h, e, eq-eqb a a refl) (same (cell t a q) (some_below u (kept_putting_first kept_orderings firsts seconds a q)) (has kept_orderings u) (eqb b q))
    go p q l (no k) = rw (get_or-set_other r a p x 0 k, w.at p q l, ne_eqb a p (λ z. k (sym z))) (other (cell t p q) (some_below u (kept_putting_first kept_orderings firsts seconds p q)) (has kept_orderings u) (eqb b q))

pub joined_through_none : (t : List ℕ) (c : ℕ) → length t ≡ 32 → JoinedThrough t c 0 t
joined_through_none t c h = record { size = h; at = λ p q _. rw (le-ltb p 0 (omega arith)) (sym (or-false (cell t p q))) }

pub joined_through_step : (t : List ℕ) (c : ℕ) {i x : ℕ} {r : List ℕ} {y : Bool} → JoinedThrough t c i r → i < 32 → y ≡ cell t i c → x ≡ joined_if (get_or t i 0) (get_or t c 0) y → JoinedThrough t c (i + 1) (set r i x)
joined_through_step t c {i} {x} {r} {y} w h e f = record { size = length-set r i x ∙ w.size; at = λ p q l. rw (add-one i) (go p q l (ℕ_discrete p i)) }
  where
    go : (p q : ℕ) → p < 32 → Dec (p ≡ i) → cell (set r i x) p q ≡ (cell t p q || ((ltb p (suc i) && cell t p c) && cell t c q))
    go p q l (yes k) = rw (k, get_or-set_same r i x 0 (let z = w.size in omega arith), f, has_joined_if (get_or t i 0) (get_or t c 0) y q, e, lt-ltb i (suc i) (omega arith)) refl
    go p q l (no k) = rw (get_or-set_other r i p x 0 k, w.at p q l, ltb_suc_ne p i k) refl

pub joined_through_all_none : (t : List ℕ) (kept n : ℕ) → length t ≡ 32 → JoinedThroughAll t kept n 0 t
unfolding through slots
joined_through_all_none t kept n h = record { size = h; at = λ p q _ _. refl }

pub joined_through_all_kept : (t : List ℕ) (kept n : ℕ) {k : ℕ} {r s : List ℕ} → JoinedThroughAll t kept n k r → JoinedThrough r k n s → n ≤ 32 → k < n → has kept k ≡ true → JoinedThroughAll t kept n (k + 1) s
unfolding through slots
joined_through_all_kept t kept n {k} {r} {s} w j hn hk y = record {
  size = j.size;
  at = λ p q hp hq. rw (add-one k) (j.at p q (omega arith) ∙ rw (lt-ltb p n hp, w.at p q hp hq, w.at p k hp hk, w.at k q hk hq, y) refl);
}

pub joined_through_all_open : (t : List ℕ) (kept n : ℕ) {k : ℕ} {r : List ℕ} → JoinedThroughAll t kept n k r → has kept k ≡ false → JoinedThroughAll t kept n (k + 1) r
unfolding through slots
joined_through_all_open t kept n {k} {r} w y = record { size = w.size; at = λ p q hp hq. rw (add-one k) (w.at p q hp hq ∙ rw y refl) }

-- ---- where a loop ends
pub with_orderings_end : {t : List ℕ} {kept_orderings : ℕ} {firsts seconds : List ℕ} {u m : ℕ} {r : List ℕ} → WithOrderings t kept_orderings firsts seconds u r → u ≡ m → WithOrderings t kept_orderings firsts seconds m r
with_orderings_end {t} {kept_orderings} {firsts} {seconds} {u} {m} {r} w e = subst (λ k. WithOrderings t kept_orderings firsts seconds k r) e w

pub joined_through_end : {t : List ℕ} {c i n : ℕ} {r : List ℕ} → JoinedThrough t c i r → i ≡ n → JoinedThrough t c n r
joined_through_end {t} {c} {i} {n} {r} w e = subst (λ k. JoinedThrough t c k r) e w

pub joined_through_all_end : {t : List ℕ} {kept n i k : ℕ} {r : List ℕ} → JoinedThroughAll t kept n i r → i ≡ k → JoinedThroughAll t kept n k r
joined_through_all_end {t} {kept} {n} {i} {k} {r} w e = subst (λ j. JoinedThroughAll t kept n j r) e w
