-- A chain that the code checks, number by number and link by link.
use Rattle.std.specs.Prelude.{◌≡◌, refl, Bool, true, false, not, ◌⊎◌, get_or, T}
use Rattle.std.proofs.Common.{sym, subst, ◌∙◌, inl, inr, arith, eq-or-lt_of_le, le_of_suc-le-suc, add-one}
use mathlib.Core.List.Memᴰ
use mathlib.Core.List.{List, Memᴰ}
use Prim.Native.Nat.{ℕ, zero, suc, ◌+◌, ◌-◌, ◌≤◌, ◌<◌}
use Rattle.rules.specs.Slots.{list_of}
use Rattle.rules.specs.Subscription.{Subscription}
use Rattle.rules.specs.laws.Tests.{and_i}
use Rattle.rules.specs.laws.search.Items.{Item, linked, chained, closes}
use Rattle.rows.specs.Sets.{cell}
use Rattle.numbered.specs.Items.{numbered, Named, ends_only}
use Rattle.links.specs.Links.{AllNamed, members, linked_in}

pub false_true : {A : Type 0} → false ≡ true → A
false_true e = let z : ◌≡◌ {A = ℕ} 0 1 = cc in absurd (omega arith)

pub names_option : (n m x : ℕ) → x < 32 → x < n → Named n m x
names_option n m x h k = record { option = λ _. k; ordering = λ l. absurd (omega arith) }

pub names_ordering : (n m x : ℕ) → 32 ≤ x → x - 32 < m → Named n m x
names_ordering n m x h k = record { option = λ l. absurd (omega arith); ordering = λ _. k }

-- ---- the same facts at another name of a number or a list
pub named_at : (chain : List ℕ) (k l n m : ℕ) → k ≡ l → AllNamed chain k n m → AllNamed chain l n m
named_at chain k l n m e a = subst (λ z. AllNamed chain z n m) e a

pub not_false : (b : Bool) → not b ≡ false → b ≡ true
not_false true e = refl
not_false false e = sym e

-- ---- the members, one after another
pub named_none : (chain : List ℕ) (n m : ℕ) → AllNamed chain 0 n m
named_none chain n m = record { each = λ p h. absurd (omega arith) }

pub named_more : (chain : List ℕ) (k n m : ℕ) → AllNamed chain k n m → Named n m (get_or chain k 0) → AllNamed chain (k + 1) n m
named_more chain k n m a x = record { each = λ p h. go p (eq-or-lt_of_le (le_of_suc-le-suc (let z : suc p ≤ suc k = omega arith in z))) }
  where
    go : (p : ℕ) → (p ≡ k) ⊎ (p < k) → Named n m (get_or chain p 0)
    go p (inl e) = subst (λ z. Named n m (get_or chain z 0)) (sym e) x
    go p (inr l) = a.each p l

-- The first p members are each linked to the next.
pub record ChainTo (known firsts seconds : List ℕ) (n m : ℕ) (chain : List ℕ) (p : ℕ) : Type 0 where
  pub each : (q : ℕ) → q < p → linked_in n m known firsts seconds (get_or chain q 0) (get_or chain (q + 1) 0) ≡ true

pub chain_none : (known firsts seconds : List ℕ) (n m : ℕ) (chain : List ℕ) → ChainTo known firsts seconds n m chain 0
chain_none known firsts seconds n m chain = record { each = λ q h. absurd (omega arith) }

pub chain_more : (known firsts seconds : List ℕ) (n m : ℕ) (chain : List ℕ) (p : ℕ) → ChainTo known firsts seconds n m chain p → linked_in n m known firsts seconds (get_or chain p 0) (get_or chain (p + 1) 0) ≡ true
    → ChainTo known firsts seconds n m chain (p + 1)
chain_more known firsts seconds n m chain p h x = record { each = λ q l. go q (eq-or-lt_of_le (le_of_suc-le-suc (let z : suc q ≤ suc p = omega arith in z))) }
  where
    go : (q : ℕ) → (q ≡ p) ⊎ (q < p) → linked_in n m known firsts seconds (get_or chain q 0) (get_or chain (q + 1) 0) ≡ true
    go q (inl e) = subst (λ z. linked_in n m known firsts seconds (get_or chain z 0) (get_or chain (z + 1) 0) ≡ true) (sym e) x
    go q (inr l) = h.each q l

module _ (v : Subscription) (k : ℕ → ℕ → Bool) where
  chained_of : (p : ℕ) (f : ℕ → Item) (z : Item) → ((q : ℕ) → q < p → T (linked v k (f q) (f (suc q)))) → T (linked v k (f p) z) → T (chained v k (f 0) (list_of p (λ q. f (suc q))) z)
  unfolding chained list_of
  chained_of zero f z h l = l
  chained_of (suc p) f z h l = and_i (linked v k (f 0) (f 1)) _ (h 0 (omega arith)) (chained_of p (λ q. f (suc q)) z (λ q b. h (suc q) (omega arith)) l)

  closes_of : (p : ℕ) (f : ℕ → Item) → ((q : ℕ) → q < p → T (linked v k (f q) (f (suc q)))) → T (linked v k (f p) (f 0)) → T (closes v k (list_of (suc p) f))
  unfolding closes list_of
  closes_of p f h l = chained_of p f (f 0) h l

T_of : (b : Bool) → b ≡ true → T b
T_of b e = subst T (sym e) tt

pub chain_closes : (known firsts seconds : List ℕ) (n m : ℕ) (chain : List ℕ) (k p : ℕ) → p + 1 ≡ k → ChainTo known firsts seconds n m chain p
    → linked_in n m known firsts seconds (get_or chain p 0) (get_or chain 0 0) ≡ true → T (closes (ends_only n m firsts seconds) (cell known) (members chain k))
unfolding members
chain_closes known firsts seconds n m chain k p e h l = subst (λ z. T (closes (ends_only n m firsts seconds) (cell known) (list_of z (λ q. numbered (get_or chain q 0))))) (sym (add-one p) ∙ e)
    (closes_of (ends_only n m firsts seconds) (cell known) p (λ q. numbered (get_or chain q 0)) (λ q b'. T_of _ (subst (λ z. linked_in n m known firsts seconds (get_or chain q 0) (get_or chain z 0) ≡ true) (add-one q) (h.each q b'))) (T_of _ l))

-- a member is one of the first k items
pub member_at : (k : ℕ) (g : ℕ → Item) (x : Item) → Memᴰ x (list_of k g) → (p : ℕ) × (p < k) × (x ≡ g p)
unfolding list_of
member_at zero g x h = elim h [ ]
member_at (suc k) g x h = at (Memᴰ.cases_cons h) (member_at k (λ i. g (suc i)) x)
  where
    at : (x ≡ g 0) ⊎ Memᴰ x (list_of k (λ i. g (suc i))) → (Memᴰ x (list_of k (λ i. g (suc i))) → (p : ℕ) × (p < k) × (x ≡ g (suc p))) → (p : ℕ) × (p < suc k) × (x ≡ g p)
    at (inl q) rec = (0, omega arith, q)
    at (inr q) rec = let (p, l, y) = rec q in (suc p, omega arith, y)

pub member_is : (chain : List ℕ) (k : ℕ) (x : Item) → Memᴰ x (members chain k) → (p : ℕ) × (p < k) × (x ≡ numbered (get_or chain p 0))
unfolding members
member_is chain k x h = member_at k (λ p. numbered (get_or chain p 0)) x h
