-- Decision lists: agreement item by item, one item decided, and the choice that keeps just what is kept.
use Rattle.std.specs.Prelude.{◌≡◌, refl, Bool, true, false, not, List, [], ◌∷◌, ℕ, zero, suc, ◌+◌, ◌≤◌, ◌<◌, length, get_or, take, drop, set, T}
use Rattle.std.proofs.Common.{ap, le_of_suc-le-suc, arith}
use Rattle.std.proofs.Math.Option.{none, some}
use Rattle.rules.specs.Decisions.{Decision, Open, Kept, Dropped, is_open, is_kept, is_dropped, fits, Agrees, all_open, open_items, full_choice}
use Rattle.rules.specs.laws.Tests.{T_true, T_false}

-- ---- one decision
pub fits_in : (m : Decision) (b : Bool) → (T (is_kept m) → T b) → (T (is_dropped m) → T (not b)) → fits m b
fits_in Open b h k = tt
fits_in Kept b h k = h tt
fits_in Dropped b h k = k tt

pub fits_kept : (m : Decision) (b : Bool) → fits m b → T (is_kept m) → T b
fits_kept Open b f t = absurd t
fits_kept Kept b f t = f
fits_kept Dropped b f t = absurd t

pub fits_dropped : (m : Decision) (b : Bool) → fits m b → T (is_dropped m) → T (not b)
fits_dropped Open b f t = absurd t
fits_dropped Kept b f t = absurd t
fits_dropped Dropped b f t = f

pub not_decided_is_open : (m : Decision) → (T (is_kept m) → ⊥) → (T (is_dropped m) → ⊥) → T (is_open m)
not_decided_is_open Open h k = tt
not_decided_is_open Kept h k = h tt
not_decided_is_open Dropped h k = k tt

-- ---- agreement, item by item
pub agrees_length : (d : List Decision) (r : List Bool) → Agrees d r → length d ≡ length r
agrees_length [] [] a = refl
agrees_length [] (b ∷ r) a = absurd a
agrees_length (m ∷ d) [] a = absurd a
agrees_length (m ∷ d) (b ∷ r) a = ap suc (agrees_length d r a.1)

agrees_at : (d : List Decision) (r : List Bool) → Agrees d r → (i : ℕ) → fits (get_or d i Open) (get_or r i false)
agrees_at [] [] a i = tt
agrees_at [] (b ∷ r) a i = absurd a
agrees_at (m ∷ d) [] a i = absurd a
agrees_at (m ∷ d) (b ∷ r) a zero = a.0
agrees_at (m ∷ d) (b ∷ r) a (suc i) = agrees_at d r a.1 i

pub agrees_kept : (d : List Decision) (r : List Bool) → Agrees d r → (i : ℕ) → T (is_kept (get_or d i Open)) → T (get_or r i false)
agrees_kept d r a i t = fits_kept (get_or d i Open) (get_or r i false) (agrees_at d r a i) t

pub agrees_dropped : (d : List Decision) (r : List Bool) → Agrees d r → (i : ℕ) → T (is_dropped (get_or d i Open)) → T (not (get_or r i false))
agrees_dropped d r a i t = fits_dropped (get_or d i Open) (get_or r i false) (agrees_at d r a i) t

pub agrees_from : (d : List Decision) (r : List Bool) → length d ≡ length r → ((i : ℕ) → T (is_kept (get_or d i Open)) → T (get_or r i false))
    → ((i : ℕ) → T (is_dropped (get_or d i Open)) → T (not (get_or r i false))) → Agrees d r
agrees_from [] [] e h k = tt
agrees_from [] (b ∷ r) e h k = absurd (omega arith)
agrees_from (m ∷ d) [] e h k = absurd (omega arith)
agrees_from (m ∷ d) (b ∷ r) e h k = (fits_in m b (h zero) (k zero), agrees_from d r (omega arith) (λ i. h (suc i)) (λ i. k (suc i)))

pub agrees_take : (n : ℕ) (d : List Decision) (r : List Bool) → Agrees d r → Agrees (take n d) (take n r)
agrees_take zero d r a = tt
agrees_take (suc n) [] [] a = tt
agrees_take (suc n) [] (b ∷ r) a = absurd a
agrees_take (suc n) (m ∷ d) [] a = absurd a
agrees_take (suc n) (m ∷ d) (b ∷ r) a = (a.0, agrees_take n d r a.1)

pub agrees_drop : (n : ℕ) (d : List Decision) (r : List Bool) → Agrees d r → Agrees (drop n d) (drop n r)
agrees_drop zero d r a = a
agrees_drop (suc n) [] [] a = tt
agrees_drop (suc n) [] (b ∷ r) a = absurd a
agrees_drop (suc n) (m ∷ d) [] a = absurd a
agrees_drop (suc n) (m ∷ d) (b ∷ r) a = agrees_drop n d r a.1

pub agrees_join : (n : ℕ) (d : List Decision) (r : List Bool) → Agrees (take n d) (take n r) → Agrees (drop n d) (drop n r) → Agrees d r
agrees_join zero d r a b = b
agrees_join (suc n) [] [] a b = tt
agrees_join (suc n) [] (x ∷ r) a b = absurd a
agrees_join (suc n) (m ∷ d) [] a b = absurd a
agrees_join (suc n) (m ∷ d) (x ∷ r) a b = (a.0, agrees_join n d r a.1 b)

-- ---- one item decided, at any place
pub agrees_set : (d : List Decision) (r : List Bool) (k : ℕ) → Agrees d r → Agrees (set d k Kept) (set r k true)
agrees_set [] [] k a = tt
agrees_set [] (b ∷ r) k a = absurd a
agrees_set (m ∷ d) [] k a = absurd a
agrees_set (m ∷ d) (b ∷ r) zero a = (tt, a.1)
agrees_set (m ∷ d) (b ∷ r) (suc k) a = (a.0, agrees_set d r k a.1)

pub agrees_decided : (m : Decision) (d : List Decision) (r : List Bool) (k : ℕ) → Agrees d r → fits m (get_or r k false) → Agrees (set d k m) r
agrees_decided m [] [] k a t = tt
agrees_decided m [] (b ∷ r) k a t = absurd a
agrees_decided m (w ∷ d) [] k a t = absurd a
agrees_decided m (w ∷ d) (b ∷ r) zero a t = (t, a.1)
agrees_decided m (w ∷ d) (b ∷ r) (suc k) a t = (a.0, agrees_decided m d r k a.1 t)

pub agrees_undecided : (m : Decision) (d : List Decision) (r : List Bool) (k : ℕ) → T (is_open (get_or d k Open)) → Agrees (set d k m) r → Agrees d r
agrees_undecided m [] r k o a = a
agrees_undecided m (w ∷ d) [] zero o a = absurd a
agrees_undecided m (w ∷ d) [] (suc k) o a = absurd a
agrees_undecided m (Open ∷ d) (b ∷ r) zero o a = (tt, a.1)
agrees_undecided m (Kept ∷ d) (b ∷ r) zero o a = absurd o
agrees_undecided m (Dropped ∷ d) (b ∷ r) zero o a = absurd o
agrees_undecided m (w ∷ d) (b ∷ r) (suc k) o a = (a.0, agrees_undecided m d r k o a.1)

pub one_item_less : (m : Decision) (d : List Decision) (k : ℕ) → (T (is_open m) → ⊥) → k < length d → T (is_open (get_or d k Open)) → open_items d ≡ suc (open_items (set d k m))
one_item_less m [] k s l o = absurd (omega arith)
one_item_less Open (w ∷ d) zero s l o = absurd (s tt)
one_item_less Kept (Open ∷ d) zero s l o = refl
one_item_less Kept (Kept ∷ d) zero s l o = absurd o
one_item_less Kept (Dropped ∷ d) zero s l o = absurd o
one_item_less Dropped (Open ∷ d) zero s l o = refl
one_item_less Dropped (Kept ∷ d) zero s l o = absurd o
one_item_less Dropped (Dropped ∷ d) zero s l o = absurd o
one_item_less m (Open ∷ d) (suc k) s l o = ap suc (one_item_less m d k s (le_of_suc-le-suc l) o)
one_item_less m (Kept ∷ d) (suc k) s l o = one_item_less m d k s (le_of_suc-le-suc l) o
one_item_less m (Dropped ∷ d) (suc k) s l o = one_item_less m d k s (le_of_suc-le-suc l) o

-- ---- more decided
pub open_items_fall : (f d : List Decision) → length f ≡ length d → ((i : ℕ) → i < length d → T (is_open (get_or f i Open)) → T (is_open (get_or d i Open))) → open_items f ≤ open_items d
open_items_fall [] [] e h = omega arith
open_items_fall [] (m ∷ d) e h = absurd (omega arith)
open_items_fall (m ∷ f) [] e h = absurd (omega arith)
open_items_fall (m ∷ f) (w ∷ d) e h = go m w (h zero (omega arith)) (open_items_fall f d (omega arith) (λ i l. h (suc i) (omega arith)))
  where
    go : (m w : Decision) → (T (is_open m) → T (is_open w)) → open_items f ≤ open_items d → open_items (m ∷ f) ≤ open_items (w ∷ d)
    go Open Open h k = omega arith
    go Open Kept h k = absurd (h tt)
    go Open Dropped h k = absurd (h tt)
    go Kept Open h k = omega arith
    go Kept Kept h k = k
    go Kept Dropped h k = k
    go Dropped Open h k = omega arith
    go Dropped Kept h k = k
    go Dropped Dropped h k = k

pub open_items_split : (n : ℕ) (d : List Decision) → open_items d ≡ open_items (take n d) + open_items (drop n d)
open_items_split zero d = omega arith
open_items_split (suc n) [] = refl
open_items_split (suc n) (Open ∷ d) = let h = open_items_split n d in omega arith
open_items_split (suc n) (Kept ∷ d) = open_items_split n d
open_items_split (suc n) (Dropped ∷ d) = open_items_split n d

-- ---- nothing decided
pub length_all_open : (k : ℕ) → length (all_open k) ≡ k
length_all_open zero = refl
length_all_open (suc k) = ap suc (length_all_open k)

pub all_open_is_open : (k : ℕ) → open_items (all_open k) ≡ k
all_open_is_open zero = refl
all_open_is_open (suc k) = ap suc (all_open_is_open k)

pub agrees_all_open : (r : List Bool) (k : ℕ) → length r ≡ k → Agrees (all_open k) r
agrees_all_open [] zero e = tt
agrees_all_open [] (suc k) e = absurd (omega arith)
agrees_all_open (b ∷ r) zero e = absurd (omega arith)
agrees_all_open (b ∷ r) (suc k) e = (tt, agrees_all_open r k (omega arith))

-- ---- just the kept: an open item counts as dropped, so this is the whole choice only where nothing is open
abbrev pub just_the_kept : List Decision → List Bool
just_the_kept [] = []
just_the_kept (m ∷ d) = is_kept m ∷ just_the_kept d

pub just_the_kept_at : (d : List Decision) (i : ℕ) → get_or (just_the_kept d) i false ≡ is_kept (get_or d i Open)
just_the_kept_at [] i = refl
just_the_kept_at (m ∷ d) zero = refl
just_the_kept_at (m ∷ d) (suc i) = just_the_kept_at d i

pub length_just_the_kept : (d : List Decision) → length (just_the_kept d) ≡ length d
length_just_the_kept [] = refl
length_just_the_kept (m ∷ d) = ap suc (length_just_the_kept d)

pub take_just_the_kept : (n : ℕ) (d : List Decision) → take n (just_the_kept d) ≡ just_the_kept (take n d)
take_just_the_kept zero d = refl
take_just_the_kept (suc n) [] = refl
take_just_the_kept (suc n) (m ∷ d) = ap (λ l. is_kept m ∷ l) (take_just_the_kept n d)

pub drop_just_the_kept : (n : ℕ) (d : List Decision) → drop n (just_the_kept d) ≡ just_the_kept (drop n d)
drop_just_the_kept zero d = refl
drop_just_the_kept (suc n) [] = refl
drop_just_the_kept (suc n) (m ∷ d) = drop_just_the_kept n d

pub just_the_kept_agrees : (d : List Decision) → Agrees d (just_the_kept d)
just_the_kept_agrees [] = tt
just_the_kept_agrees (Open ∷ d) = (tt, just_the_kept_agrees d)
just_the_kept_agrees (Kept ∷ d) = (tt, just_the_kept_agrees d)
just_the_kept_agrees (Dropped ∷ d) = (tt, just_the_kept_agrees d)

-- Where nothing is open, one choice agrees.
pub only_choice : (d : List Decision) (r : List Bool) → open_items d ≡ 0 → Agrees d r → r ≡ just_the_kept d
only_choice [] [] z a = refl
only_choice [] (b ∷ r) z a = absurd a
only_choice (m ∷ d) [] z a = absurd a
only_choice (Open ∷ d) (b ∷ r) z a = absurd (omega arith)
only_choice (Kept ∷ d) (b ∷ r) z a = let h = only_choice d r z a.1 in let e = T_true b a.0 in cc
only_choice (Dropped ∷ d) (b ∷ r) z a = let h = only_choice d r z a.1 in let e = T_false b a.0 in cc

pub full_choice_is : (d : List Decision) → open_items d ≡ 0 → full_choice d ≡ some (just_the_kept d)
full_choice_is [] z = refl
full_choice_is (Open ∷ d) z = absurd (omega arith)
full_choice_is (Kept ∷ d) z = rw (full_choice_is d z) refl
full_choice_is (Dropped ∷ d) z = rw (full_choice_is d z) refl

pub open_has_no_choice : (d : List Decision) → 0 < open_items d → full_choice d ≡ none
open_has_no_choice [] z = absurd (omega arith)
open_has_no_choice (Open ∷ d) z = refl
open_has_no_choice (Kept ∷ d) z = rw (open_has_no_choice d z) refl
open_has_no_choice (Dropped ∷ d) z = rw (open_has_no_choice d z) refl
