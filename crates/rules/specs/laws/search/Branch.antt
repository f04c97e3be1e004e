-- Branching on the first open item: keep, then drop.
use Rattle.std.specs.Prelude.{◌≡◌, refl, Bool, true, false, not, ◌⊎◌, List, [], ◌∷◌, ℕ, zero, suc, ◌<◌, length, get_or, set, T}
use Rattle.std.proofs.Common.{ap, inl, inr, arith, le_of_suc-le-suc}
use Rattle.rules.specs.Decisions.{Decision, Open, Kept, Dropped, Agrees, open_items, is_open}
use Rattle.rules.specs.Best.{wins_tie}

-- The decision m for the first open item.
abbrev pub decide_next : Decision → List Decision → List Decision
decide_next m [] = []
decide_next m (Open ∷ d) = m ∷ d
decide_next m (Kept ∷ d) = Kept ∷ decide_next m d
decide_next m (Dropped ∷ d) = Dropped ∷ decide_next m d

pub next_cases : (d : List Decision) (r : List Bool) → 0 < open_items d → Agrees d r → Agrees (decide_next Kept d) r ⊎ Agrees (decide_next Dropped d) r
next_cases [] r z a = absurd (omega arith)
next_cases (Open ∷ d) [] z a = absurd a
next_cases (Kept ∷ d) [] z a = absurd a
next_cases (Dropped ∷ d) [] z a = absurd a
next_cases (Open ∷ d) (true ∷ r) z a = inl (tt, a.1)
next_cases (Open ∷ d) (false ∷ r) z a = inr (tt, a.1)
next_cases (Kept ∷ d) (b ∷ r) z a = go (next_cases d r z a.1)
  where
    go : Agrees (decide_next Kept d) r ⊎ Agrees (decide_next Dropped d) r → (T b × Agrees (decide_next Kept d) r) ⊎ (T b × Agrees (decide_next Dropped d) r)
    go (inl h) = inl (a.0, h)
    go (inr h) = inr (a.0, h)
next_cases (Dropped ∷ d) (b ∷ r) z a = go (next_cases d r z a.1)
  where
    go : Agrees (decide_next Kept d) r ⊎ Agrees (decide_next Dropped d) r → (T (not b) × Agrees (decide_next Kept d) r) ⊎ (T (not b) × Agrees (decide_next Dropped d) r)
    go (inl h) = inl (a.0, h)
    go (inr h) = inr (a.0, h)

pub next_agrees : (m : Decision) (d : List Decision) (r : List Bool) → Agrees (decide_next m d) r → Agrees d r
next_agrees m [] r a = a
next_agrees m (Open ∷ d) [] a = a
next_agrees m (Kept ∷ d) [] a = a
next_agrees m (Dropped ∷ d) [] a = a
next_agrees m (Open ∷ d) (b ∷ r) a = (tt, a.1)
next_agrees m (Kept ∷ d) (b ∷ r) a = (a.0, next_agrees m d r a.1)
next_agrees m (Dropped ∷ d) (b ∷ r) a = (a.0, next_agrees m d r a.1)

pub keep_next_closes_one : (d : List Decision) → 0 < open_items d → open_items d ≡ suc (open_items (decide_next Kept d))
keep_next_closes_one [] z = absurd (omega arith)
keep_next_closes_one (Open ∷ d) z = refl
keep_next_closes_one (Kept ∷ d) z = keep_next_closes_one d z
keep_next_closes_one (Dropped ∷ d) z = keep_next_closes_one d z

pub drop_next_closes_one : (d : List Decision) → 0 < open_items d → open_items d ≡ suc (open_items (decide_next Dropped d))
drop_next_closes_one [] z = absurd (omega arith)
drop_next_closes_one (Open ∷ d) z = refl
drop_next_closes_one (Kept ∷ d) z = drop_next_closes_one d z
drop_next_closes_one (Dropped ∷ d) z = drop_next_closes_one d z

pub length_decide_next : (m : Decision) (d : List Decision) → length (decide_next m d) ≡ length d
length_decide_next m [] = refl
length_decide_next m (Open ∷ d) = refl
length_decide_next m (Kept ∷ d) = ap suc (length_decide_next m d)
length_decide_next m (Dropped ∷ d) = ap suc (length_decide_next m d)

-- The first open item stands at place k: to decide it is to set that place.
pub decide_next_sets : (m : Decision) (d : List Decision) (k : ℕ) → k < length d → T (is_open (get_or d k Open)) → ((j : ℕ) → j < k → T (is_open (get_or d j Open)) → ⊥) → decide_next m d ≡ set d k m
decide_next_sets m [] k l o none = absurd (omega arith)
decide_next_sets m (Open ∷ d) zero l o none = refl
decide_next_sets m (Kept ∷ d) zero l o none = absurd o
decide_next_sets m (Dropped ∷ d) zero l o none = absurd o
decide_next_sets m (Open ∷ d) (suc k) l o none = absurd (none 0 (omega arith) tt)
decide_next_sets m (Kept ∷ d) (suc k) l o none = ap (λ t. Kept ∷ t) (decide_next_sets m d k (le_of_suc-le-suc l) o (λ j h. none (suc j) (omega arith)))
decide_next_sets m (Dropped ∷ d) (suc k) l o none = ap (λ t. Dropped ∷ t) (decide_next_sets m d k (le_of_suc-le-suc l) o (λ j h. none (suc j) (omega arith)))

-- What keeps the first open item wins over what drops it.
pub keeping_wins_tie : (d : List Decision) (r s : List Bool) → 0 < open_items d → Agrees (decide_next Kept d) r → Agrees (decide_next Dropped d) s → T (wins_tie r s)
keeping_wins_tie [] r s z a b = absurd (omega arith)
keeping_wins_tie (Open ∷ d) [] s z a b = absurd a
keeping_wins_tie (Kept ∷ d) [] s z a b = absurd a
keeping_wins_tie (Dropped ∷ d) [] s z a b = absurd a
keeping_wins_tie (Open ∷ d) (c ∷ r) [] z a b = absurd b
keeping_wins_tie (Kept ∷ d) (c ∷ r) [] z a b = absurd b
keeping_wins_tie (Dropped ∷ d) (c ∷ r) [] z a b = absurd b
keeping_wins_tie (Open ∷ d) (true ∷ r) (true ∷ s) z a b = absurd b.0
keeping_wins_tie (Open ∷ d) (true ∷ r) (false ∷ s) z a b = tt
keeping_wins_tie (Open ∷ d) (false ∷ r) (c ∷ s) z a b = absurd a.0
keeping_wins_tie (Kept ∷ d) (true ∷ r) (true ∷ s) z a b = keeping_wins_tie d r s z a.1 b.1
keeping_wins_tie (Kept ∷ d) (true ∷ r) (false ∷ s) z a b = absurd b.0
keeping_wins_tie (Kept ∷ d) (false ∷ r) (c ∷ s) z a b = absurd a.0
keeping_wins_tie (Dropped ∷ d) (true ∷ r) (c ∷ s) z a b = absurd a.0
keeping_wins_tie (Dropped ∷ d) (false ∷ r) (true ∷ s) z a b = absurd b.0
keeping_wins_tie (Dropped ∷ d) (false ∷ r) (false ∷ s) z a b = keeping_wins_tie d r s z a.1 b.1
