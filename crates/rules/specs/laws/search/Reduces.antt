-- Reducing a half-decided list: more decisions, and nothing lost that the search still needs.
-- Forced decisions, forcing by limits and items that may as well be kept are all of this kind, and follow one another in any order;
-- what rests on the tie order is in `proofs/laws`.
use Rattle.std.specs.Prelude.{◌≡◌, refl, Bool, true, false, not, ◌⊎◌, List, ℕ, ◌+◌, ◌≤◌, ◌<◌, get_or, set, T, leb}
use Rattle.std.proofs.Common.{inl, inr, arith, leb→le}
use Rattle.std.proofs.Math.Dec.{nleb→lt}
use Rattle.rules.specs.Decisions.{Decision, Open, Kept, is_open, Agrees}
use Rattle.rules.specs.Best.{wins_tie}
use Rattle.rules.specs.laws.Decisions.{agrees_decided, agrees_undecided}

module _ (worth : List Bool → ℕ) (Allowed : List Bool → Type 0) (tolerance : ℕ) where
  -- Among what agrees with f stands a choice worth no less than r: r itself, or one before r in the tie order, or one worth more.
  pub record Above (f : List Decision) (r : List Bool) : Type 0 where
    pub other : List Bool
    pub allowed : Allowed other
    pub agrees : Agrees f other
    pub value_of : worth r ≤ worth other
    pub order : (other ≡ r) ⊎ (T (wins_tie other r) ⊎ (worth r < worth other))

  -- d reduces to f: what agrees with f agrees with d, and whatever agrees with d is needless or has its like among what agrees with f.
  pub record Reduces (goal : ℕ) (d f : List Decision) : Type 0 where
    pub from : (r : List Bool) → Agrees f r → Agrees d r
    pub to : (r : List Bool) → Allowed r → Agrees d r → (worth r < goal + tolerance) ⊎ Above f r

  pub above_itself : (f : List Decision) (r : List Bool) → Allowed r → Agrees f r → Above f r
  above_itself f r o a = record { other = r; allowed = o; agrees = a; value_of = omega arith; order = inl refl }

  -- Forced decisions are a reduction: whatever agrees, agrees with them.
  pub reduces_forced : (goal : ℕ) (d f : List Decision) → ((r : List Bool) → Agrees f r → Agrees d r) → ((r : List Bool) → Allowed r → Agrees d r → Agrees f r) → Reduces goal d f
  reduces_forced goal d f from to = record { from = from; to = λ r o a. inr (above_itself f r o (to r o a)) }

  -- FORCING by limits: whatever is not needless keeps item k.
  pub reduces_kept : (goal : ℕ) (d : List Decision) (k : ℕ) → T (is_open (get_or d k Open))
      → ((r : List Bool) → Allowed r → Agrees d r → goal + tolerance ≤ worth r → T (get_or r k false)) → Reduces goal d (set d k Kept)
  reduces_kept goal d k o h = record { from = λ r a. agrees_undecided Kept d r k o a; to = λ r ok a. go r ok a (leb (goal + tolerance) (worth r)) (leb→le (goal + tolerance) (worth r)) (nleb→lt (goal + tolerance) (worth r)) }
    where
      go : (r : List Bool) → Allowed r → Agrees d r → (b : Bool) → (T b → goal + tolerance ≤ worth r) → (T (not b) → worth r < goal + tolerance) → (worth r < goal + tolerance) ⊎ Above (set d k Kept) r
      go r ok a true p q = inr (above_itself (set d k Kept) r ok (agrees_decided Kept d r k a (h r ok a (p tt))))
      go r ok a false p q = inl (q tt)

-- What is needless at a low goal is needless at a higher one.
pub reduces_weaker : (worth : List Bool → ℕ) (Allowed : List Bool → Type 0) (goal tolerance want : ℕ) (d f : List Decision) → want ≤ goal + tolerance → Reduces worth Allowed 0 want d f → Reduces worth Allowed tolerance goal d f
reduces_weaker worth Allowed goal tolerance want d f l p = record { from = p.from; to = λ r o a. go r (p.to r o a) }
  where
    go : (r : List Bool) → (worth r < want + 0) ⊎ Above worth Allowed 0 f r → (worth r < goal + tolerance) ⊎ Above worth Allowed tolerance f r
    go r (inl k) = inl (omega arith)
    go r (inr b) = inr (record { other = b.other; allowed = b.allowed; agrees = b.agrees; value_of = b.value_of; order = b.order })
