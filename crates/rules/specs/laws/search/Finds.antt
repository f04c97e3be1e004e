-- The contract of a search that starts from any decisions and any goal: what counts as a find, and what the search gives back.
-- Over any test of what is allowed, any value and any tolerance: nothing of options or orderings is in it.
use Rattle.std.specs.Prelude.{◌≡◌, refl, Bool, ◌⊎◌, List, ℕ, suc, ◌+◌, ◌≤◌, ◌<◌, T}
use Rattle.std.proofs.Common.{sym, subst, inl, arith}
use Rattle.std.proofs.Math.Option.{Option, some}
use Rattle.rules.specs.Decisions.{Decision, Agrees, open_items}
use Rattle.rules.specs.Best.{wins_tie, Best}
use Rattle.rules.specs.laws.Decisions.{just_the_kept, just_the_kept_agrees, only_choice}

module _ (worth : List Bool → ℕ) where
  -- Within a tolerance of the best; at tolerance 0 the best itself.
  pub record WithinTolerance (tolerance : ℕ) (S : List Bool → Type 0) (r : List Bool) : Type 0 where
    pub allowed : S r
    pub top : (s : List Bool) → S s → worth s ≤ worth r + tolerance
    pub tie : tolerance ≡ 0 → (s : List Bool) → S s → worth s ≡ worth r → (s ≡ r) ⊎ T (wins_tie r s)

  pub within_0_is_best : {S : List Bool → Type 0} (r : List Bool) → WithinTolerance 0 S r → Best worth S r
  within_0_is_best r b = record { allowed = b.allowed; top = λ s m. let h = b.top s m in omega arith; tie = λ s m q. b.tie refl s m q }

-- What is found so far, and the goal: what a choice must be worth to count. It is the floor at first, and one more than the find's value later.
pub record SoFar : Type 0 where
  pub goal : ℕ
  pub find : Option (List Bool)

module _ (worth : List Bool → ℕ) where
  -- The state once b is found.
  abbrev pub holds : List Bool → SoFar
  holds b = record { goal = suc (worth b); find = some b }

module _ (worth : List Bool → ℕ) (Allowed : List Bool → Type 0) (tolerance : ℕ) where
  -- Of what agrees with d: nothing reaches the goal by more than the tolerance, or b does and nothing is better by more than the tolerance.
  pub data Finds (d : List Decision) (so_far now : SoFar) : Type 0 where
    nothing : now ≡ so_far → ((r : List Bool) → Allowed r → Agrees d r → worth r < so_far.goal + tolerance) → Finds d so_far now
    better : (b : List Bool) → now ≡ holds worth b → so_far.goal ≤ worth b → WithinTolerance worth tolerance (λ r. Allowed r × Agrees d r) b → Finds d so_far now

  -- A leaf that reaches the goal.
  pub finds_leaf : (d : List Decision) (so_far : SoFar) → open_items d ≡ 0 → Allowed (just_the_kept d) → so_far.goal ≤ worth (just_the_kept d) → Finds d so_far (holds worth (just_the_kept d))
  finds_leaf d so_far z o w = better (just_the_kept d) refl w (record {
    allowed = (o, just_the_kept_agrees d);
    top = λ r m. subst (λ s. worth s ≤ worth (just_the_kept d) + tolerance) (sym (only_choice d r z m.1)) (omega arith);
    tie = λ q r m v. inl (only_choice d r z m.1);
  })

  -- A leaf that does not.
  pub finds_worse : (d : List Decision) (so_far : SoFar) → open_items d ≡ 0 → worth (just_the_kept d) < so_far.goal → Finds d so_far so_far
  finds_worse d so_far z w = nothing refl (λ r o a. subst (λ s. worth s < so_far.goal + tolerance) (sym (only_choice d r z a)) (omega arith))

  -- A cut: an upper limit of what agrees is below the goal, within the tolerance.
  pub finds_cut : (d : List Decision) (so_far : SoFar) (u : ℕ) → ((r : List Bool) → Allowed r → Agrees d r → worth r ≤ u) → u < so_far.goal + tolerance → Finds d so_far so_far
  finds_cut d so_far u h l = nothing refl (λ r o a. let k = h r o a in omega arith)

  -- A contradiction.
  pub finds_none : (d : List Decision) (so_far : SoFar) → ((r : List Bool) → Allowed r → Agrees d r → ⊥) → Finds d so_far so_far
  finds_none d so_far h = nothing refl (λ r o a. absurd (h r o a))
