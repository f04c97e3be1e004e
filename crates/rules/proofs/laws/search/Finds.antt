-- The keep branch, then the drop branch.
use Rattle.std.specs.Prelude.{◌≡◌, Bool, ◌⊎◌, List, ℕ, suc, ◌+◌, ◌≤◌, ◌<◌, T}
use Rattle.std.proofs.Common.{subst, ◌∙◌, inl, inr, arith}
use Rattle.rules.specs.Decisions.{Decision, Kept, Dropped, Agrees, open_items}
use Rattle.rules.specs.Best.{wins_tie}
use Rattle.rules.specs.laws.search.Branch.{decide_next, next_cases, next_agrees, keeping_wins_tie}
use Rattle.rules.specs.laws.search.Finds.{SoFar, Finds, nothing, better}

module _ (worth : List Bool → ℕ) (Allowed : List Bool → Type 0) (tolerance : ℕ) where
  -- The keep branch, then the drop branch, at the first open item.
  pub finds_split : (d : List Decision) (so_far mid now : SoFar) → 0 < open_items d → Finds worth Allowed tolerance (decide_next Kept d) so_far mid → Finds worth Allowed tolerance (decide_next Dropped d) mid now → Finds worth Allowed tolerance d so_far now
  finds_split d so_far mid now z (nothing e h) (nothing f k) = nothing (f ∙ e) (λ r o a. go r o (next_cases d r z a))
    where
      go : (r : List Bool) → Allowed r → Agrees (decide_next Kept d) r ⊎ Agrees (decide_next Dropped d) r → worth r < so_far.goal + tolerance
      go r o (inl a) = h r o a
      go r o (inr a) = subst (λ i. worth r < i.goal + tolerance) e (k r o a)
  finds_split d so_far mid now z (nothing e h) (better c f w n) = better c f beats (record {
    allowed = (n.allowed.0, next_agrees Dropped d c n.allowed.1);
    top = λ r m. top r m.0 (next_cases d r z m.1);
    tie = λ q r m v. tie q r m.0 v (next_cases d r z m.1);
  })
    where
      beats : so_far.goal ≤ worth c
      beats = subst (λ i. i.goal ≤ worth c) e w

      top : (r : List Bool) → Allowed r → Agrees (decide_next Kept d) r ⊎ Agrees (decide_next Dropped d) r → worth r ≤ worth c + tolerance
      top r o (inl a) = let l = h r o a in let b = beats in omega arith
      top r o (inr a) = n.top r (o, a)

      tie : tolerance ≡ 0 → (r : List Bool) → Allowed r → worth r ≡ worth c → Agrees (decide_next Kept d) r ⊎ Agrees (decide_next Dropped d) r → (r ≡ c) ⊎ T (wins_tie c r)
      tie q r o v (inl a) = let l = h r o a in let b = beats in absurd (omega arith)
      tie q r o v (inr a) = n.tie q r (o, a) v
  finds_split d so_far mid now z (better b e w n) (nothing f k) = better b (f ∙ e) w (record {
    allowed = (n.allowed.0, next_agrees Kept d b n.allowed.1);
    top = λ r m. top r m.0 (next_cases d r z m.1);
    tie = λ q r m v. tie q r m.0 v (next_cases d r z m.1);
  })
    where
      top : (r : List Bool) → Allowed r → Agrees (decide_next Kept d) r ⊎ Agrees (decide_next Dropped d) r → worth r ≤ worth b + tolerance
      top r o (inl a) = n.top r (o, a)
      top r o (inr a) = let l = subst (λ i. worth r < i.goal + tolerance) e (k r o a) in omega arith

      tie : tolerance ≡ 0 → (r : List Bool) → Allowed r → worth r ≡ worth b → Agrees (decide_next Kept d) r ⊎ Agrees (decide_next Dropped d) r → (r ≡ b) ⊎ T (wins_tie b r)
      tie q r o v (inl a) = n.tie q r (o, a) v
      tie q r o v (inr a) = inr (keeping_wins_tie d b r z n.allowed.1 a)
  finds_split d so_far mid now z (better b e w n) (better c f x m) = better c f (let k = lt in omega arith) (record {
    allowed = (m.allowed.0, next_agrees Dropped d c m.allowed.1);
    top = λ r k. top r k.0 (next_cases d r z k.1);
    tie = λ q r k v. tie q r k.0 v (next_cases d r z k.1);
  })
    where
      lt : suc (worth b) ≤ worth c
      lt = subst (λ i. i.goal ≤ worth c) e x

      top : (r : List Bool) → Allowed r → Agrees (decide_next Kept d) r ⊎ Agrees (decide_next Dropped d) r → worth r ≤ worth c + tolerance
      top r o (inl a) = let l = n.top r (o, a) in let k = lt in omega arith
      top r o (inr a) = m.top r (o, a)

      tie : tolerance ≡ 0 → (r : List Bool) → Allowed r → worth r ≡ worth c → Agrees (decide_next Kept d) r ⊎ Agrees (decide_next Dropped d) r → (r ≡ c) ⊎ T (wins_tie c r)
      tie q r o v (inl a) = let l = n.top r (o, a) in let k = lt in absurd (omega arith)
      tie q r o v (inr a) = m.tie q r (o, a) v
