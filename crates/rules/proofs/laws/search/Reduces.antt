-- Reductions that rest on the tie order.
use Rattle.std.specs.Prelude.{◌≡◌, Bool, true, false, not, ◌⊎◌, List, ℕ, ◌+◌, ◌≤◌, ◌<◌, length, get_or, set, T}
use Rattle.std.proofs.Common.{sym, subst, ◌∙◌, inl, inr, arith}
use Rattle.std.proofs.Math.Dec.{not_T}
use Rattle.rules.specs.Decisions.{Decision, Open, Kept, is_open, Agrees}
use Rattle.rules.specs.Best.{wins_tie}
use Rattle.rules.specs.laws.Tests.{test}
use Rattle.rules.proofs.laws.Tie.{tie_transitive, adding_wins_tie}
use Rattle.rules.specs.laws.Decisions.{agrees_set, agrees_decided, agrees_undecided}
use Rattle.rules.specs.laws.search.Finds.{SoFar, Finds, nothing, better}
use Rattle.rules.specs.laws.search.Reduces.{Above, Reduces, above_itself}

module _ (worth : List Bool → ℕ) (Allowed : List Bool → Type 0) (tolerance : ℕ) where
  -- One reduction after another.
  pub reduces_then : (goal : ℕ) (d f h : List Decision) → Reduces worth Allowed tolerance goal d f → Reduces worth Allowed tolerance goal f h → Reduces worth Allowed tolerance goal d h
  reduces_then goal d f h p q = record { from = λ r a. p.from r (q.from r a); to = λ r o a. go r (p.to r o a) }
    where
      order : (r s t : List Bool) → worth r ≤ worth s → worth s ≤ worth t → (s ≡ r) ⊎ (T (wins_tie s r) ⊎ (worth r < worth s)) → (t ≡ s) ⊎ (T (wins_tie t s) ⊎ (worth s < worth t)) → (t ≡ r) ⊎ (T (wins_tie t r) ⊎ (worth r < worth t))
      order r s t x y (inl e) (inl g) = inl (g ∙ e)
      order r s t x y (inl e) (inr (inl g)) = inr (inl (subst (λ z. T (wins_tie t z)) e g))
      order r s t x y (inr (inl e)) (inl g) = inr (inl (subst (λ z. T (wins_tie z r)) (sym g) e))
      order r s t x y (inr (inl e)) (inr (inl g)) = inr (inl (tie_transitive t s r g e))
      order r s t x y (inl e) (inr (inr g)) = inr (inr (omega arith))
      order r s t x y (inr (inl e)) (inr (inr g)) = inr (inr (omega arith))
      order r s t x y (inr (inr e)) g = inr (inr (omega arith))

      next : (r : List Bool) (b : Above worth Allowed tolerance f r) → (worth b.other < goal + tolerance) ⊎ Above worth Allowed tolerance h b.other → (worth r < goal + tolerance) ⊎ Above worth Allowed tolerance h r
      next r b (inl l) = let w = b.value_of in inl (omega arith)
      next r b (inr c) = inr (record { other = c.other; allowed = c.allowed; agrees = c.agrees; value_of = (let w = b.value_of in let x = c.value_of in omega arith); order = order r b.other c.other b.value_of c.value_of b.order c.order })

      go : (r : List Bool) → (worth r < goal + tolerance) ⊎ Above worth Allowed tolerance f r → (worth r < goal + tolerance) ⊎ Above worth Allowed tolerance h r
      go r (inl l) = inl l
      go r (inr b) = next r b (q.to b.other b.allowed b.agrees)

  -- WHAT IS FOUND AFTER A REDUCTION is found: the tie rule's order included.
  pub finds_reduced : (d f : List Decision) (so_far now : SoFar) → Reduces worth Allowed tolerance so_far.goal d f → Finds worth Allowed tolerance f so_far now → Finds worth Allowed tolerance d so_far now
  finds_reduced d f so_far now p (nothing e h) = nothing e (λ r o a. go r (p.to r o a))
    where
      go : (r : List Bool) → (worth r < so_far.goal + tolerance) ⊎ Above worth Allowed tolerance f r → worth r < so_far.goal + tolerance
      go r (inl l) = l
      go r (inr b) = let k = h b.other b.allowed b.agrees in let w = b.value_of in omega arith
  finds_reduced d f so_far now p (better b e w n) = better b e w (record {
    allowed = (n.allowed.0, p.from b n.allowed.1);
    top = λ r m. top r (p.to r m.0 m.1);
    tie = λ q r m v. tie q r v (p.to r m.0 m.1);
  })
    where
      top : (r : List Bool) → (worth r < so_far.goal + tolerance) ⊎ Above worth Allowed tolerance f r → worth r ≤ worth b + tolerance
      top r (inl l) = omega arith
      top r (inr a) = let k = n.top a.other (a.allowed, a.agrees) in let x = a.value_of in omega arith

      both : (r s : List Bool) → worth s ≤ worth r → (s ≡ b) ⊎ T (wins_tie b s) → (s ≡ r) ⊎ (T (wins_tie s r) ⊎ (worth r < worth s)) → (r ≡ b) ⊎ T (wins_tie b r)
      both r s y (inl g) (inl h) = inl (sym h ∙ g)
      both r s y (inl g) (inr (inl h)) = inr (subst (λ z. T (wins_tie z r)) g h)
      both r s y (inr g) (inl h) = inr (subst (λ z. T (wins_tie b z)) h g)
      both r s y (inr g) (inr (inl h)) = inr (tie_transitive b s r g h)
      both r s y (inl g) (inr (inr h)) = absurd (omega arith)
      both r s y (inr g) (inr (inr h)) = absurd (omega arith)

      tie : tolerance ≡ 0 → (r : List Bool) → worth r ≡ worth b → (worth r < so_far.goal + tolerance) ⊎ Above worth Allowed tolerance f r → (r ≡ b) ⊎ T (wins_tie b r)
      tie q r v (inl l) = absurd (omega arith)
      tie q r v (inr a) = let k = n.top a.other (a.allowed, a.agrees) in let x = a.value_of in
          both r a.other (omega arith) (n.tie q a.other (a.allowed, a.agrees) (omega arith)) a.order

  -- A LOOSE item: what drops item k may be given it, and is worth no less with it.
  pub reduces_loose : (goal : ℕ) (d : List Decision) (k : ℕ) → k < length d → T (is_open (get_or d k Open))
      → ((r : List Bool) → Allowed r → Agrees d r → length r ≡ length d)
      → ((r : List Bool) → Allowed r → Agrees d r → T (not (get_or r k false)) → Allowed (set r k true) × (worth r ≤ worth (set r k true))) → Reduces worth Allowed tolerance goal d (set d k Kept)
  reduces_loose goal d k l o size h = record { from = λ r a. agrees_undecided Kept d r k o a; to = λ r ok a. inr (go r ok a (test (get_or r k false))) }
    where
      go : (r : List Bool) → Allowed r → Agrees d r → T (get_or r k false) ⊎ (T (get_or r k false) → ⊥) → Above worth Allowed tolerance (set d k Kept) r
      go r ok a (inl t) = above_itself worth Allowed tolerance (set d k Kept) r ok (agrees_decided Kept d r k a t)
      go r ok a (inr n) = let m = not_T (get_or r k false) n in let (x, w) = h r ok a m in let e = size r ok a in
          record { other = set r k true; allowed = x; agrees = agrees_set d r k a; value_of = w; order = inr (inl (adding_wins_tie r k (omega arith) m)) }
