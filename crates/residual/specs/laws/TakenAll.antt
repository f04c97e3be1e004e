-- How each member of a chain comes to give as much, member by member.
use Rattle.std.specs.Prelude.{◌≡◌, refl, ◌⊎◌, List, ℕ, suc, ◌+◌, ◌≤◌, ◌<◌, length, get_or}
use Rattle.std.proofs.Common.{sym, subst, ◌∙◌, inl, inr, arith, eq-or-lt_of_le, le_of_suc-le-suc}
use Rattle.rules.specs.laws.search.Residual.{Lower}
use Rattle.numbered.specs.Items.{numbered, ends_only}
use Rattle.residual.specs.Taken.{residual_in, Took, held_in}
use Rattle.residual.specs.TakenAll.{Gave}
use Rattle.residual.specs.laws.Taken.{held_lower, lower_then}

module _ (firsts seconds : List ℕ) (n m : ℕ) (chain : List ℕ) (e : ℕ) (options orderings : List ℕ) where
  pub gave_none : Gave firsts seconds n m chain e 0 options orderings options orderings
  gave_none = record { option_size = refl; ordering_size = refl; lower = record { option = λ i. omega arith; ordering = λ i. omega arith }; each = λ p h. absurd (omega arith) }

  -- the member has lost enough already, by what others gave
  pub gave_already : (k : ℕ) (options' orderings' : List ℕ) → Gave firsts seconds n m chain e k options orderings options' orderings'
      → e + held_in n m firsts seconds options' orderings' (get_or chain k 0) ≤ held_in n m firsts seconds options orderings (get_or chain k 0) → Gave firsts seconds n m chain e (k + 1) options orderings options' orderings'
  gave_already k options' orderings' g h = record { option_size = g.option_size; ordering_size = g.ordering_size; lower = g.lower; each = λ p z. at p (eq-or-lt_of_le (le_of_suc-le-suc (let y : suc p ≤ suc k = omega arith in y))) }
    where
      at : (p : ℕ) → (p ≡ k) ⊎ (p < k) → e + held_in n m firsts seconds options' orderings' (get_or chain p 0) ≤ held_in n m firsts seconds options orderings (get_or chain p 0)
      at p (inl q) = subst (λ z. e + held_in n m firsts seconds options' orderings' (get_or chain z 0) ≤ held_in n m firsts seconds options orderings (get_or chain z 0)) (sym q) h
      at p (inr q) = g.each p q

  -- residuals fall further, and what was given stays given
  pub gave_lower : (k : ℕ) (options' orderings' options'' orderings'' : List ℕ) → Gave firsts seconds n m chain e k options orderings options' orderings' → length options'' ≡ length options'
      → length orderings'' ≡ length orderings' → Lower (residual_in options'' orderings'') (residual_in options' orderings') → Gave firsts seconds n m chain e k options orderings options'' orderings''
  gave_lower k options' orderings' options'' orderings'' g x y l = record {
    option_size = x ∙ g.option_size;
    ordering_size = y ∙ g.ordering_size;
    lower = lower_then (residual_in options'' orderings'') (residual_in options' orderings') (residual_in options orderings) l g.lower;
    each = λ p z. (let q = held_lower (ends_only n m firsts seconds) (residual_in options'' orderings'') (residual_in options' orderings') l (numbered (get_or chain p 0)) in let w = g.each p z in omega arith);
  }

  -- what is still wanted is taken
  pub gave_more : (k need : ℕ) (options' orderings' options'' orderings'' : List ℕ) → Gave firsts seconds n m chain e k options orderings options' orderings' → Took firsts seconds n m (get_or chain k 0) need options' orderings' options'' orderings''
      → e + held_in n m firsts seconds options' orderings' (get_or chain k 0) ≤ need + held_in n m firsts seconds options orderings (get_or chain k 0) → Gave firsts seconds n m chain e (k + 1) options orderings options'' orderings''
  gave_more k need options' orderings' options'' orderings'' g t h = gave_already k options'' orderings'' (gave_lower k options' orderings' options'' orderings'' g t.option_size t.ordering_size t.lower) (let q = t.taken in omega arith)

pub gave_at : (firsts seconds : List ℕ) (n m : ℕ) (chain : List ℕ) (e k l : ℕ) (options orderings options' orderings' : List ℕ) → k ≡ l → Gave firsts seconds n m chain e k options orderings options' orderings'
    → Gave firsts seconds n m chain e l options orderings options' orderings'
gave_at firsts seconds n m chain e k l options orderings options' orderings' q x = subst (λ z. Gave firsts seconds n m chain e z options orderings options' orderings') q x

pub gave_as : (firsts seconds : List ℕ) (n m : ℕ) (chain : List ℕ) (e k : ℕ) (options orderings options' orderings' options'' orderings'' : List ℕ) → options'' ≡ options' → orderings'' ≡ orderings'
    → Gave firsts seconds n m chain e k options orderings options' orderings' → Gave firsts seconds n m chain e k options orderings options'' orderings''
gave_as firsts seconds n m chain e k options orderings options' orderings' options'' orderings'' p q x = subst (λ z. Gave firsts seconds n m chain e k options orderings z orderings'') (sym p)
    (subst (λ z. Gave firsts seconds n m chain e k options orderings options' z) (sym q) x)
