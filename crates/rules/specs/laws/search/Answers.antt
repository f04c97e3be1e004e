-- What the passes come to on a sheet: an answer to the tolerance, and at tolerance 0 the best one that the tie rule names.
use Rattle.std.specs.Prelude.{◌≡◌, refl, Bool, List, ℕ, ◌+◌, ◌-◌, ◌≤◌, min}
use Rattle.std.proofs.Common.{sym, subst, ap, arith}
use Rattle.rules.specs.Lines.{Lines}
use Rattle.rules.specs.Subscription.{items}
use Rattle.rules.specs.Relaxation.{ConsistentRelaxation, value_of}
use Rattle.rules.specs.Decisions.{Decision, Agrees, all_open}
use Rattle.rules.specs.Best.{Best, BestOf, AnswerTo}
use Rattle.rules.specs.laws.Decisions.{agrees_all_open}
use Rattle.rules.specs.laws.Best.{none_kept, dropping_all_is_consistent, dropping_all_is_worth_nothing}
use Rattle.rules.specs.laws.search.Finds.{WithinTolerance, within_0_is_best, SoFar, holds, Finds, nothing, better}
use Rattle.rules.specs.laws.search.Passes.{from_floor, answer, tolerance_pass}

module _ (s : Lines) where
  abbrev fresh : List Decision
  fresh = all_open (items s)

  agrees : (r : List Bool) → ConsistentRelaxation s r → Agrees fresh r
  agrees r k = agrees_all_open r (items s) k.relaxation.size

  best_of_all : (b : List Bool) → Best (value_of s) (λ r. ConsistentRelaxation s r × Agrees fresh r) b → BestOf s b
  best_of_all b k = record { allowed = k.allowed.0; top = λ r m. k.top r (m, agrees r m); tie = λ r m. k.tie r (m, agrees r m) }

  -- ONE PASS FROM NOTHING, at any tolerance, under any limit that holds for the whole sheet.
  pub one_pass_answers : (tolerance root : ℕ) (now : SoFar) → ((r : List Bool) → ConsistentRelaxation s r → value_of s r ≤ root)
      → Finds (value_of s) (ConsistentRelaxation s) tolerance fresh (from_floor 0) now
      → AnswerTo s tolerance (record {
        relaxation = answer (none_kept (items s)) now.find;
        value = value_of s (answer (none_kept (items s)) now.find);
        ceiling = min root (value_of s (answer (none_kept (items s)) now.find) + tolerance);
      })
  one_pass_answers tolerance root now limit found =
      let w = tolerance_pass (value_of s) (ConsistentRelaxation s) tolerance root fresh (none_kept (items s)) now (dropping_all_is_consistent s) (agrees (none_kept (items s)) (dropping_all_is_consistent s)) (λ r k _. limit r k) found in
      record { allowed = w.allowed; worth = refl; top = λ r k. w.top r k (agrees r k); near = w.near; best = λ z. best z found }
    where
      best : tolerance ≡ 0 → Finds (value_of s) (ConsistentRelaxation s) tolerance fresh (from_floor 0) now → BestOf s (answer (none_kept (items s)) now.find)
      best z (nothing e h) = let k = h (none_kept (items s)) (dropping_all_is_consistent s) (agrees (none_kept (items s)) (dropping_all_is_consistent s)) in absurd (omega arith)
      best z (better b e w n) = subst (λ i. BestOf s (answer (none_kept (items s)) i.find)) (sym e)
          (best_of_all b (within_0_is_best (value_of s) b (subst (λ t. WithinTolerance (value_of s) t (λ r. ConsistentRelaxation s r × Agrees fresh r) b) z n)))

  -- A floor that no search is too high for: 0, or at tolerance 0 a value that some consistent relaxation reaches.
  pub data GoodFloor (tolerance floor : ℕ) : Type 0 where
    nought : floor ≡ 0 → GoodFloor tolerance floor
    reached : tolerance ≡ 0 → (r : List Bool) → ConsistentRelaxation s r → floor ≤ value_of s r → GoodFloor tolerance floor

  -- ONE PASS FROM A GOOD FLOOR: what it leaves is worth its goal less one, and answers the tolerance.
  pub floor_pass_answers : (tolerance root floor : ℕ) (now : SoFar) → GoodFloor tolerance floor → ((r : List Bool) → ConsistentRelaxation s r → value_of s r ≤ root)
      → Finds (value_of s) (ConsistentRelaxation s) tolerance fresh (from_floor floor) now
      → (now.goal - 1 ≡ value_of s (answer (none_kept (items s)) now.find)) × AnswerTo s tolerance (record {
        relaxation = answer (none_kept (items s)) now.find;
        value = value_of s (answer (none_kept (items s)) now.find);
        ceiling = min root (value_of s (answer (none_kept (items s)) now.find) + tolerance);
      })
  floor_pass_answers tolerance root floor now good limit found = go good found
    where
      worth : Finds (value_of s) (ConsistentRelaxation s) tolerance fresh (from_floor 0) now → now.goal - 1 ≡ value_of s (answer (none_kept (items s)) now.find)
      worth (nothing e _) = let q = ap (λ z. z.goal) e in let p = ap (λ z. value_of s (answer (none_kept (items s)) z.find)) e in let k = dropping_all_is_worth_nothing s in omega arith
      worth (better b e _ _) = let q = ap (λ z. z.goal) e in let p = ap (λ z. value_of s (answer (none_kept (items s)) z.find)) e in omega arith

      -- a find from a floor is a find from nothing
      lower : (b : List Bool) → now ≡ holds (value_of s) b → WithinTolerance (value_of s) tolerance (λ r. ConsistentRelaxation s r × Agrees fresh r) b → Finds (value_of s) (ConsistentRelaxation s) tolerance fresh (from_floor 0) now
      lower b e n = better b e (omega arith) n

      from_nothing : GoodFloor tolerance floor → Finds (value_of s) (ConsistentRelaxation s) tolerance fresh (from_floor floor) now → Finds (value_of s) (ConsistentRelaxation s) tolerance fresh (from_floor 0) now
      from_nothing (nought z) f = subst (λ k. Finds (value_of s) (ConsistentRelaxation s) tolerance fresh (from_floor k) now) z f
      from_nothing (reached z r o l) (nothing e h) = let k = h r o (agrees r o) in absurd (omega arith)
      from_nothing (reached z r o l) (better b e w n) = lower b e n

      go : GoodFloor tolerance floor → Finds (value_of s) (ConsistentRelaxation s) tolerance fresh (from_floor floor) now
          → (now.goal - 1 ≡ value_of s (answer (none_kept (items s)) now.find)) × AnswerTo s tolerance (record {
            relaxation = answer (none_kept (items s)) now.find;
            value = value_of s (answer (none_kept (items s)) now.find);
            ceiling = min root (value_of s (answer (none_kept (items s)) now.find) + tolerance);
          })
      go g f = let k = from_nothing g f in (worth k, one_pass_answers tolerance root now limit k)
