-- The two passes as functions, over any way of settling a half-decided list: what they need of it, and that they meet their contracts.
use Rattle.std.specs.Prelude.{◌≡◌, Bool, not, get_or, set, T, leb}
use Rattle.std.proofs.Math.Path.{refl}
use Rattle.std.proofs.Common.{◌∙◌, arith, length-set, leb→le}
use Rattle.std.proofs.Math.Bool.{true, false}
use Rattle.std.proofs.Math.Option.{Option, none, some}
use mathlib.Core.List.{List}
use Prim.Native.Nat.{ℕ, zero, suc, ◌+◌, ◌≤◌, ◌<◌}
use Rattle.std.proofs.Math.ListN.{length}
use Rattle.std.proofs.Math.Dec.{nleb→lt}
use Rattle.rules.specs.Decisions.{Decision, Open, Kept, Dropped, is_open, Agrees, open_items}
use Rattle.rules.specs.laws.Decisions.{just_the_kept, one_item_less}
use Rattle.rules.specs.laws.search.Branch.{decide_next, keep_next_closes_one, drop_next_closes_one, length_decide_next}
use Rattle.rules.specs.laws.search.Finds.{SoFar, holds, Finds, nothing, finds_leaf, finds_worse}
use Rattle.rules.proofs.laws.search.Finds.{finds_split}
use Rattle.rules.specs.laws.search.Reduces.{Reduces}
use Rattle.rules.proofs.laws.search.Reduces.{finds_reduced}
use Rattle.rules.specs.laws.search.Valued.{Valued, value_split, value_cut, value_leaf, value_worse, value_reduced, value_stop}

module _ (worth : List Bool → ℕ) (Allowed : List Bool → Type 0) (tolerance : ℕ) where
  -- Settling d towards a goal: nothing that agrees is needed, or d reduces to f, and f is a choice where it leaves nothing open.
  abbrev pub Settles : ℕ → Option (List Decision) → List Decision → Type 0
  Settles goal none d = (r : List Bool) → Allowed r → Agrees d r → worth r < goal + tolerance
  Settles goal (some f) d = (open_items f ≤ open_items d) × Reduces worth Allowed tolerance goal d f × (open_items f ≡ 0 → Allowed (just_the_kept f)) × (length f ≡ length d)

module _ (worth : List Bool → ℕ) (Allowed : List Bool → Type 0) (tolerance : ℕ) (settle : ℕ → List Decision → Option (List Decision)) where
  -- A leaf is taken if it reaches the goal.
  abbrev pub takes : SoFar → List Bool → SoFar
  takes so_far r = elim (leb so_far.goal (worth r)) [ true ↦ holds worth r | false ↦ so_far ]

  abbrev pub turn : (List Decision → SoFar → SoFar) → Option (List Decision) → SoFar → SoFar
  turn go none so_far = so_far
  turn go (some f) so_far = elim (open_items f) [ zero ↦ takes so_far (just_the_kept f) | suc k ↦ go (decide_next Dropped f) (go (decide_next Kept f) so_far) ]

  -- The search in slot order, keep first.
  unfoldable pub seek : ℕ → List Decision → SoFar → SoFar
  seek zero d so_far = so_far
  seek (suc n) d so_far = turn (seek n) (settle so_far.goal d) so_far

  pub seek_finds : (N : ℕ) → ((goal : ℕ) (d : List Decision) → length d ≡ N → Settles worth Allowed tolerance goal (settle goal d) d)
      → (n : ℕ) (d : List Decision) (so_far : SoFar) → length d ≡ N → open_items d < n → Finds worth Allowed tolerance d so_far (seek n d so_far)
  unfolding seek
  seek_finds N F zero d so_far e h = absurd (omega arith)
  seek_finds N F (suc n) d so_far e₀ h = at (settle so_far.goal d) (F so_far.goal d e₀) (seek_finds N F n)
    where
      at : (x : Option (List Decision)) → Settles worth Allowed tolerance so_far.goal x d → ((d : List Decision) (so_far : SoFar) → length d ≡ N → open_items d < n → Finds worth Allowed tolerance d so_far (seek n d so_far)) → Finds worth Allowed tolerance d so_far (turn (seek n) x so_far)
      at none never rec = nothing refl never
      at (some f) w rec = finds_reduced worth Allowed tolerance d f so_far _ w.1 (rest (open_items f) refl)
        where
          leaf : open_items f ≡ 0 → (b : Bool) → (T b → so_far.goal ≤ worth (just_the_kept f)) → (T (not b) → worth (just_the_kept f) < so_far.goal) → Finds worth Allowed tolerance f so_far (elim b [ true ↦ holds worth (just_the_kept f) | false ↦ so_far ])
          leaf e true p q = finds_leaf worth Allowed tolerance f so_far e (w.2 e) (p tt)
          leaf e false p q = finds_worse worth Allowed tolerance f so_far e (q tt)

          rest : (k : ℕ) → open_items f ≡ k → Finds worth Allowed tolerance f so_far (elim k [ zero ↦ takes so_far (just_the_kept f) | suc j ↦ seek n (decide_next Dropped f) (seek n (decide_next Kept f) so_far) ])
          rest zero e = leaf e (leb so_far.goal (worth (just_the_kept f))) (leb→le so_far.goal (worth (just_the_kept f))) (nleb→lt so_far.goal (worth (just_the_kept f)))
          rest (suc j) e =
              let z : 0 < open_items f = omega arith in
              let p = keep_next_closes_one f z in
              let q = drop_next_closes_one f z in
              let le = w.0 in
              finds_split worth Allowed tolerance f so_far (seek n (decide_next Kept f) so_far) _ z (rec (decide_next Kept f) so_far (length_decide_next Kept f ∙ w.3 ∙ e₀) (omega arith))
              (rec (decide_next Dropped f) (seek n (decide_next Kept f) so_far) (length_decide_next Dropped f ∙ w.3 ∙ e₀) (omega arith))

-- ---- the value, in any order
module _ (worth : List Bool → ℕ) (Allowed : List Bool → Type 0) (settle : ℕ → List Decision → Option (List Decision)) (pick : List Decision → ℕ) (stop : ℕ) where
  abbrev pub value_turn : (List Decision → ℕ → ℕ) → Option (List Decision) → ℕ → ℕ
  value_turn go none floor = floor
  value_turn go (some f) floor = elim (open_items f) [ zero ↦ elim (leb floor (worth (just_the_kept f))) [ true ↦ worth (just_the_kept f) | false ↦ floor ] | suc k ↦ go (set f (pick f) Dropped) (go (set f (pick f) Kept) floor) ]

  -- The best value, taking up the open item that `pick` names, until `stop` is reached.
  unfoldable pub best_value : ℕ → List Decision → ℕ → ℕ
  best_value zero d floor = floor
  best_value (suc n) d floor = elim (leb stop floor) [ true ↦ floor | false ↦ value_turn (best_value n) (settle (suc floor) d) floor ]

  pub best_value_is : (N : ℕ) → ((goal : ℕ) (d : List Decision) → length d ≡ N → Settles worth Allowed 0 goal (settle goal d) d)
      → ((f : List Decision) → 0 < open_items f → (pick f < length f) × T (is_open (get_or f (pick f) Open)))
      → (n : ℕ) (d : List Decision) (floor : ℕ) → length d ≡ N → open_items d < n → Valued worth Allowed stop floor d (best_value n d floor)
  unfolding best_value
  best_value_is N F P zero d floor e h = absurd (omega arith)
  best_value_is N F P (suc n) d floor e₀ h = at (leb stop floor) (leb→le stop floor) (settle (suc floor) d) (F (suc floor) d e₀) (best_value_is N F P n)
    where
      node : (x : Option (List Decision)) → Settles worth Allowed 0 (suc floor) x d → ((d : List Decision) (floor : ℕ) → length d ≡ N → open_items d < n → Valued worth Allowed stop floor d (best_value n d floor)) → Valued worth Allowed stop floor d (value_turn (best_value n) x floor)
      node none never rec = value_cut worth Allowed stop floor d floor (λ r o a. let l = never r o a in omega arith) (omega arith)
      node (some f) w rec = value_reduced worth Allowed stop floor _ d f w.1 (rest (open_items f) refl)
        where
          leaf : open_items f ≡ 0 → (b : Bool) → (T b → floor ≤ worth (just_the_kept f)) → (T (not b) → worth (just_the_kept f) < floor) → Valued worth Allowed stop floor f (elim b [ true ↦ worth (just_the_kept f) | false ↦ floor ])
          leaf e true p q = value_leaf worth Allowed stop floor f e (w.2 e) (p tt)
          leaf e false p q = value_worse worth Allowed stop floor f e (let l = q tt in omega arith)

          rest : (k : ℕ) → open_items f ≡ k → Valued worth Allowed stop floor f (elim k [ zero ↦ elim (leb floor (worth (just_the_kept f))) [ true ↦ worth (just_the_kept f) | false ↦ floor ] | suc j ↦ best_value n (set f (pick f) Dropped) (best_value n (set f (pick f) Kept) floor) ])
          rest zero e = leaf e (leb floor (worth (just_the_kept f))) (leb→le floor (worth (just_the_kept f))) (nleb→lt floor (worth (just_the_kept f)))
          rest (suc j) e =
              let z : 0 < open_items f = omega arith in
              let (l, o) = P f z in
              let p = one_item_less Kept f (pick f) (λ z. z) l o in
              let q = one_item_less Dropped f (pick f) (λ z. z) l o in
              let le = w.0 in
              value_split worth Allowed stop floor (best_value n (set f (pick f) Kept) floor) _ f (pick f) o
              (rec (set f (pick f) Kept) floor (length-set f (pick f) Kept ∙ w.3 ∙ e₀) (omega arith))
              (rec (set f (pick f) Dropped) (best_value n (set f (pick f) Kept) floor) (length-set f (pick f) Dropped ∙ w.3 ∙ e₀) (omega arith))

      at : (b : Bool) → (T b → stop ≤ floor) → (x : Option (List Decision)) → Settles worth Allowed 0 (suc floor) x d → ((d : List Decision) (floor : ℕ) → length d ≡ N → open_items d < n → Valued worth Allowed stop floor d (best_value n d floor))
          → Valued worth Allowed stop floor d (elim b [ true ↦ floor | false ↦ value_turn (best_value n) x floor ])
      at true p x w rec = value_stop worth Allowed stop floor d (p tt)
      at false p x w rec = node x w rec
