-- A scan and a search for the last line pass over a well-shaped line as a whole.
use Prim.Native.Nat.{ℕ, suc, ◌+◌}
use mathlib.Core.Path.{◌≡◌, refl, sym, ap, ◌∙◌}
use mathlib.Core.Bool.{cond}
use mathlib.Core.List.{List, [], ◌∷◌, ◌++◌}
use native.Mathlib.Omega.{arith}
use lib.Dec.{eqb}
use lib.ListN.{length}
use borrow.Author.Tests.{eq-eqb, ne_eqb}
use Rattle.shape.specs.Shape.{next_state}
use Rattle.shape.specs.Grammar.{run}
use Rattle.shape.specs.Scan.{section_of, misshapen_from, step_to}
use Rattle.shape.specs.Trailer.{last_line_from}
use Rattle.shape.specs.declared.shape.Section.{Section}
use Rattle.shape.specs.declared.shape.State.{State}
use Rattle.shape.specs.declared.shape.State.TheVariants.{Start, Gap, First, Digit, Done, Dead}
use Rattle.shape.proofs.GrammarLaws.{run_dead}
use Rattle.shape.proofs.LineEndLaws.{done_is_line_end, alive_no_line_end, done_nil}
use Rattle.shape.proofs.SplitLaws.{zero_one}

-- what a well-shaped line does, byte by byte, to anything that goes on inside a line in one way and at its end in another
module _ (sec : Section) (r : List ℕ) where
  pub scan_over : (f u n : ℕ) → sec ≡ section_of f u n → (x : List ℕ) (k : ℕ) (st : State) → (st ≡ Done → ⊥) → run sec st x ≡ Done
      → misshapen_from f u (x ++ r) n k st ≡ misshapen_from f u r (n + 1) 1 Start
  scan_over f u n es [] k st p e = absurd (p e)
  scan_over f u n es (b ∷ x) k st p e =
      ap (λ (y : Section). step_to n k b (next_state y st b) (misshapen_from f u (x ++ r))) (sym es)
      ∙ go (next_state sec st b) refl (λ k s p e. scan_over f u n es x k s p e) e
    where
      Goal : State → Type 0
      Goal s = step_to n k b s (misshapen_from f u (x ++ r)) ≡ misshapen_from f u r (n + 1) 1 Start

      Ih : Type 0
      Ih = (k : ℕ) (s : State) → (s ≡ Done → ⊥) → run sec s x ≡ Done → misshapen_from f u (x ++ r) n k s ≡ misshapen_from f u r (n + 1) 1 Start

      go : (s : State) → next_state sec st b ≡ s → Ih → run sec s x ≡ Done → Goal s
      go Start q ih e = ih (k + 1) Start (λ y. zero_one (cc)) e
      go (Gap i) q ih e = ih (k + 1) (Gap i) (λ y. zero_one (cc)) e
      go (First i) q ih e = ih (k + 1) (First i) (λ y. zero_one (cc)) e
      go (Digit i j) q ih e = ih (k + 1) (Digit i j) (λ y. zero_one (cc)) e
      go Done q ih e = ap (λ (l : List ℕ). misshapen_from f u (l ++ r) (n + 1) 1 Start) (done_nil sec x e)
      go Dead q ih e =
          let z : Dead ≡ Done = sym (run_dead sec x) ∙ e in
          absurd (zero_one (cc))

  pub ends_over : (x : List ℕ) (i start last n : ℕ) (st : State) → (st ≡ Done → ⊥) → run sec st x ≡ Done
      → last_line_from (x ++ r) i start last n ≡ last_line_from r (i + length x) (i + length x) start (n + 1)
  ends_over [] i start last n st p e = absurd (p e)
  ends_over (b ∷ x) i start last n st p e = go (next_state sec st b) refl (λ s p e. ends_over x (i + 1) start last n s p e) e
    where
      Goal : Type 0
      Goal = last_line_from (x ++ r) (i + 1) (cond (eqb b 10) (i + 1) start) (cond (eqb b 10) start last) (cond (eqb b 10) (n + 1) n)
          ≡ last_line_from r (i + suc (length x)) (i + suc (length x)) start (n + 1)

      Ih : Type 0
      Ih = (s : State) → (s ≡ Done → ⊥) → run sec s x ≡ Done
          → last_line_from (x ++ r) (i + 1) start last n ≡ last_line_from r (i + 1 + length x) (i + 1 + length x) start (n + 1)

      far : i + suc (length x) ≡ i + 1 + length x
      far = omega arith

      on : (s : State) → next_state sec st b ≡ s → (s ≡ Done → ⊥) → (s ≡ Dead → ⊥) → Ih → run sec s x ≡ Done → Goal
      on s q p₁ p₂ ih e = rw (ne_eqb b 10 (alive_no_line_end sec st s b q p₁ p₂), far) (ih s p₁ e)

      go : (s : State) → next_state sec st b ≡ s → Ih → run sec s x ≡ Done → Goal
      go Start q ih e = on Start q (λ y. zero_one (cc)) (λ y. zero_one (cc)) ih e
      go (Gap k) q ih e = on (Gap k) q (λ y. zero_one (cc)) (λ y. zero_one (cc)) ih e
      go (First k) q ih e = on (First k) q (λ y. zero_one (cc)) (λ y. zero_one (cc)) ih e
      go (Digit k m) q ih e = on (Digit k m) q (λ y. zero_one (cc)) (λ y. zero_one (cc)) ih e
      go Done q ih e = rw (eq-eqb b 10 (done_is_line_end sec st b q), done_nil sec x e)
      go Dead q ih e =
          let z : Dead ≡ Done = sym (run_dead sec x) ∙ e in
          absurd (zero_one (cc))
