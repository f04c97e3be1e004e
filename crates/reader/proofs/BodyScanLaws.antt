-- A text of well-shaped lines: its scan is clean, and its last line is found.
use Prim.Native.Nat.{ℕ, zero, suc, ◌+◌, ◌≤◌, ◌<◌}
use mathlib.Core.Path.{◌≡◌, refl, sym, ap, ◌∙◌}
use mathlib.Core.List.{List, [], ◌++◌, append_assoc, append-nil}
use native.Mathlib.Omega.{arith}
use lib.ListN.{length, length-append}
use Rattle.shape.specs.Grammar.{run}
use Rattle.shape.specs.Scan.{section_of, misshapen_from}
use Rattle.shape.specs.Trailer.{last_line_from}
use Rattle.sheet.specs.declared.sheet.Sheet.{Sheet}
use Rattle.shape.specs.declared.scan.Scanned.TheVariants.{Clean}
use Rattle.shape.specs.declared.shape.Section.{Section}
use Rattle.shape.specs.declared.shape.State.TheVariants.{Start, Done}
use Rattle.reader.proofs.BodyLaws.{line_of, body_text}
use Rattle.shape.proofs.PassOverLaws.{scan_over, ends_over}

fresh : Start ≡ Done → ⊥
fresh e = cc

-- every one of k lines from line n on is well shaped
abbrev pub Shaped : ℕ → ℕ → ℕ → ℕ → Sheet → Type 0
Shaped f u k n s = (m : ℕ) → n ≤ m → m < n + k → run (section_of f u m) Start (line_of f u m s) ≡ Done

module _ (f u : ℕ) (s : Sheet) where
  pub clean : (k n : ℕ) → Shaped f u k n s → misshapen_from f u (body_text f u k n s) n 1 Start ≡ Clean
  unfolding body_text
  clean zero n h = refl
  clean (suc k) n h =
      scan_over (section_of f u n) (body_text f u k (n + 1) s) f u n refl (line_of f u n s) 1 Start fresh (h n (omega arith) (omega arith))
      ∙ clean k (n + 1) (λ m p q. h m (omega arith) (omega arith))

  pub last_line_found : (tr : List ℕ) (tsec : Section) → run tsec Start tr ≡ Done → (k n i last m : ℕ) → Shaped f u k n s
      → last_line_from (body_text f u k n s ++ tr) i i last m ≡ record { start = i + length (body_text f u k n s); lines = m + k + 1 }
  unfolding body_text
  last_line_found tr tsec d zero n i last m h =
      let e : i + 0 ≡ i = omega arith in
      let g : m + 0 ≡ m = omega arith in
      ap (λ (l : List ℕ). last_line_from l i i last m) (sym (append-nil tr)) ∙ ends_over tsec [] tr i i last m Start fresh d ∙ rw (e, g)
  last_line_found tr tsec d (suc k) n i last m h =
      let x = line_of f u n s in
      let b = body_text f u k (n + 1) s in
      let e : i + length (x ++ b) ≡ i + length x + length b = rw (length-append x b) (omega arith) in
      let g : m + suc k + 1 ≡ m + 1 + k + 1 = omega arith in
      ap (λ (l : List ℕ). last_line_from l i i last m) (append_assoc x b tr)
      ∙ ends_over (section_of f u n) (b ++ tr) x i i last m Start fresh (h n (omega arith) (omega arith))
      ∙ last_line_found tr tsec d k (n + 1) (i + length x) i (m + 1) (λ j p q. h j (omega arith) (omega arith))
      ∙ rw (e, g)
