-- One digit more, by how many may still come.
use Prim.Native.Nat.{ℕ, zero, suc, ◌+◌, ◌-◌, ◌*◌, ◌≤◌, ◌<◌}
use mathlib.Core.Path.{◌≡◌, refl}
use mathlib.Core.List.{List}
use native.Mathlib.Omega.{arith}
use native.Mathlib.Numerals.{add-one}
use lib.ListN.{length, drop, get_or}
use lib.Seq.{drop-cons}
use borrow.Author.Tests.{le-ltb}
use Rattle.shape.specs.Number.{number_value, number_width}
use Rattle.pieces.proofs.DigitTurnLaws.{Same}

pub more : (m v i : ℕ) (s : List ℕ) → 0 < m → i < length s → 48 ≤ get_or s i 0 → get_or s i 0 ≤ 57
    → Same m v (drop i s) (number_value (m - 1) (v * 10 + (get_or s i 0 - 48)) (drop (i + 1) s)) (suc (number_width (m - 1) (drop (i + 1) s)))
more zero v i s p h lo hi = absurd (omega arith)
more (suc m) v i s p h lo hi =
    let e : suc m - 1 ≡ m = omega arith in
    rw (add-one, e, drop-cons s i 0, le-ltb _ 48 lo, le-ltb 57 _ hi) (refl, refl)

pub stop_full : (m v : ℕ) (l : List ℕ) → m ≤ 0 → Same m v l v 0
stop_full zero v l h = (refl, refl)
stop_full (suc m) v l h = absurd (omega arith)
