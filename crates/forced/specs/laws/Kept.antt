-- One ordering more: how the loop gathers the kept options.
use Rattle.std.specs.Prelude.{◌≡◌, refl, Bool, true, false, ◌&&◌, ◌||◌, List, ℕ, ◌+◌, get_or, eqb}
use Rattle.std.proofs.Common.{subst}
use Rattle.rules.specs.Slots.{some_below}
use Rattle.rows.specs.Bits.{has, with_if}
use Rattle.rows.specs.laws.Bits.{has_with_if}
use Rattle.rows.specs.laws.Slots.{some_more}
use Rattle.forced.specs.Forced.{kept_touching, KeptWithEnds}

pub kept_with_ends_none : (given kept_orderings : ℕ) (firsts seconds : List ℕ) → KeptWithEnds given kept_orderings firsts seconds 0 given
unfolding some_below
kept_with_ends_none given kept_orderings firsts seconds = record { at = λ j. or_no (has given j) }
  where
    or_no : (a : Bool) → a ≡ (a || false)
    or_no true = refl
    or_no false = refl

pub kept_with_ends_step : (given kept_orderings : ℕ) (firsts seconds : List ℕ) {u r a b x s : ℕ} {y : Bool} → KeptWithEnds given kept_orderings firsts seconds u r → y ≡ has kept_orderings u
    → a ≡ get_or firsts u 0 → b ≡ get_or seconds u 0 → x ≡ with_if r a y → s ≡ with_if x b y → KeptWithEnds given kept_orderings firsts seconds (u + 1) s
kept_with_ends_step given kept_orderings firsts seconds {u} {r} {a} {b} {x} {s} {y} w e ea eb f g = record {
  at = λ j.
      rw (g, has_with_if x b y j, f, has_with_if r a y j, w.at j, e, ea, eb, some_more u (kept_touching kept_orderings firsts seconds j))
      (go (has given j) (some_below u (kept_touching kept_orderings firsts seconds j)) (has kept_orderings u) (eqb (get_or firsts u 0) j) (eqb (get_or seconds u 0) j));
}
  where
    go : (a b c d e : Bool) → (((a || b) || (c && d)) || (c && e)) ≡ (a || (b || (c && (d || e))))
    go true b c d e = refl
    go false true c d e = refl
    go false false true true e = refl
    go false false true false e = refl
    go false false false d e = refl

pub kept_with_ends_end : {given kept_orderings : ℕ} {firsts seconds : List ℕ} {u m r : ℕ} → KeptWithEnds given kept_orderings firsts seconds u r → u ≡ m → KeptWithEnds given kept_orderings firsts seconds m r
kept_with_ends_end {given} {kept_orderings} {firsts} {seconds} {u} {m} {r} w e = subst (λ k. KeptWithEnds given kept_orderings firsts seconds k r) e w
