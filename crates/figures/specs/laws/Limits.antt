-- Limits in a lent output.
use Rattle.std.specs.Prelude.{ℕ, ◌≤◌, ◌≡◌, refl, List, [], ◌∷◌, ◌++◌, length, set}
use Rattle.std.proofs.Common.{◌∙◌, arith, length-append, length-set}
use Rattle.limits.specs.declared.whole.Limited.{Limited}
use Rattle.print.specs.Put.{put}
use Rattle.entries.specs.Parts.{parts}
use Rattle.entries.specs.laws.Parts.{parts_length}
use Rattle.entries.specs.laws.Put.{put_then, put_same_length, put_two}
use Rattle.figures.specs.Limits.{four_at, limit_numbers}

module _ (l : Limited) (before : List ℕ) {out : List ℕ} (e : out ≡ put 2 (parts 32 (four_at l.options)) (set (set before 0 l.lower) 1 l.upper)) where
  options_length : length (parts 32 (four_at l.options)) ≡ 128
  options_length = parts_length 4 32 (four_at l.options) (λ j. refl)

  pub still_long : length out ≡ length before
  still_long = put_same_length 2 _ _ e ∙ length-set (set before 0 l.lower) 1 l.upper ∙ length-set before 0 l.lower

  pub limits_put : {after : List ℕ} → after ≡ put 130 (parts 64 (four_at l.orderings)) out → after ≡ put 0 (limit_numbers l) before
  limits_put q =
      put_then 0 2 (l.lower ∷ l.upper ∷ []) (parts 32 (four_at l.options) ++ parts 64 (four_at l.orderings)) before
      (put_two l.lower l.upper before)
      refl
      (put_then 2 130 (parts 32 (four_at l.options)) (parts 64 (four_at l.orderings)) (set (set before 0 l.lower) 1 l.upper) e (let k = options_length in omega arith) q)

pub limits_fit : (l : Limited) (out : List ℕ) → 386 ≤ length out → length (limit_numbers l) ≤ length out
limits_fit l out h =
    let k = parts_length 4 32 (four_at l.options) (λ j. refl) in
    let m = parts_length 4 64 (four_at l.orderings) (λ j. refl) in
    let n = length-append (parts 32 (four_at l.options)) (parts 64 (four_at l.orderings)) in
    omega arith
