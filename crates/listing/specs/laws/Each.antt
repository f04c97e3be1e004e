-- Lines one after the other: one more, some fewer, the same by another rule.
use Prim.Native.Nat.{ℕ, zero, suc, ◌+◌, ◌-◌, ◌≤◌, ◌<◌}
use Rattle.std.specs.Prelude.{◌≡◌, refl, Bool, true, List, []}
use Rattle.std.proofs.Math.Path.{ap}
use Rattle.std.proofs.Common.{◌∙◌, append-nil, arith, add-one}
use Rattle.std.proofs.Math.ListN.{length, length-append}
use Rattle.print.specs.Page.{Room, Printed}
use Rattle.print.specs.declared.page.Page.{Page}
use Rattle.print.proofs.PageLaws.{printed_nothing, printed_both, printed_size}
use Rattle.listing.specs.Listing.{each, unless}

pub each_same : (n : ℕ) (f g : ℕ → List ℕ) → ((i : ℕ) → i < n → f i ≡ g i) → each n f ≡ each n g
unfolding each
each_same zero f g h = refl
each_same (suc n) f g h = rw (each_same n f g (λ i l. h i (omega arith)), h n (omega arith)) refl

-- What prints nothing past n needs no turn there.
pub each_first : (k n : ℕ) (f : ℕ → List ℕ) → ((i : ℕ) → n ≤ i → f i ≡ []) → each (n + k) f ≡ each n f
unfolding each
each_first zero n f h = let e : n + 0 ≡ n = omega arith in rw e refl
each_first (suc k) n f h = let e : n + suc k ≡ suc (n + k) = omega arith in rw (e, h (n + k) (omega arith)) (append-nil (each (n + k) f) ∙ each_first k n f h)

pub each_grows : (k i : ℕ) (f : ℕ → List ℕ) → length (each i f) ≤ length (each (i + k) f)
unfolding each
each_grows zero i f = let e : i + 0 ≡ i = omega arith in rw e (omega arith)
each_grows (suc k) i f =
    let e : i + suc k ≡ suc (i + k) = omega arith in
    let h = each_grows k i f in
    let l = length-append (each (i + k) f) (f (i + k)) in
    rw e (omega arith)

-- ---- a line that is printed unless something holds
module _ (b : Bool) (line : List ℕ) where
  pub skipped_line : {page : Page} → b ≡ true → Printed page page (unless b line)
  skipped_line {page} e = rw e (printed_nothing page)

-- ---- a loop that prints line i at turn i
module _ (f : ℕ → List ℕ) where
  pub printed_none : (page : Page) → Printed page page (each 0 f)
  unfolding each
  printed_none page = printed_nothing page

  pub printed_one_more : {before between after : Page} {i : ℕ} → Printed before between (each i f) → Printed between after (f i) → Printed before after (each (i + 1) f)
  unfolding each
  printed_one_more {i = i} x y = rw (add-one i) (printed_both x y)

  -- A turn before n prints part of what n turns print.
  pub turn_fits : (n i : ℕ) → i < n → length (each i f) + length (f i) ≤ length (each n f)
  unfolding each
  turn_fits n i l =
      let d : (k : ℕ) × (n ≡ suc i + k) = below n (suc i) l in
      let g = each_grows d.0 (suc i) f in
      let e : length (each n f) ≡ length (each (suc i + d.0) f) = ap (λ z. length (each z f)) d.1 in
      let a = length-append (each i f) (f i) in
      omega arith
    where
      below : (n j : ℕ) → j ≤ n → (k : ℕ) × (n ≡ j + k)
      below n j h = (n - j, omega arith)

  pub room_for_one_more : {before between : Page} (n i : ℕ) → i < n → Room before (each n f) → Printed before between (each i f) → Room between (f i)
  room_for_one_more n i l room x = record {
    fits = let a = turn_fits n i l in let r = room.fits in let s = printed_size x in let t = x.ends in omega arith;
  }
