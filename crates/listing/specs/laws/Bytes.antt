-- Lines one after the other in a buffer, in the words of its bytes and a position.
use Prim.Native.Nat.{ℕ, ◌+◌, ◌≤◌, ◌<◌}
use Rattle.std.specs.Prelude.{◌≡◌, Bool, true, false, List}
use Rattle.std.proofs.Common.{subst, le_antisymm, arith, add-one}
use Rattle.std.proofs.Math.ListN.{length}
use Rattle.print.specs.Put.{put}
use Rattle.listing.specs.Listing.{each, unless}
use Rattle.listing.specs.Appended.{Room, Appended}
use Rattle.listing.specs.laws.Appended.{appended_nothing, appended_both, appended_put}
use Rattle.listing.specs.laws.Each.{turn_fits}

-- ---- a line that is printed unless something holds
module _ (b : Bool) (line : List ℕ) where
  pub printed_nothing : (page : List ℕ) (at : ℕ) → b ≡ true → Appended page page at at (unless b line)
  printed_nothing page at e = rw e (appended_nothing page at)

  pub room_for_line : {page : List ℕ} {at : ℕ} → b ≡ false → Room page at (unless b line) → Room page at line
  room_for_line {page} {at} e room = subst (λ x. Room page at (unless x line)) e room

  pub printed_line : {before after : List ℕ} {at next : ℕ} → b ≡ false → Room before at (unless b line) → (after ≡ put at line before) × (next ≡ at + length line) → Appended before after at next (unless b line)
  printed_line e room x = let shown = appended_put line (room_for_line e room) x in rw e shown

-- ---- a loop that prints line i at turn i
module _ (f : ℕ → List ℕ) where
  pub printed_none : (page : List ℕ) (at : ℕ) → Appended page page at at (each 0 f)
  unfolding each
  printed_none page at = appended_nothing page at

  pub printed_one_more : {before between after : List ℕ} {at p next i : ℕ} → Appended before between at p (each i f) → Appended between after p next (f i) → Appended before after at next (each (i + 1) f)
  unfolding each
  printed_one_more {i = i} x y = rw (add-one i) (appended_both x y)

  pub room_for_one_more : {before between : List ℕ} {at p : ℕ} (n i : ℕ) → i < n → Room before at (each n f) → Appended before between at p (each i f) → Room between p (f i)
  room_for_one_more n i l room x = record {
    fits = let a = turn_fits f n i l in let r = room.fits in let s = x.size in let t = x.ends in omega arith;
  }

  pub printed_all : {before after : List ℕ} {at next : ℕ} (n i : ℕ) → i ≤ n → n ≤ i → Appended before after at next (each i f) → Appended before after at next (each n f)
  printed_all {before} {after} {at} {next} n i a b x = subst (λ z. Appended before after at next (each z f)) (le_antisymm a b) x
