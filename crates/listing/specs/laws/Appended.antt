-- Texts printed one after the other are one text.
use Rattle.std.specs.Prelude.{ℕ, suc, ◌+◌, ◌≤◌, ◌≡◌, refl, List, [], ◌∷◌, ◌++◌, length, take, set}
use Rattle.std.proofs.Common.{sym, ap, subst, ◌∙◌, append_assoc, append-nil, arith, add-one, length-append, length-set, take-suc-set}
use Rattle.print.specs.Put.{put}
use Rattle.print.specs.Page as P
use Rattle.print.specs.declared.page.Page.{Page}
use Rattle.listing.specs.Appended.{Room, Appended}

pub appended_nothing : (page : List ℕ) (at : ℕ) → Appended page page at at []
appended_nothing page at = record { ends = omega arith; size = refl; shows = sym (append-nil (take at page)) }

pub appended_byte : (page : List ℕ) (at b : ℕ) → at + 1 ≤ length page → Appended page (set page at b) at (at + 1) (b ∷ [])
appended_byte page at b h = record { ends = refl; size = length-set page at b; shows = rw (add-one at) (take-suc-set page at b (omega arith)) }

pub appended_both : {before between after : List ℕ} {at p next : ℕ} {l m : List ℕ} → Appended before between at p l → Appended between after p next m → Appended before after at next (l ++ m)
appended_both {before = before} {at = at} {l = l} {m = m} x y = record {
  ends = let e = x.ends in let f = y.ends in let g = length-append l m in omega arith;
  size = y.size ∙ x.size;
  shows = y.shows ∙ ap (λ z. z ++ m) x.shows ∙ append_assoc (take at before) l m;
}

-- A text that was printed byte by byte.
put_appended : (l page : List ℕ) (at : ℕ) → at + length l ≤ length page → Appended page (put at l page) at (at + length l) l
unfolding put
put_appended [] page at h =
    let e : at + 0 ≡ at = omega arith in
    rw e (appended_nothing page at)
put_appended (b ∷ l) page at h =
    let e : at + suc (length l) ≡ at + 1 + length l = omega arith in
    let s = length-set page at b in
    rw e (appended_both (appended_byte page at b (omega arith)) (put_appended l (set page at b) (at + 1) (omega arith)))

pub appended_put : (l : List ℕ) {page after : List ℕ} {at next : ℕ} → Room page at l → (after ≡ put at l page) × (next ≡ at + length l) → Appended page after at next l
appended_put l {page} {after} {at} {next} room (e, f) = rw (e, f) (put_appended l page at room.fits)

-- Room for two texts is room for the first, and then for the second.
pub room_first : {page : List ℕ} {at : ℕ} (l m : List ℕ) → Room page at (l ++ m) → Room page at l
room_first l m h = record { fits = let e = length-append l m in let f = h.fits in omega arith }

pub room_second : {before after : List ℕ} {at next : ℕ} (l m : List ℕ) → Room before at (l ++ m) → Appended before after at next l → Room after next m
room_second l m h x = record { fits = let e = length-append l m in let d = h.fits in let f = x.ends in let g = x.size in omega arith }

-- The same text in other words.
pub room_same : {page : List ℕ} {at : ℕ} {l m : List ℕ} → l ≡ m → Room page at l → Room page at m
room_same {page} {at} e room = subst (Room page at) e room

pub appended_same : {before after : List ℕ} {at next : ℕ} {l m : List ℕ} → l ≡ m → Appended before after at next l → Appended before after at next m
appended_same {before} {after} {at} {next} e x = subst (Appended before after at next) e x

-- ---- what was printed on a page, in the words of its bytes and its position
pub room_of_page : {page : Page} {text : List ℕ} → P.Room page text → Room page.bytes.now page.at text
room_of_page room = record { fits = room.fits }

pub appended_of_page : {before after : Page} {text : List ℕ} → P.Room before text → P.Printed before after text → Appended before.bytes.now after.bytes.now before.at after.at text
appended_of_page {text = text} room x = appended_put text (room_of_page room) (x.shows, x.ends)
