-- Texts printed on a page one after the other are one text.
use Rattle.std.proofs.Common.{◌≡◌, ℕ, ◌+◌, ◌≤◌, List, [], ◌∷◌, ◌++◌, length, refl, sym, ap, ap₂, subst, ◌∙◌, arith, length-append, get_or, drop, drop-cons, drop_of_length-le, add-one, ◌<◌}
use Rattle.shape.specs.LineText.{decimal, fields_text}
use Rattle.print.specs.Put.{put}
use Rattle.print.specs.Page.{Room, Printed}
use Rattle.print.specs.declared.page.Page.{Page}
use Rattle.print.proofs.PutLaws.{put_none, put_append, put_length}

module _ {before after : Page} {text : List ℕ} (printed : Printed before after text) where
  pub printed_size : length after.bytes.now ≡ length before.bytes.now
  printed_size = ap length printed.shows ∙ put_length before.at text before.bytes.now

-- ---- what is printed so far
pub printed_nothing : (page : Page) → Printed page page []
printed_nothing page = record { same = refl; ends = omega arith; shows = sym (put_none page.at page.bytes.now) }

pub printed_both : {before between after : Page} {l m : List ℕ} → Printed before between l → Printed between after m → Printed before after (l ++ m)
printed_both {before = before} {l = l} {m = m} x y = record {
  same = y.same ∙ x.same;
  ends = let e = x.ends in let f = y.ends in let g = length-append l m in omega arith;
  shows = y.shows ∙ ap₂ (λ (at : ℕ) (bytes : List ℕ). put at m bytes) x.ends x.shows ∙ sym (put_append before.at l m before.bytes.now);
}

pub printed_same : {before after : Page} {l m : List ℕ} → l ≡ m → Printed before after l → Printed before after m
printed_same {before} {after} e x = subst (Printed before after) e x

-- ---- what is left to print of a whole text
pub record Remains (before page : Page) (whole left : List ℕ) : Type 0 where
  pub same : page.bytes.ghost_name ≡ before.bytes.ghost_name
  pub ends : before.at + length whole ≡ page.at + length left
  pub shows : put before.at whole before.bytes.now ≡ put page.at left page.bytes.now

pub all_remains : (page : Page) (whole : List ℕ) → Remains page page whole whole
all_remains page whole = record { same = refl; ends = refl; shows = refl }

pub less_remains : {before page after : Page} {whole left l m : List ℕ} → left ≡ l ++ m → Remains before page whole left → Printed page after l → Remains before after whole m
less_remains {page = page} {l = l} {m = m} e x y = record {
  same = y.same ∙ x.same;
  ends = let f = ap length e in let g = length-append l m in let h = x.ends in let k = y.ends in omega arith;
  shows = x.shows ∙ ap (λ (z : List ℕ). put page.at z page.bytes.now) e ∙ put_append page.at l m page.bytes.now ∙ sym (ap₂ (λ (at : ℕ) (bytes : List ℕ). put at m bytes) y.ends y.shows);
}

pub none_remains : {before page : Page} {whole left : List ℕ} → left ≡ [] → Remains before page whole left → Printed before page whole
none_remains {page = page} e x = record {
  same = x.same;
  ends = let f = ap length e in let h = x.ends in omega arith;
  shows = sym (x.shows ∙ ap (λ (z : List ℕ). put page.at z page.bytes.now) e ∙ put_none page.at page.bytes.now);
}

-- ---- room for two texts is room for the first, and then for the second
pub room_first : {page : Page} (l m : List ℕ) → Room page (l ++ m) → Room page l
room_first l m h = record { fits = let e = length-append l m in let f = h.fits in omega arith }

pub room_second : {before after : Page} (l m : List ℕ) → Room before (l ++ m) → Printed before after l → Room after m
room_second l m h x = record { fits = let e = length-append l m in let d = h.fits in let f = x.ends in let g = printed_size x in omega arith }

pub room_same : {page : Page} {l m : List ℕ} → l ≡ m → Room page l → Room page m
room_same {page} e room = subst (Room page) e room

pub room_remains : {before page : Page} {whole left : List ℕ} → Room before whole → Remains before page whole left → Room page left
room_remains {before} {page} {whole} {left} room x = record {
  fits =
      let e = sym (put_length before.at whole before.bytes.now) ∙ ap length x.shows ∙ put_length page.at left page.bytes.now in
      let f = room.fits in
      let g = x.ends in
      omega arith;
}

-- ---- a page with nothing on it, made of a buffer
module _ {page : Page} {out text : List ℕ} (at : page.at ≡ 0) (bytes : page.bytes.now ≡ out) where
  pub room_on_new : length text ≤ length out → Room page text
  room_on_new h = record { fits = let e = ap length bytes in omega arith }

  pub printed_on_new : {after : Page} → Printed page after text → (after.bytes.now ≡ put 0 text out) × (after.at ≡ length text)
  printed_on_new x = (x.shows ∙ ap₂ (λ (k : ℕ) (b : List ℕ). put k text b) at bytes, let e = x.ends in omega arith)

-- ---- the numbers of a line, from one of them on
pub fields_first : (i : ℕ) (numbers : List ℕ) → i < length numbers
    → fields_text (drop i numbers) ≡ (32 ∷ []) ++ (decimal (get_or numbers i 0) ++ fields_text (drop (i + 1) numbers))
fields_first i numbers h = rw (add-one i, drop-cons numbers i 0 h) refl

pub fields_none : (i : ℕ) (numbers : List ℕ) → length numbers ≤ i → fields_text (drop i numbers) ≡ (10 ∷ []) ++ []
fields_none i numbers h = rw (drop_of_length-le numbers h) refl
