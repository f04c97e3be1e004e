-- The parts of a text, printed one after the other.
use Rattle.std.proofs.Common.{◌≡◌, ℕ, ◌+◌, List, ◌++◌, length, refl, sym, ap, ◌∙◌, arith}
use Rattle.print.specs.Put.{put}
use Rattle.print.specs.Page.{Room, Printed}
use Rattle.print.specs.declared.page.Page.{Page}
use Rattle.print.proofs.PutLaws.{put_append}
use Rattle.print.proofs.PageLaws.{printed_both, printed_same, room_first, room_second, room_same}
use Rattle.sheet.specs.Text.{text_of}
use Rattle.sheet.specs.declared.sheet.Sheet.{Sheet}
use Rattle.sheet.proofs.PartLaws.{catalogue_of, options_of, orderings_of, trailer_of, text_parts, text_length}

module _ (s : Sheet) {page : Page} (room : Room page (text_of s)) where
  whole : Room page (catalogue_of s ++ (options_of s ++ (orderings_of s ++ trailer_of s)))
  whole = room_same (text_parts s) room

  pub catalogue_fits : Room page (catalogue_of s)
  catalogue_fits = room_first (catalogue_of s) _ whole

  module _ {after_catalogue : Page} (catalogue : Printed page after_catalogue (catalogue_of s)) where
    sections : Room after_catalogue (options_of s ++ (orderings_of s ++ trailer_of s))
    sections = room_second (catalogue_of s) _ whole catalogue

    pub options_fit : Room after_catalogue (options_of s)
    options_fit = room_first (options_of s) _ sections

    module _ {after_options : Page} (options : Printed after_catalogue after_options (options_of s)) where
      ends : Room after_options (orderings_of s ++ trailer_of s)
      ends = room_second (options_of s) _ sections options

      pub orderings_fit : Room after_options (orderings_of s)
      orderings_fit = room_first (orderings_of s) _ ends

      module _ {after_orderings : Page} (orderings : Printed after_options after_orderings (orderings_of s)) where
        pub trailer_fits : Room after_orderings (trailer_of s)
        trailer_fits = room_second (orderings_of s) _ ends orderings

        pub text_printed : {last : Page} → Printed after_orderings last (trailer_of s) → Printed page last (text_of s)
        text_printed trailer = printed_same (sym (text_parts s)) (printed_both catalogue (printed_both options (printed_both orderings trailer)))

-- ---- the same in the words of a buffer and positions
-- a first part that is printed, and what is left
pub put_step : (p q : ℕ) (x y l out out' : List ℕ) → l ≡ x ++ y → out' ≡ put p x out → q ≡ p + length x → put p l out ≡ put q y out'
put_step p q x y l out out' e d k = ap (λ (z : List ℕ). put p z out) e ∙ put_append p x y out ∙ rw (k, d)

module _ (s : Sheet) where
  -- the four parts of a text, printed one after the other
  pub text_put : (p q r e : ℕ) (o o₁ o₂ o₃ o₄ : List ℕ) → o₁ ≡ put 0 (catalogue_of s) o → p ≡ 0 + length (catalogue_of s) → o₂ ≡ put p (options_of s) o₁ → q ≡ p + length (options_of s)
      → o₃ ≡ put q (orderings_of s) o₂ → r ≡ q + length (orderings_of s) → o₄ ≡ put r (trailer_of s) o₃ → e ≡ r + length (trailer_of s)
      → (o₄ ≡ put 0 (text_of s) o) × (e ≡ length (text_of s))
  text_put p q r e o o₁ o₂ o₃ o₄ e₁ ep e₂ eq e₃ er e₄ ee = (
    e₄ ∙ sym (put_step 0 p (catalogue_of s) _ (text_of s) o o₁ (text_parts s) e₁ ep ∙ put_step p q (options_of s) _ _ o₁ o₂ refl e₂ eq ∙ put_step q r (orderings_of s) _ _ o₂ o₃ refl e₃ er),
    omega (arith, (text_length s)),
  )
