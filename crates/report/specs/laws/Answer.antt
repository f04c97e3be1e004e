-- The two ways out of `report`; and two results that its promise allows are equal.
use Rattle.std.specs.Prelude.{ℕ, ◌≤◌, ◌<◌, ◌≡◌, refl, Bool, true, false, cond, List, ◌++◌, ltb, length, take}
use Rattle.std.proofs.Common.{sym, subst, ◌∙◌, arith, lt-ltb, le-ltb}
use Rattle.std.proofs.Math.Path.{ap}
use Rattle.std.proofs.Math.ListN.{drop}
use Rattle.sheet.specs.declared.answer.Answer.TheVariants.{Accepted}
use Rattle.report.specs.Report.{report_of}
use Rattle.report.specs.Answer.{too_short, report_answer, report_buffer}
use Rattle.report.specs.declared.reporting.Reported.{Reported}
use Rattle.listing.specs.Appended.{Room, Appended}
use Rattle.report.specs.laws.Short.{report_short}

-- What the contract of `report` says.
abbrev pub Reports : List ℕ → List ℕ → Reported → List ℕ → Type 0
Reports text out r after = (r ≡ report_answer text out) × (after ≡ report_buffer text out)

pub room_on_page : (text page : List ℕ) → 1024 ≡ length page → Room page 0 (report_of text)
room_on_page text page e = record { fits = let h = report_short text in omega arith }

module _ (text : List ℕ) {before page : List ℕ} {size : ℕ} (printed : Appended before page 0 size (report_of text)) where
  size_is : size ≡ length (report_of text)
  size_is = let e = printed.ends in omega arith

  shown : take size page ≡ report_of text
  shown = printed.shows

  pub printed_on_page : Room before 0 (report_of text) → size ≤ length page
  printed_on_page room = let e = size_is in let f = room.fits in let g = printed.size in omega arith

  pub out_too_short : (out : List ℕ) {r : Reported} → length out < size → r ≡ too_short → Reports text out r out
  unfolding report_answer report_buffer
  out_too_short out h e = rw (lt-ltb (length out) (length (report_of text)) (let z = size_is in omega arith)) (e, refl)

  pub out_long_enough : (out : List ℕ) {after : List ℕ} → size ≤ length out → after ≡ take size page ++ drop size out → Reports text out (record { answer = Accepted; size = size }) after
  unfolding report_answer report_buffer
  out_long_enough out h e = rw (le-ltb (length out) (length (report_of text)) (let z = size_is in omega arith))
      (ap (λ (k : ℕ). record { answer = Accepted; size = k }) size_is, e ∙ ap (λ z. z ++ drop size out) shown ∙ ap (λ k. report_of text ++ drop k out) size_is)

-- TWO RESULTS that the promise allows are equal.
pub one_report : (text out : List ℕ) (r q : Reported) (a b : List ℕ) → Reports text out r a → Reports text out q b → (r ≡ q) × (a ≡ b)
one_report text out r q a b x y = (x.0 ∙ sym y.0, x.1 ∙ sym y.1)

-- The size never exceeds 1,024.
pub size_is_short : (text out : List ℕ) {r : Reported} → r ≡ report_answer text out → r.size ≤ 1024
unfolding report_answer
size_is_short text out {r} e = subst (λ z. z.size ≤ 1024) (sym e) (go (ltb (length out) (length (report_of text))))
  where
    go : (b : Bool) → (cond b too_short (record { answer = Accepted; size = length (report_of text) })).size ≤ 1024
    go true = omega arith
    go false = report_short text
