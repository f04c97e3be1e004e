-- An accepted text is the text of its record.
use Prim.Native.Nat.{ℕ, zero, suc, ◌+◌, ◌-◌, ◌≤◌, ◌<◌}
use mathlib.Core.Path.{◌≡◌, refl, sym, ap, ◌∙◌}
use mathlib.Core.Bool.{Bool, true, false, cond}
use mathlib.Core.List.{List, [], ◌∷◌, ◌++◌, append_assoc, append-nil}
use native.Mathlib.Omega.{arith}
use lib.Dec.{ltb}
use lib.ListN.{length, take, drop, get_or, take-append-drop}
use lib.Seq.{drop-append_seam}
use borrow.Author.Tests.{ltb-false}
use Rattle.shape.specs.Line.{line_length}
use Rattle.lines.specs.Lines.{read_lines, judged_line, after_judged, WithinLimits}
use Rattle.lines.specs.Result.{accepted, refused, refused_at}
use Rattle.lines.specs.Stored.{stored_line}
use Rattle.shape.specs.Number.{numbers_of}
use Rattle.shape.specs.Scan.{section_of, misshapen_from, first_misshapen}
use Rattle.sheet.specs.Sheet.{sized}
use Rattle.sheet.specs.Recorded.{Lengths}
use Rattle.shape.specs.LineText.{line_text}
use Rattle.sheet.specs.Text.{text_of}
use Rattle.reader.proofs.BodyLaws.{line_of, body_text, text_body}
use Rattle.shape.specs.Trailer.{line_ends, last_line, is_trailer}
use Rattle.reader.specs.Read.{read_sheet, read_trailed, read_body, bad_trailer}
use Rattle.shape.specs.declared.number.Numbers.{Numbers}
use Rattle.sheet.specs.declared.judged.Judged.{Judged}
use Rattle.sheet.specs.declared.judged.Judged.TheVariants.{Fine, Broken}
use Rattle.sheet.specs.declared.sheet.Sheet.{Sheet}
use Rattle.sheet.specs.declared.answer.Refusal.{Refusal}
use Rattle.sheet.specs.declared.answer.Answer.TheVariants.{Accepted, Refused}
use Rattle.lines.specs.declared.result.Reading.{Reading}
use Rattle.shape.specs.declared.scan.Place.{Place}
use Rattle.shape.specs.declared.scan.Scanned.{Scanned}
use Rattle.shape.specs.declared.scan.Scanned.TheVariants.{Clean, At}
use Rattle.shape.specs.declared.shape.Section.{Section}
use Rattle.shape.specs.declared.shape.Section.TheVariants.{Catalogue, Options, Orderings, Trailer}
use Rattle.shape.specs.declared.shape.State.TheVariants.{Start, Done}
use Rattle.shape.proofs.GrammarLaws.{accepts}
use Rattle.shape.proofs.LineEndLaws.{trailer_lines, done_of}
use Rattle.reader.proofs.ReadLaws.{good_trailer}
use Rattle.shape.proofs.SplitLaws.{split, shaped_line_length, whole_lines, whole_append, whole_line, whole_none, last_line_after_whole}
use Rattle.reader.proofs.StoredLaws.{sized_lengths, stored_lengths, text_for, line_as_text, same_line, other_line}

pub not_refused : (k : Refusal) (p : Place) (s : Sheet) → refused p k ≡ accepted s → ⊥
not_refused k p s e =
    let q : Refused p k ≡ Accepted = ap (λ (o : Reading). o.answer) e in
    cc

pub same_counts : (f u : ℕ) (sec : Section) (n c : ℕ) (h : Numbers) (s : Sheet)
    → ((stored_line f u sec n c h s).catalogue_lines ≡ s.catalogue_lines) × (((stored_line f u sec n c h s).option_count ≡ s.option_count) × ((stored_line f u sec n c h s).ordering_count ≡ s.ordering_count))
same_counts f u Catalogue n c h s = (refl, (refl, refl))
same_counts f u Options n c h s = (refl, (refl, refl))
same_counts f u Orderings n c h s = (refl, (refl, refl))
same_counts f u Trailer n c h s = (refl, (refl, refl))

-- a refusal that stands at the end is no acceptance
never : (f u : ℕ) (k : Refusal) (p : Place) (j n : ℕ) (l : List ℕ) (s r : Sheet) → read_lines f u (Refused p k) j n l s ≡ accepted r → ⊥
unfolding read_lines
never f u k p zero n l s r e = not_refused k p r e
never f u k p (suc j) n l s r e =
    go (judged_line f u (section_of f u n) n (numbers_of l) s)
    (never f u k p j (n + 1) (drop (line_length l) l) (stored_line f u (section_of f u n) n (get_or l 0 0) (numbers_of l) s) r) e
  where
    go : (v : Judged) {o : Reading} → (o ≡ accepted r → ⊥) → after_judged v n o ≡ accepted r → ⊥
    go Fine h e = h e
    go (Broken x y) h e = not_refused x _ r e

pub record Read (f u k n : ℕ) (l : List ℕ) (S s : Sheet) : Type 0 where
  pub before : (m : ℕ) → 1 ≤ m → m < n → line_of f u m S ≡ line_of f u m s
  pub body : l ≡ body_text f u k n s
  pub catalogue_lines : S.catalogue_lines ≡ s.catalogue_lines
  pub option_count : S.option_count ≡ s.option_count
  pub ordering_count : S.ordering_count ≡ s.ordering_count

pub went_on : (v : Judged) (n : ℕ) (o : Reading) (s : Sheet) → after_judged v n o ≡ accepted s → o ≡ accepted s
went_on Fine n o s e = e
went_on (Broken k c) n o s e = absurd (not_refused k _ s e)

main : (f u k n : ℕ) (l tr : List ℕ) (S s : Sheet) → Lengths S → f ≤ u → f ≤ 513 → u ≤ f + 32 → n + k ≤ u + 64 → 1 ≤ n
    → misshapen_from f u l n 1 Start ≡ Clean → line_ends l ≡ k → whole_lines true l ≡ true → read_lines f u Accepted k n (l ++ tr) S ≡ accepted s → Read f u k n l S s
unfolding read_lines body_text
main f u zero n l tr S s L a b c d one sc t cl e =
    let q : S ≡ s = ap (λ (o : Reading). o.sheet) e in
    record {
      before = λ m x y. ap (λ (z : Sheet). line_of f u m z) q;
      body = whole_none l t cl;
      catalogue_lines = ap (λ (z : Sheet). z.catalogue_lines) q;
      option_count = ap (λ (z : Sheet). z.option_count) q;
      ordering_count = ap (λ (z : Sheet). z.ordering_count) q;
    }
main f u (suc k) n l tr S s L a b c d one sc t cl e =
    let sec = section_of f u n in
    let z = split f u n l 1 Start k sc t in
    let x = z.line in
    let y = z.rest in
    let ns : Start ≡ Done → ⊥ = λ p. cc in
    let w : l ++ tr ≡ x ++ (y ++ tr) = ap (λ (q : List ℕ). q ++ tr) z.whole ∙ append_assoc x y tr in
    let h = numbers_of (x ++ (y ++ tr)) in
    let c₀ = get_or (x ++ (y ++ tr)) 0 0 in
    let S' = stored_line f u sec n c₀ h S in
    let e₁ : read_lines f u Accepted (suc k) n (x ++ (y ++ tr)) S ≡ accepted s = ap (λ (q : List ℕ). read_lines f u Accepted (suc k) n q S) (sym w) ∙ e in
    let e₂ = went_on (judged_line f u sec n h S) n _ s e₁ in
    let dr : drop (line_length (x ++ (y ++ tr))) (x ++ (y ++ tr)) ≡ y ++ tr
    = ap (λ (i : ℕ). drop i (x ++ (y ++ tr))) (shaped_line_length sec x (y ++ tr) Start ns z.shaped) ∙ drop-append_seam x (y ++ tr) in
    let e₃ : read_lines f u Accepted k (n + 1) (y ++ tr) S' ≡ accepted s = ap (λ (q : List ℕ). read_lines f u Accepted k (n + 1) q S') (sym dr) ∙ e₂ in
    let cy : whole_lines true y ≡ true
    = ap (λ (q : Bool). whole_lines q y) (sym (whole_line sec x Start true ns z.shaped)) ∙ sym (whole_append true x y) ∙ ap (λ (q : List ℕ). whole_lines true q) (sym z.whole) ∙ cl in
    let i = main f u k (n + 1) y tr S' s (stored_lengths f u sec n c₀ h S L) a b c (omega arith) (omega arith) z.clean z.fewer cy e₃ in
    let room : WithinLimits f u n = record { ordered = a; few_catalogue = b; few_options = c; few_orderings = omega arith } in
    let t₁ : x ≡ line_of f u n s
    = line_as_text sec x (y ++ tr) (accepts sec x z.shaped) ∙ sym (same_line f u n c₀ sec h S L room one refl) ∙ i.before n one (omega arith) in
    let g = same_counts f u sec n c₀ h S in
    record {
      before = λ m p q. sym (other_line f u n c₀ sec h S m (section_of f u m) p q refl refl) ∙ i.before m p (omega arith);
      body = z.whole ∙ ap (λ (q : List ℕ). q ++ y) t₁ ∙ ap (λ (q : List ℕ). line_of f u n s ++ q) i.body;
      catalogue_lines = sym g.0 ∙ i.catalogue_lines;
      option_count = sym g.1.0 ∙ i.option_count;
      ordering_count = sym g.1.1 ∙ i.ordering_count;
    }

pub let_by : (t : Bool) (k : Refusal) (n c : ℕ) (o : Reading) (s : Sheet) → cond t (refused_at k n c) o ≡ accepted s → (t ≡ false) × (o ≡ accepted s)
let_by true k n c o s e = absurd (not_refused k _ s e)
let_by false k n c o s e = (refl, e)

pub held : (t : Bool) (k : Refusal) (n c : ℕ) (o : Reading) (s : Sheet) → cond t o (refused_at k n c) ≡ accepted s → (t ≡ true) × (o ≡ accepted s)
held true k n c o s e = (refl, e)
held false k n c o s e = absurd (not_refused k _ s e)

pub body_clean : (f u : ℕ) (text : List ℕ) (S s : Sheet) (t : ℕ) (v : Scanned) → read_body f u text S t v ≡ accepted s
    → (v ≡ Clean) × (read_lines f u Accepted (t - 1) 1 text S ≡ accepted s)
unfolding read_body
body_clean f u text S s t Clean e = (refl, e)
body_clean f u text S s t (At p b) e = absurd (never f u _ p _ _ _ _ s e)

trailed_text : (text : List ℕ) (at n f u t : ℕ) (s : Sheet) → n ≡ suc (line_ends (take at text)) → whole_lines true (take at text) ≡ true
    → drop at text ≡ line_text 84 (f ∷ u ∷ t ∷ []) → read_trailed text at n f u t ≡ accepted s → text ≡ text_of s
unfolding read_trailed
trailed_text text at n f u t s en cl et e =
    let p₁ = let_by (bad_trailer f u t n) _ _ _ _ s e in
    let g = good_trailer f u t n p₁.0 in
    let p₂ = let_by (ltb 512 (f - 1)) _ _ _ _ s p₁.1 in
    let p₃ = let_by (ltb 32 (u - f)) _ _ _ _ s p₂.1 in
    let p₄ = let_by (ltb 64 (t - u)) _ _ _ _ s p₃.1 in
    let q₂ = ltb-false 512 (f - 1) p₂.0 in
    let q₃ = ltb-false 32 (u - f) p₃.0 in
    let q₄ = ltb-false 64 (t - u) p₄.0 in
    let b = body_clean f u text (sized (f - 1) (u - f) (t - u)) s t (first_misshapen f u (take at text)) p₄.1 in
    let w : take at text ++ drop at text ≡ text = take-append-drop at text in
    let k : line_ends (take at text) ≡ t - 1 = omega (arith, g.1.1.1) in
    let r = main f u (t - 1) 1 (take at text) (drop at text) (sized (f - 1) (u - f) (t - u)) s (sized_lengths (f - 1) (u - f) (t - u))
    g.1.0 (omega (arith, g.0)) (omega (arith, g.1.0)) (omega (arith, g.0, g.1.0, g.1.1.0)) (omega arith)
    b.0 k cl (ap (λ (x : List ℕ). read_lines f u Accepted (t - 1) 1 x (sized (f - 1) (u - f) (t - u))) w ∙ b.1) in
    let cf : f ≡ s.catalogue_lines + 1 = omega (arith, r.catalogue_lines, g.0) in
    let cu : u ≡ s.catalogue_lines + 1 + s.option_count = omega (arith, r.catalogue_lines, r.option_count, g.0, g.1.0) in
    let ct : t ≡ s.catalogue_lines + 1 + s.option_count + s.ordering_count = omega (arith, r.catalogue_lines, r.option_count, r.ordering_count, g.0, g.1.0, g.1.1.0) in
    sym w ∙ ap (λ (x : List ℕ). x ++ drop at text) r.body ∙ ap (λ (x : List ℕ). body_text f u (t - 1) 1 s ++ x) et ∙ sym (text_body f u t s cf cu ct)

-- an accepted text is the text of its record
pub accepted_text : (text : List ℕ) (s : Sheet) → read_sheet text ≡ accepted s → text ≡ text_of s
unfolding read_sheet
accepted_text text s e =
    let at = (last_line text).start in
    let h = numbers_of (drop at text) in
    let p₁ = let_by (ltb 8192 (length text)) _ _ _ _ s e in
    let p₂ = held (is_trailer (drop at text)) _ _ _ _ s p₁.1 in
    let ln = accepts Trailer (drop at text) (done_of _ p₂.0) in
    let tx : drop at text ≡ line_text 84 (h.first ∷ h.second ∷ h.third ∷ [])
    = line_as_text Trailer (drop at text) [] ln ∙ ap (λ (x : List ℕ). text_for Trailer (get_or x 0 0) (numbers_of x)) (append-nil (drop at text)) in
    trailed_text text at (last_line text).lines h.first h.second h.third s (trailer_lines text at (last_line text).lines refl refl p₂.0)
    (last_line_after_whole text text 0 0 0 0 refl refl refl) tx p₂.1

-- two texts that give one record are one text; and a record that any text gives is given by its own text
pub one_text : (a b : List ℕ) (s : Sheet) → read_sheet a ≡ accepted s → read_sheet b ≡ accepted s → a ≡ b
one_text a b s p q = accepted_text a s p ∙ sym (accepted_text b s q)

pub own_text : (text : List ℕ) (s : Sheet) → read_sheet text ≡ accepted s → read_sheet (text_of s) ≡ accepted s
own_text text s e = ap read_sheet (sym (accepted_text text s e)) ∙ e
