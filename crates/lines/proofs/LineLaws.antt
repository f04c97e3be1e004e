-- What a line's section and a passed judgement say, and one line of `read_lines`.
use Prim.Native.Nat.{ℕ, suc, ◌+◌, ◌-◌, ◌≤◌, ◌<◌}
use mathlib.Core.Path.{◌≡◌, ◌∙◌, sym}
use mathlib.Core.List.{List}
use native.Mathlib.Omega.{arith}
use lib.ListN.{length, take, drop, get_or, length-drop}
use lib.Seq.{take_all}
use Rattle.shape.specs.Number.{numbers_of}
use Rattle.sheet.specs.Judge.{judge_catalogue_line, judge_option, judge_ordering}
use Rattle.sheet.proofs.JudgeLaws.{catalogue_obeys, option_obeys, ordering_obeys}
use Rattle.shape.specs.Line.{line_length}
use Rattle.lines.specs.Lines.{read_lines, judged_line, after_judged}
use Rattle.lines.specs.Result.{answered, refused_at}
use Rattle.lines.specs.Stored.{stored_line}
use Rattle.shape.specs.Scan.{section_of}
use Rattle.shape.specs.declared.number.Numbers.{Numbers}
use Rattle.sheet.specs.declared.sheet.Sheet.{Sheet}
use Rattle.sheet.specs.declared.answer.Refusal.{Refusal}
use Rattle.sheet.specs.declared.answer.Answer.{Answer}
use Rattle.lines.specs.declared.result.Reading.{Reading}
use Rattle.sheet.specs.declared.judged.Judged.{Judged}
use Rattle.sheet.specs.declared.judged.Judged.TheVariants.{Fine, Broken}
use Rattle.shape.specs.declared.shape.Section.{Section}
use Rattle.shape.specs.declared.shape.Section.TheVariants.{Catalogue, Options, Orderings}
use Rattle.std.proofs.lemmas.Bool.Decides.{nat_tests}

pub in_catalogue : (f u n : ℕ) → section_of f u n ≡ Catalogue → n < f
in_catalogue f u n e = grind (arith, nat_tests)

pub in_options : (f u n : ℕ) → section_of f u n ≡ Options → (f ≤ n) × (n < u)
in_options f u n e = grind (arith, nat_tests)

pub in_orderings : (f u n : ℕ) → section_of f u n ≡ Orderings → (f ≤ n) × (u ≤ n)
in_orderings f u n e = grind (arith, nat_tests)

-- the numbers of a line that was passed fit the record's arrays
pub catalogue_fits : (h : Numbers) → judge_catalogue_line h ≡ Fine → (h.first ≤ 250) × (h.second ≤ 250)
catalogue_fits h e =
    let g = catalogue_obeys h e in
    (g.0.1, g.1.0.1)

pub option_fits : (h : Numbers) (l : List ℕ) → judge_option h l ≡ Fine → (h.first ≤ 250) × (h.second ≤ 9999)
option_fits h l e =
    let g = option_obeys h l e in
    (g.0.1, g.1.0)

pub ordering_fits : (h : Numbers) (l m n : List ℕ) → judge_ordering h l m n ≡ Fine → (h.first ≤ 250) × ((h.second ≤ 250) × (h.third ≤ 9999))
ordering_fits h l m n e =
    let g = ordering_obeys h l m n e in
    (g.0.1, (g.1.0.1, g.1.1.0))

-- a part of a list that goes to its end
pub to_end : (at : ℕ) (l : List ℕ) → take (length l - at) (drop at l) ≡ drop at l
to_end at l =
    let e : length (drop at l) ≤ length l - at = rw (length-drop at l) (omega arith) in
    take_all (length l - at) (drop at l) e

-- one line
pub lines_step : (f u : ℕ) (a : Answer) (stop n : ℕ) (l : List ℕ) (s : Sheet) → n < stop
    → read_lines f u a (stop - n) n l s
    ≡ after_judged (judged_line f u (section_of f u n) n (numbers_of l) s) n
    (read_lines f u a (stop - (n + 1)) (n + 1) (drop (line_length l) l) (stored_line f u (section_of f u n) n (get_or l 0 0) (numbers_of l) s))
unfolding read_lines
lines_step f u a stop n l s h =
    let e : stop - n ≡ suc (stop - (n + 1)) = omega arith in
    rw e

pub lines_end : (f u : ℕ) (a : Answer) (k n : ℕ) (l : List ℕ) (s : Sheet) → k ≡ 0 → read_lines f u a k n l s ≡ answered a s
unfolding read_lines
lines_end f u a k n l s e = rw e

module _ (f u : ℕ) (a : Answer) (stop n : ℕ) (l : List ℕ) (s : Sheet) {h : Numbers} {sec : Section} {v : Judged} {o : Reading} (below : n < stop)
    (numbers : h ≡ numbers_of l) (section : sec ≡ section_of f u n) (judged : v ≡ judged_line f u sec n h s) (so_far : o ≡ read_lines f u a (stop - n) n l s) where
  pub turn : o ≡ after_judged v n (read_lines f u a (stop - (n + 1)) (n + 1) (drop (line_length l) l) (stored_line f u sec n (get_or l 0 0) h s))
  turn = so_far ∙ lines_step f u a stop n l s below ∙ rw (judged, section, numbers)

  pub broken : {why : Refusal} {column : ℕ} {r : Reading} → v ≡ Broken why column → r ≡ refused_at why n column → r ≡ o
  broken is refused = refused ∙ sym (turn ∙ rw is)

  pub fine : {c k : ℕ} {s' : Sheet} → v ≡ Fine → c ≡ get_or l 0 0 → s' ≡ stored_line f u sec n c h s → k ≡ line_length l
      → o ≡ read_lines f u a (stop - (n + 1)) (n + 1) (take (length l - k) (drop k l)) s'
  fine {c} {k} is first stored long = turn ∙ rw (is, to_end k l, long, stored, first)
