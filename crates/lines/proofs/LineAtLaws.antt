-- One line of `read_lines` in the words of a text and the position where the line begins.
use Prim.Native.Nat.{ℕ, ◌+◌, ◌-◌, ◌≤◌, ◌<◌}
use mathlib.Core.Path.{◌≡◌, ap, ◌∙◌}
use mathlib.Core.List.{List}
use native.Mathlib.Omega.{arith}
use lib.ListN.{drop, get_or}
use lib.Seq.{drop-drop, get_or-drop}
use Rattle.shape.specs.Number.{numbers_of}
use Rattle.shape.specs.Line.{line_length}
use Rattle.lines.specs.Lines.{read_lines, judged_line, after_judged}
use Rattle.lines.specs.Result.{answered, refused_at}
use Rattle.lines.specs.Stored.{stored_line}
use Rattle.shape.specs.Scan.{section_of}
use Rattle.shape.specs.declared.number.Numbers.{Numbers}
use Rattle.sheet.specs.declared.sheet.Sheet.{Sheet}
use Rattle.sheet.specs.declared.answer.Refusal.{Refusal}
use Rattle.sheet.specs.declared.answer.Answer.{Answer}
use Rattle.lines.specs.declared.result.Reading.{Reading}
use Rattle.sheet.specs.declared.judged.Judged.{Judged}
use Rattle.sheet.specs.declared.judged.Judged.TheVariants.{Fine, Broken}
use Rattle.shape.specs.declared.shape.Section.{Section}
use Rattle.lines.proofs.LineLaws as Line

pub lines_step : (f u : ℕ) (a : Answer) (stop n at : ℕ) (text : List ℕ) (s : Sheet) → n < stop
    → read_lines f u a (stop - n) n (drop at text) s
    ≡ after_judged (judged_line f u (section_of f u n) n (numbers_of (drop at text)) s) n
    (read_lines f u a (stop - (n + 1)) (n + 1) (drop (at + line_length (drop at text)) text) (stored_line f u (section_of f u n) n (get_or text at 0) (numbers_of (drop at text)) s))
lines_step f u a stop n at text s h =
    let d : drop (line_length (drop at text)) (drop at text) ≡ drop (at + line_length (drop at text)) text = drop-drop (line_length (drop at text)) at text in
    let z : at + 0 ≡ at = omega arith in
    let g : get_or (drop at text) 0 0 ≡ get_or text at 0 = get_or-drop at text 0 0 ∙ ap (λ (k : ℕ). get_or text k 0) z in
    Line.lines_step f u a stop n (drop at text) s h ∙ rw (d, g)

pub lines_end : (f u : ℕ) (a : Answer) (k n : ℕ) (l : List ℕ) (s : Sheet) → k ≤ 0 → read_lines f u a k n l s ≡ answered a s
lines_end f u a k n l s h = Line.lines_end f u a k n l s (omega arith)

pub turn : (f u : ℕ) (a : Answer) (stop n at : ℕ) (text : List ℕ) (s : Sheet) (h : Numbers) (sec : Section) (v : Judged) (o : Reading) → n < stop
    → h ≡ numbers_of (drop at text) → sec ≡ section_of f u n → v ≡ judged_line f u sec n h s → o ≡ read_lines f u a (stop - n) n (drop at text) s
    → o ≡ after_judged v n (read_lines f u a (stop - (n + 1)) (n + 1) (drop (at + line_length (drop at text)) text) (stored_line f u sec n (get_or text at 0) h s))
turn f u a stop n at text s h sec v o lt eh es ev e = e ∙ lines_step f u a stop n at text s lt ∙ rw (ev, es, eh)

pub broken : (v : Judged) (k : Refusal) (col n : ℕ) (o o' r : Reading) → o ≡ after_judged v n o' → v ≡ Broken k col → r ≡ refused_at k n col → r ≡ o
broken v k col n o o' r p q e = e ∙ rw (p, q)

pub fine : (f u : ℕ) (a : Answer) (stop n at at' c : ℕ) (text : List ℕ) (s s' : Sheet) (h : Numbers) (sec : Section) (v : Judged) (o : Reading)
    → o ≡ after_judged v n (read_lines f u a (stop - (n + 1)) (n + 1) (drop (at + line_length (drop at text)) text) (stored_line f u sec n (get_or text at 0) h s))
    → v ≡ Fine → c ≡ get_or text at 0 → s' ≡ stored_line f u sec n c h s → at' ≡ at + line_length (drop at text)
    → o ≡ read_lines f u a (stop - (n + 1)) (n + 1) (drop at' text) s'
fine f u a stop n at at' c text s s' h sec v o p q ec es ea = rw (p, q, ea, es, ec)

pub ended : (f u : ℕ) (a : Answer) (k n : ℕ) (l : List ℕ) (s : Sheet) (o : Reading) → k ≤ 0 → o ≡ read_lines f u a k n l s → o ≡ answered a s
ended f u a k n l s o h e = e ∙ lines_end f u a k n l s h
