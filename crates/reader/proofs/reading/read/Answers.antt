-- The tests are those of the definition; a well-shaped last line is the line after the last line end before it.
use mathlib.Core.Path.{sym, ap, ◌∙◌}
use Rattle.shape.specs.Trailer.{is_trailer}
use Rattle.shape.specs.declared.trailer.LastLine.{LastLine}
use Rattle.shape.proofs.LineEndLaws.{trailer_lines}
use Rattle.lines.proofs.LineLaws.{to_end}
use Rattle.reader.proofs.reading.read.Goals as goal

pub read_trailed-requires : goal.read_trailed-requires
read_trailed-requires c = let e = c.last_line-last in
    let s = c.args.text.now in
    record { at_in_bounds = (e.ensures.1, trailer_lines s e.result.start e.result.lines (ap (λ (x : LastLine). x.start) e.ensures.0) (ap (λ (x : LastLine). x.lines) e.ensures.0) (ap is_trailer (sym (to_end e.result.start s)) ∙ sym c.is_trailer.ensures ∙ c.if-is_trailer.true)) }
