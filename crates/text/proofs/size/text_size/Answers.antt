-- The text is its four parts, and a letter is one byte whatever it is.
use Rattle.std.proofs.Common.{[], arith}
use Rattle.sheet.proofs.PartLaws.{text_length, trailer_length}
use Rattle.text.proofs.SectionLaws.{any_letter}
use Rattle.text.proofs.size.text_size.Goals as goal

pub returns : goal.returns
returns c = let s = c.args.s.now in
    let letters = any_letter s.catalogue_lines 0 [] s.letters s.befores s.afters in
    omega (arith, letters, c.catalogue_size.ensures.0, c.options_size.ensures.0, c.orderings_size.ensures.0, c.decimal_width.ensures.0, c.decimal_width-2.ensures.0, c.decimal_width-3.ensures.0, text_length s, trailer_length s)
