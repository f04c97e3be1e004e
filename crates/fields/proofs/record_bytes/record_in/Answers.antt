-- The number of bytes decides.
use mathlib.Core.Path.{ap, ◌∙◌}
use Rattle.fields.specs.Record.{record_of}
use Rattle.fields.specs.laws.Record.{handed_record, handed_no_record}
use Rattle.fields.proofs.record_bytes.record_in.Goals as goal

pub returns-in-Some : goal.returns-in-Some
returns-in-Some c = handed_record _ c.in-Some.ensures.cases.long (c.record_of.ensures ∙ ap record_of c.in-Some.ensures.cases.same)

pub returns-in-None : goal.returns-in-None
returns-in-None c = handed_no_record _ c.in-None.ensures.cases c.sized.ensures
