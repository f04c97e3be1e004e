-- Nothing is stored before both tests are passed, and then just the text.
use mathlib.Core.Path.{sym, ◌∙◌}
use Rattle.sheet.proofs.ObeyLaws.{recorded_limits}
use Rattle.writer.proofs.WriteLaws.{wrote_not_recorded, wrote_too_short, wrote_text}
use Rattle.writer.proofs.writing.write.Goals as goal

pub returns-then-not-is_recorded : goal.returns-then-not-is_recorded
returns-then-not-is_recorded c = wrote_not_recorded c.args.s _ _ (sym c.is_recorded.ensures ∙ c.if-not-is_recorded.true) c.not_written.ensures

pub text_size-requires : goal.text_size-requires
text_size-requires c = recorded_limits c.args.s (sym c.is_recorded.ensures ∙ c.if-not-is_recorded.false)

pub returns-then-out-text_size : goal.returns-then-out-text_size
returns-then-out-text_size c = wrote_too_short c.args.s _ _ (sym c.is_recorded.ensures ∙ c.if-not-is_recorded.false) (rw c.text_size.ensures at c.if-out-text_size.true) c.not_written-then-out-text_size.ensures

pub put_text-size-requires : goal.put_text-size-requires
put_text-size-requires c = record { counts_bound = recorded_limits c.args.s (sym c.is_recorded.ensures ∙ c.if-not-is_recorded.false); room = rw c.text_size.ensures at c.if-out-text_size.false }

pub returns : goal.returns
returns c = wrote_text c.args.s _ _ _ (sym c.is_recorded.ensures ∙ c.if-not-is_recorded.false) (rw c.text_size.ensures at c.if-out-text_size.false) c.put_text-size.ensures.1 c.put_text-size.ensures.0
