-- Storing the last digit first leaves the digits before it to be stored in front of it.
use Rattle.std.proofs.Common.{◌≡◌, length}
use Rattle.shape.specs.LineText.{decimal}
use Rattle.print.specs.Put.{put}
use Rattle.shape.proofs.DigitLaws.{last_digits}
use Rattle.print.proofs.page.Page.put_number.Given as goal

abbrev pub invariant-loop-i : goal.invariant-loop-i
invariant-loop-i l = (l.width ≡ length (decimal l.n)) × (l.self.at ≡ l.initial.self.at) × (l.self.bytes.ghost_name ≡ l.initial.self.bytes.ghost_name) × (length l.self.bytes.now ≡ length l.initial.self.bytes.now) × (put l.self.at (decimal l.n) l.initial.self.bytes.now ≡ put l.self.at (last_digits l.i l.rest) l.self.bytes.now)
