-- A refusal stands at 0, 0, beside zeros.
use mathlib.Core.Path.{ap}
use Rattle.sequence.specs.laws.Padded.{zeros_are_padded}
use Rattle.sheet.specs.declared.answer.Answer.TheVariants.{Refused}
use Rattle.sequence.proofs.answer.refused.Goals as goal

pub returns : goal.returns
returns c = rw c.refused.ensures (ap (λ l. record { answer = Refused (record { line = 0; column = 0 }) c.args.why; places = l }) (zeros_are_padded 32))
