-- The number of bytes decides, and then every byte.
use mathlib.Core.Path.{◌∙◌}
use Rattle.std.proofs.Common.{ne_eqb}
use Rattle.decisions.specs.laws.Spelled.{wrong_number, all_spelled}
use Rattle.decisions.proofs.decision_bytes.are_decisions.Goals as goal

pub returns-then-bytes-eq96 : goal.returns-then-bytes-eq96
returns-then-bytes-eq96 c = c.none_is_past_two.ensures ∙ all_spelled _ c.if-bytes-eq96.true

pub returns-else-bytes-eq96 : goal.returns-else-bytes-eq96
returns-else-bytes-eq96 c = ne_eqb _ 96 c.if-bytes-eq96.false ∙ wrong_number _ c.if-bytes-eq96.false
