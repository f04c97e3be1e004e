-- What `wharftoken_limits` answers, and what it leaves in the lent decisions and numbers.
use Rattle.std.specs.Prelude.{ℕ, ◌&&◌, List, leb, length}
use Rattle.sheet.specs.IsRecorded.{is_recorded}
use Rattle.sheet.specs.declared.answer.Answer.{Answer}
use Rattle.limits.specs.Answer.{limits_answer}
use Rattle.limits.specs.declared.answer.LimitsAnswer.{LimitsAnswer}
use Rattle.figures.specs.Limits.{limit_numbers, contradictions}
use Rattle.wire.specs.Packed.{packed_answer}
use Rattle.fields.specs.Record.{record_in}
use Rattle.decisions.specs.Decisions.{decisions_of, are_decisions, decision_bytes}
use Rattle.wire.specs.Lent.{with_list, lent, written}

-- 12, 14, from bytes.
unfoldable pub limits_in : (bytes list : List ℕ) → LimitsAnswer
limits_in bytes list = record {
  answer = with_list (limits_answer (record_in bytes) (decisions_of list)).answer (is_recorded (record_in bytes)) (are_decisions list);
  limits = (limits_answer (record_in bytes) (decisions_of list)).limits;
}

-- 13 last: both outputs must be long enough.
abbrev pub limits_lent : (bytes list forced limits : List ℕ) → Answer
limits_lent bytes list forced limits = lent (limits_in bytes list).answer (leb 96 (length forced) && leb 386 (length limits))

unfoldable pub limits_result : (bytes list forced limits : List ℕ) → ℕ
limits_result bytes list forced limits = packed_answer (limits_lent bytes list forced limits) (contradictions (limits_in bytes list).limits.contradiction)

unfoldable pub forced_bytes : (bytes list forced limits : List ℕ) → List ℕ
forced_bytes bytes list forced limits = written (limits_lent bytes list forced limits) (decision_bytes (limits_in bytes list).limits.decisions) forced

unfoldable pub limits_numbers : (bytes list forced limits : List ℕ) → List ℕ
limits_numbers bytes list forced limits = written (limits_lent bytes list forced limits) (limit_numbers (limits_in bytes list).limits) limits
