-- What `wharftoken_sequence` answers, and what it leaves in the lent places.
use Rattle.std.specs.Prelude.{ℕ, List, leb, length}
use Rattle.sheet.specs.IsRecorded.{is_recorded}
use Rattle.sheet.specs.declared.answer.Answer.{Answer}
use Rattle.sequence.specs.Answer.{sequence_answer}
use Rattle.sequence.specs.declared.answer.Sequenced.{Sequenced}
use Rattle.wire.specs.Packed.{packed_answer}
use Rattle.fields.specs.Record.{record_in}
use Rattle.decisions.specs.Decisions.{decisions_of, are_decisions}
use Rattle.wire.specs.Places.{place_numbers, places_in_use}
use Rattle.wire.specs.Lent.{with_list, lent, written}

-- 12, 14, 15, from bytes.
unfoldable pub sequence_in : (bytes list : List ℕ) → Sequenced
sequence_in bytes list = record {
  answer = with_list (sequence_answer (record_in bytes) (decisions_of list)).answer (is_recorded (record_in bytes)) (are_decisions list);
  places = (sequence_answer (record_in bytes) (decisions_of list)).places;
}

-- 13 last.
abbrev pub sequence_lent : (bytes list places : List ℕ) → Answer
sequence_lent bytes list places = lent (sequence_in bytes list).answer (leb 32 (length places))

unfoldable pub sequence_result : (bytes list places : List ℕ) → ℕ
sequence_result bytes list places = packed_answer (sequence_lent bytes list places) (places_in_use (sequence_in bytes list).places)

unfoldable pub sequence_places : (bytes list places : List ℕ) → List ℕ
sequence_places bytes list places = written (sequence_lent bytes list places) (place_numbers (sequence_in bytes list).places) places
