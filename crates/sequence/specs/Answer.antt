-- What `sequence` answers: the sequence of the rules, or a refusal.
use Rattle.std.specs.Prelude.{◌||◌, cond, List, [], ℕ}
use Rattle.std.proofs.Math.Option.{Option, none, some}
use Rattle.given.specs.Given.{decided_past, open_within, decision_list}
use Rattle.rules.specs.Results.{sequence_of}
use Rattle.sequence.specs.Padded.{places_of}
use Rattle.sheet.specs.Lines.{lines_of}
use Rattle.sheet.specs.IsRecorded.{is_recorded}
use Rattle.sheet.specs.declared.answer.Refusal.{Refusal}
use Rattle.sheet.specs.declared.answer.Refusal.TheVariants.{NotRecorded, WrongDecisions, NotConsistent}
use Rattle.sheet.specs.declared.answer.Answer.TheVariants.{Accepted, Refused}
use Rattle.sheet.specs.declared.sheet.Sheet.{Sheet}
use Rattle.sheet.specs.declared.decision.Decisions.{Decisions}
use Rattle.sheet.specs.declared.count.Number.{Number}
use Rattle.sequence.specs.declared.answer.Sequenced.{Sequenced}

-- A refusal, whose number is `number_of why`, at 0, 0.
abbrev pub sequence_refused : Refusal → Sequenced
sequence_refused why = record { answer = Refused (record { line = 0; column = 0 }) why; places = places_of 32 [] }

abbrev pub sequence_accepted : List Number → Sequenced
sequence_accepted l = record { answer = Accepted; places = l }

-- "Places past the last kept option hold 0."
abbrev pub sequence_shown : Option (List ℕ) → Sequenced
sequence_shown none = sequence_refused NotConsistent
sequence_shown (some l) = sequence_accepted (places_of 32 l)

-- "Sequencing: 12, 14, 15."
unfoldable pub sequence_answer : Sheet → Decisions → Sequenced
sequence_answer s d = cond (is_recorded s)
    (cond (decided_past d s.option_count s.ordering_count || open_within d s.option_count s.ordering_count) (sequence_refused WrongDecisions)
    (sequence_shown (sequence_of (lines_of s) (decision_list s.option_count s.ordering_count d))))
    (sequence_refused NotRecorded)
