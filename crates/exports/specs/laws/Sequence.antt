-- A sequence from bytes to a lent output.
use Rattle.std.specs.Prelude.{ℕ, ◌≤◌, ◌≡◌, Bool, not, cond, ◌||◌, leb, length, List}
use Rattle.std.proofs.Common.{sym, ◌∙◌, arith}
use Rattle.std.proofs.Math.Path.{ap, subst}
use Rattle.std.proofs.Math.Bool.{true, false}
use Rattle.std.proofs.Math.Option.{Option, none, some}
use Rattle.rules.specs.laws.Slots.{length_list_of}
use Rattle.rules.specs.Results.{sequence_of}
use Rattle.given.specs.Given.{decided_past, open_within, decision_list}
use Rattle.sheet.specs.Lines.{lines_of}
use Rattle.sheet.specs.IsRecorded.{is_recorded}
use Rattle.sheet.specs.declared.sheet.Sheet.{Sheet}
use Rattle.sheet.specs.declared.decision.Decisions.{Decisions}
use Rattle.sheet.specs.declared.answer.Refusal.TheVariants.{NotRecorded, WrongDecisions, NotConsistent}
use Rattle.sequence.specs.Answer.{sequence_refused, sequence_shown, sequence_answer}
use Rattle.sequence.specs.declared.answer.Sequenced.{Sequenced}
use Rattle.wire.specs.Places.{number_at, place_numbers, places_in_use}
use Rattle.exports.specs.Sequence.{sequence_in, sequence_result, sequence_places}
use Rattle.sheet.specs.declared.answer.Answer.{Answer}
use Rattle.print.specs.Put.{put}
use Rattle.wire.specs.Packed.{packed_answer, Placed}
use Rattle.fields.specs.Record.{record_in}
use Rattle.decisions.specs.Decisions.{decisions_of, are_decisions}
use Rattle.wire.specs.Lent.{is_accepted, lent, written}
use Rattle.wire.specs.laws.Lent.{placed_nowhere, placed_accepted, placed_with_list, passed, out_refused, out_kept, out_accepted, out_written}

module _ (bytes list : List ℕ) where
  placed_shown : (o : Option (List ℕ)) → Placed (sequence_shown o).answer
  placed_shown none = placed_nowhere NotConsistent
  placed_shown (some l) = placed_accepted

  placed_sequence : (s : Sheet) (d : Decisions) → Placed (sequence_answer s d).answer
  unfolding sequence_answer
  placed_sequence s d =
      go (is_recorded s) (decided_past d s.option_count s.ordering_count || open_within d s.option_count s.ordering_count) (sequence_of (lines_of s) (decision_list s.option_count s.ordering_count d))
    where
      go : (x y : Bool) (o : Option (List ℕ)) → Placed (cond x (cond y (sequence_refused WrongDecisions) (sequence_shown o)) (sequence_refused NotRecorded)).answer
      go true true o = placed_nowhere WrongDecisions
      go true false o = placed_shown o
      go false y o = placed_nowhere NotRecorded

  pub sequence_placed : {x : Sequenced} → x ≡ sequence_in bytes list → Placed x.answer
  unfolding sequence_in
  sequence_placed i = subst (λ z. Placed z.answer) (sym i)
      (placed_with_list (sequence_answer (record_in bytes) (decisions_of list)).answer (is_recorded (record_in bytes)) (are_decisions list) (placed_sequence (record_in bytes) (decisions_of list)))

  module _ (out : List ℕ) {x : Sequenced} (i : x ≡ sequence_in bytes list) where
    abbrev enough : Bool
    enough = leb 32 (length out)

    done : {r : ℕ} {after : List ℕ} → r ≡ packed_answer (lent x.answer enough) (places_in_use x.places)
        → after ≡ written (lent x.answer enough) (place_numbers x.places) out
        → (r ≡ sequence_result bytes list out) × (after ≡ sequence_places bytes list out)
    unfolding sequence_result sequence_places
    done q g = (
      q ∙ ap (λ z. packed_answer (lent z.answer enough) (places_in_use z.places)) i,
      g ∙ ap (λ z. written (lent z.answer enough) (place_numbers z.places) out) i,
    )

    -- ---- the two ways out of `wharftoken_sequence`
    module _ {answer : Answer} {ok : Bool} (a : (answer ≡ lent x.answer enough) × (is_accepted answer ≡ true → 32 ≤ length out)) (k : ok ≡ is_accepted answer) where
      pub sequence_untouched : {r : ℕ} → not ok ≡ true → r ≡ packed_answer answer 0 → (r ≡ sequence_result bytes list out) × (out ≡ sequence_places bytes list out)
      sequence_untouched h q = done (out_refused x.answer enough a.0 k (places_in_use x.places) h q) (out_kept x.answer enough a.0 k (place_numbers x.places) out h)

      pub sequence_accepted : {r n : ℕ} {after : List ℕ} → not ok ≡ false → after ≡ put 0 (place_numbers x.places) out → n ≡ places_in_use x.places
          → r ≡ packed_answer answer n → (r ≡ sequence_result bytes list out) × (after ≡ sequence_places bytes list out)
      sequence_accepted h g e q =
          let l = a.1 (passed k h) in
          let m = length_list_of 32 (number_at x.places) in
          done (out_accepted x.answer enough a.0 k e q) (out_written x.answer enough a.0 k (place_numbers x.places) out h (omega arith) g)
