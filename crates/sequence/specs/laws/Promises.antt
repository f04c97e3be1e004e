-- What the answer of `sequence` means: there is one exactly for a consistent relaxation, and it is the smallest.
use Rattle.std.proofs.Math.Path.{◌≡◌, refl, ap}
use Rattle.std.proofs.Common.{sym, subst, ◌∙◌, arith}
use Rattle.std.specs.Prelude.{Bool, cond, ◌↔◌, List, map, ℕ}
use Rattle.std.proofs.Math.Bool.{true, false}
use Rattle.std.proofs.Math.Option.{none, some}
use Rattle.std.proofs.Math.Dec.{T}
use Rattle.rules.specs.Lines.{Lines}
use Rattle.rules.specs.Subscription.{subscription, Proper}
use Rattle.given.specs.Given.{decided_past, open_within, decision_list}
use Rattle.rules.specs.Results.{is_consistent, numbers_in_sequence, sequence_of_choice}
use Rattle.rules.specs.Sequence.{precedes, kept_slots}
use Rattle.rules.specs.Relaxation.{kept_by_slot}
use Rattle.sequence.specs.Padded.{places_of}
use Rattle.given.specs.laws.List.{no_open_item}
use Rattle.sequence.specs.Answer.{sequence_accepted, sequence_shown, sequence_answer}
use Rattle.sheet.specs.Lines.{lines_of}
use Rattle.sheet.specs.Recorded.{Recorded}
use Rattle.sheet.proofs.LinesLaws.{recorded_proper}
use Rattle.sheet.proofs.PassLaws.{recorded_passes}
use Rattle.rules.specs.Sequence.{SequenceOf, Ordered, NoLater}
use Rattle.rules.specs.Relaxation.{ConsistentRelaxation}
use Rattle.rules.specs.laws.Decisions.{just_the_kept}
use Rattle.rules.proofs.laws.Relaxation.{consistent_in, consistent_out}
use Rattle.rules.proofs.laws.Sequence.{has_sequence_iff_consistent, sequence_is_smallest, sequence_of_choice_is, sequence_of_full}
use Rattle.sheet.specs.declared.sheet.Sheet.{Sheet}
use Rattle.sheet.specs.declared.decision.Decisions.{Decisions}
use Rattle.sheet.specs.declared.answer.Answer.TheVariants.{Accepted}
use Rattle.sequence.specs.declared.answer.Sequenced.{Sequenced}

-- Two results that the contract allows are equal.
pub sequence_answer_unique : (s : Sheet) (d : Decisions) (x y : Sequenced) → x ≡ sequence_answer s d → y ≡ sequence_answer s d → x ≡ y
sequence_answer_unique s d x y e f = e ∙ sym f

module _ (s : Sheet) (d : Decisions) (obeys : Recorded s)
    (past : decided_past d s.option_count s.ordering_count ≡ false) (decided : open_within d s.option_count s.ordering_count ≡ false) where
  abbrev lines : Lines
  lines = lines_of s

  -- What the list keeps.
  abbrev choice : List Bool
  choice = just_the_kept (decision_list s.option_count s.ordering_count d)

  ps : Proper lines
  ps = recorded_proper s obeys

  answered : sequence_answer s d ≡ sequence_shown (sequence_of_choice lines choice)
  unfolding sequence_answer
  answered = rw (recorded_passes s obeys, past, decided) (ap sequence_shown (sequence_of_full lines ps (decision_list s.option_count s.ordering_count d) (no_open_item s.option_count s.ordering_count d decided)))

  -- "A full decision that is no consistent relaxation" is refused; any other is not.
  pub sequence_exactly : ((sequence_answer s d).answer ≡ Accepted) ↔ ConsistentRelaxation lines choice
  unfolding sequence_of_choice
  sequence_exactly = (λ e. to (is_consistent lines choice) refl (sym (ap (λ z. z.answer) answered) ∙ e), λ c. ap (λ z. z.answer) answered ∙ from (is_consistent lines choice) (consistent_in lines choice c))
    where
      to : (x : Bool) → is_consistent lines choice ≡ x → (sequence_shown (cond x (some (numbers_in_sequence lines choice)) none)).answer ≡ Accepted → ConsistentRelaxation lines choice
      to true q e = consistent_out lines choice (subst T (sym q) tt)
      to false q e = let w : ◌≡◌ {A = ℕ} 0 1 = cc in absurd (omega arith)

      from : (x : Bool) → T x → (sequence_shown (cond x (some (numbers_in_sequence lines choice)) none)).answer ≡ Accepted
      from true t = refl
      from false t = absurd t

  -- The places are those of the sequence, and nothing that lists the kept options in order has a smaller number where they first differ.
  pub sequence_places : ConsistentRelaxation lines choice → (places : List ℕ) × SequenceOf lines choice places × (sequence_answer s d ≡ sequence_accepted (places_of 32 places))
      × ((order : List ℕ) → Ordered (precedes (subscription lines) (kept_by_slot lines choice)) (kept_slots (subscription lines) (kept_by_slot lines choice)) order → NoLater places (map (subscription lines).number order))
  sequence_places c =
      let (places, q) = (has_sequence_iff_consistent lines choice).1 c in
      (places, q, answered ∙ ap sequence_shown ((sequence_of_choice_is lines choice ps places).1 q), λ order o. sequence_is_smallest lines choice ps places order q o)
