-- Limits from bytes to lent outputs.
use Rattle.std.specs.Prelude.{ℕ, ◌≤◌, ◌≡◌, Bool, true, false, not, cond, ◌&&◌, List, leb, length}
use Rattle.std.proofs.Common.{sym, subst, ◌∙◌}
use Rattle.std.proofs.Math.Path.{ap}
use Rattle.rules.specs.Results.{limits_of}
use Rattle.given.specs.Given.{decided_past, decision_list}
use Rattle.sheet.specs.Lines.{lines_of}
use Rattle.sheet.specs.IsRecorded.{is_recorded}
use Rattle.sheet.specs.declared.sheet.Sheet.{Sheet}
use Rattle.sheet.specs.declared.decision.Decisions.{Decisions}
use Rattle.sheet.specs.declared.answer.Refusal.TheVariants.{NotRecorded, WrongDecisions}
use Rattle.limits.specs.Answer.{shown_limits, limits_refused, limits_accepted, limits_answer}
use Rattle.limits.specs.declared.answer.LimitsAnswer.{LimitsAnswer}
use Rattle.sheet.specs.declared.answer.Answer.{Answer}
use Rattle.print.specs.Put.{put}
use Rattle.figures.specs.Limits.{limit_numbers, contradictions}
use Rattle.figures.specs.laws.Limits.{limits_fit}
use Rattle.wire.specs.Packed.{packed_answer, Placed}
use Rattle.fields.specs.Record.{record_in}
use Rattle.decisions.specs.Decisions.{decisions_of, are_decisions, decision_bytes}
use Rattle.wire.specs.Lent.{is_accepted, lent, written}
use Rattle.exports.specs.Limits.{limits_in, limits_result, forced_bytes, limits_numbers}
use Rattle.wire.specs.laws.Lent.{placed_nowhere, placed_accepted, placed_with_list, passed, out_refused, out_kept, out_accepted, out_written}
use Rattle.decisions.specs.laws.Decisions.{decisions_fit}

placed_limits : (s : Sheet) (d : Decisions) → Placed (limits_answer s d).answer
unfolding limits_answer
placed_limits s d = go (is_recorded s) (decided_past d s.option_count s.ordering_count)
  where
    go : (x y : Bool)
        → Placed (cond x (cond y (limits_refused WrongDecisions) (limits_accepted (shown_limits s.option_count (limits_of (lines_of s) (decision_list s.option_count s.ordering_count d))))) (limits_refused NotRecorded)).answer
    go true true = placed_nowhere WrongDecisions
    go true false = placed_accepted
    go false y = placed_nowhere NotRecorded

pub limits_placed : (bytes list : List ℕ) {x : LimitsAnswer} → x ≡ limits_in bytes list → Placed x.answer
unfolding limits_in
limits_placed bytes list i = subst (λ z. Placed z.answer) (sym i)
    (placed_with_list (limits_answer (record_in bytes) (decisions_of list)).answer (is_recorded (record_in bytes)) (are_decisions list) (placed_limits (record_in bytes) (decisions_of list)))

module _ (bytes list forced limits : List ℕ) {x : LimitsAnswer} (i : x ≡ limits_in bytes list) where
  abbrev enough : Bool
  enough = leb 96 (length forced) && leb 386 (length limits)

  -- All that is promised of a number and of what is left in the outputs.
  abbrev pub Done : ℕ → List ℕ → List ℕ → Type 0
  Done r forced_after limits_after =
      (r ≡ limits_result bytes list forced limits) × ((forced_after ≡ forced_bytes bytes list forced limits) × (limits_after ≡ limits_numbers bytes list forced limits))

  done : {r : ℕ} {forced_after limits_after : List ℕ} → r ≡ packed_answer (lent x.answer enough) (contradictions x.limits.contradiction)
      → forced_after ≡ written (lent x.answer enough) (decision_bytes x.limits.decisions) forced
      → limits_after ≡ written (lent x.answer enough) (limit_numbers x.limits) limits → Done r forced_after limits_after
  unfolding limits_result forced_bytes limits_numbers
  done q f g = (
    q ∙ ap (λ z. packed_answer (lent z.answer enough) (contradictions z.limits.contradiction)) i,
    (
      f ∙ ap (λ z. written (lent z.answer enough) (decision_bytes z.limits.decisions) forced) i,
      g ∙ ap (λ z. written (lent z.answer enough) (limit_numbers z.limits) limits) i,
    ),
  )

  -- ---- the two ways out of `wharftoken_limits`
  module _ {answer : Answer} {ok : Bool}
      (a : (answer ≡ lent x.answer enough) × (is_accepted answer ≡ true → (96 ≤ length forced) × (386 ≤ length limits))) (k : ok ≡ is_accepted answer) where
    pub limits_untouched : {r : ℕ} → not ok ≡ true → r ≡ packed_answer answer 0 → Done r forced limits
    limits_untouched h q =
        done
        (out_refused x.answer enough a.0 k (contradictions x.limits.contradiction) h q)
        (out_kept x.answer enough a.0 k (decision_bytes x.limits.decisions) forced h)
        (out_kept x.answer enough a.0 k (limit_numbers x.limits) limits h)

    pub limits_shown : {r n : ℕ} {forced_after limits_after : List ℕ} → not ok ≡ false
        → forced_after ≡ put 0 (decision_bytes x.limits.decisions) forced → limits_after ≡ put 0 (limit_numbers x.limits) limits
        → n ≡ contradictions x.limits.contradiction → r ≡ packed_answer answer n → Done r forced_after limits_after
    limits_shown h f g e q =
        let l = a.1 (passed k h) in
        done
        (out_accepted x.answer enough a.0 k e q)
        (out_written x.answer enough a.0 k (decision_bytes x.limits.decisions) forced h (decisions_fit x.limits.decisions forced l.0) f)
        (out_written x.answer enough a.0 k (limit_numbers x.limits) limits h (limits_fit x.limits limits l.1) g)
