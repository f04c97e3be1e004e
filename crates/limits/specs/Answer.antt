-- What `limits` answers: the limits of the rules, or a refusal.
use Rattle.std.specs.Prelude.{false, cond, List, [], ◌∷◌, map, ℕ, zero, suc, take, drop}
use Rattle.given.specs.Given.{undecided, decided_past, choice_of, decision_list}
use Rattle.rules.specs.Results.{limits_of}
use Rattle.cells.specs.Cells.{no_limit, shown_limit}
use Rattle.limits.specs.Limited.{nothing_but}
use Rattle.sheet.specs.Lines.{lines_of}
use Rattle.sheet.specs.IsRecorded.{is_recorded}
use Rattle.rules.specs.Results as R
use Rattle.sheet.specs.declared.answer.Refusal.{Refusal}
use Rattle.sheet.specs.declared.answer.Refusal.TheVariants.{NotRecorded, WrongDecisions}
use Rattle.sheet.specs.declared.answer.Answer.TheVariants.{Accepted, Refused}
use Rattle.limits.specs.declared.answer.LimitsAnswer.{LimitsAnswer}
use Rattle.sheet.specs.declared.sheet.Sheet.{Sheet}
use Rattle.sheet.specs.declared.decision.Decisions.{Decisions}
use Rattle.limits.specs.declared.whole.Limited.{Limited}

-- "Entries past the record's counts are open in a list of decisions and zero elsewhere": a list, then the same entry up to k.
unfoldable pub padded : {A : Type 0} → ℕ → List A → A → List A
padded zero l z = []
padded (suc k) [] z = z ∷ padded k [] z
padded (suc k) (x ∷ l) z = x ∷ padded k l z

-- The limits of the rules in arrays, where the first n decisions are those of options.
abbrev pub shown_limits : ℕ → R.Limits → Limited
shown_limits n l = record {
  contradiction = l.contradiction;
  decisions = record { options = padded 32 (map choice_of (take n l.decisions)) undecided; orderings = padded 64 (map choice_of (drop n l.decisions)) undecided };
  lower = l.lower;
  upper = l.upper;
  options = padded 32 (map shown_limit l.options) no_limit;
  orderings = padded 64 (map shown_limit l.orderings) no_limit;
}

-- The all-zero result.
abbrev pub nothing_limited : Limited
nothing_limited = nothing_but false

-- A refusal, whose number is `number_of why`, at 0, 0.
abbrev pub limits_refused : Refusal → LimitsAnswer
limits_refused why = record { answer = Refused (record { line = 0; column = 0 }) why; limits = nothing_limited }

abbrev pub limits_accepted : Limited → LimitsAnswer
limits_accepted l = record { answer = Accepted; limits = l }

-- "Limits: 12, 14."
unfoldable pub limits_answer : Sheet → Decisions → LimitsAnswer
limits_answer s d = cond (is_recorded s)
    (cond (decided_past d s.option_count s.ordering_count) (limits_refused WrongDecisions)
    (limits_accepted (shown_limits s.option_count (limits_of (lines_of s) (decision_list s.option_count s.ordering_count d)))))
    (limits_refused NotRecorded)
