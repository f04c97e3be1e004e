-- What is worked out by slot is what the rules give for the sheet and the decision list.
use Rattle.std.specs.Prelude.{◌≡◌, refl, Bool, List, map, ℕ, length}
use Rattle.std.proofs.Common.{sym, ap, ◌∙◌}
use Rattle.std.proofs.Math.Bool.{true, false, cond}
use Rattle.rules.specs.Slots.{list_of}
use Rattle.rules.specs.Lines.{Lines}
use Rattle.rules.specs.Subscription.{Subscription, subscription, items}
use Rattle.rules.specs.Decisions.{DecidedBySlot, decided_by_slot}
use Rattle.rules.specs.KnownBefore.{ordering_kept, option_kept}
use Rattle.rules.specs.Forced.{option_dropped, ordering_dropped, contradiction, decision_of, forced, forced_option, forced_ordering}
use Rattle.given.specs.Given.{undecided, decided_as, Gives, decided_past, choice_of, decision_list}
use Rattle.rules.specs.Results.{option_limit, ordering_limit, limits_of}
use Rattle.cells.specs.Cells.{no_limit, shown_limit}
use Rattle.given.specs.Filled.{filled}
use Rattle.limits.specs.Limited.{contradictory, without_contradiction, limited_as, LimitedBy}
use Rattle.subscription.specs.Charted.{Charted}
use Rattle.given.specs.laws.List.{take_list_of, drop_list_of, gives_list}
use Rattle.limits.specs.Answer.{padded, shown_limits, limits_refused, limits_accepted, limits_answer}
use Rattle.limits.specs.laws.Padded.{filled_padded, map_list_of, padded_same, taken_open, dropped_open}
use Rattle.sheet.specs.Lines.{lines_of}
use Rattle.sheet.specs.IsRecorded.{is_recorded}
use Rattle.sheet.proofs.LinesLaws.{option_lines, ordering_lines}
use Rattle.subscription.specs.laws.Charted.{counted_is}
use Rattle.rules.specs.Decisions as R
use Rattle.rules.specs.Results as R'
use Rattle.sheet.specs.declared.answer.Refusal.TheVariants.{NotRecorded, WrongDecisions}
use Rattle.sheet.specs.declared.decision.Decision.{Decision}
use Rattle.given.specs.declared.sets.Given.{Given}
use Rattle.chart.specs.Chart.{BySlot}
use Rattle.sheet.specs.declared.sheet.Sheet.{Sheet}
use Rattle.sheet.specs.declared.decision.Decisions.{Decisions}
use Rattle.cells.specs.declared.cells.Limit.{Limit}
use Rattle.limits.specs.declared.whole.Limited.{Limited}

module _ (s : Lines) (l : List R.Decision) where
  abbrev v : Subscription
  v = subscription s

  abbrev b : DecidedBySlot
  b = decided_by_slot s l

  abbrev n : ℕ
  n = length s.options

  same_parts : {x y : List Decision} {x' y' : List Decision} {o u o' u' : List Limit} {t : Bool} {k a : ℕ} → x ≡ x' → y ≡ y' → o ≡ o' → u ≡ u'
      → ◌≡◌ {A = Limited} (record { contradiction = t; decisions = record { options = x; orderings = y }; lower = k; upper = a; options = o; orderings = u })
      (record { contradiction = t; decisions = record { options = x'; orderings = y' }; lower = k; upper = a; options = o'; orderings = u' })
  same_parts p q r w = rw (p, q, r, w) refl

  contradictory_shown : contradictory ≡ shown_limits n (R'.contradictory s)
  contradictory_shown = same_parts (taken_open 32 n (items s)) (dropped_open 64 n (items s)) (padded_same shown_limit 32 n R'.no_limit) (padded_same shown_limit 64 (length s.orderings) R'.no_limit)

  -- A list that the code fills is the list of the rules, padded.
  filled_shown : {A B : Type 0} (g : A → B) (k j : ℕ) (f : ℕ → A) (z : B) {r : List A} → r ≡ list_of j f → filled k j (λ i. g (f i)) z ≡ padded k (map g r) z
  filled_shown g k j f z e = filled_padded k j (λ i. g (f i)) z ∙ ap (λ w. padded k w z) (sym (ap (map g) e ∙ map_list_of g j f))

  limited_shown : without_contradiction v b ≡ shown_limits n (R'.limited s l)
  unfolding forced forced_option forced_ordering subscription
  limited_shown = same_parts
      (filled_shown choice_of 32 n (λ i. decision_of (option_kept v b i) (option_dropped v b i)) undecided (take_list_of n _ (list_of (length s.orderings) (λ u. decision_of (ordering_kept v b u) (ordering_dropped v b u)))))
      (filled_shown choice_of 64 (length s.orderings) (λ u. decision_of (ordering_kept v b u) (ordering_dropped v b u)) undecided (drop_list_of n (λ i. decision_of (option_kept v b i) (option_dropped v b i)) _))
      (filled_shown shown_limit 32 n (option_limit v b) no_limit refl)
      (filled_shown shown_limit 64 (length s.orderings) (ordering_limit v b) no_limit refl)

  pub limited_is_shown : limited_as v b ≡ shown_limits n (limits_of s l)
  unfolding limited_as limits_of
  limited_is_shown = go (contradiction v b)
    where
      go : (x : Bool) → cond x contradictory (without_contradiction v b) ≡ shown_limits n (cond x (R'.contradictory s) (R'.limited s l))
      go true = contradictory_shown
      go false = limited_shown

-- ---- the public function
module _ (s : Sheet) (d : Decisions) (e : is_recorded s ≡ true) (chart : BySlot) (g : Given) (l : Limited) (charted : Charted s chart)
    (gives : Gives (decided_as d) s.option_count s.ordering_count g)
    (by : LimitedBy chart g l) where
  abbrev k : ℕ
  k = s.option_count

  abbrev m : ℕ
  m = s.ordering_count

  abbrev w : Subscription
  w = subscription (lines_of s)

  abbrev c : DecidedBySlot
  c = decided_by_slot (lines_of s) (decision_list k m d)

  counts : length (lines_of s).options ≡ k
  counts = option_lines s

  ordering_counts : length (lines_of s).orderings ≡ m
  ordering_counts = ordering_lines s

  worked_out : l ≡ shown_limits k (limits_of (lines_of s) (decision_list k m d))
  worked_out = by w c charted.shows.shows charted.shows.weighs (rw (charted.options, charted.orderings) (gives_list (lines_of s) d k m counts ordering_counts gives))
      ∙ ap (λ z. limited_as z c) (rw (charted.options, charted.orderings) (counted_is s)) ∙ limited_is_shown (lines_of s) (decision_list k m d) ∙ ap (λ z. shown_limits z (limits_of (lines_of s) (decision_list k m d))) counts

  pub limits_told : decided_past d k m ≡ false → limits_accepted l ≡ limits_answer s d
  unfolding limits_answer
  limits_told f = rw (e, f) (ap limits_accepted worked_out)

pub limits_not_recorded : (s : Sheet) (d : Decisions) → is_recorded s ≡ false → limits_refused NotRecorded ≡ limits_answer s d
unfolding limits_answer
limits_not_recorded s d e = rw e refl

pub limits_wrong_decisions : (s : Sheet) (d : Decisions) → is_recorded s ≡ true → decided_past d s.option_count s.ordering_count ≡ true → limits_refused WrongDecisions ≡ limits_answer s d
unfolding limits_answer
limits_wrong_decisions s d e f = rw (e, f) refl
