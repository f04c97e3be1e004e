-- What the answer of `limits` means: forced decisions, contradiction, limits and open items, for every accepted record and list.
use Rattle.std.specs.Prelude.{◌≡◌, Bool, false, not, ◌↔◌, List, [], ◌∷◌, map, ℕ, zero, suc, ◌+◌, ◌<◌, length, get_or, set, take, drop, T}
use Rattle.std.proofs.Math.Path.{refl}
use Rattle.std.proofs.Common.{sym, subst, ap, ◌∙◌, le_of_suc-le-suc, arith, get_or-take, get_or-drop}
use Rattle.rules.specs.Lines.{Lines}
use Rattle.rules.specs.Subscription.{items, Proper}
use Rattle.rules.specs.Decisions.{is_open}
use Rattle.rules.specs.Forced.{forced}
use Rattle.given.specs.Given.{decided, undecided, decided_past, choice_of, decision_list}
use Rattle.rules.specs.Results.{limits_of}
use Rattle.cells.specs.Cells.{no_limit, shown_limit}
use Rattle.given.specs.laws.List.{length_decision_list}
use Rattle.limits.specs.Answer.{padded, shown_limits, limits_accepted, limits_answer}
use Rattle.sheet.specs.Lines.{lines_of}
use Rattle.sheet.specs.Recorded.{Recorded}
use Rattle.sheet.proofs.LinesLaws.{option_lines, ordering_lines, recorded_proper}
use Rattle.sheet.proofs.PassLaws.{recorded_passes}
use Rattle.rules.specs.Decisions as R
use Rattle.rules.specs.Decisions.{Agrees, fits}
use Rattle.rules.specs.Results as R'
use Rattle.rules.specs.Relaxation.{ConsistentRelaxation, value_of}
use Rattle.rules.specs.laws.Decisions.{fits_in, agrees_kept, agrees_dropped}
use Rattle.rules.proofs.laws.ForcedList.{agrees_with_forced}
use Rattle.rules.proofs.laws.Contradiction.{contradiction_iff_none_agrees, no_contradiction_told, agreeing_no_contradiction}
use Rattle.rules.proofs.laws.OpenChoices.{open_option_may_be_kept, open_option_may_be_dropped, open_ordering_may_be_kept, open_ordering_may_be_dropped}
use Rattle.rules.proofs.laws.LimitsHold.{Between, whole_limits_hold, option_kept_limits_hold, option_dropped_limits_hold, ordering_kept_limits_hold, ordering_dropped_limits_hold}
use Rattle.sheet.specs.declared.sheet.Sheet.{Sheet}
use Rattle.sheet.specs.declared.decision.Decisions.{Decisions}
use Rattle.cells.specs.declared.cells.Limit.{Limit}
use Rattle.limits.specs.declared.whole.Limited.{Limited}
use Rattle.limits.specs.declared.answer.LimitsAnswer.{LimitsAnswer}

-- Two results that the contract allows are equal.
pub limits_unique : (s : Sheet) (d : Decisions) (x y : LimitsAnswer) → x ≡ limits_answer s d → y ≡ limits_answer s d → x ≡ y
limits_unique s d x y e f = e ∙ sym f

-- An entry of a padded list is the entry of the list.
entry : {A B : Type 0} (g : A → B) (z : A) (k i : ℕ) (l : List A) → i < k → get_or (padded k (map g l) (g z)) i (g z) ≡ g (get_or l i z)
unfolding padded
entry g z zero i l h = absurd (omega arith)
entry g z (suc k) zero [] h = refl
entry g z (suc k) (suc i) [] h = entry g z k i [] (le_of_suc-le-suc h)
entry g z (suc k) zero (x ∷ l) h = refl
entry g z (suc k) (suc i) (x ∷ l) h = entry g z k i l (le_of_suc-le-suc h)

there_and_back : (x : R.Decision) → decided (choice_of x) ≡ x
there_and_back R.Open = refl
there_and_back R.Kept = refl
there_and_back R.Dropped = refl

module _ (s : Sheet) (d : Decisions) (obeys : Recorded s)
    (past : decided_past d s.option_count s.ordering_count ≡ false) where
  abbrev n : ℕ
  n = s.option_count

  abbrev m : ℕ
  m = s.ordering_count

  abbrev lines : Lines
  lines = lines_of s

  -- The decision list that was handed in.
  abbrev list : List R.Decision
  list = decision_list n m d

  -- The answer.
  abbrev a : Limited
  a = (limits_answer s d).limits

  option_count_is : length lines.options ≡ n
  option_count_is = option_lines s

  ordering_count_is : length lines.orderings ≡ m
  ordering_count_is = ordering_lines s

  ps : Proper lines
  ps = recorded_proper s obeys

  list_size : length list ≡ items lines
  list_size = length_decision_list n m d ∙ rw (option_count_is, ordering_count_is) refl

  pub accepted : limits_answer s d ≡ limits_accepted (shown_limits n (limits_of lines list))
  unfolding limits_answer
  accepted = rw (recorded_passes s obeys, past) refl

  told : a ≡ shown_limits n (limits_of lines list)
  told = ap (λ z. z.limits) accepted

  -- "It is reported exactly if no consistent relaxation agrees with the decisions."
  pub contradiction_exactly : T a.contradiction ↔ ((r : List Bool) → ConsistentRelaxation lines r → Agrees list r → ⊥)
  contradiction_exactly = subst (λ z. T z.contradiction ↔ ((r : List Bool) → ConsistentRelaxation lines r → Agrees list r → ⊥)) (sym told) (contradiction_iff_none_agrees lines ps list list_size)

  -- The decision for option i and for ordering u.
  abbrev option_decision : ℕ → R.Decision
  option_decision i = decided (get_or a.decisions.options i undecided)

  abbrev ordering_decision : ℕ → R.Decision
  ordering_decision u = decided (get_or a.decisions.orderings u undecided)

  few_options : (i : ℕ) → i < n → i < 32
  few_options i l = let z = obeys.few_options in omega arith

  few_orderings : (u : ℕ) → u < m → u < 64
  few_orderings u l = let z = obeys.few_orderings in omega arith

  option_decision_is : (i : ℕ) → i < n → option_decision i ≡ get_or (limits_of lines list).decisions i R.Open
  option_decision_is i l = ap (λ z. decided (get_or z.decisions.options i undecided)) told
      ∙ ap decided (entry choice_of R.Open 32 i (take n (limits_of lines list).decisions) (few_options i l)) ∙ there_and_back _ ∙ get_or-take n (limits_of lines list).decisions i R.Open l

  ordering_decision_is : (u : ℕ) → u < m → ordering_decision u ≡ get_or (limits_of lines list).decisions (n + u) R.Open
  ordering_decision_is u l = ap (λ z. decided (get_or z.decisions.orderings u undecided)) told
      ∙ ap decided (entry choice_of R.Open 64 u (drop n (limits_of lines list).decisions) (few_orderings u l)) ∙ there_and_back _ ∙ get_or-drop n (limits_of lines list).decisions u R.Open

  abbrev option_entry : ℕ → Limit
  option_entry i = get_or a.options i no_limit

  abbrev ordering_entry : ℕ → Limit
  ordering_entry u = get_or a.orderings u no_limit

  option_entry_is : (i : ℕ) → i < n → option_entry i ≡ shown_limit (get_or (limits_of lines list).options i R'.no_limit)
  option_entry_is i l = ap (λ z. get_or z.options i no_limit) told ∙ entry shown_limit R'.no_limit 32 i (limits_of lines list).options (few_options i l)

  ordering_entry_is : (u : ℕ) → u < m → ordering_entry u ≡ shown_limit (get_or (limits_of lines list).orderings u R'.no_limit)
  ordering_entry_is u l = ap (λ z. get_or z.orderings u no_limit) told ∙ entry shown_limit R'.no_limit 64 u (limits_of lines list).orderings (few_orderings u l)

  -- ---- every consistent relaxation that agrees with the decisions
  module _ (r : List Bool) (ok : ConsistentRelaxation lines r) (agrees : Agrees list r) where
    fine : limits_of lines list ≡ R'.limited lines list
    fine = no_contradiction_told lines list (agreeing_no_contradiction lines list r ok agrees)

    forced_agrees : Agrees (limits_of lines list).decisions r
    forced_agrees = subst (λ z. Agrees z.decisions r) (sym fine) (agrees_with_forced lines ps list list_size r ok agrees)

    forced_fits : (k : ℕ) → fits (get_or (limits_of lines list).decisions k R.Open) (get_or r k false)
    forced_fits k = fits_in (get_or (limits_of lines list).decisions k R.Open) (get_or r k false) (agrees_kept (limits_of lines list).decisions r forced_agrees k) (agrees_dropped (limits_of lines list).decisions r forced_agrees k)

    -- agrees with the forced decisions,
    pub option_forced : (i : ℕ) → i < n → fits (option_decision i) (get_or r i false)
    option_forced i l = subst (λ z. fits z (get_or r i false)) (sym (option_decision_is i l)) (forced_fits i)

    pub ordering_forced : (u : ℕ) → u < m → fits (ordering_decision u) (get_or r (n + u) false)
    ordering_forced u l = subst (λ z. fits z (get_or r (n + u) false)) (sym (ordering_decision_is u l)) (forced_fits (n + u))

    -- and "has its value within" the limits.
    pub whole_limits : Between a.lower a.upper (value_of lines r)
    whole_limits = subst (λ z. Between z.lower z.upper (value_of lines r)) (sym told) (whole_limits_hold lines ps list list_size r ok agrees)

    module _ (i : ℕ) (l : i < n) (o : T (is_open (option_decision i))) where
      open_option_told : T (is_open (get_or (limits_of lines list).decisions i R.Open))
      open_option_told = subst (λ z. T (is_open z)) (option_decision_is i l) o

      slot : i < length lines.options
      slot = rw option_count_is l

      pub option_kept_limits : T (get_or r i false) → Between (option_entry i).kept_lower (option_entry i).kept_upper (value_of lines r)
      option_kept_limits t = subst (λ z. Between z.kept_lower z.kept_upper (value_of lines r)) (sym (option_entry_is i l)) (option_kept_limits_hold lines ps list list_size r ok agrees i slot open_option_told t)

      pub option_dropped_limits : T (not (get_or r i false)) → Between (option_entry i).dropped_lower (option_entry i).dropped_upper (value_of lines r)
      option_dropped_limits t = subst (λ z. Between z.dropped_lower z.dropped_upper (value_of lines r)) (sym (option_entry_is i l)) (option_dropped_limits_hold lines ps list list_size r ok agrees i slot open_option_told t)

    module _ (u : ℕ) (l : u < m) (o : T (is_open (ordering_decision u))) where
      open_ordering_told : T (is_open (get_or (limits_of lines list).decisions (length lines.options + u) R.Open))
      open_ordering_told = rw option_count_is (subst (λ z. T (is_open z)) (ordering_decision_is u l) o)

      ordering_slot : u < length lines.orderings
      ordering_slot = rw ordering_count_is l

      pub ordering_kept_limits : T (get_or r (n + u) false) → Between (ordering_entry u).kept_lower (ordering_entry u).kept_upper (value_of lines r)
      ordering_kept_limits t = subst (λ z. Between z.kept_lower z.kept_upper (value_of lines r)) (sym (ordering_entry_is u l)) (ordering_kept_limits_hold lines ps list list_size r ok agrees u ordering_slot open_ordering_told (rw option_count_is t))

      pub ordering_dropped_limits : T (not (get_or r (n + u) false)) → Between (ordering_entry u).dropped_lower (ordering_entry u).dropped_upper (value_of lines r)
      ordering_dropped_limits t = subst (λ z. Between z.dropped_lower z.dropped_upper (value_of lines r)) (sym (ordering_entry_is u l)) (ordering_dropped_limits_hold lines ps list list_size r ok agrees u ordering_slot open_ordering_told (rw option_count_is t))

  -- ---- an open item's choice never contradicts
  module _ (no_contradiction : T (not a.contradiction)) where
    fine_list : T (not (limits_of lines list).contradiction)
    fine_list = subst (λ z. T (not z.contradiction)) told no_contradiction

    forced_told : (limits_of lines list).decisions ≡ forced lines list
    forced_told = ap (λ z. z.decisions) (no_contradiction_told lines list fine_list)

    pub open_option_never_contradicts : (i : ℕ) → i < n → T (is_open (option_decision i)) → T (not (limits_of lines (set list i R.Kept)).contradiction) × T (not (limits_of lines (set list i R.Dropped)).contradiction)
    open_option_never_contradicts i l o =
        let t = subst (λ z. T (is_open (get_or z i R.Open))) forced_told (subst (λ z. T (is_open z)) (option_decision_is i l) o) in
        let k : i < length lines.options = rw option_count_is l in
        (open_option_may_be_kept lines ps list list_size fine_list i k t, open_option_may_be_dropped lines ps list list_size fine_list i k t)

    pub open_ordering_never_contradicts : (u : ℕ) → u < m → T (is_open (ordering_decision u)) → T (not (limits_of lines (set list (n + u) R.Kept)).contradiction) × T (not (limits_of lines (set list (n + u) R.Dropped)).contradiction)
    open_ordering_never_contradicts u l o =
        let t : T (is_open (get_or (forced lines list) (length lines.options + u) R.Open)) = rw option_count_is (subst (λ z. T (is_open (get_or z (n + u) R.Open))) forced_told (subst (λ z. T (is_open z)) (ordering_decision_is u l) o)) in
        let k : u < length lines.orderings = rw ordering_count_is l in
        (rw option_count_is at (open_ordering_may_be_kept lines ps list list_size fine_list u k t), rw option_count_is at (open_ordering_may_be_dropped lines ps list list_size fine_list u k t))
