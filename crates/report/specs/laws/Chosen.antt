-- The decisions that a search returns: every item is decided, nothing past the counts is, and what is kept is the relaxation. So its
-- sequence is never refused.
use Prim.Native.Nat.{ℕ, zero, suc, ◌+◌, ◌-◌, ◌≤◌, ◌<◌}
use Rattle.std.specs.Prelude.{◌≡◌, Bool, true, false, ◌&&◌, ltb, length, get_or}
use Rattle.std.proofs.Math.Path.{refl, ap}
use Rattle.std.proofs.Common.{sym, subst, ◌∙◌, arith, leb-true, ltb-true, ltb-false, get_or-drop, drop_at, ext_get_or}
use Rattle.std.proofs.Math.Bool.{not}
use mathlib.Core.List.{List, ◌++◌}
use Rattle.std.proofs.Math.Option.{some}
use Rattle.std.proofs.Math.Dec.{leb}
use Rattle.std.proofs.Math.ListN.{get_or-append}
use Rattle.rules.specs.Slots.{some_below, list_of}
use Rattle.rules.specs.Decisions as D
use Rattle.rules.specs.Decisions.{is_open, is_kept, is_dropped}
use Rattle.rules.specs.Sequence.{SequenceOf}
use Rattle.rules.specs.Relaxation.{ConsistentRelaxation}
use Rattle.rules.specs.Results.{sequence_of_choice}
use Rattle.rules.specs.Best as R
use Rattle.rules.specs.laws.Slots.{length_list_of, getD_list_of}
use Rattle.rules.specs.laws.Decisions.{just_the_kept, just_the_kept_at, length_just_the_kept}
use Rattle.rules.proofs.laws.Sequence.{sequence_of_choice_is}
use Rattle.given.specs.Given.{decided, decided_as, choice_of, undecided, decision_list, some_past, some_open, decided_past, open_within}
use Rattle.given.specs.laws.List.{length_decision_list}
use Rattle.given.specs.Filled.{filled}
use Rattle.search.specs.Search.{chosen, answered}
use Rattle.sequence.specs.Answer.{sequence_accepted, sequence_answer}
use Rattle.sequence.specs.Padded.{places_of}
use Rattle.sequence.specs.laws.Promises.{sequence_places}
use Rattle.sheet.specs.declared.sheet.Sheet.{Sheet}
use Rattle.sheet.specs.declared.decision.Decisions.{Decisions}
use Rattle.sheet.specs.Lines.{lines_of}
use Rattle.sheet.proofs.LinesLaws.{recorded_proper}
use Rattle.sheet.specs.Recorded.{Recorded}

-- ---- a filled list, entry by entry
module _ {A : Type 0} where
  filled_at : (k n : ℕ) (f : ℕ → A) (z : A) (i : ℕ) → i < n → n ≤ k → get_or (filled k n f z) i z ≡ f i
  unfolding filled
  filled_at zero n f z i l h = absurd (omega arith)
  filled_at (suc k) zero f z i l h = absurd (omega arith)
  filled_at (suc k) (suc n) f z zero l h = refl
  filled_at (suc k) (suc n) f z (suc i) l h = filled_at k n (λ j. f (suc j)) z i (omega arith) (omega arith)

  filled_past : (k n : ℕ) (f : ℕ → A) (z : A) (i : ℕ) → n ≤ i → get_or (filled k n f z) i z ≡ z
  unfolding filled
  filled_past zero n f z i h = refl
  filled_past (suc k) zero f z zero h = refl
  filled_past (suc k) zero f z (suc i) h = filled_past k zero f z i (omega arith)
  filled_past (suc k) (suc n) f z zero h = absurd (omega arith)
  filled_past (suc k) (suc n) f z (suc i) h = filled_past k n (λ j. f (suc j)) z i (omega arith)

none_below : (n : ℕ) (p : ℕ → Bool) → ((i : ℕ) → i < n → p i ≡ false) → some_below n p ≡ false
unfolding some_below
none_below zero p h = refl
none_below (suc n) p h = rw (none_below n p (λ i l. h i (omega arith)), h n (omega arith)) refl

-- ---- one entry
decided_back : (x : D.Decision) → decided (choice_of x) ≡ x
decided_back D.Open = refl
decided_back D.Kept = refl
decided_back D.Dropped = refl

never_open : (b : Bool) → is_open (chosen b) ≡ false
never_open true = refl
never_open false = refl

kept_if_chosen : (b : Bool) → is_kept (chosen b) ≡ b
kept_if_chosen true = refl
kept_if_chosen false = refl

pub not_dropped_if_chosen : (b : Bool) → not (is_dropped (chosen b)) ≡ b
not_dropped_if_chosen true = refl
not_dropped_if_chosen false = refl

open_past : (n i : ℕ) (x : D.Decision) → (n ≤ i → x ≡ D.Open) → (leb n i && not (is_open x)) ≡ false
open_past n i x h = go (leb n i) refl
  where
    go : (b : Bool) → leb n i ≡ b → (b && not (is_open x)) ≡ false
    go true e = rw (h (leb-true n i e)) refl
    go false e = refl

module _ (s : Sheet) (a : R.Answer) (rule : Recorded s) where
  abbrev n : ℕ
  n = s.option_count

  abbrev m : ℕ
  m = s.ordering_count

  abbrev r : List Bool
  r = a.relaxation

  abbrev d : Decisions
  d = (answered s a).decisions

  pub option_chosen : (i : ℕ) → i < n → (decided_as d).option i ≡ chosen (get_or r i false)
  unfolding answered
  option_chosen i l = ap decided (filled_at 32 n (λ j. choice_of (chosen (get_or r j false))) undecided i l rule.few_options) ∙ decided_back (chosen (get_or r i false))

  pub ordering_chosen : (u : ℕ) → u < m → (decided_as d).ordering u ≡ chosen (get_or r (n + u) false)
  unfolding answered
  ordering_chosen u l = ap decided (filled_at 64 m (λ j. choice_of (chosen (get_or r (n + j) false))) undecided u l rule.few_orderings) ∙ decided_back (chosen (get_or r (n + u) false))

  nothing_past : decided_past d n m ≡ false
  unfolding answered decided_past some_past
  nothing_past = rw (
    none_below 32 (λ i. leb n i && not (is_open ((decided_as d).option i))) (λ i l. open_past n i ((decided_as d).option i) (λ h. ap decided (filled_past 32 n (λ j. choice_of (chosen (get_or r j false))) undecided i h))),
    none_below 64 (λ u. leb m u && not (is_open ((decided_as d).ordering u))) (λ u l. open_past m u ((decided_as d).ordering u) (λ h. ap decided (filled_past 64 m (λ j. choice_of (chosen (get_or r (n + j) false))) undecided u h))),
  ) refl

  nothing_open : open_within d n m ≡ false
  unfolding open_within some_open
  nothing_open = rw (
    none_below n (λ i. is_open ((decided_as d).option i)) (λ i l. ap is_open (option_chosen i l) ∙ never_open (get_or r i false)),
    none_below m (λ u. is_open ((decided_as d).ordering u)) (λ u l. ap is_open (ordering_chosen u l) ∙ never_open (get_or r (n + u) false)),
  ) refl

  module _ (size : length r ≡ n + m) where
    decision_at : (i : ℕ) → i < n + m → get_or (decision_list n m d) i D.Open ≡ chosen (get_or r i false)
    unfolding decision_list
    decision_at i l = go (ltb i n) refl
      where
        options : List D.Decision
        options = list_of n (decided_as d).option

        orderings : List D.Decision
        orderings = list_of m (decided_as d).ordering

        past : (u : ℕ) → u < m → get_or (options ++ orderings) (n + u) D.Open ≡ chosen (get_or r (n + u) false)
        past u k = sym (get_or-drop n (options ++ orderings) u D.Open) ∙ ap (λ z. get_or z u D.Open) (drop_at options orderings n (length_list_of n (decided_as d).option))
            ∙ getD_list_of m (decided_as d).ordering D.Open u k ∙ ordering_chosen u k

        go : (b : Bool) → ltb i n ≡ b → get_or (options ++ orderings) i D.Open ≡ chosen (get_or r i false)
        go true e = let h = ltb-true i n e in get_or-append options orderings D.Open i (let z = length_list_of n (decided_as d).option in omega arith) ∙ getD_list_of n (decided_as d).option D.Open i h ∙ option_chosen i h
        go false e = let h = ltb-false i n e in let q : n + (i - n) ≡ i = omega arith in subst (λ z. get_or (options ++ orderings) z D.Open ≡ chosen (get_or r z false)) q (past (i - n) (omega arith))

    kept_is : just_the_kept (decision_list n m d) ≡ r
    kept_is =
        let long = length_just_the_kept (decision_list n m d) ∙ length_decision_list n m d in
        ext_get_or false (just_the_kept (decision_list n m d)) r (long ∙ sym size) (λ i l. just_the_kept_at (decision_list n m d) i ∙ ap is_kept (decision_at i (omega arith)) ∙ kept_if_chosen (get_or r i false))

    -- What the search found is sequenced: there is no 14 and no 15.
    pub sequence_is_accepted : ConsistentRelaxation (lines_of s) r
        → (places : List ℕ) × SequenceOf (lines_of s) r places × (sequence_answer s d ≡ sequence_accepted (places_of 32 places)) × (sequence_of_choice (lines_of s) r ≡ some places)
    sequence_is_accepted consistent =
        let w = sequence_places s d rule nothing_past nothing_open (subst (ConsistentRelaxation (lines_of s)) (sym kept_is) consistent) in
        let q : SequenceOf (lines_of s) r w.0 = subst (λ z. SequenceOf (lines_of s) z w.0) kept_is w.1 in
        (w.0, q, w.2, (sequence_of_choice_is (lines_of s) r (recorded_proper s rule) w.0).1 q)
