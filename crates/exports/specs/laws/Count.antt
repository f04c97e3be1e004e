-- The count of a sequence is the number of kept options.
use Prim.Native.Nat.{ℕ, zero, suc, ◌+◌, ◌≤◌, ◌<◌}
use Rattle.std.specs.Prelude.{◌≡◌, Bool, ◌⊎◌, List, [], ◌∷◌, map}
use Rattle.std.proofs.Math.Path.{refl, sym, ap}
use Rattle.std.proofs.Common.{◌∙◌, inl, inr, eq-or-lt_of_le}
use Rattle.std.proofs.Math.Bool.{true, false}
use native.Mathlib.Omega.{arith}
use Rattle.std.proofs.Math.Nat.{le_antisymm}
use borrow.Author.Tests.{eqb-true, ne_eqb}
use Rattle.std.proofs.Math.Dec.{eqb}
use Rattle.std.proofs.Math.ListN.{length, get_or, get_or-eq_default}
use Rattle.rules.specs.Slots.{slots, keep_if, pick, sum}
use Rattle.rules.specs.Subscription.{subscription}
use Rattle.rules.specs.Relaxation.{kept_by_slot, ConsistentRelaxation}
use Rattle.rules.specs.Sequence.{Sequence, done, place, without, cons_unless, kept_slots}
use Rattle.rules.specs.laws.Decisions.{just_the_kept}
use Rattle.rules.specs.laws.Sums.{sum_cong}
use Rattle.given.specs.Given.{decided_past, open_within, decision_list}
use Rattle.sheet.specs.Recorded.{Recorded, OptionNumber}
use Rattle.sheet.specs.Lines.{lines_of}
use Rattle.sheet.specs.declared.sheet.Sheet.{Sheet}
use Rattle.sheet.specs.declared.decision.Decisions.{Decisions}
use Rattle.sheet.proofs.LinesLaws.{option_lines}
use Rattle.sequence.specs.Padded.{places_of}
use Rattle.sequence.specs.Answer.{sequence_answer}
use Rattle.sequence.specs.laws.Promises.{sequence_places}
use Rattle.report.specs.laws.Places.{places_are_few, places_hold_options, slots_are_few, place_at}
use Rattle.wire.specs.Places.{is_used, places_in_use}

-- ---- every kept option has its place
-- Slots from the last to the first, all below n.
data Falling : ℕ → List ℕ → Type 0 where
  nothing : {n : ℕ} → Falling n []
  next : {n x : ℕ} {l : List ℕ} → x < n → Falling x l → Falling n (x ∷ l)

weaker : {m n : ℕ} {l : List ℕ} → m ≤ n → Falling m l → Falling n l
weaker h nothing = nothing
weaker {m} {n} h (next {x = y} k f) = let g : y < n = omega arith in next g f

slots_fall : (n : ℕ) (p : ℕ → Bool) → Falling n (slots n p)
unfolding slots
slots_fall zero p = nothing
slots_fall (suc n) p = go (p n) (slots_fall n p)
  where
    go : (b : Bool) → Falling n (slots n p) → Falling (suc n) (keep_if b n (slots n p))
    go true f = let g : n < suc n = omega arith in next g f
    go false f = weaker (omega arith) f

module _ (x : ℕ) where
  not_there : {n : ℕ} {l : List ℕ} → n ≤ x → Falling n l → without x l ≡ l
  unfolding without
  not_there h nothing = refl
  not_there h (next {x = y} k f) = rw (ne_eqb x y (λ e. omega arith)) (ap (λ z. y ∷ z) (not_there (omega arith) f))

  still_falls : {n : ℕ} {l : List ℕ} → Falling n l → Falling n (without x l)
  unfolding without
  still_falls nothing = nothing
  still_falls {n} (next {x = y} {l = l} k f) = go (eqb x y) (still_falls f)
    where
      go : (b : Bool) → Falling y (without x l) → Falling n (cons_unless b y (without x l))
      go true r = weaker (omega arith) r
      go false r = next k r

  one_less : {n : ℕ} {l : List ℕ} → Falling n l → length l ≤ length (without x l) + 1
  unfolding without
  one_less nothing = omega arith
  one_less (next {x = y} {l = l} k f) = go (eqb x y) refl (one_less f)
    where
      go : (b : Bool) → eqb x y ≡ b → length l ≤ length (without x l) + 1 → suc (length l) ≤ length (cons_unless b y (without x l)) + 1
      go true e h = let same = eqb-true x y e in let g = ap length (not_there (omega arith) f) in omega arith
      go false e h = omega arith

placed_all : (number : ℕ → ℕ) (e : ℕ → ℕ → Bool) {n : ℕ} {left q : List ℕ} → Falling n left → Sequence number e left q → length left ≤ length (map number q)
placed_all number e f done = omega arith
placed_all number e f (place x mem ready least rest) = let h = placed_all number e (still_falls x f) rest in let k = one_less x f in omega arith

-- ---- places in use are those of the sequence
module _ (l : List ℕ) (options : (i : ℕ) → i < length l → OptionNumber (get_or l i 0)) where
  abbrev used : ℕ → ℕ
  used i = pick (is_used (get_or l i 0)) 1

  used_all : (k : ℕ) → k ≤ length l → sum k used ≡ k
  unfolding sum
  used_all zero h = refl
  used_all (suc k) h = rw (ne_eqb (get_or l k 0) 0 (λ e. let w = (options k (omega arith)).0 in omega arith)) (let r = used_all k (omega arith) in omega arith)

  used_past : (k : ℕ) → length l ≤ k → sum k used ≡ length l
  unfolding sum
  used_past zero h = omega arith
  used_past (suc k) h = go (used_past k) (eq-or-lt_of_le {n = length l} {m = suc k} h)
    where
      go : (length l ≤ k → sum k used ≡ length l) → (length l ≡ suc k) ⊎ (length l < suc k) → sum k used + used k ≡ length l
      go before (inl e) = used_all (suc k) (omega arith) ∙ sym e
      go before (inr g) = let d : get_or l k 0 ≡ 0 = get_or-eq_default l 0 (omega arith) in rw d (let r = before (omega arith) in omega arith)

  count_is_length : length l ≤ 32 → places_in_use (places_of 32 l) ≡ length l
  count_is_length few = sum_cong 32 _ used (λ i h. ap (λ a. pick (is_used a) 1) (place_at 32 l i h)) ∙ used_past 32 few

module _ (s : Sheet) (d : Decisions) (rule : Recorded s)
    (past : decided_past d s.option_count s.ordering_count ≡ false) (decided : open_within d s.option_count s.ordering_count ≡ false) where
  -- What the list keeps.
  abbrev choice : List Bool
  choice = just_the_kept (decision_list s.option_count s.ordering_count d)

  abbrev kept : List ℕ
  kept = kept_slots (subscription (lines_of s)) (kept_by_slot (lines_of s) choice)

  -- THE COUNT OF A SEQUENCE is the number of kept options.
  pub kept_are_counted : ConsistentRelaxation (lines_of s) choice → places_in_use (sequence_answer s d).places ≡ length kept
  unfolding subscription
  kept_are_counted c =
      let (places, q, e, smallest) = sequence_places s d rule past decided c in
      let few = places_are_few s rule choice places q in
      let all = placed_all _ _ (slots_fall _ (kept_by_slot (lines_of s) choice).option) q.sequence in
      let long = ap length q.numbers in
      let most = slots_are_few (length (lines_of s).options) (kept_by_slot (lines_of s) choice).option in
      let lines = option_lines s in
      let limit = rule.few_options in
      ap (λ z. places_in_use z.places) e ∙ count_is_length places (places_hold_options s rule choice places q) (omega arith) ∙ le_antisymm few (omega arith)
