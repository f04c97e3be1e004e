-- The numbers in a sequence: no more than there are kept options, and each that of a subscribed option.
use Rattle.std.specs.Prelude.{ℕ, zero, suc, ◌+◌, ◌-◌, ◌≤◌, ◌<◌, ◌≡◌, refl, Bool, true, false, eqb, get_or}
use Rattle.std.proofs.Common.{sym, ap, ◌∙◌, arith, ne_eqb}
use Rattle.std.proofs.Math.Path.{subst}
use mathlib.Core.List.{List, [], ◌∷◌, Memᴰ, map}
use Rattle.std.proofs.Math.ListN.{length, get_or-eq_default}
use Rattle.rules.specs.Slots.{slots, keep_if}
use Rattle.rules.specs.Subscription.{subscription}
use Rattle.rules.specs.Relaxation.{kept_by_slot}
use Rattle.rules.specs.Sequence.{Sequence, done, place, kept_slots, SequenceOf}
use Rattle.rules.specs.laws.Slots.{slots_out}
use Rattle.rules.specs.laws.Without.{without_out, without_lt}
use Rattle.placing.specs.Next.{number}
use Rattle.sequence.specs.Padded.{places_of}
use Rattle.sheet.specs.Recorded.{Recorded, OptionNumber}
use Rattle.sheet.specs.declared.sheet.Sheet.{Sheet}
use Rattle.sheet.specs.Lines.{lines_of}
use Rattle.sheet.proofs.LinesLaws.{option_lines, slot_number}
use Rattle.shape.specs.LineText.{line_text}
use Rattle.listing.specs.Listing.{each, unless, place_line}
use Rattle.report.specs.Report.{place_text}
use Rattle.listing.specs.laws.Each.{each_same, each_first}

module _ (number : ℕ → ℕ) (e : ℕ → ℕ → Bool) where
  placed_few : {left q : List ℕ} → Sequence number e left q → length (map number q) ≤ length left
  placed_few done = omega arith
  placed_few {left} (place x mem ready least rest) = let h = placed_few rest in let k = without_lt x left mem in omega arith

  placed_from : {left q : List ℕ} (P : ℕ → Type 0) → Sequence number e left q → ((x : ℕ) → Memᴰ x left → P (number x)) → (i : ℕ) → i < length (map number q) → P (get_or (map number q) i 0)
  placed_from P done h i l = absurd (omega arith)
  placed_from P (place x mem ready least rest) h zero l = h x mem
  placed_from {left} P (place x mem ready least rest) h (suc i) l = placed_from P rest (λ y k. h y (without_out x left y k).0) i (omega arith)

module _ (s : Sheet) (rule : Recorded s) (r : List Bool) (places : List ℕ) (q : SequenceOf (lines_of s) r places) where
  pub places_are_few : length places ≤ length (kept_slots (subscription (lines_of s)) (kept_by_slot (lines_of s) r))
  places_are_few = subst (λ z. length z ≤ length (kept_slots (subscription (lines_of s)) (kept_by_slot (lines_of s) r))) (sym q.numbers) (placed_few _ _ q.sequence)

  pub places_hold_options : (i : ℕ) → i < length places → OptionNumber (get_or places i 0)
  unfolding subscription
  places_hold_options = subst (λ z. (i : ℕ) → i < length z → OptionNumber (get_or z i 0)) (sym q.numbers) (placed_from _ _ OptionNumber q.sequence option)
    where
      option : (x : ℕ) → Memᴰ x (kept_slots (subscription (lines_of s)) (kept_by_slot (lines_of s) r)) → OptionNumber ((subscription (lines_of s)).number x)
      option x m =
          let l = (slots_out (subscription (lines_of s)).option_count (kept_by_slot (lines_of s) r).option x m).0 in
          let k : x < s.option_count = subst (λ z. x < z) (option_lines s) l in
          subst OptionNumber (sym (slot_number s x k)) (rule.options x k).0

pub slots_are_few : (n : ℕ) (p : ℕ → Bool) → length (slots n p) ≤ n
unfolding slots
slots_are_few zero p = omega arith
slots_are_few (suc n) p = go (p n) (slots_are_few n p)
  where
    go : (b : Bool) → length (slots n p) ≤ n → length (keep_if b n (slots n p)) ≤ suc n
    go true h = omega arith
    go false h = omega arith

-- ---- the places that `sequence` returns, as they are printed
pub place_at : (k : ℕ) (l : List ℕ) (i : ℕ) → i < k → (get_or (places_of k l) i (number 0)).0 ≡ get_or l i 0
unfolding places_of
place_at zero l i h = absurd (omega arith)
place_at (suc k) [] zero h = refl
place_at (suc k) (a ∷ l) zero h = refl
place_at (suc k) [] (suc i) h = place_at k [] i (omega arith)
place_at (suc k) (a ∷ l) (suc i) h = place_at k l i (omega arith)

pub places_printed : (k : ℕ) (l : List ℕ) → length l ≤ k → ((i : ℕ) → i < length l → OptionNumber (get_or l i 0)) → each k (place_line (places_of k l)) ≡ each (length l) (place_text l)
places_printed k l few options =
    let split : length l + (k - length l) ≡ k = omega arith in
    each_same k (place_line (places_of k l)) shown (λ i h. ap (line_at i) (place_at k l i h))
    ∙ ap (λ z. each z shown) (sym split)
    ∙ each_first (k - length l) (length l) shown (λ i h. ap (line_at i) (get_or-eq_default l 0 h))
    ∙ each_same (length l) shown (place_text l) (λ i h. ap (λ b. unless b (place_text l i)) (ne_eqb (get_or l i 0) 0 (λ e. let w = (options i h).0 in omega arith)))
  where
    line_at : ℕ → ℕ → List ℕ
    line_at i a = unless (eqb a 0) (line_text 83 ((i + 1) ∷ a ∷ []))

    shown : ℕ → List ℕ
    shown i = line_at i (get_or l i 0)
