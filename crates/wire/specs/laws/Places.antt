-- Places one by one, and how many are in use.
use Rattle.std.specs.Prelude.{ℕ, zero, suc, ◌+◌, ◌-◌, ◌≤◌, ◌≡◌, Bool, true, false, cond, List, length, take}
use Rattle.std.specs.List.{count_by}
use Rattle.std.proofs.Math.Path.{refl, sym}
use Rattle.std.proofs.Common.{ap, ◌∙◌, arith, le_antisymm, take_all}
use Rattle.std.proofs.Math.Numerals.{add-one}
use Rattle.std.proofs.lemmas.List.Sums.{sum_by_more, count_by-le-length}
use Rattle.rules.specs.Slots.{pick, sum, over}
use Rattle.sheet.specs.declared.count.Number.{Number}
use Rattle.wire.specs.Places.{number_at, is_used, places_in_use}

-- A place counts from 1, an entry from 0.
pub entry_of : (i : ℕ) → i + 1 - 1 ≡ i
entry_of i = omega arith

module _ (places : List Number) where
  abbrev counted : ℕ → ℕ
  counted i = over i (λ j. 1) (λ j. is_used (number_at places j))

  pub none_counted : 0 ≡ counted 0
  unfolding sum
  none_counted = refl

  pub count_next : (i : ℕ) {count x : ℕ} → count ≡ counted i → x ≡ pick (is_used (number_at places i)) 1 → count + x ≡ counted (i + 1)
  unfolding sum
  count_next i e q = rw (e, q, add-one i) refl

  pub count_all : (i : ℕ) {count : ℕ} → count ≡ counted i → i ≤ 32 → 32 ≤ i → count ≡ places_in_use places
  count_all i e a b = e ∙ ap counted (le_antisymm a b)

  -- ---- std's word for a count over a list
  cond_is_pick : (b : Bool) → cond b 1 0 ≡ pick b 1
  cond_is_pick true = refl
  cond_is_pick false = refl

  abbrev used_in : List Number → ℕ
  used_in = count_by (λ number. is_used number.0)

  used_so_far : (i : ℕ) → i ≤ length places → used_in (take i places) ≡ counted i
  used_so_far zero h = none_counted
  used_so_far (suc i) h = rw (← add-one i) (sum_by_more (λ number. cond (is_used number.0) 1 0) places i (record { 0 = 0 }) (omega arith) ∙ count_next i (used_so_far i (omega arith)) (cond_is_pick _))

  pub all_used : length places ≡ 32 → {count : ℕ} → count ≡ used_in places → (count ≡ places_in_use places) × (count ≤ 32)
  all_used long e =
      let most = count_by-le-length (λ number. is_used number.0) places in (
        count_all 32 (e ∙ ap used_in (sym (take_all 32 places (omega arith))) ∙ used_so_far 32 (omega arith)) (omega arith) (omega arith),
        omega arith,
      )
