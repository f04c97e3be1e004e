-- How a loop takes a list from bytes, entry by entry.
use Rattle.std.specs.Prelude.{ℕ, ◌+◌, ◌≤◌, ◌<◌, ◌≡◌, ◌⊎◌, List, length, get_or, set, replicate, drop, slice_range, ◌-◌}
use Rattle.std.proofs.Common.{sym, subst, ◌∙◌, inl, inr, arith, eq-or-lt_of_le, length-set, get_or-set_same, get_or-set_other, ext_get_or, length-drop}
use Rattle.std.proofs.lemmas.List.{length-replicate, length-take-le, get_or-take, get_or-drop}
use Rattle.rules.specs.Slots.{list_of}
use Rattle.rules.specs.laws.Slots.{length_list_of, getD_list_of}

-- Of n entries, 0 to i − 1 are taken.
pub record Taken {A : Type 0} (n : ℕ) (f : ℕ → A) (z : A) (i : ℕ) (l : List A) : Type 0 where
  pub size : length l ≡ n
  pub shows : (j : ℕ) → j < i → get_or l j z ≡ f j

module _ {A : Type 0} (n : ℕ) (f : ℕ → A) (z : A) where
  pub taken_none : Taken n f z 0 (replicate n z)
  taken_none = record { size = length-replicate n z; shows = λ j h. absurd (omega arith) }

  pub taken_next : {i : ℕ} {l : List A} {x : A} → Taken n f z i l → i < n → x ≡ f i → Taken n f z (i + 1) (set l i x)
  taken_next {i} {l} {x} t h q =
      record { size = length-set l i x ∙ t.size; shows = λ j k. go j (eq-or-lt_of_le {n = j} {m = i} (omega arith)) }
    where
      go : (j : ℕ) → (j ≡ i) ⊎ (j < i) → get_or (set l i x) j z ≡ f j
      go j (inl e) = subst (λ k. get_or (set l i x) k z ≡ f k) (sym e) (get_or-set_same l i x z (let s = t.size in omega arith) ∙ q)
      go j (inr k) = get_or-set_other l i j x z (λ e. omega arith) ∙ t.shows j k

  pub taken_all : {i : ℕ} {l : List A} → Taken n f z i l → n ≤ i → l ≡ list_of n f
  taken_all {i} {l} t h =
      let s = t.size in
      ext_get_or z l (list_of n f) (s ∙ sym (length_list_of n f)) (λ j k. t.shows j (omega arith) ∙ sym (getD_list_of n f z j (omega arith)))

-- A slice of a list, entry by entry.
pub slice_is_list : {A : Type 0} (at n : ℕ) (z : A) (l : List A) → at + n ≤ length l → slice_range l at (at + n) ≡ list_of n (λ i. get_or l (at + i) z)
slice_is_list at n z l h =
    let fits : (at + n) - at ≤ length (drop at l) = rw (length-drop at l) (omega arith) in
    let size : length (slice_range l at (at + n)) ≡ n = length-take-le ((at + n) - at) (drop at l) fits ∙ omega arith in
    ext_get_or z _ _ (size ∙ sym (length_list_of n _)) (λ i k.
    get_or-take ((at + n) - at) (drop at l) i z (omega arith) ∙ get_or-drop at l i z ∙ sym (getD_list_of n (λ j. get_or l (at + j) z) z i (omega arith)))
