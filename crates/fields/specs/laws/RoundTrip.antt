-- The bytes of a record spell that record.
use Rattle.std.specs.Prelude.{ℕ, zero, suc, ◌+◌, ◌*◌, ◌/◌, ◌%◌, ◌<◌, ◌≡◌, refl, ◌⊎◌, List, [], ◌++◌, length, get_or, drop}
use Rattle.std.proofs.Common.{sym, subst, ◌∙◌, inl, inr, append_assoc, append-nil, arith, div-add-mod', eq-or-lt_of_le, drop-drop, drop_at, get_or-drop, get_or-append-add}
use Rattle.std.proofs.Math.Path.{ap}
use Rattle.std.proofs.Math.ListN.{get_or-append}
use Rattle.rules.specs.laws.Slots.{getD_list_of, list_of_same}
use Rattle.entries.specs.laws.Parts.{parts_more}
use Rattle.sheet.specs.Recorded.{Lengths, Recorded}
use Rattle.sheet.specs.declared.sheet.Sheet.{Sheet}
use Rattle.fields.specs.Record.{two_at, bytes_at, twos_at, record_of, two_bytes, twos_of, bytes_in, tail_of, bytes_of}
use Rattle.fields.specs.laws.Record.{same_sheet}
use Rattle.fields.specs.laws.Lengths.{twos_length, bytes_length, bytes_are}

-- ---- a part that stands in a list from `at` on
module _ (b p r : List ℕ) (at : ℕ) (e : drop at b ≡ p ++ r) where
  there : (i k : ℕ) → k ≡ at + i → i < length p → get_or b k 0 ≡ get_or p i 0
  there i k h l = ap (λ j. get_or b j 0) h ∙ sym (get_or-drop at b i 0) ∙ ap (λ z. get_or z i 0) e ∙ get_or-append p r 0 i l

  past : (n k : ℕ) → length p ≡ n → k ≡ at + n → drop k b ≡ r
  past n k h g = ap (λ j. drop j b) g ∙ sym (drop-drop n at b) ∙ ap (drop n) e ∙ drop_at p r n h

-- ---- numbers of two bytes
whole : (x : ℕ) → x % 256 + 256 * (x / 256) ≡ x
whole x = let e = div-add-mod' x 256 in omega arith

module _ (l : List ℕ) where
  last_two : (n m : ℕ) → get_or (twos_of n l ++ two_bytes (get_or l n 0)) (2 * n + m) 0 ≡ get_or (two_bytes (get_or l n 0)) m 0
  last_two n m =
      subst (λ z. get_or (twos_of n l ++ two_bytes (get_or l n 0)) (z + m) 0 ≡ get_or (two_bytes (get_or l n 0)) m 0) (twos_length n l) (get_or-append-add (twos_of n l) (two_bytes (get_or l n 0)) m 0)

  two_there : (n i m : ℕ) → i < n → m < 2 → get_or (twos_of n l) (2 * i + m) 0 ≡ get_or (two_bytes (get_or l i 0)) m 0
  two_there zero i m h k = absurd (omega arith)
  two_there (suc n) i m h k = ap (λ z. get_or z (2 * i + m) 0) (parts_more n (λ j. two_bytes (get_or l j 0))) ∙ go (two_there n i m) (eq-or-lt_of_le {n = i} {m = n} (omega arith))
    where
      go : (i < n → m < 2 → get_or (twos_of n l) (2 * i + m) 0 ≡ get_or (two_bytes (get_or l i 0)) m 0) → (i ≡ n) ⊎ (i < n)
          → get_or (twos_of n l ++ two_bytes (get_or l n 0)) (2 * i + m) 0 ≡ get_or (two_bytes (get_or l i 0)) m 0
      go before (inl z) = subst (λ j. get_or (twos_of n l ++ two_bytes (get_or l n 0)) (2 * j + m) 0 ≡ get_or (two_bytes (get_or l j 0)) m 0) (sym z) (last_two n m)
      go before (inr z) = get_or-append (twos_of n l) (two_bytes (get_or l n 0)) 0 (2 * i + m) (let q = twos_length n l in omega arith) ∙ before z k

-- ---- each kind of part is read back
module _ (b r : List ℕ) (at : ℕ) where
  count_back : (x : ℕ) → drop at b ≡ two_bytes x ++ r → two_at b at ≡ x
  count_back x e =
      let low = there b (two_bytes x) r at e 0 at (omega arith) (omega arith) in
      let high = there b (two_bytes x) r at e 1 (at + 1) refl (omega arith) in
      rw (low, high) (whole x)

  bytes_back : (n : ℕ) (l : List ℕ) → length l ≡ n → drop at b ≡ bytes_in n l ++ r → bytes_at n b at ≡ l
  bytes_back n l h e =
      list_of_same n _ _ (λ i k. there b (bytes_in n l) r at e i (at + i) refl (let q = bytes_length n l in omega arith) ∙ getD_list_of n (λ j. get_or l j 0) 0 i k)
      ∙ bytes_are n l h

  twos_back : (n : ℕ) (l : List ℕ) → length l ≡ n → drop at b ≡ twos_of n l ++ r → twos_at n b at ≡ l
  twos_back n l h e = list_of_same n _ _ one ∙ bytes_are n l h
    where
      one : (i : ℕ) → i < n → two_at b (at + 2 * i) ≡ get_or l i 0
      one i k =
          let q = twos_length n l in
          let low = there b (twos_of n l) r at e (2 * i + 0) (at + 2 * i) (omega arith) (omega arith) ∙ two_there l n i 0 k (omega arith) in
          let high = there b (twos_of n l) r at e (2 * i + 1) (at + 2 * i + 1) (omega arith) (omega arith) ∙ two_there l n i 1 k (omega arith) in
          rw (low, high) (whole (get_or l i 0))

-- ---- the whole record
module _ (s : Sheet) (sizes : Lengths s) where
  abbrev b : List ℕ
  b = bytes_of s

  abbrev after_numbers : List ℕ
  after_numbers = bytes_in 64 s.firsts ++ bytes_in 64 s.seconds

  abbrev after_afters : List ℕ
  after_afters = bytes_in 32 s.numbers ++ after_numbers

  abbrev after_befores : List ℕ
  after_befores = bytes_in 512 s.afters ++ after_afters

  abbrev after_letters : List ℕ
  after_letters = bytes_in 512 s.befores ++ after_befores

  abbrev after_weights : List ℕ
  after_weights = twos_of 64 s.ordering_weights ++ tail_of s

  abbrev after_counts : List ℕ
  after_counts = twos_of 32 s.weights ++ after_weights

  at_0 : drop 0 b ≡ two_bytes s.catalogue_lines ++ (two_bytes s.option_count ++ (two_bytes s.ordering_count ++ after_counts))
  unfolding bytes_of
  at_0 = ap (λ z. two_bytes s.catalogue_lines ++ (two_bytes s.option_count ++ (two_bytes s.ordering_count ++ z))) (append_assoc (twos_of 32 s.weights) (twos_of 64 s.ordering_weights) (tail_of s))

  at_2 : drop 2 b ≡ two_bytes s.option_count ++ (two_bytes s.ordering_count ++ after_counts)
  at_2 = past b (two_bytes s.catalogue_lines) _ 0 at_0 2 2 refl refl

  at_4 : drop 4 b ≡ two_bytes s.ordering_count ++ after_counts
  at_4 = past b (two_bytes s.option_count) _ 2 at_2 2 4 refl refl

  at_6 : drop 6 b ≡ after_counts
  at_6 = past b (two_bytes s.ordering_count) _ 4 at_4 2 6 refl refl

  at_70 : drop 70 b ≡ after_weights
  at_70 = past b (twos_of 32 s.weights) _ 6 at_6 64 70 (twos_length 32 s.weights) refl

  at_198 : drop 198 b ≡ bytes_in 512 s.letters ++ after_letters
  at_198 = past b (twos_of 64 s.ordering_weights) _ 70 at_70 128 198 (twos_length 64 s.ordering_weights) refl

  at_710 : drop 710 b ≡ after_letters
  at_710 = past b (bytes_in 512 s.letters) _ 198 at_198 512 710 (bytes_length 512 s.letters) refl

  at_1222 : drop 1222 b ≡ after_befores
  at_1222 = past b (bytes_in 512 s.befores) _ 710 at_710 512 1222 (bytes_length 512 s.befores) refl

  at_1734 : drop 1734 b ≡ after_afters
  at_1734 = past b (bytes_in 512 s.afters) _ 1222 at_1222 512 1734 (bytes_length 512 s.afters) refl

  at_1766 : drop 1766 b ≡ after_numbers
  at_1766 = past b (bytes_in 32 s.numbers) _ 1734 at_1734 32 1766 (bytes_length 32 s.numbers) refl

  at_1830 : drop 1830 b ≡ bytes_in 64 s.seconds ++ []
  at_1830 = past b (bytes_in 64 s.firsts) _ 1766 at_1766 64 1830 (bytes_length 64 s.firsts) refl ∙ sym (append-nil (bytes_in 64 s.seconds))

  -- THE RECORD COMES BACK.
  pub record_back : record_of (bytes_of s) ≡ s
  record_back = same_sheet s
      (count_back b _ 0 _ at_0) (count_back b _ 2 _ at_2) (count_back b _ 4 _ at_4)
      (bytes_back b _ 198 512 _ sizes.letters at_198) (bytes_back b _ 710 512 _ sizes.befores at_710) (bytes_back b _ 1222 512 _ sizes.afters at_1222)
      (bytes_back b _ 1734 32 _ sizes.numbers at_1734) (twos_back b _ 6 32 _ sizes.weights at_6)
      (bytes_back b _ 1766 64 _ sizes.firsts at_1766) (bytes_back b _ 1830 64 _ sizes.seconds at_1830) (twos_back b _ 70 64 _ sizes.ordering_weights at_70)

pub recorded_back : (s : Sheet) → Recorded s → record_of (bytes_of s) ≡ s
recorded_back s rule = record_back s rule.lengths
