-- How a loop fills a lent output, entry by entry.
use Rattle.std.specs.Prelude.{ℕ, zero, suc, ◌+◌, ◌-◌, ◌*◌, ◌≤◌, ◌≡◌, refl, List, [], ◌∷◌, ◌++◌, length, set, take, drop}
use Rattle.std.proofs.Math.Path.{sym}
use Rattle.std.proofs.Common.{ap, ◌∙◌, arith, le_antisymm, add-one, append_assoc, length-set}
use Rattle.std.proofs.lemmas.List.{take-append-drop, take_more_set, drop-set-lt}
use borrow.Rule.Slice.PartMut.{put_mid, Post-is}
use Rattle.rules.specs.Slots.{list_of}
use Rattle.rules.specs.laws.Slots.{length_list_of}
use Rattle.print.specs.Put.{put}
use Rattle.print.proofs.PutLaws.{put_none, put_more, put_append, put_length}
use Rattle.entries.specs.Parts.{parts}
use Rattle.entries.specs.laws.Parts.{parts_none, parts_next, parts_length}

list_of_more : {A : Type 0} (n : ℕ) (g : ℕ → A) → list_of (suc n) g ≡ list_of n g ++ (g n ∷ [])
unfolding list_of
list_of_more zero g = refl
list_of_more (suc n) g = ap (λ l. g 0 ∷ l) (list_of_more n (λ i. g (suc i)))

-- Entries 0 to i − 1 stand from `at` on.
pub record Filled (at : ℕ) (f : ℕ → ℕ) (i : ℕ) (before out : List ℕ) : Type 0 where
  pub same_length : length out ≡ length before
  pub shows : out ≡ put at (list_of i f) before

module _ (at : ℕ) (f : ℕ → ℕ) where
  pub filled_nothing : (before : List ℕ) → Filled at f 0 before before
  unfolding list_of
  filled_nothing before = record { same_length = refl; shows = sym (put_none at before) }

  pub filled_next : {i : ℕ} {before out : List ℕ} (k : ℕ) {x : ℕ} → Filled at f i before out → k ≡ at + i → x ≡ f i → Filled at f (i + 1) before (set out k x)
  filled_next {i} {before} {out} k {x} h l q =
      let w : set out k x ≡ put at (list_of (i + 1) f) before
      = ap (λ j. set out j x) l
      ∙ ap (λ y. set out (at + i) y) q
      ∙ ap (λ o. set o (at + i) (f i)) h.shows
      ∙ sym
      (rw (add-one i, list_of_more i f)
      (put_append at (list_of i f) (f i ∷ []) before ∙ rw (length_list_of i f) (put_more (at + i) (f i) [] (put at (list_of i f) before) ∙ put_none (at + i + 1) _))) in
      record { same_length = ap length w ∙ put_length at (list_of (i + 1) f) before; shows = w }

  pub filled_up : (n : ℕ) {i : ℕ} {before out : List ℕ} → Filled at f i before out → i ≤ n → n ≤ i → out ≡ put at (list_of n f) before
  filled_up n {i} {before} h a b = h.shows ∙ ap (λ j. put at (list_of j f) before) (le_antisymm a b)

-- ---- several numbers for each entry
pub record Spread (at : ℕ) (g : ℕ → List ℕ) (i : ℕ) (before out : List ℕ) : Type 0 where
  pub same_length : length out ≡ length before
  pub shows : out ≡ put at (parts i g) before

module _ (w at : ℕ) (g : ℕ → List ℕ) (h : (i : ℕ) → length (g i) ≡ w) where
  pub spread_nothing : (before : List ℕ) → Spread at g 0 before before
  spread_nothing before = record { same_length = refl; shows = sym (ap (λ o. put at o before) (parts_none g) ∙ put_none at before) }

  pub spread_next : {i : ℕ} {before out : List ℕ} (k : ℕ) {after : List ℕ} → Spread at g i before out → k ≡ at + w * i → after ≡ put k (g i) out → Spread at g (i + 1) before after
  spread_next {i} {before} {out} k {after} s l q =
      let e : after ≡ put at (parts (i + 1) g) before
      = q
      ∙ ap (λ j. put j (g i) out) l
      ∙ ap (λ o. put (at + w * i) (g i) o) s.shows
      ∙ sym (ap (λ o. put at o before) (parts_next i g) ∙ put_append at (parts i g) (g i) before ∙ ap (λ j. put (at + j) (g i) (put at (parts i g) before)) (parts_length w i g h)) in
      record { same_length = ap length e ∙ put_length at (parts (i + 1) g) before; shows = e }

  pub spread_up : (n : ℕ) {i : ℕ} {before out : List ℕ} → Spread at g i before out → i ≤ n → n ≤ i → out ≡ put at (parts n g) before
  spread_up n {i} {before} s a b = s.shows ∙ ap (λ j. put at (parts j g) before) (le_antisymm a b)

-- ---- one part after the other
pub put_then : (at k : ℕ) (l m before : List ℕ) {out after : List ℕ} → out ≡ put at l before → at + length l ≡ k → after ≡ put k m out → after ≡ put at (l ++ m) before
put_then at k l m before {out} e h q = q ∙ ap (λ j. put j m out) (sym h) ∙ ap (λ o. put (at + length l) m o) e ∙ sym (put_append at l m before)

pub put_same_length : (at : ℕ) (l before : List ℕ) {out : List ℕ} → out ≡ put at l before → length out ≡ length before
put_same_length at l before e = ap length e ∙ put_length at l before

-- ---- a part written at once
slice_put : (at : ℕ) (l out : List ℕ) → at + length l ≤ length out → take at out ++ (l ++ drop (at + length l) out) ≡ put at l out
unfolding put
slice_put at [] out h = let e : at + 0 ≡ at = omega arith in rw e (take-append-drop at out)
slice_put at (b ∷ l) out h =
    let e : at + suc (length l) ≡ at + 1 + length l = omega arith in
    ap (λ n. take at out ++ (b ∷ l ++ drop n out)) e
    ∙ sym (append_assoc (take at out) (b ∷ []) (l ++ drop (at + 1 + length l) out))
    ∙ ap (λ t. t ++ (l ++ drop (at + 1 + length l) out)) (sym (take_more_set out at b (omega arith)))
    ∙ ap (λ r. take (at + 1) (set out at b) ++ (l ++ r)) (sym (drop-set-lt (at + 1 + length l) out at b (omega arith)))
    ∙ slice_put (at + 1) l (set out at b) (rw (length-set out at b) (omega arith))

pub slice_written : (at n : ℕ) (l out : List ℕ) {part : List ℕ} → part ≡ l → length l ≡ n → at + n ≤ length out → put_mid at ((at + n) - at) out part ≡ put at l out
slice_written at n l out e k h =
    ap (put_mid at ((at + n) - at) out) e
    ∙ ap (λ r. take at out ++ (l ++ r)) (Post-is at (at + n) out (omega arith) ∙ ap (λ j. drop (at + j) out) (sym k))
    ∙ slice_put at l out (omega arith)

pub put_two : (a b : ℕ) (before : List ℕ) → set (set before 0 a) 1 b ≡ put 0 (a ∷ b ∷ []) before
unfolding put
put_two a b before = refl

pub put_pair : (at a b : ℕ) (before : List ℕ) → set (set before at a) (at + 1) b ≡ put at (a ∷ b ∷ []) before
unfolding put
put_pair at a b before = refl

pub put_four : (at a b c d : ℕ) (before : List ℕ) → set (set (set (set before at a) (at + 1) b) (at + 2) c) (at + 3) d ≡ put at (a ∷ b ∷ c ∷ d ∷ []) before
unfolding put
put_four at a b c d before =
    let e : at + 1 + 1 ≡ at + 2 = omega arith in
    let f : at + 2 + 1 ≡ at + 3 = omega arith in
    rw (e, f) refl
