-- A decision gets a sequence exactly if it is a consistent relaxation; the sequence is unique, computed by `sequence_of`, and the smallest order.
use Rattle.std.specs.Prelude.{◌≡◌, Bool, true, false, cond, ◌⊎◌, ◌↔◌, length, ltb}
use Rattle.std.proofs.Math.Path.{refl, subst, ap}
use Rattle.std.proofs.Common.{sym, ◌∙◌, inl, inr, le_antisymm, le_refl, arith, ltb→lt, nltb→le}
use Rattle.std.proofs.Math.Bool.{not}
use mathlib.Core.List.Memᴰ
use mathlib.Core.List.{List, [], ◌∷◌, Memᴰ, map}
use Rattle.std.proofs.Math.Option.{Option, none, some}
use Prim.Native.Nat.{ℕ, zero, suc, ◌≤◌, ◌<◌}
use Rattle.std.proofs.Math.Dec.{T, T_not}
use Rattle.rules.specs.Slots.{keep_if, slots}
use Rattle.rules.specs.Joined.{base, join}
use Rattle.rules.specs.Lines.{Lines}
use Rattle.rules.specs.Subscription.{Subscription, subscription, Proper}
use Rattle.rules.specs.Relaxation.{KeptBySlot, kept_by_slot, Edge, Path, one, more, Relaxation, ConsistentRelaxation}
use Rattle.rules.specs.Decisions.{Decision, open_items}
use Rattle.rules.specs.Sequence.{precedes, without, ready, Sequence, done, place, kept_slots, SequenceOf, Ordered, NoLater}
use Rattle.rules.specs.Results.{is_consistent, if_ready, smallest_ready, placed_first, placed, numbers_in_sequence, sequence_of_choice, sequence_if_full, sequence_of}
use Rattle.rules.specs.laws.Slots.{slots_in, slots_out}
use Rattle.rules.specs.laws.BySlot.{append}
use Rattle.rules.specs.laws.Decisions.{just_the_kept, full_choice_is, open_has_no_choice}
use Rattle.rules.specs.laws.OnSlots.{kept_on_the_sheet}
use Rattle.rules.proofs.laws.Relaxation.{precedes_in, precedes_out, edge_from, edge_to, consistent_in, consistent_out}
use Rattle.rules.specs.laws.Without.{without_out, without_lt}
use Rattle.rules.specs.laws.Placing.{Among, among, Walk, Distinct, placing_acyclic, sequence_is_placing, sequence_exists, sequence_least}
use Rattle.rules.specs.laws.Ordered.{ordered_placing}

-- ---- what is computed is the sequence
module _ (number : ℕ → ℕ) (e : ℕ → ℕ → Bool) where
  -- What `smallest_ready` says of l.
  data Told (left l : List ℕ) : Option ℕ → Type 0 where
    nobody : ((y : ℕ) → Memᴰ y l → T (ready e left y) → ⊥) → Told left l none
    somebody : (x : ℕ) → Memᴰ x l → T (ready e left x) → ((y : ℕ) → Memᴰ y l → T (ready e left y) → number x ≤ number y) → Told left l (some x)

  told : (left l : List ℕ) → Told left l (smallest_ready number e left l)
  unfolding smallest_ready
  told left [] = nobody (λ y m t. elim m [ ])
  told left (z ∷ l) = go (ready e left z) refl (smallest_ready number e left l) (told left l)
    where
      -- z is not ready, or it is and none of the rest, or both z and b are
      passed : T (not (ready e left z)) → {o : Option ℕ} → Told left l o → Told left (z ∷ l) o
      passed n (nobody h) = nobody (λ y m t. at y (Memᴰ.cases_cons m) t)
        where
          at : (y : ℕ) → (y ≡ z) ⊎ Memᴰ y l → T (ready e left y) → ⊥
          at y (inl c) t = T_not (ready e left z) n (subst (λ w. T (ready e left w)) c t)
          at y (inr k) t = h y k t
      passed n (somebody b k r f) = somebody b (Memᴰ.tail k) r (λ y m t. at y (Memᴰ.cases_cons m) t)
        where
          at : (y : ℕ) → (y ≡ z) ⊎ Memᴰ y l → T (ready e left y) → number b ≤ number y
          at y (inl c) t = absurd (T_not (ready e left z) n (subst (λ w. T (ready e left w)) c t))
          at y (inr m) t = f y m t

      alone : T (ready e left z) → ((y : ℕ) → Memᴰ y l → T (ready e left y) → number z ≤ number y) → Told left (z ∷ l) (some z)
      alone r f = somebody z (Memᴰ.head refl) r (λ y m t. at y (Memᴰ.cases_cons m) t)
        where
          at : (y : ℕ) → (y ≡ z) ⊎ Memᴰ y l → T (ready e left y) → number z ≤ number y
          at y (inl c) t = subst (λ w. number z ≤ number w) (sym c) (omega arith)
          at y (inr m) t = f y m t

      two : T (ready e left z) → (b : ℕ) → Memᴰ b l → T (ready e left b) → ((y : ℕ) → Memᴰ y l → T (ready e left y) → number b ≤ number y)
          → (c : Bool) → (T c → number b < number z) → (T (not c) → number z ≤ number b) → Told left (z ∷ l) (some (cond c b z))
      two r b k rb f true g h = somebody b (Memᴰ.tail k) rb (λ y m t. at y (Memᴰ.cases_cons m) t)
        where
          at : (y : ℕ) → (y ≡ z) ⊎ Memᴰ y l → T (ready e left y) → number b ≤ number y
          at y (inl c) t = subst (λ w. number b ≤ number w) (sym c) (let x = g tt in omega arith)
          at y (inr m) t = f y m t
      two r b k rb f false g h = alone r (λ y m t. let x = f y m t in let w = h tt in omega arith)

      go : (a : Bool) → ready e left z ≡ a → (o : Option ℕ) → Told left l o → Told left (z ∷ l) (if_ready number e a z o)
      go false q o t = passed (subst (λ w. T (not w)) (sym q) tt) t
      go true q o (nobody h) = alone (subst T (sym q) tt) (λ y m t. absurd (h y m t))
      go true q o (somebody b k r f) = two (subst T (sym q) tt) b k r f (ltb (number b) (number z)) (ltb→lt (number b) (number z)) (nltb→le (number b) (number z))

  -- Two that are the smallest of the ready ones are one.
  smallest_told : (l : List ℕ) → Distinct number e l → (x : ℕ) → Memᴰ x l → T (ready e l x) → ((y : ℕ) → Memᴰ y l → T (ready e l y) → number x ≤ number y) → smallest_ready number e l l ≡ some x
  smallest_told l distinct x m r f = go (smallest_ready number e l l) (told l l)
    where
      go : (o : Option ℕ) → Told l l o → o ≡ some x
      go o (nobody h) = absurd (h x m r)
      go o (somebody y k w g) = ap some (distinct y x k m (le_antisymm (g x m r) (f y k w)))

  pub sequence_placed : (n : ℕ) {l q : List ℕ} → Distinct number e l → length l ≤ n → Sequence number e l q → placed number e n l ≡ q
  unfolding placed smallest_ready
  sequence_placed zero distinct h done = refl
  sequence_placed (suc n) distinct h done = refl
  sequence_placed zero {l} distinct h (place x m r f q) = let k = without_lt x l m in absurd (omega arith)
  sequence_placed (suc n) {l} distinct h (place {rest = rest} x m r f q) =
      let k = without_lt x l m in
      ap (λ o. placed_first number e o (λ y. placed number e n (without y l))) (smallest_told l distinct x m r f) ∙ ap (λ z. x ∷ z) (sequence_placed n distinct' (omega arith) q)
    where
      distinct' : Distinct number e (without x l)
      distinct' y z p k c = distinct y z (without_out x l y p).0 (without_out x l z k).0 c

slots_few : (n : ℕ) (p : ℕ → Bool) → length (slots n p) ≤ n
unfolding slots
slots_few zero p = omega arith
slots_few (suc n) p = go (p n) (slots_few n p)
  where
    go : (b : Bool) → length (slots n p) ≤ n → length (keep_if b n (slots n p)) ≤ suc n
    go true h = omega arith
    go false h = omega arith

-- ---- of a sheet
module _ (s : Lines) (r : List Bool) where
  abbrev v : Subscription
  v = subscription s

  abbrev c : KeptBySlot
  c = kept_by_slot s r

  module _ (q : Relaxation s r) where
    edge_among : (i j : ℕ) → Edge v c i j → Among (precedes v c) (kept_slots v c) i j
    edge_among i j e =
        let on = kept_on_the_sheet s r q.size in
        let a = edge_from v c on q.ends i j e in let b = edge_to v c on q.ends i j e in
        among (slots_in v.option_count c.option i (on.option i a) a) (slots_in v.option_count c.option j (on.option j b) b) (precedes_in v c on i j e)

    path_walk : {i j : ℕ} → Path v c i j → Walk (precedes v c) (kept_slots v c) i j
    path_walk (one {i = i} {j = j} e) = base (edge_among i j e)
    path_walk (more {i = i} {j = j} e p) = join (base (edge_among i j e)) tt (path_walk p)

  walk_path : {i j : ℕ} → Walk (precedes v c) (kept_slots v c) i j → Path v c i j
  walk_path (base {i = i} {j = j} (among p q t)) = one (precedes_out v c i j t)
  walk_path (join p u q) = append (walk_path p) (walk_path q)

  -- A SEQUENCE EXACTLY FOR A CONSISTENT RELAXATION, whatever r is.
  pub has_sequence_iff_consistent : ((places : List ℕ) × SequenceOf s r places) ↔ ConsistentRelaxation s r
  has_sequence_iff_consistent = (λ w. to w.1, λ k. from k)
    where
      to : {places : List ℕ} → SequenceOf s r places → ConsistentRelaxation s r
      to q = record { relaxation = q.relaxation; consistent = λ i p. placing_acyclic (precedes v c) (sequence_is_placing v.number (precedes v c) q.sequence) i (path_walk q.relaxation p) }

      from : ConsistentRelaxation s r → (places : List ℕ) × SequenceOf s r places
      from k = let (l, q) = sequence_exists v.number (precedes v c) (length (kept_slots v c)) (kept_slots v c) (le_refl _) (λ i w. k.consistent i (walk_path w)) in
          (map v.number l, record { relaxation = k.relaxation; by_slot = l; sequence = q; numbers = refl })

  module _ (ps : Proper s) where
    distinct : Distinct v.number (precedes v c) (kept_slots v c)
    unfolding subscription
    distinct x y p q e = ps.numbers_differ x y (slots_out v.option_count c.option x p).0 (slots_out v.option_count c.option y q).0 e

    -- The sequence is the computed one, so there is ONE only.
    pub sequence_is_computed : (places : List ℕ) → SequenceOf s r places → places ≡ numbers_in_sequence s r
    unfolding numbers_in_sequence subscription
    sequence_is_computed places q = q.numbers ∙ ap (map v.number) (sym (sequence_placed v.number (precedes v c) (length s.options) distinct (slots_few (length s.options) c.option) q.sequence))

    pub sequence_unique : (places others : List ℕ) → SequenceOf s r places → SequenceOf s r others → places ≡ others
    sequence_unique places others p q = sequence_is_computed places p ∙ sym (sequence_is_computed others q)

    -- THE SMALLEST ORDER: whatever lists the kept options once with every edge forward has no smaller number at the first difference.
    pub sequence_is_smallest : (places order : List ℕ) → SequenceOf s r places → Ordered (precedes v c) (kept_slots v c) order → NoLater places (map v.number order)
    sequence_is_smallest places order q o = subst (λ z. NoLater z (map v.number order)) (sym q.numbers)
        (sequence_least v.number (precedes v c) distinct q.sequence (ordered_placing (precedes v c) (kept_slots v c) order o))

    pub sequence_of_choice_is : (places : List ℕ) → (sequence_of_choice s r ≡ some places) ↔ SequenceOf s r places
    unfolding sequence_of_choice
    sequence_of_choice_is places = (λ e. to (is_consistent s r) refl e, λ q. from (is_consistent s r) refl q)
      where
        given : T (is_consistent s r) → SequenceOf s r (numbers_in_sequence s r)
        given t = let (l, q) = has_sequence_iff_consistent.1 (consistent_out s r t) in subst (SequenceOf s r) (sequence_is_computed l q) q

        to : (b : Bool) → is_consistent s r ≡ b → cond b (some (numbers_in_sequence s r)) none ≡ some places → SequenceOf s r places
        to true e h = let same : numbers_in_sequence s r ≡ places = cc in subst (SequenceOf s r) same (given (subst T (sym e) tt))
        to false e h = let z : ◌≡◌ {A = ℕ} 0 1 = cc in absurd (omega arith)

        from : (b : Bool) → is_consistent s r ≡ b → SequenceOf s r places → cond b (some (numbers_in_sequence s r)) none ≡ some places
        from true e q = ap some (sym (sequence_is_computed places q))
        from false e q = absurd (subst T e (consistent_in s r (has_sequence_iff_consistent.0 (places, q))))

-- ---- of a decision list
module _ (s : Lines) (ps : Proper s) (d : List Decision) where
  -- With something open there is no sequence; otherwise the list's own choice is sequenced.
  pub sequence_of_full : open_items d ≡ 0 → sequence_of s d ≡ sequence_of_choice s (just_the_kept d)
  unfolding sequence_of
  sequence_of_full z = ap (sequence_if_full s) (full_choice_is d z)

  pub sequence_of_open : 0 < open_items d → sequence_of s d ≡ none
  unfolding sequence_of
  sequence_of_open z = ap (sequence_if_full s) (open_has_no_choice d z)
