-- After forcing, a choice for an item that is still open never contradicts: it may be kept, and it may be dropped.
use Rattle.std.specs.Prelude.{◌≡◌, refl, Bool, not, ◌⊎◌, List, [], ◌∷◌, ℕ, zero, suc, ◌+◌, ◌<◌, length, get_or, take, drop, set}
use Rattle.std.proofs.Common.{sym, subst, ap, ◌∙◌, inl, inr, arith, get_or-take, get_or-drop, drop-set-lt}
use Rattle.std.proofs.Math.Seq.{take-set-lt}
use Rattle.std.proofs.lemmas.List.{take-set-le, drop-set-add}
use Rattle.std.proofs.Math.Dec.{T}
use Rattle.rules.specs.Lines.{Lines}
use Rattle.rules.specs.Subscription.{Subscription, subscription, items, Proper}
use Rattle.rules.specs.Decisions.{Decision, Open, Kept, Dropped, is_open, is_kept, is_dropped, DecidedBySlot, decided_by_slot}
use Rattle.rules.specs.KnownBefore.{ordering_kept, option_kept}
use Rattle.rules.specs.Forced.{NoContradiction, option_dropped, ordering_dropped, forced}
use Rattle.rules.specs.Results.{limits_of}
use Rattle.rules.proofs.laws.Computed.{option_kept_in, option_kept_out, option_dropped_in, ordering_dropped_in, no_contradiction_in}
use Rattle.rules.specs.laws.OpenItems.{Stays, GrowsAt, keep_option, drop_option, keep_ordering, drop_ordering}
use Rattle.rules.specs.laws.OnSlots.{on_the_sheet}
use Rattle.rules.proofs.laws.ForcedList.{forced_option_at, forced_ordering_at, open_from}
use Rattle.rules.proofs.laws.Contradiction.{contradiction_told, fine_from}

module _ (s : Lines) (ps : Proper s) (d : List Decision) (size : length d ≡ items s) where
  -- What is open in the forced decisions is neither kept nor dropped by the rules.
  pub open_option : (i : ℕ) → i < length s.options → T (is_open (get_or (forced s d) i Open)) → (T (option_kept (subscription s) (decided_by_slot s d) i) → ⊥) × (T (option_dropped (subscription s) (decided_by_slot s d) i) → ⊥)
  unfolding decided_by_slot
  open_option i l o = open_from (option_kept (subscription s) (decided_by_slot s d) i) (option_dropped (subscription s) (decided_by_slot s d) i) (subst (λ m. T (is_open m)) (sym (get_or-take (length s.options) (forced s d) i Open l) ∙ forced_option_at s ps d size i l) o)

  pub open_ordering : (u : ℕ) → u < length s.orderings → T (is_open (get_or (forced s d) (length s.options + u) Open)) → (T (ordering_kept (subscription s) (decided_by_slot s d) u) → ⊥) × (T (ordering_dropped (subscription s) (decided_by_slot s d) u) → ⊥)
  unfolding decided_by_slot
  open_ordering u l o = open_from (ordering_kept (subscription s) (decided_by_slot s d) u) (ordering_dropped (subscription s) (decided_by_slot s d) u) (subst (λ m. T (is_open m)) (sym (get_or-drop (length s.options) (forced s d) u Open) ∙ forced_ordering_at s ps d size u l) o)

-- One item set: a test that its decision fails is passed as before, one that it passes is passed as before or there.
set_stays : (q : Decision → Bool) (l : List Decision) (k : ℕ) (m : Decision) → (T (q m) → ⊥) → Stays q (λ j. get_or l j Open) (λ j. get_or (set l k m) j Open)
set_stays q [] k m n j t = t
set_stays q (w ∷ l) zero m n zero t = absurd (n t)
set_stays q (w ∷ l) zero m n (suc j) t = t
set_stays q (w ∷ l) (suc k) m n zero t = t
set_stays q (w ∷ l) (suc k) m n (suc j) t = set_stays q l k m n j t

set_grows : (q : Decision → Bool) (l : List Decision) (k : ℕ) (m : Decision) → GrowsAt k q (λ j. get_or l j Open) (λ j. get_or (set l k m) j Open)
set_grows q [] k m j t = inl t
set_grows q (w ∷ l) zero m zero t = inr refl
set_grows q (w ∷ l) zero m (suc j) t = inl t
set_grows q (w ∷ l) (suc k) m zero t = inl t
set_grows q (w ∷ l) (suc k) m (suc j) t = go (set_grows q l k m j t)
  where
    go : T (q (get_or l j Open)) ⊎ (j ≡ k) → T (q (get_or l j Open)) ⊎ (suc j ≡ suc k)
    go (inl h) = inl h
    go (inr e) = inr (ap suc e)

module _ (s : Lines) (ps : Proper s) (d : List Decision) (size : length d ≡ items s) (fine : T (not (limits_of s d).contradiction)) where
  abbrev n : ℕ
  n = length s.options

  abbrev v : Subscription
  v = subscription s

  abbrev b : DecidedBySlot
  b = decided_by_slot s d

  untold : (g : List Decision) → NoContradiction v (decided_by_slot s g) → T (not (limits_of s g).contradiction)
  untold g h = subst (λ x. T (not x)) (sym (contradiction_told s g)) (no_contradiction_in v (decided_by_slot s g) h)

  same : (q : Decision → Bool) (l l' : List Decision) → l' ≡ l → Stays q (λ j. get_or l j Open) (λ j. get_or l' j Open)
  same q l l' e j t = subst (λ z. T (q (get_or z j Open))) e t

  via : (q : Decision → Bool) (l l' l'' : List Decision) → l'' ≡ l' → Stays q (λ j. get_or l j Open) (λ j. get_or l' j Open) → Stays q (λ j. get_or l j Open) (λ j. get_or l'' j Open)
  via q l l' l'' e h j t = h j (subst (λ z. T (q (get_or z j Open))) e t)

  via_grows : (q : Decision → Bool) (k : ℕ) (l l' l'' : List Decision) → l'' ≡ l' → GrowsAt k q (λ j. get_or l j Open) (λ j. get_or l' j Open) → GrowsAt k q (λ j. get_or l j Open) (λ j. get_or l'' j Open)
  via_grows q k l l' l'' e h j t = h j (subst (λ z. T (q (get_or z j Open))) e t)

  pub open_option_may_be_kept : (i : ℕ) → i < n → T (is_open (get_or (forced s d) i Open)) → T (not (limits_of s (set d i Kept)).contradiction)
  unfolding decided_by_slot
  open_option_may_be_kept i l o = untold (set d i Kept) (keep_option v b (decided_by_slot s (set d i Kept)) (fine_from s ps d size fine) i
      (λ h. (open_option s ps d size i l o).1 (option_dropped_in v b (on_the_sheet s d size ps) i h))
      (via_grows is_kept i (take n d) _ _ (take-set-lt n d i Kept l) (set_grows is_kept (take n d) i Kept))
      (via is_dropped (take n d) _ _ (take-set-lt n d i Kept l) (set_stays is_dropped (take n d) i Kept (λ z. z)))
      (same is_kept (drop n d) _ (drop-set-lt n d i Kept l)) (same is_dropped (drop n d) _ (drop-set-lt n d i Kept l)))

  pub open_option_may_be_dropped : (i : ℕ) → i < n → T (is_open (get_or (forced s d) i Open)) → T (not (limits_of s (set d i Dropped)).contradiction)
  unfolding decided_by_slot
  open_option_may_be_dropped i l o = untold (set d i Dropped) (drop_option v b (decided_by_slot s (set d i Dropped)) (fine_from s ps d size fine)
      (option_kept v b) (option_kept_out v b) (option_kept_in v b (on_the_sheet s d size ps)) i
      (λ h. (open_option s ps d size i l o).0 (option_kept_in v b (on_the_sheet s d size ps) i h))
      (via is_kept (take n d) _ _ (take-set-lt n d i Dropped l) (set_stays is_kept (take n d) i Dropped (λ z. z)))
      (via_grows is_dropped i (take n d) _ _ (take-set-lt n d i Dropped l) (set_grows is_dropped (take n d) i Dropped))
      (same is_kept (drop n d) _ (drop-set-lt n d i Dropped l)) (same is_dropped (drop n d) _ (drop-set-lt n d i Dropped l)))

  pub open_ordering_may_be_kept : (u : ℕ) → u < length s.orderings → T (is_open (get_or (forced s d) (n + u) Open)) → T (not (limits_of s (set d (n + u) Kept)).contradiction)
  unfolding decided_by_slot subscription
  open_ordering_may_be_kept u l o = untold (set d (n + u) Kept) (keep_ordering v b (decided_by_slot s (set d (n + u) Kept)) (fine_from s ps d size fine) u
      (λ h. (open_ordering s ps d size u l o).1 (ordering_dropped_in v b (on_the_sheet s d size ps) u h)) (ps.ends_differ u l)
      (same is_kept (take n d) _ (take-set-le n d (n + u) Kept (omega arith))) (same is_dropped (take n d) _ (take-set-le n d (n + u) Kept (omega arith)))
      (via_grows is_kept u (drop n d) _ _ (drop-set-add n d u Kept) (set_grows is_kept (drop n d) u Kept))
      (via is_dropped (drop n d) _ _ (drop-set-add n d u Kept) (set_stays is_dropped (drop n d) u Kept (λ z. z))))

  pub open_ordering_may_be_dropped : (u : ℕ) → u < length s.orderings → T (is_open (get_or (forced s d) (n + u) Open)) → T (not (limits_of s (set d (n + u) Dropped)).contradiction)
  unfolding decided_by_slot ordering_kept
  open_ordering_may_be_dropped u l o = untold (set d (n + u) Dropped) (drop_ordering v b (decided_by_slot s (set d (n + u) Dropped)) (fine_from s ps d size fine)
      (option_kept v b) (option_kept_out v b) (option_kept_in v b (on_the_sheet s d size ps)) u
      (λ h. (open_ordering s ps d size u l o).0 h)
      (same is_kept (take n d) _ (take-set-le n d (n + u) Dropped (omega arith))) (same is_dropped (take n d) _ (take-set-le n d (n + u) Dropped (omega arith)))
      (via is_kept (drop n d) _ _ (drop-set-add n d u Dropped) (set_stays is_kept (drop n d) u Dropped (λ z. z)))
      (via_grows is_dropped u (drop n d) _ _ (drop-set-add n d u Dropped) (set_grows is_dropped (drop n d) u Dropped)))
