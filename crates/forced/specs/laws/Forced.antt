-- The parts that the code works out, one from another, are the forced decisions of the rules.
use Rattle.std.specs.Prelude.{◌≡◌, Bool, true, false, ◌&&◌, ◌||◌, List, ℕ, ◌≤◌, ◌<◌, get_or, T, ltb}
use Rattle.std.proofs.Math.Path.{refl, ap}
use Rattle.std.proofs.Common.{sym, ◌∙◌, arith, ne_eqb, ltb-false}
use Rattle.rules.specs.Slots.{some_below, slots}
use Rattle.rules.specs.Joined.{through}
use Rattle.rules.specs.Subscription.{Subscription}
use Rattle.rules.specs.Decisions.{is_kept, is_dropped, DecidedBySlot}
use Rattle.rules.specs.KnownBefore.{puts_first, touches, ordering_kept, option_kept, known_from_the_start, known_before}
use Rattle.rules.specs.Forced.{option_dropped, ordering_dropped, contradiction}
use Rattle.rules.specs.laws.Tests.{and_l, and_r}
use Rattle.rules.specs.laws.Slots.{some_out, slots_in, slots_out}
use Rattle.rules.specs.laws.Joined.{through_join}
use Rattle.rows.specs.Bits.{has}
use Rattle.rows.specs.Sets.{Holds, Table, cell}
use Rattle.rows.specs.laws.Sets.{holds_at, holds_same}
use Rattle.rows.specs.laws.Slots.{some_same, some_none, slots_same, through_same}
use Rattle.graph.specs.Graph.{EndsAreSlots, kept_putting_first, WithOrderings, JoinedThroughAll}
use Rattle.given.specs.Given.{Gives}
use Rattle.graph.specs.Shown.{counted, Shows}
use Rattle.forced.specs.Forced.{kept_touching, KeptWithEnds, ForcedAs}
use Rattle.given.specs.declared.sets.Given.{Given}

-- A test that another implies adds nothing.
or_implied : (a b : Bool) → (T b → T a) → (a || b) ≡ a
or_implied true b h = refl
or_implied false true h = absurd (h tt)
or_implied false false h = refl

-- Being both before and after a kept option is being before itself.
pub option_dropped_is : (v : Subscription) (d : DecidedBySlot) (i : ℕ) → option_dropped v d i ≡ (is_dropped (d.option i) || known_before v d i i)
unfolding option_dropped known_before
option_dropped_is v d i = ap (λ b. is_dropped (d.option i) || b) (or_implied (known_before v d i i) _ (λ t.
    let (j, l, w) = some_out v.option_count _ t in
    let a = and_r (option_kept v d j) _ w in
    through_join (known_from_the_start v d) (slots v.option_count (option_kept v d)) i j i (and_l (known_before v d i j) _ a) (slots_in v.option_count (option_kept v d) j l (and_l (option_kept v d j) _ w)) (and_r (known_before v d i j) _ a)))

module _ (v : Subscription) (b : DecidedBySlot) (n m : ℕ) (firsts seconds t : List ℕ) (g : Given) (shows : Shows v n m firsts seconds t) (gives : Gives b n m g) (ends : EndsAreSlots n m firsts seconds) where
  abbrev s : Subscription
  s = counted n m v

  module _ (kept dropped lost : ℕ) (start knows : List ℕ)
      (is_kept_with_ends : KeptWithEnds g.kept g.kept_orderings firsts seconds m kept)
      (is_start : WithOrderings t g.kept_orderings firsts seconds m start)
      (is_known : JoinedThroughAll start kept n n knows)
      (is_dropping : Holds dropped n (λ i. has g.dropped i || has (get_or knows i 0) i))
      (is_lost : Holds lost m (λ u. has g.dropped_orderings u || (has dropped (get_or firsts u 0) || (has dropped (get_or seconds u 0) || has (get_or knows (get_or seconds u 0) 0) (get_or firsts u 0)))))
    where
      orderings_kept : Holds g.kept_orderings m (ordering_kept s b)
      unfolding ordering_kept
      orderings_kept = holds_same gives.kept_orderings (λ u l. refl)

      options_kept : Holds kept n (option_kept s b)
      unfolding option_kept
      options_kept = record { at = λ j. is_kept_with_ends.at j ∙ rw (gives.kept.at j) (go j (ltb j n) refl) }
        where
          same : (j : ℕ) → some_below m (kept_touching g.kept_orderings firsts seconds j) ≡ some_below m (λ u. ordering_kept s b u && touches s u j)
          same j = some_same m _ _ (λ u l. rw (holds_at orderings_kept u l, shows.first u l, shows.second u l) refl)

          far : (j : ℕ) → n ≤ j → some_below m (kept_touching g.kept_orderings firsts seconds j) ≡ false
          far j h = some_none m _ (λ u l. rw (ne_eqb (get_or firsts u 0) j (λ e. let z = ends.first u l in omega arith), ne_eqb (get_or seconds u 0) j (λ e. let z = ends.second u l in omega arith)) (no_and (has g.kept_orderings u)))
            where
              no_and : (x : Bool) → (x && false) ≡ false
              no_and true = refl
              no_and false = refl

          go : (j : ℕ) (x : Bool) → ltb j n ≡ x → ((ltb j n && is_kept (b.option j)) || some_below m (kept_touching g.kept_orderings firsts seconds j)) ≡ (ltb j n && (is_kept (b.option j) || some_below m (λ u. ordering_kept s b u && touches s u j)))
          go j true e = rw (e, same j) refl
          go j false e = rw (e, far j (ltb-false j n e)) refl

      known_table : Table knows n (known_before s b)
      unfolding known_before known_from_the_start
      known_table = record {
        at = λ p q lp lq. is_known.at p q lp lq ∙ ap (λ l. through (cell start) l p q) (slots_same n (has kept) (option_kept s b) (holds_at options_kept))
            ∙ through_same n (cell start) (known_from_the_start s b) (slots n (option_kept s b)) (λ c w. (slots_out n (option_kept s b) c w).0) start_same p q lp lq;
      }
        where
          start_same : (p q : ℕ) → p < n → q < n → cell start p q ≡ known_from_the_start s b p q
          start_same p q lp lq = is_start.at p q (let z = ends.few_options in omega arith)
              ∙ rw (some_same m (kept_putting_first g.kept_orderings firsts seconds p q) (λ u. ordering_kept s b u && puts_first s u p q) (λ u l. rw (holds_at orderings_kept u l, shows.first u l, shows.second u l) refl), shows.before p q lp lq) refl

      options_dropped : Holds dropped n (option_dropped s b)
      options_dropped = holds_same is_dropping (λ i l. rw (holds_at gives.dropped i l, known_table.at i i l l) (sym (option_dropped_is s b i)))

      orderings_dropped : Holds lost m (ordering_dropped s b)
      unfolding ordering_dropped
      orderings_dropped = holds_same is_lost (λ u l. rw (
        holds_at gives.dropped_orderings u l,
        holds_at options_dropped (get_or firsts u 0) (ends.first u l),
        holds_at options_dropped (get_or seconds u 0) (ends.second u l),
        known_table.at (get_or seconds u 0) (get_or firsts u 0) (ends.second u l) (ends.first u l),
        shows.first u l,
        shows.second u l,
      ) refl)

      contradiction_is : (some_below n (λ i. has kept i && has dropped i) || some_below m (λ u. has g.kept_orderings u && has lost u)) ≡ contradiction s b
      unfolding contradiction
      contradiction_is = rw (
        some_same n (λ i. has kept i && has dropped i) (λ i. option_kept s b i && option_dropped s b i) (λ i l. rw (holds_at options_kept i l, holds_at options_dropped i l) refl),
        some_same m (λ u. has g.kept_orderings u && has lost u) (λ u. ordering_kept s b u && ordering_dropped s b u) (λ u l. rw (holds_at orderings_kept u l, holds_at orderings_dropped u l) refl),
      ) refl

      pub forced_as : (c : Bool) → c ≡ (some_below n (λ i. has kept i && has dropped i) || some_below m (λ u. has g.kept_orderings u && has lost u))
          → ForcedAs s b (record { kept = kept; dropped = dropped; kept_orderings = g.kept_orderings; dropped_orderings = lost; known = knows; contradiction = c })
      forced_as c ec = record {
        kept = options_kept;
        dropped = options_dropped;
        kept_orderings = orderings_kept;
        dropped_orderings = orderings_dropped;
        known = known_table;
        contradicts = ec ∙ contradiction_is;
      }
