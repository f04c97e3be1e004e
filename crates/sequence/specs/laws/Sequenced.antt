-- The parts that the code works out are the sequence of the rules, or that there is none.
use Rattle.std.specs.Prelude.{◌≡◌, Bool, ◌&&◌, Some, None, ℕ, ◌<◌, get_or, replicate}
use Rattle.std.proofs.Math.Path.{refl, sym, ap}
use Rattle.std.proofs.Common.{◌∙◌, arith}
use Rattle.std.proofs.Math.Bool.{true, false, not, cond}
use mathlib.Core.List.{List, map, Memᴰ}
use Rattle.rules.specs.Slots.{some_below, slots}
use Rattle.rules.specs.Joined.{through}
use Rattle.rules.specs.Subscription.{Subscription}
use Rattle.rules.specs.KnownBefore.{puts_first}
use Rattle.rules.specs.laws.Slots.{slots_out}
use Rattle.rows.specs.Bits.{has}
use Rattle.rows.specs.Sets.{cell}
use Rattle.rows.specs.laws.Sets.{holds_at}
use Rattle.rows.specs.laws.Slots.{some_same, slots_same, through_same}
use Rattle.graph.specs.Graph.{EndsAreSlots, kept_putting_first, WithOrderings, JoinedThroughAll}
use Rattle.graph.specs.Shown.{counted, Shows}
use Rattle.rules.specs.Results.{placed, acyclic, lacks_an_option}
use Rattle.rules.specs.Sequence.{precedes, kept_slots}
use Rattle.rules.specs.Relaxation.{KeptBySlot}
use Rattle.placing.specs.Next.{number_at, numbers_placed, number, written}
use Rattle.sequence.specs.Edges.{BetweenKept, lacks}
use Rattle.sequence.specs.Padded.{places_of}
use Rattle.sequence.specs.laws.Padded.{written_padded}
use Rattle.sequence.specs.Sequenced.{is_consistent_as, sequence_as, placed_as, Keeps, PlacedBy}
use Rattle.sequence.specs.laws.Same.{numbers_same, few_numbers}
use Rattle.chart.specs.Chart.{BySlot}
use Rattle.given.specs.declared.sets.Given.{Given}
use Rattle.sheet.specs.declared.count.Number.{Number}

module _ (chart : BySlot) (numbers : List ℕ) (g : Given) (ends : EndsAreSlots chart.option_count chart.ordering_count chart.firsts chart.seconds) (between edges paths : List ℕ)
    (is_between : BetweenKept chart.rows g.kept chart.option_count between)
    (is_edges : WithOrderings between g.kept_orderings chart.firsts chart.seconds chart.ordering_count edges)
    (is_paths : JoinedThroughAll edges g.kept chart.option_count chart.option_count paths) where
  abbrev n : ℕ
  n = chart.option_count

  abbrev m : ℕ
  m = chart.ordering_count

  abbrev firsts : List ℕ
  firsts = chart.firsts

  abbrev seconds : List ℕ
  seconds = chart.seconds

  abbrev rows : List ℕ
  rows = chart.rows

  module _ (v : Subscription) (c : KeptBySlot) (shows : Shows v n m firsts seconds rows) (numbered : (i : ℕ) → i < n → v.number i ≡ get_or numbers i 0) (keeps : Keeps c n m g) where
    abbrev s : Subscription
    s = counted n m v

    pub lacks_is : some_below m (lacks g.kept g.kept_orderings firsts seconds) ≡ some_below m (lacks_an_option s c)
    unfolding lacks_an_option
    lacks_is = some_same m _ _ (λ u l. rw (
      holds_at keeps.ordering u l,
      holds_at keeps.option (get_or firsts u 0) (ends.first u l),
      holds_at keeps.option (get_or seconds u 0) (ends.second u l),
      shows.first u l,
      shows.second u l,
    ) refl)

    edge_is : (i j : ℕ) → i < n → j < n → cell edges i j ≡ precedes s c i j
    unfolding precedes
    edge_is i j li lj = is_edges.at i j (let z = ends.few_options in omega arith) ∙ rw (
      is_between.at i j li,
      holds_at keeps.option i li,
      holds_at keeps.option j lj,
      shows.before i j li lj,
      some_same m (kept_putting_first g.kept_orderings firsts seconds i j) (λ u. c.ordering u && puts_first s u i j) (λ u l. rw (holds_at keeps.ordering u l, shows.first u l, shows.second u l) refl),
    ) refl

    kept_is : slots n (has g.kept) ≡ kept_slots s c
    kept_is = slots_same n (has g.kept) c.option (holds_at keeps.option)

    within : (x : ℕ) → Memᴰ x (kept_slots s c) → x < n
    within x k = (slots_out n c.option x k).0

    pub acyclic_is : not (some_below n (λ i. cell paths i i)) ≡ acyclic s c
    unfolding acyclic
    acyclic_is = ap not (some_same n _ _ (λ i l. is_paths.at i i l l ∙ ap (λ z. through (cell edges) z i i) kept_is ∙ through_same n (cell edges) (precedes s c) (kept_slots s c) within edge_is i i l l))

    pub sequence_is : numbers_placed edges numbers n n g.kept ≡ sequence_as s c
    unfolding numbers_placed
    sequence_is = ap (λ l. map (number_at numbers) (placed (number_at numbers) (cell edges) n l)) kept_is
        ∙ numbers_same n (number_at numbers) v.number (cell edges) (precedes s c) (λ i l. sym (numbered i l)) edge_is n (kept_slots s c) within

  -- ---- the three ways out
  pub lacks_placed : {x : Bool} → x ≡ some_below m (lacks g.kept g.kept_orderings firsts seconds) → x ≡ true → PlacedBy chart numbers g None
  unfolding placed_as is_consistent_as
  lacks_placed {x} e f v c shows numbered keeps = rw (sym (lacks_is v c shows numbered keeps) ∙ sym e ∙ f) refl

  pub cycle_placed : {y : Bool} → y ≡ some_below n (λ i. cell paths i i) → y ≡ true → PlacedBy chart numbers g None
  unfolding placed_as is_consistent_as
  cycle_placed {y} e f v c shows numbered keeps = rw (sym (acyclic_is v c shows numbered keeps), ← e, f) (go (some_below m (lacks_an_option (counted n m v) c)))
    where
      go : (x : Bool) → None ≡ cond (not x && false) (Some (places_of 32 (sequence_as (counted n m v) c))) None
      go true = refl
      go false = refl

  pub sequence_placed : {x y : Bool} {l : List Number} → x ≡ some_below m (lacks g.kept g.kept_orderings firsts seconds) → x ≡ false → y ≡ some_below n (λ i. cell paths i i) → y ≡ false
      → l ≡ written (replicate 32 (number 0)) 0 (numbers_placed edges numbers n n g.kept) → PlacedBy chart numbers g (Some l)
  unfolding placed_as is_consistent_as numbers_placed
  sequence_placed {x} {y} {l} ex fx ey fy el v c shows numbered keeps = rw (sym (lacks_is v c shows numbered keeps) ∙ sym ex ∙ fx, sym (acyclic_is v c shows numbered keeps), ← ey, fy) (ap Some places_are)
    where
      places_are : l ≡ places_of 32 (sequence_as (counted n m v) c)
      places_are = el ∙ written_padded 32 (numbers_placed edges numbers n n g.kept) (let a = few_numbers (number_at numbers) (number_at numbers) (cell edges) n (slots n (has g.kept)) in let b = ends.few_options in omega arith) ∙ ap (places_of 32) (sequence_is v c shows numbered keeps)
