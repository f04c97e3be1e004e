-- What is worked out by slot is what the rules give for the sheet and the full decision.
use Rattle.std.proofs.Math.Path.{◌≡◌, refl, sym, ap}
use Rattle.std.proofs.Common.{◌∙◌, arith, eq-eqb}
use Rattle.std.specs.Prelude.{Bool, Option, Some, None, List, ℕ, length, take, drop}
use Rattle.std.proofs.Math.Bool.{true, false, cond}
use Rattle.std.proofs.Math.Option.{none, some}
use Rattle.rules.specs.Lines.{Lines}
use Rattle.rules.specs.Subscription.{Subscription, subscription, items}
use Rattle.rules.specs.Decisions.{is_kept, decided_by_slot}
use Rattle.rows.specs.laws.Sets.{holds_same}
use Rattle.given.specs.Given.{decided_as, Gives, decided_past, open_within, decision_list}
use Rattle.rules.specs.Results.{sequence_of, is_consistent, numbers_in_sequence, sequence_of_choice, is_relaxation}
use Rattle.rules.specs.Relaxation.{KeptBySlot, kept_by_slot}
use Rattle.sequence.specs.Padded.{places_of}
use Rattle.sequence.specs.Sequenced.{is_consistent_as, sequence_as, placed_as, PlacedBy}
use Rattle.subscription.specs.Charted.{Charted}
use Rattle.given.specs.laws.List.{gives_list, length_decision_list, no_open_item}
use Rattle.sequence.specs.Answer.{sequence_refused, sequence_accepted, sequence_shown, sequence_answer}
use Rattle.sheet.specs.Lines.{lines_of}
use Rattle.sheet.specs.IsRecorded.{is_recorded}
use Rattle.sheet.proofs.LinesLaws.{option_lines, ordering_lines, slot_number}
use Rattle.subscription.specs.laws.Charted.{counted_is}
use Rattle.rules.specs.Decisions as R
use Rattle.rules.specs.laws.Decisions.{just_the_kept, just_the_kept_at, take_just_the_kept, drop_just_the_kept, length_just_the_kept, full_choice_is}
use Rattle.given.specs.declared.sets.Given.{Given}
use Rattle.chart.specs.Chart.{BySlot}
use Rattle.sheet.specs.declared.count.Number.{Number}
use Rattle.sheet.specs.declared.answer.Refusal.TheVariants.{NotRecorded, WrongDecisions, NotConsistent}
use Rattle.sheet.specs.declared.sheet.Sheet.{Sheet}
use Rattle.sheet.specs.declared.decision.Decisions.{Decisions}

module _ (s : Lines) (l : List R.Decision) (full : R.open_items l ≡ 0) (size : length l ≡ items s) where
  abbrev v : Subscription
  v = subscription s

  abbrev c : KeptBySlot
  c = kept_by_slot s (just_the_kept l)

  pub option_kept_told : (i : ℕ) → c.option i ≡ is_kept ((decided_by_slot s l).option i)
  unfolding kept_by_slot decided_by_slot
  option_kept_told i = rw (take_just_the_kept (length s.options) l) (just_the_kept_at (take (length s.options) l) i)

  pub ordering_kept_told : (u : ℕ) → c.ordering u ≡ is_kept ((decided_by_slot s l).ordering u)
  unfolding kept_by_slot decided_by_slot
  ordering_kept_told u = rw (drop_just_the_kept (length s.options) l) (just_the_kept_at (drop (length s.options) l) u)

  consistent_told : is_consistent s (just_the_kept l) ≡ is_consistent_as v c
  unfolding is_consistent is_relaxation is_consistent_as subscription
  consistent_told = rw (eq-eqb (length (just_the_kept l)) (items s) (length_just_the_kept l ∙ size)) refl

  sequence_told : sequence_of s l ≡ cond (is_consistent_as v c) (some (sequence_as v c)) none
  unfolding sequence_of sequence_of_choice numbers_in_sequence subscription
  sequence_told = rw (full_choice_is l full, consistent_told) refl

  pub placed_told : {l' : List Number} → Some l' ≡ placed_as v c → sequence_shown (sequence_of s l) ≡ sequence_accepted l'
  unfolding placed_as
  placed_told {l'} e = ap sequence_shown sequence_told ∙ go (is_consistent_as v c) e
    where
      go : (x : Bool) → Some l' ≡ cond x (Some (places_of 32 (sequence_as v c))) None → sequence_shown (cond x (some (sequence_as v c)) none) ≡ sequence_accepted l'
      go true e = let f : places_of 32 (sequence_as v c) ≡ l' = cc in ap sequence_accepted f
      go false e = let w : ◌≡◌ {A = ℕ} 0 1 = cc in absurd (omega arith)

  pub not_placed_told : None ≡ placed_as v c → sequence_shown (sequence_of s l) ≡ sequence_refused NotConsistent
  unfolding placed_as
  not_placed_told e = ap sequence_shown sequence_told ∙ go (is_consistent_as v c) e
    where
      go : (x : Bool) → None ≡ cond x (Some (places_of 32 (sequence_as v c))) None → sequence_shown (cond x (some (sequence_as v c)) none) ≡ sequence_refused NotConsistent
      go false e = refl
      go true e = let w : ◌≡◌ {A = ℕ} 0 1 = cc in absurd (omega arith)

-- ---- the public function
pub sequence_not_recorded : (s : Sheet) (d : Decisions) → is_recorded s ≡ false → sequence_refused NotRecorded ≡ sequence_answer s d
unfolding sequence_answer
sequence_not_recorded s d e = rw e refl

pub sequence_decided_past : (s : Sheet) (d : Decisions) → is_recorded s ≡ true → decided_past d s.option_count s.ordering_count ≡ true → sequence_refused WrongDecisions ≡ sequence_answer s d
unfolding sequence_answer
sequence_decided_past s d e f = rw (e, f) refl

pub sequence_open_within : (s : Sheet) (d : Decisions) → is_recorded s ≡ true → decided_past d s.option_count s.ordering_count ≡ false → open_within d s.option_count s.ordering_count ≡ true → sequence_refused WrongDecisions ≡ sequence_answer s d
unfolding sequence_answer
sequence_open_within s d e f g = rw (e, f, g) refl

module _ (s : Sheet) (d : Decisions) (e : is_recorded s ≡ true)
    (past : decided_past d s.option_count s.ordering_count ≡ false) (open_items : open_within d s.option_count s.ordering_count ≡ false)
    (chart : BySlot) (g : Given) (p : Option (List Number)) (charted : Charted s chart)
    (gives : Gives (decided_as d) s.option_count s.ordering_count g)
    (by : PlacedBy chart s.numbers g p) where
  abbrev n : ℕ
  n = s.option_count

  abbrev m : ℕ
  m = s.ordering_count

  abbrev list : List R.Decision
  list = decision_list n m d

  counts : length (lines_of s).options ≡ n
  counts = option_lines s

  ordering_counts : length (lines_of s).orderings ≡ m
  ordering_counts = ordering_lines s

  full : R.open_items list ≡ 0
  full = no_open_item n m d open_items

  size : length list ≡ items (lines_of s)
  size = length_decision_list n m d ∙ rw (counts, ordering_counts) refl

  gives_slots : Gives (decided_by_slot (lines_of s) list) chart.option_count chart.ordering_count g
  gives_slots = rw (charted.options, charted.orderings) (gives_list (lines_of s) d n m counts ordering_counts gives)

  placed_out : p ≡ placed_as (subscription (lines_of s)) (kept_by_slot (lines_of s) (just_the_kept list))
  placed_out = by (subscription (lines_of s)) (kept_by_slot (lines_of s) (just_the_kept list)) charted.shows.shows (rw (charted.options) (slot_number s))
      (record { option = holds_same gives_slots.kept (λ i l. sym (option_kept_told (lines_of s) list full size i)); ordering = holds_same gives_slots.kept_orderings (λ u l. sym (ordering_kept_told (lines_of s) list full size u)) })
      ∙ ap (λ z. placed_as z (kept_by_slot (lines_of s) (just_the_kept list))) (rw (charted.options, charted.orderings) (counted_is s))

  answered : sequence_answer s d ≡ sequence_shown (sequence_of (lines_of s) list)
  unfolding sequence_answer
  answered = rw (e, past, open_items) refl

  pub sequence_found : {places : List Number} → p ≡ Some places → sequence_accepted places ≡ sequence_answer s d
  sequence_found q = sym (answered ∙ placed_told (lines_of s) list full size (sym q ∙ placed_out))

  pub sequence_missing : p ≡ None → sequence_refused NotConsistent ≡ sequence_answer s d
  sequence_missing q = sym (answered ∙ not_placed_told (lines_of s) list full size (sym q ∙ placed_out))
