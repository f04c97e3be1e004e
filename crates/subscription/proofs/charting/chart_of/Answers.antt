-- The record's rule gives what each part asks for, and what the chart knows of its arrays.
use Rattle.std.proofs.Common.{refl}
use Rattle.sheet.specs.Lines.{lines_of}
use native.Mathlib.Omega.{arith}
use borrow.Author.Rules.{rules}
use Rattle.sheet.specs.Recorded.{Recorded}
use Rattle.sheet.proofs.ObeyLaws.{passes_recorded}
use Rattle.subscription.specs.laws.Charted.{numbers_differing, ends, has_weights, show_lines}
use Rattle.subscription.proofs.charting.chart_of.Goals as goal
use Rattle.subscription.proofs.charting.chart_of.Goals.{Start}

obeys : (c : Start) → Recorded c.args.s.now
obeys c = passes_recorded c.args.s.now (record {
  letters = search (rules, c.well_formed);
  befores = search (rules, c.well_formed);
  afters = search (rules, c.well_formed);
  numbers = search (rules, c.well_formed);
  weights = search (rules, c.well_formed);
  firsts = search (rules, c.well_formed);
  seconds = search (rules, c.well_formed);
  ordering_weights = search (rules, c.well_formed);
}) c.requires

pub slot_table-table-requires : goal.slot_table-table-requires
slot_table-table-requires c = let R = obeys (goal.at.slot_table-table-requires c).Start in (numbers_differing _ R, R.few_options)

pub catalogue_rows-rows-requires : goal.catalogue_rows-rows-requires
catalogue_rows-rows-requires c =
    let R = obeys (goal.at.catalogue_rows-rows-requires c).Start in
    let k = R.few_catalogue in
    let L = R.lengths in
    record { n_bound = (R.few_options, c.slot_table-table.ensures.size); lines_in_bounds = (omega arith, omega arith, omega arith) }

pub slots_of-firsts-requires : goal.slots_of-firsts-requires
slots_of-firsts-requires c =
    let R = obeys (goal.at.slots_of-firsts-requires c).Start in
    let k = R.few_orderings in
    let L = R.lengths in
    (c.slot_table-table.ensures.size, k, omega arith)

pub slots_of-seconds-requires : goal.slots_of-seconds-requires
slots_of-seconds-requires c =
    let R = obeys (goal.at.slots_of-seconds-requires c).Start in
    let k = R.few_orderings in
    let L = R.lengths in
    (c.slot_table-table.ensures.size, k, omega arith)

-- Above the invariant: what is said of a wrong count comes from here first.
pub returns : goal.returns
returns c =
    let R = obeys (goal.at.returns c).Start in
    let t = c.slot_table-table.ensures in
    record {
      recorded = R;
      options = refl;
      orderings = refl;
      shows = show_lines c.args.s.now R _ _ _ (c.catalogue_rows-rows.ensures.of _ t) (c.slots_of-firsts.ensures.of _ _ t) (c.slots_of-seconds.ensures.of _ _ t);
    }

pub invariant_of-result : goal.invariant_of-result
invariant_of-result c =
    let s = c.args.s.now in
    let R = obeys (goal.at.invariant_of-result c).Start in
    let t = c.slot_table-table.ensures in
    let says = c.catalogue_rows-rows.ensures.of _ t in
    let fs = c.slots_of-firsts.ensures.of _ _ t in
    let ss = c.slots_of-seconds.ensures.of _ _ t in
    record {
      ends = ends s R _ _ _ says fs ss;
      has_weights = has_weights s R _ _ _ says fs ss;
      of_a_sheet = ∣ record { lines = lines_of s; show = show_lines s R _ _ _ says fs ss } ∣₁;
    }
