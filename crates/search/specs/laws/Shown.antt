-- The arrays of a record that obeys the rule.
use Rattle.std.specs.Prelude.{List, ℕ}
use Rattle.std.proofs.Common.{arith}
use Rattle.chart.specs.Arrays.{ShowLines}
use Rattle.sheet.specs.Lines.{lines_of}
use Rattle.sheet.proofs.LinesLaws.{option_lines, ordering_lines, slot_weight, slot_ordering_weight, recorded_proper}
use Rattle.sheet.specs.declared.sheet.Sheet.{Sheet}
use Rattle.subscription.specs.Shown.{ShownBy, Arrays}

pub shows_of : (s : Sheet) {rows firsts seconds : List ℕ} → ShownBy s rows firsts seconds → ShowLines (lines_of s) s.option_count s.ordering_count firsts seconds rows s.weights s.ordering_weights
shows_of s shown = record {
  options = option_lines s;
  orderings = ordering_lines s;
  proper = recorded_proper s shown.recorded;
  shows = shown.shows;
  weighs = record { weight = slot_weight s; ordering_weight = slot_ordering_weight s };
}

pub arrays_of : (s : Sheet) {rows firsts seconds : List ℕ} → ShownBy s rows firsts seconds → Arrays s.option_count s.ordering_count firsts seconds rows s.weights s.ordering_weights
arrays_of s shown = let R = shown.recorded in record {
  ends = shown.ends;
  weights = record {
    few_options = R.few_options;
    few_orderings = R.few_orderings;
    weight_size = (let z = R.few_options in let k = R.lengths.weights in omega arith);
    ordering_weight_size = (let z = R.few_orderings in let k = R.lengths.ordering_weights in omega arith);
  };
  lines = lines_of s;
  of = shows_of s shown;
}
