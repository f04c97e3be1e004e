-- The report of a best relaxation is printed part by part: its value, its places, its dropped options, its dropped orderings.
use Rattle.std.specs.Prelude.{◌≡◌, List, ◌++◌, ℕ}
use Rattle.std.proofs.Common.{sym}
use Rattle.rules.specs.Results.{answer_at_nought}
use Rattle.search.specs.Search.{SearchedAs}
use Rattle.search.specs.declared.sheet_search.Searched.{Searched}
use Rattle.sequence.specs.Answer.{sequence_answer}
use Rattle.sequence.specs.declared.answer.Sequenced.{Sequenced}
use Rattle.sheet.specs.Recorded.{Recorded}
use Rattle.sheet.specs.declared.sheet.Sheet.{Sheet}
use Rattle.sheet.proofs.PassLaws.{recorded_passes}
use Rattle.sheet.specs.Lines.{lines_of}
use Rattle.print.specs.Page.{Room, Printed}
use Rattle.print.specs.declared.page.Page.{Page}
use Rattle.print.proofs.PageLaws.{printed_both, printed_same, room_first, room_second, room_same}
use Rattle.report.specs.Report.{answer_text}
use Rattle.report.specs.laws.Best.{printed_value, printed_places, printed_options, printed_orderings, printed_text, printed_is_best}

module _ (s : Sheet) (rule : Recorded s) (found : Searched) (sequenced : Sequenced) (searched : SearchedAs s 0 found) (in_sequence : sequenced ≡ sequence_answer s found.decisions) where
  abbrev value : List ℕ
  value = printed_value found

  abbrev places : List ℕ
  places = printed_places sequenced

  abbrev options : List ℕ
  options = printed_options s found.decisions

  abbrev orderings : List ℕ
  orderings = printed_orderings s found.decisions

  told : printed_text s found sequenced ≡ answer_text (lines_of s) (answer_at_nought (lines_of s))
  told = printed_is_best s (recorded_passes s rule) rule found sequenced searched in_sequence

  module _ {page : Page} (room : Room page (answer_text (lines_of s) (answer_at_nought (lines_of s)))) where
    whole : Room page (value ++ (places ++ (options ++ orderings)))
    whole = room_same (sym told) room

    pub value_fits : Room page value
    value_fits = room_first value (places ++ (options ++ orderings)) whole

    module _ {valued : Page} (value_printed : Printed page valued value) where
      after_value : Room valued (places ++ (options ++ orderings))
      after_value = room_second value (places ++ (options ++ orderings)) whole value_printed

      pub places_fit : Room valued places
      places_fit = room_first places (options ++ orderings) after_value

      module _ {placed : Page} (places_printed : Printed valued placed places) where
        after_places : Room placed (options ++ orderings)
        after_places = room_second places (options ++ orderings) after_value places_printed

        pub options_fit : Room placed options
        options_fit = room_first options orderings after_places

        module _ {dropped : Page} (options_printed : Printed placed dropped options) where
          pub orderings_fit : Room dropped orderings
          orderings_fit = room_second options orderings after_places options_printed

          pub all_printed : {last : Page} → Printed dropped last orderings → Printed page last (answer_text (lines_of s) (answer_at_nought (lines_of s)))
          all_printed orderings_printed = printed_same told (printed_both value_printed (printed_both places_printed (printed_both options_printed orderings_printed)))
