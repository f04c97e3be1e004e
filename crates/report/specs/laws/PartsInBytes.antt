-- The report of a best relaxation is printed part by part, in the words of a buffer's bytes and a position.
use Rattle.std.specs.Prelude.{ℕ, ◌+◌, ◌≡◌, List, ◌++◌, length}
use Rattle.std.proofs.Common.{sym}
use Rattle.rules.specs.Results.{answer_at_nought}
use Rattle.search.specs.Search.{SearchedAs}
use Rattle.search.specs.declared.sheet_search.Searched.{Searched}
use Rattle.sequence.specs.Answer.{sequence_answer}
use Rattle.sequence.specs.declared.answer.Sequenced.{Sequenced}
use Rattle.sheet.specs.Recorded.{Recorded}
use Rattle.sheet.specs.declared.sheet.Sheet.{Sheet}
use Rattle.sheet.proofs.PassLaws.{recorded_passes}
use Rattle.sheet.specs.Lines.{lines_of}
use Rattle.print.specs.Put.{put}
use Rattle.report.specs.Report.{answer_text}
use Rattle.listing.specs.Appended.{Room, Appended}
use Rattle.listing.specs.laws.Appended.{appended_both, appended_put, appended_same, room_first, room_second, room_same}
use Rattle.report.specs.laws.Best.{printed_value, printed_places, printed_options, printed_orderings, printed_text, printed_is_best}

module _ (s : Sheet) (rule : Recorded s) (found : Searched) (sequenced : Sequenced) (searched : SearchedAs s 0 found) (in_sequence : sequenced ≡ sequence_answer s found.decisions) where
  abbrev value : List ℕ
  value = printed_value found

  abbrev places : List ℕ
  places = printed_places sequenced

  abbrev options : List ℕ
  options = printed_options s found.decisions

  abbrev orderings : List ℕ
  orderings = printed_orderings s found.decisions

  told : printed_text s found sequenced ≡ answer_text (lines_of s) (answer_at_nought (lines_of s))
  told = printed_is_best s (recorded_passes s rule) rule found sequenced searched in_sequence

  module _ {page : List ℕ} (room : Room page 0 (answer_text (lines_of s) (answer_at_nought (lines_of s)))) where
    whole : Room page 0 (value ++ (places ++ (options ++ orderings)))
    whole = room_same (sym told) room

    pub value_fits : Room page 0 value
    value_fits = room_first value (places ++ (options ++ orderings)) whole

    module _ {valued : List ℕ} {p : ℕ} (value_put : (valued ≡ put 0 value page) × (p ≡ 0 + length value)) where
      value_printed : Appended page valued 0 p value
      value_printed = appended_put value value_fits value_put

      after_value : Room valued p (places ++ (options ++ orderings))
      after_value = room_second value (places ++ (options ++ orderings)) whole value_printed

      pub places_fit : Room valued p places
      places_fit = room_first places (options ++ orderings) after_value

      module _ {placed : List ℕ} {q : ℕ} (places_printed : Appended valued placed p q places) where
        after_places : Room placed q (options ++ orderings)
        after_places = room_second places (options ++ orderings) after_value places_printed

        pub options_fit : Room placed q options
        options_fit = room_first options orderings after_places

        module _ {dropped : List ℕ} {r : ℕ} (options_printed : Appended placed dropped q r options) where
          pub orderings_fit : Room dropped r orderings
          orderings_fit = room_second options orderings after_places options_printed

          pub all_printed : {last : List ℕ} {size : ℕ} → Appended dropped last r size orderings → Appended page last 0 size (answer_text (lines_of s) (answer_at_nought (lines_of s)))
          all_printed orderings_printed = appended_same told (appended_both value_printed (appended_both places_printed (appended_both options_printed orderings_printed)))
