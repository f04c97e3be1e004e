-- The requirements' number for each refusal, and a refusal at no place.
use Rattle.std.specs.Prelude.{ℕ}
use Rattle.sheet.specs.declared.answer.Answer.{Answer}
use Rattle.sheet.specs.declared.answer.Answer.TheVariants.{Refused}
use Rattle.sheet.specs.declared.answer.Refusal.{Refusal}
use Rattle.sheet.specs.declared.answer.Refusal.TheVariants.{SheetTooLong, NoTrailer, BadTrailer, Misshapen, OutsideRange, TooManyLines, SubscribedTwice, OneOptionTwice, NotSubscribed, SamePairAgain, ToleranceTooLarge, NotRecorded, OutputTooShort, WrongDecisions, NotConsistent}

-- a refusal carries its number
abbrev pub number_of : Refusal → ℕ
number_of SheetTooLong = 1
number_of NoTrailer = 2
number_of BadTrailer = 3
number_of Misshapen = 4
number_of OutsideRange = 5
number_of TooManyLines = 6
number_of SubscribedTwice = 7
number_of OneOptionTwice = 8
number_of NotSubscribed = 9
number_of SamePairAgain = 10
number_of ToleranceTooLarge = 11
number_of NotRecorded = 12
number_of OutputTooShort = 13
number_of WrongDecisions = 14
number_of NotConsistent = 15

-- of the call as a whole: line 0, column 0
abbrev pub refused : Refusal → Answer
refused why = Refused (record { line = 0; column = 0 }) why
