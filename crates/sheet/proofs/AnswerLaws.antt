-- How large a refusal's number is.
use Prim.Native.Nat.{◌≤◌}
use native.Mathlib.Omega.{arith}
use Rattle.sheet.specs.Answer.{number_of}
use Rattle.sheet.specs.declared.answer.Refusal.{Refusal}
use Rattle.sheet.specs.declared.answer.Refusal.TheVariants.{SheetTooLong, NoTrailer, BadTrailer, Misshapen, OutsideRange, TooManyLines, SubscribedTwice, OneOptionTwice, NotSubscribed, SamePairAgain, ToleranceTooLarge, NotRecorded, OutputTooShort, WrongDecisions, NotConsistent}

-- A refusal's number is 1 to 15, so that 0 stands for a success alone.
pub refusal_number : (why : Refusal) → (1 ≤ number_of why) × (number_of why ≤ 15)
refusal_number SheetTooLong = (omega arith, omega arith)
refusal_number NoTrailer = (omega arith, omega arith)
refusal_number BadTrailer = (omega arith, omega arith)
refusal_number Misshapen = (omega arith, omega arith)
refusal_number OutsideRange = (omega arith, omega arith)
refusal_number TooManyLines = (omega arith, omega arith)
refusal_number SubscribedTwice = (omega arith, omega arith)
refusal_number OneOptionTwice = (omega arith, omega arith)
refusal_number NotSubscribed = (omega arith, omega arith)
refusal_number SamePairAgain = (omega arith, omega arith)
refusal_number ToleranceTooLarge = (omega arith, omega arith)
refusal_number NotRecorded = (omega arith, omega arith)
refusal_number OutputTooShort = (omega arith, omega arith)
refusal_number WrongDecisions = (omega arith, omega arith)
refusal_number NotConsistent = (omega arith, omega arith)
