pub mod DigitTurnLaws
pub mod DigitsLeftLaws
pub mod TurnLaws
