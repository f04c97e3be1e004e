pub mod AnswerLaws
pub mod BreaksLaws
pub mod JudgeLaws
pub mod LinesLaws
pub mod ObeyLaws
pub mod PartLaws
pub mod PassLaws
pub mod SlotLaws
