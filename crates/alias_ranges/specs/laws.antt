pub mod AnswerLaws
pub mod SummaryLaws
pub mod PlacedLaws
pub mod ReportLaws
