pub mod Freezing
pub mod InstructionSteps
pub mod Levels
pub mod Marking
pub mod OperandMarks
pub mod Reassigning
pub mod Reports
pub mod Walks
