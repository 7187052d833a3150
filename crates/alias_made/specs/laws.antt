pub mod RangeLaws
pub mod InstructionLaws
pub mod BlockLaws
pub mod MadeLaws
