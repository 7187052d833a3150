pub mod LookupLaws
pub mod ConditionLaws
pub mod PlainLaws
pub mod ForwardLaws
