pub mod Adding
pub mod EffectCounts
pub mod BlockCounts
pub mod FlowCounts
pub mod PassCounts
pub mod ListingCounts
pub mod RecordedCounts
pub mod MadeCounts
