pub mod RefusalLaws
pub mod ReadsLaws
pub mod MoreLaws
pub mod PassLaws
pub mod LegacyPassLaws
