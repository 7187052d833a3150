pub mod Bare
pub mod BareIdentifiers
pub mod BareParts
pub mod BareLaws
pub mod EvolvedLaws
pub mod RangedLaws
