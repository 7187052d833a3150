pub mod Making
pub mod Owned
pub mod EndLaws
