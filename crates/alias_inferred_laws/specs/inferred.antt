pub mod Reports
pub mod Explanations
pub mod Solutions
