pub mod TestFlows
pub mod TestFlowLaws
