pub mod ServerRanges
pub mod ServerRun
