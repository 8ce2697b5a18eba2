pub mod Opening
pub mod ClosingAudit
pub mod ClosingSteps
