pub mod ConnectionTurnState
pub mod SettledRecords
