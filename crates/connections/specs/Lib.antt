pub use Rattle.connection_turns.specs.ConnectionTurnState
pub use Rattle.connection_turns.specs.SettledRecords
pub mod HeldConnections
pub mod Places
