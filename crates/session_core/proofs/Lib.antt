pub mod ExchangeLemmas
pub mod HeldRequests
pub mod ServeProgress
pub mod TurnProgress
pub mod Interleaving
pub mod ReplySent
