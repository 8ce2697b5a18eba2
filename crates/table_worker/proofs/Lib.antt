pub mod WorkerLemmas
mod WorkerTurnLemmas
pub mod ThreadCrossing
