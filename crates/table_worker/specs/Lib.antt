pub mod WorkerAnswers
pub mod WorkerRequests
pub mod WorkerRequestsCompose
