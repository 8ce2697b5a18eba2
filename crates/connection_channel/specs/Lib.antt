pub mod ArrivalCounts
pub mod ChannelInvariant
pub mod Finding
pub mod TakenBack
