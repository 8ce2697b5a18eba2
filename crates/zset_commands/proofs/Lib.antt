mod Options
mod Pairs
mod Adding
pub mod Asked
pub mod ReadWithinLimits
pub mod NamedArguments
mod ReadingLaws
pub mod CallerLemmas
