pub mod Merged
pub mod CallerLemmas
