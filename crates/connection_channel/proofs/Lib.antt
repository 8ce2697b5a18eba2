pub mod Iterating
pub mod Steps
