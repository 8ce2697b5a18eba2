pub mod Naming
pub mod LookupCaches
